-- The nodes of the heads are those of the table, one by one.
use Rattle.std.proofs.Common.{◌∙◌, ap, sym, option_map, map}
use Rattle.lus_source.specs.Heads.{head_of}
use Rattle.lus_source.specs.ScopeView.{signature_of}
use Rattle.lus_source.proofs.Lookups.{copied_map, node_found, node_past}
use Rattle.lus_source.proofs.scope.Scope.node_at.Goals as goal

pub returns-then-place-len : goal.returns-then-place-len
returns-then-place-len c =
    let t = c.args.self.now.tables.now in
    copied_map (λ g. head_of (signature_of g)) c.at.result ∙ ap (option_map (λ g. head_of (signature_of g))) (rw c.deref.ensures.value at c.at.ensures)
    ∙ sym (node_found head_of signature_of t.names.now.nodes t.nodes.items c.args.place (rw c.len.ensures at c.if-place-len.true))

pub returns-else-place-len : goal.returns-else-place-len
returns-else-place-len c =
    let t = c.args.self.now.tables.now in
    sym (node_past head_of t.names.now.nodes (map signature_of t.nodes.items) c.args.place (rw c.len.ensures at c.if-place-len.false))
