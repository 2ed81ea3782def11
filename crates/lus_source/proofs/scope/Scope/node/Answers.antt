use Rattle.std.proofs.Common.{◌∙◌, ap, option_map}
use Rattle.lus_source.specs.ScopeView.{signature_of}
use Rattle.lus_source.proofs.Lookups.{copied_map, entry_map}
use Rattle.lus_source.proofs.scope.Scope.node.Goals as goal

pub returns : goal.returns
returns c =
    let t = c.args.self.now.tables.now in
    copied_map signature_of c.find.result ∙ ap (option_map signature_of) (rw c.deref.ensures.value at c.find.ensures) ∙ entry_map signature_of t.names.now.nodes t.nodes.items c.args.name.now
