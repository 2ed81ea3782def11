-- The variables of the head are those of the table, one by one.
use Rattle.std.proofs.Common.{◌∙◌}
use Rattle.lus_source.proofs.Lookups.{kind_found, kind_past}
use Rattle.lus_source.proofs.scope.Scope.variable_kind.Goals as goal

pub returns-then-place-len : goal.returns-then-place-len
returns-then-place-len c =
    let s = c.args.self.now in
    c.copied.ensures ∙ c.at.ensures ∙ kind_found 0 s.variables.now s.variable_kinds.now c.args.place (rw c.len.ensures at c.if-place-len.true)

pub returns-else-place-len : goal.returns-else-place-len
returns-else-place-len c =
    let s = c.args.self.now in
    kind_past 0 s.variables.now s.variable_kinds.now c.args.place (rw c.len.ensures at c.if-place-len.false)
