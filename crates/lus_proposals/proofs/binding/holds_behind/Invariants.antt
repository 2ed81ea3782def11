use Rattle.std.proofs.Common.{◌≡◌, drop}
use Rattle.lus_proposals.specs.Binding.{holds_behind}
use Rattle.lus_proposals.proofs.binding.holds_behind.Given as goal

abbrev pub invariant-loop-operator : goal.invariant-loop-operator
invariant-loop-operator l = holds_behind l.behind (drop l.operator-index l.inside) ≡ holds_behind l.behind l.inside
