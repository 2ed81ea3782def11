use Rattle.std.proofs.Common.{◌≡◌, drop}
use Rattle.lus_proposals.specs.Binding.{holds_before}
use Rattle.lus_proposals.proofs.binding.holds_before.Given as goal

abbrev pub invariant-loop-operator : goal.invariant-loop-operator
invariant-loop-operator l =
    holds_before l.before l.weakest (drop l.operator-index l.inside) ≡ holds_before l.before 255 l.inside
