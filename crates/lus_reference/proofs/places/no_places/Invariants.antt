-- There are as many as were counted.
use Rattle.std.proofs.Common.{◌≡◌}
use Rattle.lus_reference.specs.Placed.{blank}
use Rattle.lus_reference.proofs.places.no_places.Given as goal

abbrev pub invariant-loop-variable : goal.invariant-loop-variable
invariant-loop-variable l = l.places.items ≡ blank l._variable
