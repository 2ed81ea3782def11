-- The seat stays the node's.
use Rattle.std.proofs.Common.{◌≡◌}
use Rattle.lus_host_tests.proofs.held.is_answered.Given as goal

abbrev pub invariant-loop : goal.invariant-loop
invariant-loop g l = l.seat.instance ≡ l.fn.node
