-- The columns of the next band begin at one that is there.
use Rattle.std.proofs.Common.{◌≤◌}
use Rattle.lus_traces.proofs.written.push_bands.Given as goal

abbrev pub invariant-loop-place : goal.invariant-loop-place
invariant-loop-place l = l.from ≤ l.place
