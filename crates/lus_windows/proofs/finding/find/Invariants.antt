-- What was reached is kept behind the rows so far.
use Rattle.std.proofs.Common.{map, take}
use Rattle.lus_program.specs.View.{program_seen}
use Rattle.lus_worlds.specs.Finding.{IsReady}
use Rattle.lus_windows.specs.Finding.{ReachesBehind}
use Rattle.lus_windows.proofs.finding.find.Given as goal

abbrev pub invariant-loop-place : goal.invariant-loop-place
invariant-loop-place l = IsReady (program_seen l.program) (map (λ order. order.items) l.orders) l.node → ReachesBehind (program_seen l.program) l.node (take l.place l.rows) l.old l.reached
