-- What was reached went on behind the rows so far.
use Rattle.std.proofs.Common.{map, take}
use Rattle.lus_program.specs.View.{program_seen}
use Rattle.lus_windows.specs.Picks.{GoesOn}
use Rattle.lus_windows.proofs.window.go_through.Given as goal

abbrev pub invariant-loop-inputs : goal.invariant-loop-inputs
invariant-loop-inputs l = GoesOn (program_seen l.program) l.node (map (λ order. order.items) l.orders) (take l.inputs-index l.rows) l.picks l.initial.reached l.reached l.initial.picked.items l.picked.items
