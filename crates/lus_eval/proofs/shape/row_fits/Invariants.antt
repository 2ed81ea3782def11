use Rattle.std.proofs.Common.{◌≡◌, drop, length}
use Rattle.lus_program.specs.View.{program_seen}
use Rattle.lus_eval.specs.TypedRows.{entries_fit}
use Rattle.lus_eval.proofs.shape.row_fits.Given as goal

abbrev pub invariant-loop-entry : goal.invariant-loop-entry
invariant-loop-entry l =
    entries_fit (program_seen l.program) (drop (length l.yielded) l.variables) (drop (length l.yielded) l.entries) ≡ entries_fit (program_seen l.program) l.variables l.entries
