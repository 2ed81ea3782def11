use Rattle.std.proofs.Common.{◌≡◌, drop, length}
use Rattle.lus_program.specs.View.{program_seen}
use Rattle.lus_eval.specs.TypedRows.{values_fit}
use Rattle.lus_eval.proofs.shape.+shape.Given as goal

abbrev pub invariant-are_of-loop-value : goal.invariant-are_of-loop-value
invariant-are_of-loop-value l =
    values_fit (program_seen l.program) (drop (length l.yielded) l.fields) (drop (length l.yielded) l.values) ≡ values_fit (program_seen l.program) l.fields l.values
