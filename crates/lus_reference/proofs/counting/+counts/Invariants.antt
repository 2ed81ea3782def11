-- What was counted and the operands that are left are all.
use Rattle.std.proofs.Common.{◌≡◌, ◌+◌, drop}
use Rattle.lus_program.specs.Parts.{parts_all}
use Rattle.lus_program.specs.Programs.{all_calls}
use Rattle.lus_program.specs.View.{operands_of}
use Rattle.lus_reference.proofs.counting.+counts.Given as goal

abbrev pub invariant-count_all-loop-operand : goal.invariant-count_all-loop-operand
invariant-count_all-loop-operand l =
    let es = operands_of l.operands in
    let rest = operands_of (drop l.operand-index l.operands) in
    record {
      parts : l.so_far.parts + parts_all rest ≡ l.fn.before.parts + parts_all es;
      calls : l.so_far.calls + all_calls rest ≡ l.fn.before.calls + all_calls es;
    }
