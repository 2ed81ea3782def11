use Rattle.std.proofs.Common.{◌≡◌, ◌≤◌, ◌+◌, drop}
use Rattle.std.specs.Prelude.{min}
use Rattle.lus_program.specs.View.{operands_of}
use Rattle.lus_normal_form.specs.NormalNodes.{all_counted as all_counted_of}
use Rattle.lus_normal.proofs.counts.+counts.Given as goal

abbrev pub invariant-all_counted-loop-operand : goal.invariant-all_counted-loop-operand
invariant-all_counted-loop-operand l =
    let rest = all_counted_of l.pres l.arrows 0 (operands_of (drop l.operand-index l.operands)) in
    (min (l.total + rest) 4294967295 ≡ min (all_counted_of l.pres l.arrows 0 (operands_of l.operands)) 4294967295) × (l.total ≤ 4294967295)
