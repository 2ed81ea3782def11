use Rattle.std.proofs.Common.{◌≡◌, ◌≤◌, ◌+◌, drop}
use Rattle.std.specs.Prelude.{min}
use Rattle.lus_program.specs.Parts.{parts_all}
use Rattle.lus_program.specs.View.{operands_of}
use Rattle.lus_normal.proofs.parts.+parts.Given as goal

abbrev pub invariant-all_parts-loop-operand : goal.invariant-all_parts-loop-operand
invariant-all_parts-loop-operand l =
    let rest = parts_all (operands_of (drop l.operand-index l.operands)) in
    (min (l.total + rest) 4294967295 ≡ min (parts_all (operands_of l.operands)) 4294967295) × (l.total ≤ 4294967295)
