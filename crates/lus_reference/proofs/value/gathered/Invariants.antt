-- The values so far and those of the operands that are left are those of all.
use Rattle.std.proofs.Common.{◌≡◌, ◌++◌, drop, map}
use Rattle.std.specs.Option.{option_map}
use Rattle.lus_values.specs.View.{entry_of, value_of}
use Rattle.lus_reference.specs.Made.{gathered}
use Rattle.lus_reference.proofs.value.gathered.Given as goal

abbrev pub invariant-loop-operand : goal.invariant-loop-operand
invariant-loop-operand l = option_map (λ vs. map value_of l.values.items ++ vs) (gathered (map entry_of (drop l.operand-index l.operands))) ≡ gathered (map entry_of l.operands)
