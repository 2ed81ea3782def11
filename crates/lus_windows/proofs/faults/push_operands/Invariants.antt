-- The operands so far and the rest are all.
use Rattle.std.proofs.Common.{◌≡◌, ◌++◌, [], drop, map, string_bytes}
use denote.Text.{Utf8}
use denote.Shadow.{shadow}
use Rattle.lus_values.specs.View.{value_of}
use Rattle.lus_windows.specs.Words.{listed}
use Rattle.lus_windows.proofs.faults.push_operands.Given as goal

abbrev pub invariant-loop-operand : goal.invariant-loop-operand
invariant-loop-operand l =
    shadow (Utf8 l.before)
    × (string_bytes l.text ++ listed l.names l.before (map value_of (drop l.operand-index l.operands)) ≡ string_bytes l.initial.text ++ listed l.names [] (map value_of l.operands))
