use Rattle.std.proofs.Common.{◌≡◌, ◌+◌, ◌≤◌, drop, map}
use Rattle.std.specs.List.{count_by, list_all}
use Rattle.lus_values.specs.Operators.{is_bool, is_true}
use Rattle.lus_values.specs.View.{value_of}
use Rattle.lus_values.proofs.application.count_true.Given as goal

abbrev pub invariant-loop-operand : goal.invariant-loop-operand
invariant-loop-operand l =
    (l.count + count_by is_true (map value_of (drop l.operand-index l.operands)) ≡ count_by is_true (map value_of l.operands))
    × (list_all is_bool (map value_of (drop l.operand-index l.operands)) ≡ list_all is_bool (map value_of l.operands))
    × (l.count ≤ l.operand-index)
