use Rattle.std.proofs.Common.{◌≡◌, drop, map}
use Rattle.std.specs.List.{list_all}
use Rattle.lus_values.specs.Fitting.{fits_bool}
use Rattle.lus_values.specs.View.{value_of}
use Rattle.lus_values.proofs.fitting.all_fit_bool.Given as goal

abbrev pub invariant-loop-operand : goal.invariant-loop-operand
invariant-loop-operand l =
    list_all fits_bool (map value_of (drop l.operand-index l.operands)) ≡ list_all fits_bool (map value_of l.operands)
