-- The rest meets its requirements where the whole does.
use Rattle.std.proofs.Common.{◌≡◌, drop}
use Rattle.lus_program.specs.View.{operands_of}
use Rattle.lus_clocks.specs.Raising.{flags_in, all_meet}
use Rattle.lus_clocks.proofs.required.+requirements.Given as goal

abbrev pub invariant-check_all_meet-loop-operand : goal.invariant-check_all_meet-loop-operand
invariant-check_all_meet-loop-operand l = all_meet (flags_in l.flags) (operands_of (drop l.operand-index l.operands)) ≡ all_meet (flags_in l.flags) (operands_of l.operands)
