-- The rest has a flag of 1 where the whole has.
use Rattle.std.proofs.Common.{◌≡◌, drop}
use Rattle.lus_program.specs.View.{operands_of}
use Rattle.lus_streams.specs.Flags.{greatest}
use Rattle.lus_clocks.specs.Raising.{flags_in}
use Rattle.lus_clocks.proofs.flag.+flags.Given as goal

abbrev pub invariant-greatest_flag-loop-operand : goal.invariant-greatest_flag-loop-operand
invariant-greatest_flag-loop-operand l = greatest (flags_in l.flags) (operands_of (drop l.operand-index l.operands)) ≡ greatest (flags_in l.flags) (operands_of l.operands)
