-- The flags rise, each true only where it must be; as many rounds are left as flags are false.
use Rattle.std.proofs.Common.{◌+◌, ◌-◌, length}
use Rattle.lus_clocks.specs.Raising.{raised_count}
use Rattle.lus_clocks.proofs.Rising.{IsRising}
use Rattle.lus_clocks.proofs.raising.least_flags.Given as goal

abbrev pub invariant-loop-flags : goal.invariant-loop-flags
invariant-loop-flags l = IsRising (length l.node.variables.items) (l.node.inputs + l.node.outputs) l.node.equations.items l.flags.items

abbrev pub decreases-loop-flags : goal.decreases-loop-flags
decreases-loop-flags l = length l.node.variables.items - raised_count l.flags.items
