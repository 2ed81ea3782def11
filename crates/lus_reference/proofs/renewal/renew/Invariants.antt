-- The parts from a place on were gone through.
use Rattle.std.proofs.Common.{◌-◌, length, map}
use Rattle.lus_values.specs.View.{entry_of}
use Rattle.lus_program.specs.View.{program_seen}
use Rattle.lus_reference.specs.Made.{stack_of}
use Rattle.lus_reference.proofs.Parts.{IsRenewedFrom}
use Rattle.lus_reference.proofs.renewal.renew.Given as goal

abbrev pub invariant-loop-behind : goal.invariant-loop-behind
invariant-loop-behind l =
    IsRenewedFrom (program_seen l.program) l.present (map entry_of l.row) l.rows l.parts (map entry_of l.kept) (length l.parts - l.behind)
    (stack_of l.stack.items) (stack_of l.next.items) l.fault
