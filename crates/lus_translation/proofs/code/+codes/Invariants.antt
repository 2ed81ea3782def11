use Rattle.lus_streams.specs.Clocks.{branch_clock}
use Rattle.lus_translation.specs.Forms.{one_clock}
use Rattle.lus_translation.proofs.CodeList.{CodesMade}
use Rattle.lus_translation.proofs.code.+codes.Given as goal

abbrev pub invariant-codes_of-loop-operand : goal.invariant-codes_of-loop-operand
invariant-codes_of-loop-operand l = CodesMade l.initial.cells.items l.cells.items l.firsts l.operands (one_clock l.clock) l.codes.items l.operand-index

abbrev pub invariant-branch_codes_of-loop-constructor : goal.invariant-branch_codes_of-loop-constructor
invariant-branch_codes_of-loop-constructor l = CodesMade l.initial.cells.items l.cells.items l.firsts l.branches (branch_clock l.variable l.clock) l.codes.items l.constructor
