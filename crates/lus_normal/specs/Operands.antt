-- Where the code lets expressions stand, and on which clocks.
use Rattle.std.specs.Prelude.{ℕ, List, [], Option}
use Rattle.lus_values.specs.declared.test.Test.{Test}
use Rattle.lus_program.specs.declared.expr.Expr.{Expr}
use Rattle.lus_program.specs.declared.node.Program.{Program as StoredProgram}
use Rattle.lus_program.specs.Programs.{node_at}
use Rattle.lus_program.specs.View.{operands_of, program_seen}
use Rattle.lus_streams.specs.OnClock.{actuals}
use Rattle.lus_clocks.specs.Fitting.{names_in}
use Rattle.lus_clocks.specs.View.{clock_in}
use Rattle.lus_normal_form.specs.Forms.{Position, Inside, Operand}
use Rattle.lus_normal.specs.declared.operands.Position.{Position as StoredPosition}
use Rattle.lus_normal.specs.declared.operands.Position.TheVariants as positions
use Rattle.lus_normal.specs.declared.operands.Clocks.{Clocks}
use Rattle.lus_normal.specs.declared.operands.Clocks.TheVariants.{Same, Branches, Arguments}
use Rattle.lus_normal.specs.Forms.{argument_test, branch_test}

abbrev pub position_in : StoredPosition → Position
position_in positions.Inside = Inside
position_in positions.Operand = Operand

-- the newest test of the clock of the operand with this number
abbrev pub operand_test : StoredProgram → List Expr → Clocks → ℕ → Option Test
operand_test p es (Same clock) m = clock_in clock
operand_test p es (Branches x) m = branch_test x m
operand_test p es (Arguments g base) m =
    let names = names_in (actuals (operands_of es) []) in
    argument_test (node_at (program_seen p) g) names (clock_in base) m
