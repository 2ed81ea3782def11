-- What the code adds to what it has built so far.
use Rattle.std.specs.Prelude.{◌≡◌, ℕ, List, [], ◌++◌, Option, Some, length, map}
use Rattle.lus_values.specs.Lists.{item}
use Rattle.lus_program.specs.declared.expr.Expr.{Expr}
use Rattle.lus_program.specs.declared.node.Equation.{Equation as StoredEquation}
use Rattle.lus_program.specs.declared.node.Node.{Node as StoredNode}
use Rattle.lus_program.specs.declared.node.Program.{Program as StoredProgram}
use Rattle.lus_program.specs.declared.node.Variable.{Variable as StoredVariable}
use Rattle.lus_program.specs.Programs.{Expression, Operands, node_at}
use Rattle.lus_program.specs.View.{expression_of, operands_of, node_of, program_seen, variable_of}
use Rattle.lus_streams.specs.Clocks.{Clock, chain, clock_of, branch_clock}
use Rattle.lus_classes.specs.Classes.{Argument, Call, Class, Memory, Step}
use Rattle.lus_instructions.specs.declared.class.Call.{Call as StoredCall}
use Rattle.lus_instructions.specs.declared.formula.Formula.{Formula}
use Rattle.lus_classes.specs.View.{code_of, steps_of}
use Rattle.lus_instructions.specs.declared.class.Cell.{Cell}
use Rattle.lus_values.specs.declared.test.Test.{Test}
use Rattle.lus_translation.specs.declared.steps.Built.{Built}
use Rattle.lus_translation.specs.declared.turn.Turn.{Turn as StoredTurn}
use Rattle.lus_translation.specs.Forms.{all_calls, all_cells, all_steps, arguments_form, call_first, calls_at, calls_form, cells_at, class_form, code_form, codes_form, equation_calls, equation_steps, given_steps, numbers_form, steps_at, turn_calls, turn_steps, one_clock}
use Rattle.lus_translation.specs.Making.{calls_made}
use Rattle.lus_translation.specs.Newest.{call_seen, cell_seen, tested_call, tested_memory}
use Rattle.lus_translation.specs.View.{turn_of}

-- the number of the next cell
abbrev pub next_cell : List Cell → ℕ
next_cell cells = length (map cell_seen cells)

-- cells were added for these memories: what is stored of a clock is its newest test
abbrev pub KeepsCells : (old new : List Cell) → List Memory → Type 0
KeepsCells old new ms = map cell_seen new ≡ map cell_seen old ++ map tested_memory ms

-- a code whose cells come next is that of an expression on a clock
abbrev pub IsCodeFrom : List Cell → List (Option Test) → Expression → Clock → Formula → Type 0
IsCodeFrom cells fs e k d = code_of d ≡ code_form (next_cell cells) fs e k

abbrev pub AreCodesFrom : List Cell → List (Option Test) → Operands → Clock → List Formula → Type 0
AreCodesFrom cells fs es k ds = map code_of ds ≡ codes_form (next_cell cells) fs es (one_clock k) 0

abbrev pub AreBranchesFrom : List Cell → List (Option Test) → Operands → (variable : ℕ) → Clock → List Formula → Type 0
AreBranchesFrom cells fs es x k ds = map code_of ds ≡ codes_form (next_cell cells) fs es (branch_clock x k) 0

-- the clock of a variable among these
abbrev pub clock_among : List StoredVariable → ℕ → Clock
clock_among vs x = chain (length (map variable_of vs)) (map variable_of vs) x

-- the arguments of a call with a base
abbrev pub arguments_from : StoredProgram → (called : ℕ) → List Expr → Clock → List Argument
arguments_from p g args base = arguments_form (operands_of args) (node_at (program_seen p) g) (operands_of args) base 0

-- the calls of a node, and that of one equation, if its right side is one
abbrev pub calls_from : StoredProgram → StoredNode → List Call
calls_from p f = calls_form (program_seen p) (node_of f) (node_of f).equations

abbrev pub AddsCall : StoredProgram → StoredNode → StoredEquation → (old new : List StoredCall) → Type 0
AddsCall p f q old new =
    map call_seen new ≡ map call_seen old ++ map tested_call (call_first (program_seen p) (expression_of q.right) (clock_of (node_of f) (item 0 q.targets.items 0)) [])

-- these cells and steps were added
abbrev pub AddsCells : (old new : Built) → List Memory → Type 0
AddsCells old new ms = KeepsCells old.cells.items new.cells.items ms

abbrev pub Adds : (old new : Built) → List Step → Type 0
Adds old new ss = steps_of new.steps.items ≡ steps_of old.steps.items ++ ss

-- the steps that come next for a right side, for an equation on a clock, for an equation, and in turns
abbrev pub given_from : Built → List (Option Test) → Expression → Clock → List ℕ → List Step
given_from b fs e k xs = given_steps (next_cell b.cells.items) fs e k xs

abbrev pub turn_from : StoredProgram → Built → List (Option Test) → (number : ℕ) → StoredEquation → Clock → List ℕ → List Step
turn_from p b fs number q k xs = turn_steps (program_seen p) (next_cell b.cells.items) fs number (expression_of q.right) q.targets.items k xs

abbrev pub steps_for : StoredProgram → StoredNode → Built → List (Option Test) → (number : ℕ) → StoredEquation → List ℕ → List Step
steps_for p f b fs number q xs = equation_steps (program_seen p) (node_of f) (next_cell b.cells.items) fs number (Some q) xs

-- these calls are made then
abbrev pub MakesCalls : Built → List ℕ → Type 0
MakesCalls new ns = calls_made new.steps.items ≡ ns

abbrev pub turn_calls_from : StoredProgram → Built → (number : ℕ) → StoredEquation → List ℕ → List ℕ
turn_calls_from p b number q xs = turn_calls (program_seen p) (calls_made b.steps.items) number (expression_of q.right) q.targets.items xs

abbrev pub calls_for : StoredProgram → Built → (number : ℕ) → StoredEquation → List ℕ → List ℕ
calls_for p b number q xs = equation_calls (program_seen p) (calls_made b.steps.items) number (Some q) xs

module _ (p : StoredProgram) (f : StoredNode) (numbers : List ℕ) where
  abbrev pub calls_in_turn : Built → StoredTurn → List ℕ
  calls_in_turn b t = calls_at (program_seen p) (node_of f) f.equations.items numbers (calls_made b.steps.items) (turn_of t)

  abbrev pub calls_in_turns : Built → List StoredTurn → List ℕ
  calls_in_turns b ts = all_calls (program_seen p) (node_of f) f.equations.items numbers (calls_made b.steps.items) (map turn_of ts)

  abbrev pub steps_in_turn : Built → List (Option Test) → StoredTurn → List Step
  steps_in_turn b fs t = steps_at (program_seen p) (node_of f) f.equations.items numbers (next_cell b.cells.items) fs (turn_of t)

  abbrev pub cells_in_turn : StoredTurn → List Memory
  cells_in_turn t = cells_at (program_seen p) (node_of f) f.equations.items numbers (turn_of t)

  abbrev pub steps_in_turns : Built → List (Option Test) → List StoredTurn → List Step
  steps_in_turns b fs ts = all_steps (program_seen p) (node_of f) f.equations.items numbers (next_cell b.cells.items) fs (map turn_of ts)

  abbrev pub cells_in_turns : List StoredTurn → List Memory
  cells_in_turns ts = all_cells (program_seen p) (node_of f) f.equations.items numbers (map turn_of ts)

-- the class of a node whose equations have these turns
abbrev pub class_from : StoredProgram → StoredNode → List StoredTurn → Class
class_from p f ts = class_form (program_seen p) (node_of f) f.equations.items (numbers_form 0 f.equations.items) (map turn_of ts)

-- and the calls that its steps make
abbrev pub class_calls : StoredProgram → StoredNode → List StoredTurn → List ℕ
class_calls p f ts = all_calls (program_seen p) (node_of f) f.equations.items (numbers_form 0 f.equations.items) [] (map turn_of ts)
