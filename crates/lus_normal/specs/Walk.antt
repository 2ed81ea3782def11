-- What the walk over a right side adds to what has been taken out and to the equations in normal form.
use Rattle.std.specs.Prelude.{◌≡◌, ◌+◌, ◌^◌, ◌<◌, ℕ, suc, Option, List, ◌∷◌, ◌++◌, length}
use Rattle.lus_program.specs.declared.expr.Expr.{Expr}
use Rattle.lus_program.specs.declared.expr.Form.{Form}
use Rattle.lus_program.specs.declared.node.Node.{Node as StoredNode}
use Rattle.lus_program.specs.declared.node.Program.{Program as StoredProgram}
use Rattle.lus_program.specs.Programs.{Equation, Expression, Program}
use Rattle.lus_program.specs.View.{expression_in, expression_of, node_of, operands_of, program_seen}
use Rattle.lus_clocks.specs.declared.clock.NewestTest.{NewestTest}
use Rattle.lus_clocks.specs.View.{clock_in}
use Rattle.lus_normal_form.specs.Forms.{Position, right_count, operands_count, size, right_form, right_out, operands_out, out}
use Rattle.lus_normal_form.specs.Forms.{added_equations, equations_count, normal_equations}
use Rattle.lus_normal.specs.declared.operands.Clocks.{Clocks}
use Rattle.lus_normal.specs.declared.taking.Taking.{Taking}
use Rattle.lus_normal.specs.Declarable.{AreDeclarable}
use Rattle.lus_normal.specs.Forms.{Taken, right_takes, operands_takes, takes}
use Rattle.lus_normal.specs.Laws.{equations_take}
use Rattle.lus_normal.specs.Operands.{operand_test}
use Rattle.lus_normal.specs.View.{all_taken_seen, equations_seen}

-- numbers are left for n new variables
abbrev pub HasRoom : Taking → (n : ℕ) → Type 0
HasRoom t n = t.next + n < 2 ^ 32

-- these parts were taken out and these equations added, each behind what stood there, and n variables got numbers
pub record Adds (old new : Taking) (ts : List Taken) (qs : List Equation) (n : ℕ) : Type 0 where
  pub taken : all_taken_seen new.taken.items ≡ all_taken_seen old.taken.items ++ ts
  pub equations : equations_seen new.equations.items ≡ equations_seen old.equations.items ++ qs
  pub next : new.next ≡ old.next + n

module _ (old new : Taking) (p : StoredProgram) (f : StoredNode) where
  abbrev takes_out : Expression → Option NewestTest → List Taken
  takes_out e clock = right_takes (program_seen p) (node_of f) e (clock_in clock)

  -- what a whole right side adds
  abbrev pub AddsRight : Form → Option NewestTest → Type 0
  AddsRight form clock =
      let e = expression_in form in
      Adds old new (takes_out e clock) (added_equations old.next (right_out e)) (right_count e)

  -- an equation with these variables on its left
  abbrev pub AddsEquation : (targets : List ℕ) → Expr → Option NewestTest → Type 0
  AddsEquation xs expr clock =
      let e = expression_of expr in
      let here : Equation = record { targets = xs; right = right_form old.next e } in
      Adds old new (takes_out e clock) (here ∷ added_equations old.next (right_out e)) (right_count e)

  -- an expression that is taken out
  abbrev pub AddsPart : Expr → Option NewestTest → Type 0
  AddsPart expr clock =
      let e = expression_of expr in
      let here : Taken = record { test = clock_in clock; operand = e } in
      Adds old new (here ∷ takes_out e clock) (added_equations old.next (e ∷ right_out e)) (suc (right_count e))

  -- an expression where it stands
  abbrev pub AddsAt : Position → Expr → Option NewestTest → Type 0
  AddsAt here expr clock =
      let e = expression_of expr in
      Adds old new (takes (program_seen p) (node_of f) here e (clock_in clock)) (added_equations old.next (out here e)) (size here e)

  -- operands, each on its clock
  abbrev pub AddsOperands : Position → List Expr → Clocks → Type 0
  AddsOperands here operands clocks =
      let es = operands_of operands in
      let ts = operands_takes (program_seen p) (node_of f) here es (operand_test p operands clocks) 0 in
      Adds old new ts (added_equations old.next (operands_out here es)) (operands_count here es)

-- all equations of a node in normal form
abbrev pub HasEquations : StoredNode → Taking → Type 0
HasEquations f t = equations_seen t.equations.items ≡ normal_equations (length (node_of f).variables) (equations_seen f.equations.items)

-- all that is taken out of it
abbrev pub HasTaken : StoredProgram → StoredNode → Taking → Type 0
HasTaken p f t = all_taken_seen t.taken.items ≡ equations_take (program_seen p) (node_of f) f.equations.items

-- numbers are left for all new variables of a node
abbrev pub NodeHasRoom : StoredNode → Type 0
NodeHasRoom f = length (node_of f).variables + equations_count (equations_seen f.equations.items) < 2 ^ 32

-- what the code asks of a node: numbers for its new variables, and that it can declare them
pub record CanBeMade (p : Program) (f : StoredNode) : Type 0 where
  pub room : NodeHasRoom f
  pub declarable : AreDeclarable p (node_of f) (equations_take p (node_of f) f.equations.items)
