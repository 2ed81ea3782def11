-- What the check of clocks computes. Where declared clocks aren't circular, a clock is determined by its newest test, none for
-- the base clock: so a place has one optional test, and clocks are compared by it.
use Rattle.std.specs.Prelude.{ℕ, zero, suc, ◌+◌, Bool, true, false, not, ◌&&◌, ◌||◌, nat_eq, nat_lt, List, [], ◌∷◌, length, take, Option, Some, None, is_some}
use Rattle.lus_values.specs.declared.test.Test.{Test}
use Rattle.lus_program.specs.Programs.{Expression, literal, variable, operate, pre, arrow, when, merge, call, Operands, none, more, Variable, Node, Program, node_at}
use Rattle.lus_program.specs.declared.node.Equation.{Equation as StoredEquation}
use Rattle.lus_program.specs.declared.node.Node.{Node as StoredNode}
use Rattle.lus_program.specs.View.{expression_of, node_of}
use Rattle.lus_values.specs.Lists.{item}
use Rattle.lus_streams.specs.Clocks.{Clock, clock_of, operand}
use Rattle.lus_streams.specs.OnClock.{test_of, actuals}

-- the clock with this newest test
abbrev pub clock_from : Node → Option Test → Clock
clock_from f None = []
clock_from f (Some t) = t ∷ clock_of f t.variable

abbrev pub same_test : Option Test → Option Test → Bool
same_test None None = true
same_test (Some t) (Some u) = nat_eq t.variable u.variable && nat_eq t.constructor u.constructor
same_test _ _ = false

abbrev pub test_on : ℕ → ℕ → Option Test
test_on x c = Some (record { variable = x; constructor = c })

-- the clock without its newest test
abbrev pub without_test : Node → Option Test → Option Test
without_test f None = None
without_test f (Some t) = test_of f t.variable

-- the clock without its n newest tests
abbrev pub without_tests : Node → ℕ → Option Test → Option Test
without_tests f zero o = o
without_tests f (suc n) o = without_tests f n (without_test f o)

abbrev pub name_of : Expression → Option ℕ
name_of (variable x) = Some x
name_of _ = None

-- the variable that stands for each formal of a call, if one does
abbrev pub names_in : Operands → ℕ → Option ℕ
names_in args m = name_of (operand args m)

module _ (f : Node) (names : ℕ → Option ℕ) where
  abbrev pub leads_by : Option ℕ → ℕ → (Option Test → Bool) → Option Test → Bool
  leads_by None c rest o = rest o
  leads_by (Some y) c rest o = same_test o (test_on y c) && rest (test_of f y)

  -- a clock is these tests on formals, as tests on what stands for them, after this base
  abbrev pub leads_to : Clock → Option Test → Option Test → Bool
  leads_to [] base o = same_test o base
  leads_to (t ∷ k) base o = leads_by (names t.variable) t.constructor (leads_to k base) o

module _ (names : ℕ → Option ℕ) where
  abbrev pub renamed_by : Option ℕ → ℕ → Option Test → Option Test
  renamed_by None c rest = rest
  renamed_by (Some y) c rest = test_on y c

  -- the newest of these tests on formals, as a test on what stands for it, after this base
  abbrev pub renamed_first : Clock → Option Test → Option Test
  renamed_first [] base = base
  renamed_first (t ∷ k) base = renamed_by (names t.variable) t.constructor (renamed_first k base)

  abbrev pub is_named : Option Test → Bool
  is_named None = true
  is_named (Some t) = is_some (names t.variable)

  -- a variable stands for each formal that one of these variables is declared with
  abbrev pub are_named : List Variable → Bool
  are_named [] = true
  are_named (v ∷ vs) = is_named v.test && are_named vs

abbrev pub formals_of : Node → List Variable
formals_of g = take (g.inputs + g.outputs) g.variables

-- the base of a call of g whose first output is on this clock
abbrev pub base_test : Node → Node → Option Test → Option Test
base_test f g o = without_tests f (length (clock_of g g.inputs)) o

-- output n of a call with this base is on this clock
abbrev pub output_fits : Node → Node → (ℕ → Option ℕ) → ℕ → Option Test → Option Test → Bool
output_fits f g names n base o = leads_to f names (clock_of g (g.inputs + n)) base o && are_named names (formals_of g)

module _ (f : Node) where
  -- the variables on the left of a call are on the clocks of its outputs, the first of them output n
  abbrev pub outputs_fit : Node → (ℕ → Option ℕ) → Option Test → ℕ → List ℕ → Bool
  outputs_fit g names base n [] = true
  outputs_fit g names base n (x ∷ xs) = output_fits f g names n base (test_of f x) && outputs_fit g names base (suc n) xs

  -- the variables on the left are on this clock
  abbrev pub lefts_fit : Option Test → List ℕ → Bool
  lefts_fit o [] = true
  lefts_fit o (x ∷ xs) = same_test (test_of f x) o && lefts_fit o xs

module _ (p : Program) (f : Node) where
  -- an expression is on this clock
  abbrev mutual
    pub fits : Expression → Option Test → Bool
    fits (literal v) o = true
    fits (variable x) o = same_test (test_of f x) o
    fits (operate _ es) o = operands_fit es o
    fits (pre a) o = fits a o
    fits (arrow a b) o = fits a o && fits b o
    fits (when t a) o = same_test (Some t) o && fits a (test_of f t.variable)
    fits (merge x bs) o = same_test (test_of f x) o && branches_fit bs x 0
    fits (call g c args) o =
        output_fits f (node_at p g) (names_in (actuals args [])) 0 (base_test f (node_at p g) o) o
        && arguments_fit args (node_at p g) (names_in (actuals args [])) (base_test f (node_at p g) o) 0

    pub operands_fit : Operands → Option Test → Bool
    operands_fit none o = true
    operands_fit (more e es) o = fits e o && operands_fit es o

    pub branches_fit : Operands → ℕ → ℕ → Bool
    branches_fit none x c = true
    branches_fit (more e es) x c = fits e (test_on x c) && branches_fit es x (suc c)

    pub arguments_fit : Operands → Node → (ℕ → Option ℕ) → Option Test → ℕ → Bool
    arguments_fit none g names base m = true
    arguments_fit (more e es) g names base m = fits e (renamed_first names (clock_of g m) base) && arguments_fit es g names base (suc m)

  -- an equation is on clocks
  abbrev pub equation_fits : List ℕ → Expression → Option Test → Bool
  equation_fits xs (call g c args) o =
      outputs_fit f (node_at p g) (names_in (actuals args xs)) (base_test f (node_at p g) o) 0 xs
      && arguments_fit args (node_at p g) (names_in (actuals args [])) (base_test f (node_at p g) o) 0
  equation_fits xs e o = lefts_fit f o xs && fits e o

  abbrev pub equations_fit : List StoredEquation → Bool
  equations_fit [] = true
  equations_fit (q ∷ qs) = equation_fits q.targets.items (expression_of q.right) (test_of f (item 0 q.targets.items 0)) && equations_fit qs

module _ (f : Node) where
  -- an input is tested by an input, an output by an input or an output
  abbrev pub may_test : ℕ → ℕ → Bool
  may_test x y =
      (not (nat_lt x f.inputs) || nat_lt y f.inputs)
      && (not (nat_lt x (f.inputs + f.outputs)) || nat_lt y (f.inputs + f.outputs))

  -- the clock of x has one test more than that of its test's variable
  abbrev pub is_declared : ℕ → Option Test → Bool
  is_declared x None = true
  is_declared x (Some t) = nat_eq (length (clock_of f x)) (length (clock_of f t.variable) + 1) && may_test x t.variable

  -- these variables, the first of them x, are declared on clocks
  abbrev pub are_declared : ℕ → List Variable → Bool
  are_declared x [] = true
  are_declared x (v ∷ vs) = is_declared x v.test && are_declared (suc x) vs

abbrev pub all_declared : List StoredNode → Bool
all_declared [] = true
all_declared (f ∷ fs) = are_declared (node_of f) 0 (node_of f).variables && all_declared fs

abbrev pub all_fit : Program → List StoredNode → Bool
all_fit p [] = true
all_fit p (f ∷ fs) = equations_fit p (node_of f) f.equations.items && all_fit p fs
