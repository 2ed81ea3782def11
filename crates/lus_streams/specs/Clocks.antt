-- Clocks, as in the Lustre V6 reference manual, "Clocks": lists of tests after a base clock, the newest test first.
use Rattle.std.specs.Prelude.{ℕ, zero, suc, List, [], ◌∷◌, ◌++◌, length, drop, Some, None}
use Rattle.lus_values.specs.Lists.{item}
use Rattle.lus_values.specs.Values.{nil}
use Rattle.lus_values.specs.declared.test.Test.{Test}
use Rattle.lus_program.specs.Programs.{Expression, literal, variable, operate, pre, arrow, when, merge, call, Operands, none, more, Variable, Node, Program, no_variable, node_at}

-- a clock is present where its base is and each test holds; the empty list is the base itself
abbrev pub Clock : Type 0
Clock = List Test

-- a variable's own test, then the clock of the test's variable, through at most n tests
abbrev pub chain : ℕ → List Variable → ℕ → Clock
chain zero vs x = []
chain (suc n) vs x = elim (item no_variable vs x).test [ None ↦ [] | Some t ↦ t ∷ chain n vs t.variable ]

-- the clock of a variable: one without a test is on the base clock, one with a test on the clock of the test's variable
-- with that test added (Halbwachs, Caspi, Raymond and Pilaud 1991, on clocks)
abbrev pub clock_of : Node → ℕ → Clock
clock_of f x = chain (length f.variables) f.variables x

-- an expression in the text, with its own clock
pub data Part : Type 0 where
  at : Clock → Expression → Part

-- the operand at a place, or nil past the end
abbrev pub operand : Operands → ℕ → Expression
operand none n = literal nil
operand (more e es) zero = e
operand (more e es) (suc n) = operand es n

-- a test on a formal, as one on the variable that is its argument
abbrev pub renamed_test : Expression → ℕ → Clock → Clock
renamed_test (variable x) c k = record { variable = x; constructor = c } ∷ k
renamed_test _ c k = k

-- tests on formals, as tests on the arguments
abbrev pub renamed_clock : Operands → Clock → Clock
renamed_clock args [] = []
renamed_clock args (t ∷ k) = renamed_test (operand args t.variable) t.constructor (renamed_clock args k)

-- the clock of an argument: the call's base followed by its formal's tests (Lustre V6 reference manual, "Clocks", on calls)
abbrev pub formal_clock : Node → Operands → Clock → ℕ → Clock
formal_clock g args base m = renamed_clock args (clock_of g m) ++ base

-- the base of a call of g whose first output is on k: k without the tests of that output
abbrev pub base_of : Node → Clock → Clock
base_of g k = drop (length (clock_of g g.inputs)) k

-- the clocks of the branches of a merge by x on k, by their constructors
abbrev pub branch_clock : ℕ → Clock → ℕ → Clock
branch_clock x k c = record { variable = x; constructor = c } ∷ k

module _ (p : Program) where
  -- an expression on k and all its sub-expressions, each with its own clock, in the order of the text: operators, `pre`
  -- and `->` on the clock of their operands, the operand of `when` on that clock without the test, a branch of a
  -- merge on the merge's clock with its test (Lustre V6 reference manual, "Clocks")
  abbrev mutual
    pub parts : Expression → Clock → List Part
    parts (literal v) k = at k (literal v) ∷ []
    parts (variable x) k = at k (variable x) ∷ []
    parts (operate o es) k = at k (operate o es) ∷ all_parts es (λ m. k) 0
    parts (pre a) k = at k (pre a) ∷ parts a k
    parts (arrow a b) k = at k (arrow a b) ∷ (parts a k ++ parts b k)
    parts (when t a) k = at k (when t a) ∷ parts a (drop 1 k)
    parts (merge x bs) k = at k (merge x bs) ∷ all_parts bs (branch_clock x k) 0
    parts (call g c args) k = at k (call g c args) ∷ all_parts args (formal_clock (node_at p g) args (base_of (node_at p g) k)) 0

    -- operands from number m on, each on the clock of its number
    pub all_parts : Operands → (ℕ → Clock) → ℕ → List Part
    all_parts none ks m = []
    all_parts (more e es) ks m = parts e (ks m) ++ all_parts es ks (suc m)
