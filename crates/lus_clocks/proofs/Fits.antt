-- What the check of an expression computes is that its parts are on clocks.
use Rattle.std.proofs.Common.{◌≡◌, ℕ, zero, suc, ◌+◌, true, List, [], ◌∷◌, length, drop, Option, Some, refl, sym, ap, ◌∙◌, subst, inl, inr, arith}
use Rattle.lus_values.specs.Lists.{Each}
use Rattle.lus_values.specs.declared.test.Test.{Test}
use Rattle.lus_program.specs.Programs.{Expression, literal, variable, operate, pre, arrow, when, merge, call, Operands, none, more, Node, Program, node_at}
use Rattle.lus_streams.specs.Clocks.{Clock, clock_of, Part, operand, formal_clock, base_of, branch_clock, parts, all_parts}
use Rattle.lus_streams.specs.OnClock.{test_of, actuals, OutputOn, PartOnClock}
use Rattle.lus_streams.proofs.Lists.{each_left, each_right, each_append}
use Rattle.lus_streams.proofs.NilFree.{and_left, and_right, and_true}
use Rattle.lus_streams.proofs.Clocks.{actuals_none}
use Rattle.lus_clocks.specs.Fitting.{clock_from, same_test, test_on, name_of, names_in, leads_to, renamed_first, are_named, formals_of, base_test, output_fits, fits, operands_fit, branches_fit, arguments_fit}
use Rattle.lus_clocks.proofs.NewestTests.{AreDeclared, same_test_is, same_test_of, clock_is, clock_from_is, on_test, test_on_clock, without_tests_is}
use Rattle.lus_clocks.proofs.CallClocks.{leads_is, is_leads, FormalIs, Named, formal_is}
use Rattle.lus_clocks.proofs.NamedFormals.{none_some, named_is, is_named_all}

-- in a program, node f
module _ (p : Program) (all : (g : ℕ) → AreDeclared (node_at p g)) (f : Node) (declared : AreDeclared f) where
  abbrev On : Part → Type 0
  On = PartOnClock p f

  pub base_is : (g : ℕ) (o : Option Test) → clock_from f (base_test f (node_at p g) o) ≡ base_of (node_at p g) (clock_from f o)
  base_is g o = without_tests_is f declared (length (clock_of (node_at p g) (node_at p g).inputs)) o

  module _ (g : ℕ) (args : Operands) (xs : List ℕ) where
    pub output_is : (n : ℕ) (base o : Option Test) → output_fits f (node_at p g) (names_in (actuals args xs)) n base o ≡ true → OutputOn (node_at p g) n args xs (clock_from f base) (clock_from f o)
    output_is n base o h =
        let leads = leads_to f (names_in (actuals args xs)) (clock_of (node_at p g) ((node_at p g).inputs + n)) base o in
        let named = are_named (names_in (actuals args xs)) (formals_of (node_at p g)) in
        (leads_is f declared (actuals args xs) (clock_of (node_at p g) ((node_at p g).inputs + n)) base o (and_left leads named h), named_is (node_at p g) (all g) (actuals args xs) (and_right leads named h))

    pub is_output : (n : ℕ) (base o : Option Test) → OutputOn (node_at p g) n args xs (clock_from f base) (clock_from f o) → output_fits f (node_at p g) (names_in (actuals args xs)) n base o ≡ true
    is_output n base o h =
        let leads = leads_to f (names_in (actuals args xs)) (clock_of (node_at p g) ((node_at p g).inputs + n)) base o in
        let named = are_named (names_in (actuals args xs)) (formals_of (node_at p g)) in
        and_true leads named (is_leads f declared (actuals args xs) (clock_of (node_at p g) ((node_at p g).inputs + n)) base o h.0) (is_named_all (node_at p g) (all g) (actuals args xs) h.1)

  -- a variable that stands for a formal is on the clock of its place
  module _ (g : Node) (args : Operands) (base : Option Test) where
    abbrev formal : ℕ → Option Test
    formal m = renamed_first (names_in args) (clock_of g m) base

    variable_fits : (e : Expression) (y : ℕ) (o : Option Test) → name_of e ≡ Some y → fits p f e o ≡ true → clock_of f y ≡ clock_from f o
    variable_fits (variable x) y o n h =
        let same : x ≡ y = cc in
        subst (λ z. clock_of f z ≡ clock_from f o) same (on_test f declared x o h)
    variable_fits _ y o n h = absurd (none_some n)

    variable_on : (e : Expression) (y : ℕ) (k : Clock) → name_of e ≡ Some y → Each On (parts p e k) → clock_of f y ≡ k
    variable_on (variable x) y k n h =
        let same : x ≡ y = cc in
        subst (λ z. clock_of f z ≡ k) same h.0
    variable_on _ y k n h = absurd (none_some n)

    named_fits : (es : Operands) (m i y : ℕ) → name_of (operand es i) ≡ Some y → arguments_fit p f es g (names_in args) base m ≡ true → clock_of f y ≡ clock_from f (formal (m + i))
    named_fits none m i y n h = absurd (none_some n)
    named_fits (more e es) m zero y n h =
        let place : m + 0 ≡ m = omega arith in
        subst (λ z. clock_of f y ≡ clock_from f (formal z)) (sym place) (variable_fits e y (formal m) n (and_left (fits p f e (formal m)) (arguments_fit p f es g (names_in args) base (suc m)) h))
    named_fits (more e es) m (suc i) y n h =
        let place : suc m + i ≡ m + suc i = omega arith in
        subst (λ z. clock_of f y ≡ clock_from f (formal z)) place (named_fits es (suc m) i y n (and_right (fits p f e (formal m)) (arguments_fit p f es g (names_in args) base (suc m)) h))

    abbrev formal_on : ℕ → Clock
    formal_on m = formal_clock g args (clock_from f base) m

    abbrev arguments_on : Operands → ℕ → List Part
    arguments_on es m = all_parts p es formal_on m

    named_on : (es : Operands) (m i y : ℕ) → name_of (operand es i) ≡ Some y → Each On (arguments_on es m) → clock_of f y ≡ formal_on (m + i)
    named_on none m i y n h = absurd (none_some n)
    named_on (more e es) m zero y n h =
        let place : m + 0 ≡ m = omega arith in
        subst (λ z. clock_of f y ≡ formal_on z) (sym place) (variable_on e y (formal_on m) n (each_left On (parts p e (formal_on m)) (arguments_on es (suc m)) h))
    named_on (more e es) m (suc i) y n h =
        let place : suc m + i ≡ m + suc i = omega arith in
        subst (λ z. clock_of f y ≡ formal_on z) place (named_on es (suc m) i y n (each_right On (parts p e (formal_on m)) (arguments_on es (suc m)) h))

    zero_more : (i : ℕ) → 0 + i ≡ i
    zero_more i = omega arith

    pub names_fit : arguments_fit p f args g (names_in args) base 0 ≡ true → Named f args g base
    names_fit h m y n = inl (subst (λ z. clock_of f y ≡ clock_from f (formal z)) (zero_more m) (named_fits args 0 m y n h))

    pub names_on : Each On (arguments_on args 0) → Named f args g base
    names_on h m y n = inr (subst (λ z. clock_of f y ≡ formal_on z) (zero_more m) (named_on args 0 m y n h))

  mutual
    pub fits_is : (e : Expression) (o : Option Test) → fits p f e o ≡ true → Each On (parts p e (clock_from f o))
    fits_is (literal v) o h = (tt, tt)
    fits_is (variable x) o h = (on_test f declared x o h, tt)
    fits_is (operate q es) o h = (tt, operands_fit_is es o 0 h)
    fits_is (pre a) o h = (tt, fits_is a o h)
    fits_is (arrow a b) o h =
        let k = clock_from f o in
        (tt, each_append On (parts p a k) (parts p b k) (fits_is a o (and_left (fits p f a o) (fits p f b o) h)) (fits_is b o (and_right (fits p f a o) (fits p f b o) h)))
    fits_is (when t a) o h =
        let same : clock_from f o ≡ t ∷ clock_of f t.variable = sym (ap (clock_from f) (same_test_is (Some t) o (and_left (same_test (Some t) o) (fits p f a (test_of f t.variable)) h))) in
        let inner = fits_is a (test_of f t.variable) (and_right (same_test (Some t) o) (fits p f a (test_of f t.variable)) h) in
        (same, subst (λ k. Each On (parts p a k)) (sym (clock_is f declared t.variable) ∙ sym (ap (drop 1) same)) inner)
    fits_is (merge x bs) o h =
        let here = on_test f declared x o (and_left (same_test (test_of f x) o) (branches_fit p f bs x 0) h) in
        (here, branches_fit_is bs x 0 (clock_from f o) here (and_right (same_test (test_of f x) o) (branches_fit p f bs x 0) h))
    fits_is (call g c args) o h =
        let base = base_test f (node_at p g) o in
        let output = output_fits f (node_at p g) (names_in (actuals args [])) 0 base o in
        let arguments = arguments_fit p f args (node_at p g) (names_in (actuals args [])) base 0 in
        let out = output_is g args [] 0 base o (and_left output arguments h) in
        let fit = subst (λ es. arguments_fit p f args (node_at p g) (names_in es) base 0 ≡ true) (actuals_none args) (and_right output arguments h) in
        let inner = arguments_fit_is args (node_at p g) args base 0 (formal_is f declared args (node_at p g) (all g) base (names_fit (node_at p g) args base fit)) fit in
        (subst (λ k. OutputOn (node_at p g) 0 args [] k (clock_from f o)) (base_is g o) out, subst (λ k. Each On (all_parts p args (formal_clock (node_at p g) args k) 0)) (base_is g o) inner)

    operands_fit_is : (es : Operands) (o : Option Test) (m : ℕ) → operands_fit p f es o ≡ true → Each On (all_parts p es (λ n. clock_from f o) m)
    operands_fit_is none o m h = tt
    operands_fit_is (more e es) o m h =
        let k = clock_from f o in
        each_append On (parts p e k) (all_parts p es (λ n. k) (suc m)) (fits_is e o (and_left (fits p f e o) (operands_fit p f es o) h)) (operands_fit_is es o (suc m) (and_right (fits p f e o) (operands_fit p f es o) h))

    branches_fit_is : (es : Operands) (x c : ℕ) (k : Clock) → clock_of f x ≡ k → branches_fit p f es x c ≡ true → Each On (all_parts p es (branch_clock x k) c)
    branches_fit_is none x c k e h = tt
    branches_fit_is (more b bs) x c k e h =
        let here = subst (λ l. Each On (parts p b (branch_clock x l c))) e (fits_is b (test_on x c) (and_left (fits p f b (test_on x c)) (branches_fit p f bs x (suc c)) h)) in
        each_append On (parts p b (branch_clock x k c)) (all_parts p bs (branch_clock x k) (suc c)) here (branches_fit_is bs x (suc c) k e (and_right (fits p f b (test_on x c)) (branches_fit p f bs x (suc c)) h))

    pub arguments_fit_is : (es : Operands) (g : Node) (args : Operands) (base : Option Test) (m : ℕ) → ((i : ℕ) → FormalIs f args g base i) → arguments_fit p f es g (names_in args) base m ≡ true → Each On (all_parts p es (formal_clock g args (clock_from f base)) m)
    arguments_fit_is none g args base m formals h = tt
    arguments_fit_is (more e es) g args base m formals h =
        let o = renamed_first (names_in args) (clock_of g m) base in
        let k = formal_clock g args (clock_from f base) m in
        let here = subst (λ l. Each On (parts p e l)) (formals m) (fits_is e o (and_left (fits p f e o) (arguments_fit p f es g (names_in args) base (suc m)) h)) in
        each_append On (parts p e k) (all_parts p es (formal_clock g args (clock_from f base)) (suc m)) here (arguments_fit_is es g args base (suc m) formals (and_right (fits p f e o) (arguments_fit p f es g (names_in args) base (suc m)) h))

  mutual
    pub is_fitting : (e : Expression) (o : Option Test) → Each On (parts p e (clock_from f o)) → fits p f e o ≡ true
    is_fitting (literal v) o h = refl
    is_fitting (variable x) o h = test_on_clock f declared x o h.0
    is_fitting (operate q es) o h = are_fitting es o 0 h.1
    is_fitting (pre a) o h = is_fitting a o h.1
    is_fitting (arrow a b) o h =
        let k = clock_from f o in
        and_true (fits p f a o) (fits p f b o) (is_fitting a o (each_left On (parts p a k) (parts p b k) h.1)) (is_fitting b o (each_right On (parts p a k) (parts p b k) h.1))
    is_fitting (when t a) o h =
        let same = same_test_of (Some t) o (clock_from_is f declared (Some t) o (sym h.0)) in
        let inner = subst (λ k. Each On (parts p a k)) (ap (drop 1) h.0 ∙ clock_is f declared t.variable) h.1 in
        and_true (same_test (Some t) o) (fits p f a (test_of f t.variable)) same (is_fitting a (test_of f t.variable) inner)
    is_fitting (merge x bs) o h = and_true (same_test (test_of f x) o) (branches_fit p f bs x 0) (test_on_clock f declared x o h.0) (branches_fitting bs x 0 (clock_from f o) h.0 h.1)
    is_fitting (call g c args) o h =
        let base = base_test f (node_at p g) o in
        let out = is_output g args [] 0 base o (subst (λ k. OutputOn (node_at p g) 0 args [] k (clock_from f o)) (sym (base_is g o)) h.0) in
        let inner = subst (λ k. Each On (all_parts p args (formal_clock (node_at p g) args k) 0)) (sym (base_is g o)) h.1 in
        let fit = arguments_fitting args (node_at p g) args base 0 (formal_is f declared args (node_at p g) (all g) base (names_on (node_at p g) args base inner)) inner in
        and_true (output_fits f (node_at p g) (names_in (actuals args [])) 0 base o) (arguments_fit p f args (node_at p g) (names_in (actuals args [])) base 0)
        out (subst (λ es. arguments_fit p f args (node_at p g) (names_in es) base 0 ≡ true) (sym (actuals_none args)) fit)

    are_fitting : (es : Operands) (o : Option Test) (m : ℕ) → Each On (all_parts p es (λ n. clock_from f o) m) → operands_fit p f es o ≡ true
    are_fitting none o m h = refl
    are_fitting (more e es) o m h =
        let k = clock_from f o in
        let rest = all_parts p es (λ n. k) (suc m) in
        and_true (fits p f e o) (operands_fit p f es o) (is_fitting e o (each_left On (parts p e k) rest h)) (are_fitting es o (suc m) (each_right On (parts p e k) rest h))

    branches_fitting : (es : Operands) (x c : ℕ) (k : Clock) → clock_of f x ≡ k → Each On (all_parts p es (branch_clock x k) c) → branches_fit p f es x c ≡ true
    branches_fitting none x c k e h = refl
    branches_fitting (more b bs) x c k e h =
        let k' = branch_clock x k c in
        let rest = all_parts p bs (branch_clock x k) (suc c) in
        let here = subst (λ l. Each On (parts p b (branch_clock x l c))) (sym e) (each_left On (parts p b k') rest h) in
        and_true (fits p f b (test_on x c)) (branches_fit p f bs x (suc c)) (is_fitting b (test_on x c) here) (branches_fitting bs x (suc c) k e (each_right On (parts p b k') rest h))

    pub arguments_fitting : (es : Operands) (g : Node) (args : Operands) (base : Option Test) (m : ℕ) → ((i : ℕ) → FormalIs f args g base i) → Each On (all_parts p es (formal_clock g args (clock_from f base)) m) → arguments_fit p f es g (names_in args) base m ≡ true
    arguments_fitting none g args base m formals h = refl
    arguments_fitting (more e es) g args base m formals h =
        let o = renamed_first (names_in args) (clock_of g m) base in
        let k = formal_clock g args (clock_from f base) m in
        let rest = all_parts p es (formal_clock g args (clock_from f base)) (suc m) in
        let here = subst (λ l. Each On (parts p e l)) (sym (formals m)) (each_left On (parts p e k) rest h) in
        and_true (fits p f e o) (arguments_fit p f es g (names_in args) base (suc m)) (is_fitting e o here) (arguments_fitting es g args base (suc m) formals (each_right On (parts p e k) rest h))
