-- Whether an expression is on clocks doesn't hang on the numbers of its calls.
use Rattle.std.proofs.Common.{◌≡◌, ℕ, zero, suc, ◌+◌, ◌&&◌, List, [], Option, Some, refl, ap, ap₂, ◌∙◌}
use Rattle.lus_values.specs.declared.test.Test.{Test}
use Rattle.lus_program.specs.Programs.{Expression, literal, variable, operate, pre, arrow, when, merge, call, Operands, none, more, calls, numbered, all_numbered, Node, Program, node_at}
use Rattle.lus_streams.specs.Clocks.{clock_of}
use Rattle.lus_streams.specs.OnClock.{test_of, actuals}
use Rattle.lus_clocks.specs.Fitting.{same_test, test_on, name_of, names_in, renamed_first, base_test, output_fits, fits, operands_fit, branches_fit, arguments_fit, outputs_fit, lefts_fit, equation_fits}

name_numbered : (e : Expression) (n : ℕ) → name_of (numbered n e) ≡ name_of e
name_numbered (literal v) n = refl
name_numbered e n = refl

name_at_numbered : (es : Operands) (xs : List ℕ) (n i : ℕ) → names_in (actuals (all_numbered n es) xs) i ≡ names_in (actuals es xs) i
name_at_numbered none xs n i = refl
name_at_numbered (more e es) xs n zero = name_numbered e n
name_at_numbered (more e es) xs n (suc i) = name_at_numbered es xs (n + calls e) i

names_numbered : (es : Operands) (xs : List ℕ) (n : ℕ) → names_in (actuals (all_numbered n es) xs) ≡ names_in (actuals es xs)
names_numbered es xs n = λ j i. name_at_numbered es xs n i j

module _ (p : Program) (f : Node) where
  mutual
    pub fits_numbered : (e : Expression) (n : ℕ) (o : Option Test) → fits p f (numbered n e) o ≡ fits p f e o
    fits_numbered (literal v) n o = refl
    fits_numbered (variable x) n o = refl
    fits_numbered (operate q es) n o = operands_numbered es n o
    fits_numbered (pre a) n o = fits_numbered a n o
    fits_numbered (arrow a b) n o = ap₂ ◌&&◌ (fits_numbered a n o) (fits_numbered b (n + calls a) o)
    fits_numbered (when t a) n o = ap (λ b. same_test (Some t) o && b) (fits_numbered a n (test_of f t.variable))
    fits_numbered (merge x bs) n o = ap (λ b. same_test (test_of f x) o && b) (branches_numbered bs n x 0)
    fits_numbered (call g c es) n o =
        ap₂ ◌&&◌ (ap (λ names. output_fits f (node_at p g) names 0 (base_test f (node_at p g) o) o) (names_numbered es [] (suc n)))
        (arguments_numbered es (suc n) (node_at p g) (names_in (actuals (all_numbered (suc n) es) [])) (base_test f (node_at p g) o) 0
        ∙ ap (λ names. arguments_fit p f es (node_at p g) names (base_test f (node_at p g) o) 0) (names_numbered es [] (suc n)))

    operands_numbered : (es : Operands) (n : ℕ) (o : Option Test) → operands_fit p f (all_numbered n es) o ≡ operands_fit p f es o
    operands_numbered none n o = refl
    operands_numbered (more e es) n o = ap₂ ◌&&◌ (fits_numbered e n o) (operands_numbered es (n + calls e) o)

    branches_numbered : (es : Operands) (n x c : ℕ) → branches_fit p f (all_numbered n es) x c ≡ branches_fit p f es x c
    branches_numbered none n x c = refl
    branches_numbered (more e es) n x c = ap₂ ◌&&◌ (fits_numbered e n (test_on x c)) (branches_numbered es (n + calls e) x (suc c))

    pub arguments_numbered : (es : Operands) (n : ℕ) (g : Node) (names : ℕ → Option ℕ) (base : Option Test) (m : ℕ) → arguments_fit p f (all_numbered n es) g names base m ≡ arguments_fit p f es g names base m
    arguments_numbered none n g names base m = refl
    arguments_numbered (more e es) n g names base m = ap₂ ◌&&◌ (fits_numbered e n (renamed_first names (clock_of g m) base)) (arguments_numbered es (n + calls e) g names base (suc m))

  pub equation_numbered : (xs : List ℕ) (e : Expression) (n : ℕ) (o : Option Test) → equation_fits p f xs (numbered n e) o ≡ equation_fits p f xs e o
  equation_numbered xs (call g c es) n o =
      ap₂ ◌&&◌ (ap (λ names. outputs_fit f (node_at p g) names (base_test f (node_at p g) o) 0 xs) (names_numbered es xs (suc n)))
      (arguments_numbered es (suc n) (node_at p g) (names_in (actuals (all_numbered (suc n) es) [])) (base_test f (node_at p g) o) 0
      ∙ ap (λ names. arguments_fit p f es (node_at p g) names (base_test f (node_at p g) o) 0) (names_numbered es [] (suc n)))
  equation_numbered xs (literal v) n o = refl
  equation_numbered xs (variable x) n o = refl
  equation_numbered xs (operate q es) n o = ap (λ b. lefts_fit f o xs && b) (fits_numbered (operate q es) n o)
  equation_numbered xs (pre a) n o = ap (λ b. lefts_fit f o xs && b) (fits_numbered (pre a) n o)
  equation_numbered xs (arrow a b) n o = ap (λ z. lefts_fit f o xs && z) (fits_numbered (arrow a b) n o)
  equation_numbered xs (when t a) n o = ap (λ b. lefts_fit f o xs && b) (fits_numbered (when t a) n o)
  equation_numbered xs (merge x bs) n o = ap (λ b. lefts_fit f o xs && b) (fits_numbered (merge x bs) n o)
