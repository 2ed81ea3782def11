-- What the check of an equation computes is that it is on clocks, whatever the numbers of its calls.
use Rattle.std.proofs.Common.{◌≡◌, ℕ, suc, Bool, true, false, ◌&&◌, List, [], ◌∷◌, Option, Some, refl, sym, ap, ◌∙◌, subst, true≢false}
use Rattle.lus_values.specs.Lists.{item, Each}
use Rattle.lus_program.specs.Programs.{Expression, call, Operands, Equation, Node, Program, node_at}
use Rattle.lus_values.specs.declared.test.Test.{Test}
use Rattle.lus_streams.specs.Clocks.{Clock, clock_of, formal_clock, base_of, parts, all_parts}
use Rattle.lus_streams.specs.Equations.{given_by, equation_clock}
use Rattle.lus_streams.specs.OnClock.{test_of, actuals, OutputOn, DefinedOnClock, LeftOnClock, PartOnClock, RightOnClock}
use Rattle.lus_streams.proofs.NilFree.{and_left, and_right, and_true}
use Rattle.lus_streams.proofs.Clocks.{actuals_none}
use Rattle.lus_clocks.specs.Fitting.{clock_from, same_test, names_in, base_test, output_fits, fits, arguments_fit, outputs_fit, lefts_fit, equation_fits}
use Rattle.lus_clocks.proofs.NewestTests.{AreDeclared, clock_is, on_test, test_on_clock}
use Rattle.lus_clocks.proofs.CallClocks.{formal_is}
use Rattle.lus_clocks.proofs.Fits.{base_is, output_is, is_output, names_fit, names_on, fits_is, arguments_fit_is, is_fitting, arguments_fitting}

-- a node's equation
module _ (p : Program) (all : (g : ℕ) → AreDeclared (node_at p g)) (f : Node) (declared : AreDeclared f) where
  abbrev equation : List ℕ → Expression → Equation
  equation xs e = record { targets = xs; right = e }

  abbrev place : List ℕ → Option Test
  place xs = test_of f (item 0 xs 0)

  place_is : (xs : List ℕ) → clock_of f (item 0 xs 0) ≡ clock_from f (place xs)
  place_is xs = clock_is f declared (item 0 xs 0)

  abbrev IsOn : Equation → Type 0
  IsOn q = LeftOnClock p f q 0 q.targets × RightOnClock p f (parts p q.right (equation_clock f q))

  module _ (g c : ℕ) (args : Operands) (xs : List ℕ) where
    abbrev base : Option Test
    base = base_test f (node_at p g) (place xs)

    base_clock : clock_from f base ≡ base_of (node_at p g) (clock_of f (item 0 xs 0))
    base_clock = base_is p all f declared g (place xs) ∙ ap (base_of (node_at p g)) (sym (place_is xs))

    abbrev names : ℕ → Option ℕ
    names = names_in (actuals args xs)

    outputs_are : (n : ℕ) (ys : List ℕ) → outputs_fit f (node_at p g) names base n ys ≡ true → LeftOnClock p f (equation xs (call g c args)) n ys
    outputs_are n [] h = tt
    outputs_are n (x ∷ ys) h =
        let here = output_fits f (node_at p g) names n base (test_of f x) in
        let rest = outputs_fit f (node_at p g) names base (suc n) ys in
        let out = output_is p all f declared g args xs n base (test_of f x) (and_left here rest h) in
        (subst (λ k. OutputOn (node_at p g) n args xs k (clock_of f x)) base_clock (subst (λ k. OutputOn (node_at p g) n args xs (clock_from f base) k) (sym (clock_is f declared x)) out), outputs_are (suc n) ys (and_right here rest h))

    are_outputs : (n : ℕ) (ys : List ℕ) → LeftOnClock p f (equation xs (call g c args)) n ys → outputs_fit f (node_at p g) names base n ys ≡ true
    are_outputs n [] h = refl
    are_outputs n (x ∷ ys) h =
        let here = output_fits f (node_at p g) names n base (test_of f x) in
        let rest = outputs_fit f (node_at p g) names base (suc n) ys in
        let out = subst (λ k. OutputOn (node_at p g) n args xs (clock_from f base) k) (clock_is f declared x) (subst (λ k. OutputOn (node_at p g) n args xs k (clock_of f x)) (sym base_clock) h.0) in
        and_true here rest (is_output p all f declared g args xs n base (test_of f x) out) (are_outputs (suc n) ys h.1)

    abbrev arguments_test : Bool
    arguments_test = arguments_fit p f args (node_at p g) (names_in (actuals args [])) base 0

    arguments_are : arguments_test ≡ true → Each (PartOnClock p f) (all_parts p args (formal_clock (node_at p g) args (base_of (node_at p g) (clock_of f (item 0 xs 0)))) 0)
    arguments_are h =
        let fit = subst (λ es. arguments_fit p f args (node_at p g) (names_in es) base 0 ≡ true) (actuals_none args) h in
        subst (λ k. Each (PartOnClock p f) (all_parts p args (formal_clock (node_at p g) args k) 0)) base_clock
        (arguments_fit_is p all f declared args (node_at p g) args base 0 (formal_is f declared args (node_at p g) (all g) base (names_fit p all f declared (node_at p g) args base fit)) fit)

    are_arguments : Each (PartOnClock p f) (all_parts p args (formal_clock (node_at p g) args (base_of (node_at p g) (clock_of f (item 0 xs 0)))) 0) → arguments_test ≡ true
    are_arguments h =
        let inner = subst (λ k. Each (PartOnClock p f) (all_parts p args (formal_clock (node_at p g) args k) 0)) (sym base_clock) h in
        subst (λ es. arguments_fit p f args (node_at p g) (names_in es) base 0 ≡ true) (sym (actuals_none args))
        (arguments_fitting p all f declared args (node_at p g) args base 0 (formal_is f declared args (node_at p g) (all g) base (names_on p all f declared (node_at p g) args base inner)) inner)

  -- a right side that is no call
  abbrev is_call : Expression → Bool
  is_call (call g c args) = true
  is_call _ = false

  plain_defined : (e : Expression) (n x : ℕ) (xs : List ℕ) (k : Clock) → is_call e ≡ false → clock_of f x ≡ k → DefinedOnClock p f x (Some (given_by e n xs k))
  plain_defined (call g c args) n x xs k plain h = absurd (true≢false plain)
  plain_defined _ n x xs k plain h = h

  defined_plain : (e : Expression) (n x : ℕ) (xs : List ℕ) (k : Clock) → is_call e ≡ false → DefinedOnClock p f x (Some (given_by e n xs k)) → clock_of f x ≡ k
  defined_plain (call g c args) n x xs k plain h = absurd (true≢false plain)
  defined_plain _ n x xs k plain h = h

  plain_right : (e : Expression) (k : Clock) → is_call e ≡ false → Each (PartOnClock p f) (parts p e k) → RightOnClock p f (parts p e k)
  plain_right (call g c args) k plain h = absurd (true≢false plain)
  plain_right _ k plain h = h

  right_plain : (e : Expression) (k : Clock) → is_call e ≡ false → RightOnClock p f (parts p e k) → Each (PartOnClock p f) (parts p e k)
  right_plain (call g c args) k plain h = absurd (true≢false plain)
  right_plain _ k plain h = h

  plain_fits : (xs : List ℕ) (e : Expression) (o : Option Test) → is_call e ≡ false → equation_fits p f xs e o ≡ (lefts_fit f o xs && fits p f e o)
  plain_fits xs (call g c args) o plain = absurd (true≢false plain)
  plain_fits xs _ o plain = refl

  module _ (xs : List ℕ) (e : Expression) (plain : is_call e ≡ false) where
    lefts_are : (n : ℕ) (ys : List ℕ) → lefts_fit f (place xs) ys ≡ true → LeftOnClock p f (equation xs e) n ys
    lefts_are n [] h = tt
    lefts_are n (x ∷ ys) h =
        let here = same_test (test_of f x) (place xs) in
        let rest = lefts_fit f (place xs) ys in
        (plain_defined e n x xs (clock_of f (item 0 xs 0)) plain (on_test f declared x (place xs) (and_left here rest h) ∙ sym (place_is xs)), lefts_are (suc n) ys (and_right here rest h))

    are_lefts : (n : ℕ) (ys : List ℕ) → LeftOnClock p f (equation xs e) n ys → lefts_fit f (place xs) ys ≡ true
    are_lefts n [] h = refl
    are_lefts n (x ∷ ys) h =
        and_true (same_test (test_of f x) (place xs)) (lefts_fit f (place xs) ys)
        (test_on_clock f declared x (place xs) (defined_plain e n x xs (clock_of f (item 0 xs 0)) plain h.0 ∙ place_is xs)) (are_lefts (suc n) ys h.1)

    plain_is : equation_fits p f xs e (place xs) ≡ true → IsOn (equation xs e)
    plain_is h =
        let both = sym (plain_fits xs e (place xs) plain) ∙ h in (
          lefts_are 0 xs (and_left (lefts_fit f (place xs) xs) (fits p f e (place xs)) both),
          plain_right e (clock_of f (item 0 xs 0)) plain (subst (λ k. Each (PartOnClock p f) (parts p e k)) (sym (place_is xs)) (fits_is p all f declared e (place xs) (and_right (lefts_fit f (place xs) xs) (fits p f e (place xs)) both))),
        )

    is_plain : IsOn (equation xs e) → equation_fits p f xs e (place xs) ≡ true
    is_plain h =
        plain_fits xs e (place xs) plain
        ∙ and_true (lefts_fit f (place xs) xs) (fits p f e (place xs)) (are_lefts 0 xs h.0)
        (is_fitting p all f declared e (place xs) (subst (λ k. Each (PartOnClock p f) (parts p e k)) (place_is xs) (right_plain e (clock_of f (item 0 xs 0)) plain h.1)))

  pub equation_is : (xs : List ℕ) (e : Expression) → equation_fits p f xs e (place xs) ≡ true → IsOn (equation xs e)
  equation_is xs (call g c args) h =
      let outputs = outputs_fit f (node_at p g) (names g c args xs) (base g c args xs) 0 xs in
      (outputs_are g c args xs 0 xs (and_left outputs (arguments_test g c args xs) h), arguments_are g c args xs (and_right outputs (arguments_test g c args xs) h))
  equation_is xs e h = plain_is xs e refl h

  pub is_equation : (xs : List ℕ) (e : Expression) → IsOn (equation xs e) → equation_fits p f xs e (place xs) ≡ true
  is_equation xs (call g c args) h =
      and_true (outputs_fit f (node_at p g) (names g c args xs) (base g c args xs) 0 xs) (arguments_test g c args xs) (are_outputs g c args xs 0 xs h.0) (are_arguments g c args xs h.1)
  is_equation xs e h = is_plain xs e refl h
