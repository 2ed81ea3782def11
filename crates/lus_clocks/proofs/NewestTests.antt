-- Clocks of a node whose declared clocks aren't circular: each is determined by its newest test.
use Rattle.std.proofs.Common.{rules, ◌≡◌, ℕ, zero, suc, true, nat_eq, [], ◌∷◌, length, drop, Option, Some, None, refl, sym, ap, ◌∙◌, subst, true≢false, suc-ne-zero, ⊎_elim}
use Rattle.std.proofs.lemmas.Bool.{eqb-true, cases_lt}
use Rattle.lus_values.specs.Lists.{Below}
use Rattle.lus_values.specs.declared.test.Test.{Test}
use Rattle.lus_program.specs.Programs.{Variable, Node, no_variable}
use Rattle.lus_streams.specs.Clocks.{Clock, clock_of}
use Rattle.lus_streams.specs.OnClock.{IsDeclared, test_of}
use Rattle.lus_streams.proofs.Lists.{below_at, item_past}
use Rattle.lus_streams.proofs.Clocks.{chain_none}
use Rattle.lus_streams.proofs.NilFree.{and_left, and_right, and_true}
use Rattle.lus_clocks.specs.Fitting.{clock_from, same_test, without_tests}

abbrev pub AreDeclared : Node → Type 0
AreDeclared f = Below (length f.variables) (λ x. IsDeclared f x (test_of f x))

-- two optional tests are one
pub same_test_is : (a b : Option Test) → same_test a b ≡ true → a ≡ b
same_test_is None None h = refl
same_test_is None (Some u) h = absurd (true≢false (sym h))
same_test_is (Some t) None h = absurd (true≢false (sym h))
same_test_is (Some t) (Some u) h =
    let x : t.variable ≡ u.variable = eqb-true t.variable u.variable (and_left (nat_eq t.variable u.variable) (nat_eq t.constructor u.constructor) h) in
    let c : t.constructor ≡ u.constructor = eqb-true t.constructor u.constructor (and_right (nat_eq t.variable u.variable) (nat_eq t.constructor u.constructor) h) in
    λ i. Some (record { variable = x i; constructor = c i })

nat_eq_same : (n : ℕ) → nat_eq n n ≡ true
nat_eq_same n = search rules

pub same_test_self : (a : Option Test) → same_test a a ≡ true
same_test_self None = refl
same_test_self (Some t) = and_true (nat_eq t.variable t.variable) (nat_eq t.constructor t.constructor) (nat_eq_same t.variable) (nat_eq_same t.constructor)

pub same_test_of : (a b : Option Test) → a ≡ b → same_test a b ≡ true
same_test_of a b e = subst (λ c. same_test a c ≡ true) e (same_test_self a)

module _ (f : Node) (declared : AreDeclared f) where
  declared_by : (x : ℕ) (o : Option Test) → test_of f x ≡ o → IsDeclared f x o → clock_of f x ≡ clock_from f o
  declared_by x None e h = chain_none (length f.variables) f.variables x e
  declared_by x (Some t) e h = h.0

  -- the clock of a variable is that of its test
  pub clock_is : (x : ℕ) → clock_of f x ≡ clock_from f (test_of f x)
  clock_is x =
      ⊎_elim (λ lt. declared_by x (test_of f x) refl (below_at (λ y. IsDeclared f y (test_of f y)) (length f.variables) declared x lt))
      (λ ge.
      let none : test_of f x ≡ None = ap (λ (v : Variable). v.test) (item_past no_variable f.variables x ge) in
      chain_none (length f.variables) f.variables x none ∙ ap (clock_from f) (sym none))
      (cases_lt x (length f.variables))

  abbrev head_or : Test → Clock → Test
  head_or t [] = t
  head_or t (u ∷ k) = u

  -- two clocks are equal where their newest tests are
  pub clock_from_is : (a b : Option Test) → clock_from f a ≡ clock_from f b → a ≡ b
  clock_from_is None None e = refl
  clock_from_is None (Some u) e = absurd (suc-ne-zero _ (sym (ap length e)))
  clock_from_is (Some t) None e = absurd (suc-ne-zero _ (ap length e))
  clock_from_is (Some t) (Some u) e = ap (λ k. Some (head_or t k)) e

  pub on_test : (x : ℕ) (o : Option Test) → same_test (test_of f x) o ≡ true → clock_of f x ≡ clock_from f o
  on_test x o h = clock_is x ∙ ap (clock_from f) (same_test_is (test_of f x) o h)

  pub test_on_clock : (x : ℕ) (o : Option Test) → clock_of f x ≡ clock_from f o → same_test (test_of f x) o ≡ true
  test_on_clock x o e = same_test_of (test_of f x) o (clock_from_is (test_of f x) o (sym (clock_is x) ∙ e))

  -- what follows the newest test of a clock
  pub clock_tail : (x : ℕ) (t : Test) (k : Clock) → clock_of f x ≡ t ∷ k → k ≡ clock_of f t.variable
  clock_tail x t k e = tail_by (test_of f x) (sym e ∙ clock_is x)
    where
      tail_by : (o : Option Test) → t ∷ k ≡ clock_from f o → k ≡ clock_of f t.variable
      tail_by None h = absurd (suc-ne-zero _ (ap length h))
      tail_by (Some u) h = ap (drop 1) h ∙ ap (λ l. clock_of f (head_or u l).variable) (sym h)

  drop_nil : (n : ℕ) → drop n (let k : Clock = [] in k) ≡ []
  drop_nil zero = refl
  drop_nil (suc n) = refl

  pub without_tests_is : (n : ℕ) (o : Option Test) → clock_from f (without_tests f n o) ≡ drop n (clock_from f o)
  without_tests_is zero o = refl
  without_tests_is (suc n) None = without_tests_is n None ∙ drop_nil n
  without_tests_is (suc n) (Some t) = without_tests_is n (test_of f t.variable) ∙ ap (drop n) (sym (clock_is t.variable))
