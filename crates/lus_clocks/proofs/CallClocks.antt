-- Clocks of calls, by their newest tests.
use Rattle.std.proofs.Common.{◌≡◌, ℕ, Bool, true, [], ◌∷◌, ◌++◌, length, drop, Option, Some, None, refl, sym, ap, ◌∙◌, subst, suc-ne-zero, ⊎_elim, ◌⊎◌}
use Rattle.lus_values.specs.declared.test.Test.{Test}
use Rattle.lus_program.specs.Programs.{Expression, variable, Operands, Node}
use Rattle.lus_streams.specs.Clocks.{Clock, clock_of, operand, renamed_test, renamed_clock, formal_clock}
use Rattle.lus_streams.specs.OnClock.{test_of}
use Rattle.lus_streams.proofs.NilFree.{and_left, and_right, and_true}
use Rattle.lus_clocks.specs.Fitting.{clock_from, same_test, test_on, name_of, names_in, leads_by, leads_to, renamed_by, renamed_first}
use Rattle.lus_clocks.proofs.NewestTests.{AreDeclared, same_test_is, same_test_of, clock_is, clock_from_is, clock_tail}

-- the clock of a formal of g, in a call with this base, is what its newest test says
module _ (f : Node) (args : Operands) (g : Node) (base : Option Test) where
  abbrev pub FormalIs : ℕ → Type 0
  FormalIs m = clock_from f (renamed_first (names_in args) (clock_of g m) base) ≡ formal_clock g args (clock_from f base) m

  -- each variable that stands for a formal is on the clock of its place, said in one way or the other
  abbrev pub Named : Type 0
  Named = (m y : ℕ) → name_of (operand args m) ≡ Some y
      → (clock_of f y ≡ clock_from f (renamed_first (names_in args) (clock_of g m) base)) ⊎ (clock_of f y ≡ formal_clock g args (clock_from f base) m)

-- the caller f, and what stands for the formals
module _ (f : Node) (declared : AreDeclared f) (args : Operands) where
  module _ (c : ℕ) (k : Clock) (base : Option Test) (rest : Option Test → Bool) where
    leads_by_is : ((o : Option Test) → rest o ≡ true → clock_from f o ≡ k ++ clock_from f base) → (e : Expression) (o : Option Test) → leads_by f (names_in args) (name_of e) c rest o ≡ true
        → clock_from f o ≡ renamed_test e c k ++ clock_from f base
    leads_by_is ih (variable y) o h =
        ap (clock_from f) (same_test_is o (test_on y c) (and_left (same_test o (test_on y c)) (rest (test_of f y)) h))
        ∙ ap (λ l. record { variable = y; constructor = c } ∷ l) (clock_is f declared y ∙ ih (test_of f y) (and_right (same_test o (test_on y c)) (rest (test_of f y)) h))
    leads_by_is ih _ o h = ih o h

    head_tail : (y : ℕ) (o : Option Test) → clock_from f o ≡ record { variable = y; constructor = c } ∷ (k ++ clock_from f base) → (o ≡ test_on y c) × (clock_of f y ≡ k ++ clock_from f base)
    head_tail y None h = absurd (suc-ne-zero _ (sym (ap length h)))
    head_tail y (Some u) h =
        let same : u ≡ record { variable = y; constructor = c } = cc in
        (ap Some same, ap (λ (t : Test). clock_of f t.variable) (sym same) ∙ ap (drop 1) h)

    is_leads_by : ((o : Option Test) → clock_from f o ≡ k ++ clock_from f base → rest o ≡ true) → (e : Expression) (o : Option Test) → clock_from f o ≡ renamed_test e c k ++ clock_from f base
        → leads_by f (names_in args) (name_of e) c rest o ≡ true
    is_leads_by ih (variable y) o h =
        let both = head_tail y o h in
        and_true (same_test o (test_on y c)) (rest (test_of f y)) (same_test_of o (test_on y c) both.0) (ih (test_of f y) (sym (clock_is f declared y) ∙ both.1))
    is_leads_by ih _ o h = ih o h

  pub leads_is : (k : Clock) (base o : Option Test) → leads_to f (names_in args) k base o ≡ true → clock_from f o ≡ renamed_clock args k ++ clock_from f base
  leads_is [] base o h = ap (clock_from f) (same_test_is o base h)
  leads_is (t ∷ k) base o h = leads_by_is t.constructor (renamed_clock args k) base (leads_to f (names_in args) k base) (leads_is k base) (operand args t.variable) o h

  pub is_leads : (k : Clock) (base o : Option Test) → clock_from f o ≡ renamed_clock args k ++ clock_from f base → leads_to f (names_in args) k base o ≡ true
  is_leads [] base o h = same_test_of o base (clock_from_is f declared o base h)
  is_leads (t ∷ k) base o h = is_leads_by t.constructor (renamed_clock args k) base (leads_to f (names_in args) k base) (is_leads k base) (operand args t.variable) o h

  -- the clocks of formals, where each variable that stands for one is on the clock of its place
  module _ (g : Node) (callee : AreDeclared g) (base : Option Test) where
    one_or_other : {X : Type 0} (a b c : X) → b ≡ c → (a ≡ b) ⊎ (a ≡ c) → a ≡ c
    one_or_other a b c e h = ⊎_elim (λ l. l ∙ e) (λ r. r) h

    formal_step : (c : ℕ) (e : Expression) (k : Clock) (rest : Option Test) → clock_from f rest ≡ k ++ clock_from f base → ((y : ℕ) → name_of e ≡ Some y → clock_of f y ≡ k ++ clock_from f base)
        → clock_from f (renamed_by (names_in args) (name_of e) c rest) ≡ renamed_test e c k ++ clock_from f base
    formal_step c (variable y) k rest h n = ap (λ l. record { variable = y; constructor = c } ∷ l) (n y refl)
    formal_step c _ k rest h n = h

    formal_by : Named f args g base → (k : Clock) (m : ℕ) → clock_of g m ≡ k → clock_from f (renamed_first (names_in args) k base) ≡ renamed_clock args k ++ clock_from f base
    formal_by named [] m e = refl
    formal_by named (t ∷ k) m e =
        let tail : clock_of g t.variable ≡ k = sym (clock_tail g callee m t k e) in
        let ih = formal_by named k t.variable tail in
        let here : FormalIs f args g base t.variable = subst (λ l. clock_from f (renamed_first (names_in args) l base) ≡ renamed_clock args l ++ clock_from f base) (sym tail) ih in
        formal_step t.constructor (operand args t.variable) (renamed_clock args k) (renamed_first (names_in args) k base) ih
        (λ y n.
        one_or_other (clock_of f y) (clock_from f (renamed_first (names_in args) (clock_of g t.variable) base)) (formal_clock g args (clock_from f base) t.variable) here (named t.variable y n)
        ∙ ap (λ l. renamed_clock args l ++ clock_from f base) tail)

    pub formal_is : Named f args g base → (m : ℕ) → FormalIs f args g base m
    formal_is named m = formal_by named (clock_of g m) m refl
