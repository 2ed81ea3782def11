-- Where a variable stands for each formal that a clock tests.
use Rattle.std.proofs.Common.{◌≡◌, ℕ, zero, suc, ◌+◌, ◌<◌, ◌≤◌, true, List, [], ◌∷◌, length, take, Option, Some, None, is_some, refl, sym, ap, ◌∙◌, subst, true≢false, suc-ne-zero, ⊎_elim, arith}
use Rattle.std.proofs.lemmas.Bool.{cases_lt}
use Rattle.std.proofs.lemmas.List.{length-take}
use Rattle.lus_values.specs.Lists.{item, Each}
use Rattle.lus_values.proofs.Lists.{below_all}
use Rattle.lus_values.specs.declared.test.Test.{Test}
use Rattle.lus_program.specs.Programs.{Expression, variable, Operands, Variable, Node, no_variable}
use Rattle.lus_streams.specs.Clocks.{Clock, clock_of, operand}
use Rattle.lus_streams.specs.OnClock.{IsName, NamesFormals, IsDeclared, MayTest, test_of}
use Rattle.lus_streams.proofs.Lists.{below_at, item_past, item_take}
use Rattle.lus_streams.proofs.NilFree.{and_left, and_right, and_true}
use Rattle.lus_clocks.specs.Fitting.{clock_from, name_of, names_in, is_named, are_named, formals_of}
use Rattle.lus_clocks.proofs.NewestTests.{AreDeclared, clock_is, clock_tail}

name_is : (e : Expression) → IsName e → is_some (name_of e) ≡ true
name_is (variable x) h = refl
name_is _ h = absurd h

is_name : (e : Expression) → is_some (name_of e) ≡ true → IsName e
is_name (variable x) h = tt
is_name _ h = true≢false (sym h)

module _ (names : ℕ → Option ℕ) where
  named_at : (vs : List Variable) → are_named names vs ≡ true → (m : ℕ) → is_named names (item no_variable vs m).test ≡ true
  named_at [] h m = refl
  named_at (v ∷ vs) h zero = and_left (is_named names v.test) (are_named names vs) h
  named_at (v ∷ vs) h (suc m) = named_at vs (and_right (is_named names v.test) (are_named names vs) h) m

  at_named : (vs : List Variable) → ((m : ℕ) → is_named names (item no_variable vs m).test ≡ true) → are_named names vs ≡ true
  at_named [] h = refl
  at_named (v ∷ vs) h = and_true (is_named names v.test) (are_named names vs) (h 0) (at_named vs (λ m. h (suc m)))

pub none_some : {X : Type 0} {x : X} → None ≡ Some x → ⊥
none_some e = cc

-- the called node g
module _ (g : Node) (declared : AreDeclared g) (args : Operands) where
  abbrev count : ℕ
  count = g.inputs + g.outputs

  abbrev EachNamed : ℕ → Type 0
  EachNamed m = Each (λ t. IsName (operand args t.variable)) (clock_of g m)

  may_test_by : (m : ℕ) (o : Option Test) → test_of g m ≡ o → IsDeclared g m o → (t : Test) → o ≡ Some t → MayTest g m t.variable
  may_test_by m None e h t s = absurd (none_some s)
  may_test_by m (Some u) e h t s = let same : u ≡ t = cc in subst (λ (z : Test). MayTest g m z.variable) same h.1

  test_past : (m : ℕ) → length g.variables ≤ m → test_of g m ≡ None
  test_past m ge = ap (λ (v : Variable). v.test) (item_past no_variable g.variables m ge)

  tests_below : (m : ℕ) (t : Test) → test_of g m ≡ Some t → m < count → t.variable < count
  tests_below m t e lt =
      ⊎_elim
      (λ within.
      let may = may_test_by m (test_of g m) refl (below_at (λ y. IsDeclared g y (test_of g y)) (length g.variables) declared m within) t e in
      may.1 lt)
      (λ ge. absurd (none_some (sym (test_past m ge) ∙ e)))
      (cases_lt m (length g.variables))

  abbrev OwnNamed : Type 0
  OwnNamed = (m : ℕ) → m < count → is_named (names_in args) (test_of g m) ≡ true

  head_is : (m : ℕ) (t : Test) (k : Clock) → clock_of g m ≡ t ∷ k → test_of g m ≡ Some t
  head_is m t k e = head_by (test_of g m) (sym (clock_is g declared m) ∙ e)
    where
      head_by : (o : Option Test) → clock_from g o ≡ t ∷ k → o ≡ Some t
      head_by None h = absurd (suc-ne-zero _ (sym (ap length h)))
      head_by (Some u) h = cc

  each_by : OwnNamed → (k : Clock) (m : ℕ) → m < count → clock_of g m ≡ k → Each (λ t. IsName (operand args t.variable)) k
  each_by own [] m lt e = tt
  each_by own (t ∷ k) m lt e =
      let test = head_is m t k e in
      let here = subst (λ o. is_named (names_in args) o ≡ true) test (own m lt) in
      (is_name (operand args t.variable) here, each_by own k t.variable (tests_below m t test lt) (sym (clock_tail g declared m t k e)))

  own_by : (m : ℕ) (o : Option Test) → test_of g m ≡ o → EachNamed m → is_named (names_in args) o ≡ true
  own_by m None e h = refl
  own_by m (Some t) e h =
      let k = clock_is g declared m ∙ ap (clock_from g) e in
      name_is (operand args t.variable) ((subst (Each (λ t. IsName (operand args t.variable))) k h).0)

  own_at : are_named (names_in args) (formals_of g) ≡ true → OwnNamed
  own_at h m lt = subst (λ (v : Variable). is_named (names_in args) v.test ≡ true) (item_take no_variable count g.variables m lt) (named_at (names_in args) (formals_of g) h m)

  pub named_is : are_named (names_in args) (formals_of g) ≡ true → NamesFormals g args
  named_is h = below_all EachNamed count (λ m lt. each_by (own_at h) (clock_of g m) m lt refl)

  formal_named : NamesFormals g args → (m : ℕ) → is_named (names_in args) (item no_variable (formals_of g) m).test ≡ true
  formal_named h m =
      ⊎_elim
      (λ lt. subst (λ (v : Variable). is_named (names_in args) v.test ≡ true) (sym (item_take no_variable count g.variables m lt)) (own_by m (test_of g m) refl (below_at EachNamed count h m lt)))
      (λ ge. ap (λ (v : Variable). is_named (names_in args) v.test) (item_past no_variable (formals_of g) m (taken_past m ge)))
      (cases_lt m count)
    where
      taken_past : (m : ℕ) → count ≤ m → length (take count g.variables) ≤ m
      taken_past m ge = omega (arith, length-take count g.variables, ge)

  pub is_named_all : NamesFormals g args → are_named (names_in args) (formals_of g) ≡ true
  is_named_all h = at_named (names_in args) (formals_of g) (formal_named h)
