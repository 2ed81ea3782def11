-- A row whose entries stand on the clocks of their variables stays so while steps give variables that have no entry, and what
-- held in it goes on to hold.
use Rattle.std.proofs.Common.{◌≡◌, ◌∙◌, ◌&&◌, ◌||◌, ℕ, nat_eq, Bool, true, false, List, [], ◌∷◌, Option, None, Some, is_some, slice_set, refl, sym, ap, subst, true≢false}
use Rattle.std.specs.Option.{option_and_then}
use Rattle.std.proofs.lemmas.Bool.{and_parts, eqb-true, eq-eqb, or_parts}
use Rattle.std.proofs.lemmas.List.{get_or-set_other, set-get_or}
use Rattle.lus_values.specs.Lists.{item}
use Rattle.lus_values.specs.Values.{Value, Row}
use Rattle.lus_values.specs.declared.test.Test.{Test}
use Rattle.lus_values.specs.Entries.{is_constructor}
use Rattle.lus_streams.specs.Clocks.{Clock}
use Rattle.lus_classes.specs.Classes.{Step, Class, clock_in}
use Rattle.lus_classes.specs.Steps.{Ask, entry_of, guarded, is_on_row, run_steps}
use Rattle.lus_instructions.specs.Executed.{holds_in}
use Rattle.lus_classes.specs.Played.{AreNew, GivenOnClocks, Unknown}

-- a variable that holds a constructor has an entry
pub has_entry : (m : ℕ) (o : Option Value) → is_constructor m o ≡ true → is_some o ≡ true
has_entry m None h = absurd (true≢false (sym h))
has_entry m (Some v) h = refl

both_true : (a b : Bool) → a ≡ true → b ≡ true → (a && b) ≡ true
both_true a b ea eb = ap (λ z. z && b) ea ∙ eb

-- no entry put where there is none
pub none_put : (r : Row) (x : ℕ) → item None r x ≡ None → slice_set r x None ≡ r
none_put r x e = sym (ap (slice_set r x) e) ∙ set-get_or r x None

module _ (r : Row) (x : ℕ) (unknown : item None r x ≡ None) (e : Option Value) where
  pub test_stays : (t : Test) → holds_in t r ≡ true → holds_in t (slice_set r x e) ≡ true
  test_stays t h =
      let some = has_entry t.constructor (item None r t.variable) h in
      let same : item None (slice_set r x e) t.variable ≡ item None r t.variable =
      get_or-set_other r x t.variable e None (λ s. true≢false (sym some ∙ ap is_some (ap (item None r) s ∙ unknown))) in
      ap (is_constructor t.constructor) same ∙ h

  pub stays_on : (k : Clock) → is_on_row k r ≡ true → is_on_row k (slice_set r x e) ≡ true
  stays_on [] h = refl
  stays_on (t ∷ k) h =
      let parts = and_parts (holds_in t r) (is_on_row k r) h in
      both_true (holds_in t (slice_set r x e)) (is_on_row k (slice_set r x e)) (test_stays t parts.0) (stays_on k parts.1)

  module _ (c : Class) (given : GivenOnClocks c r) where
    on_its_clock : is_on_row (clock_in c x) r ≡ true → GivenOnClocks c (slice_set r x e)
    on_its_clock on y some = go (nat_eq y x) refl
      where
        go : (b : Bool) → nat_eq y x ≡ b → is_on_row (clock_in c y) (slice_set r x e) ≡ true
        go true same = stays_on (clock_in c y) (ap (λ z. is_on_row (clock_in c z) r) (eqb-true y x same) ∙ on)
        go false other =
            let same : item None (slice_set r x e) y ≡ item None r y = get_or-set_other r x y e None (λ s. true≢false (sym (eq-eqb y x s) ∙ other)) in
            stays_on (clock_in c y) (given y (sym (ap is_some same) ∙ some))

    by_clock : (b : Bool) (v : Option Value) → is_on_row (clock_in c x) r ≡ b → guarded b v ≡ Some e → GivenOnClocks c (slice_set r x e)
    by_clock true v on h = on_its_clock on
    by_clock false v off h =
        let none : None ≡ e = cc in
        subst (λ (o : Option Value). GivenOnClocks c (slice_set r x o)) none (subst (GivenOnClocks c) (sym (none_put r x unknown)) given)

    -- a variable that has no entry gets one on its clock, or none
    pub one_given : (v : Option Value) → guarded (is_on_row (clock_in c x) r) v ≡ Some e → GivenOnClocks c (slice_set r x e)
    one_given v h = by_clock (is_on_row (clock_in c x) r) v refl h

pub one_unknown : (known : ℕ → Bool) (x : ℕ) (e : Option Value) (r : Row) → Unknown known r → Unknown (λ y. nat_eq y x || known y) (slice_set r x e)
one_unknown known x e r unknown y h =
    let parts = or_parts (nat_eq y x) (known y) h in
    get_or-set_other r x y e None (λ same. true≢false (sym (eq-eqb y x same) ∙ parts.0)) ∙ unknown y parts.1

module _ (c : Class) (cells : List Value) (flags : List Bool) (asks : List Ask) where
  -- what stays while one variable is given stays while several are
  stay : (Kind : Row → Type 0) → ((s : Step) (r : Row) (e : Option Value) → item None r s.target ≡ None → entry_of c cells flags asks s r ≡ Some e → Kind r → Kind (slice_set r s.target e))
      → (ss : List Step) (known : ℕ → Bool) (r t : Row) → AreNew ss known → Unknown known r → run_steps c cells flags asks ss r ≡ Some t → Kind r → Kind t
  stay Kind one [] known r t new unknown ran kind = subst Kind (let same : r ≡ t = cc in same) kind
  stay Kind one (s ∷ ss) known r t new unknown ran kind =
      go (λ e is h. stay Kind one ss (λ y. nat_eq y s.target || known y) (slice_set r s.target e) t new.1 (one_unknown known s.target e r unknown) h
      (one s r e (unknown s.target new.0) is kind)) (entry_of c cells flags asks s r) refl ran
    where
      go : ((e : Option Value) → entry_of c cells flags asks s r ≡ Some e → run_steps c cells flags asks ss (slice_set r s.target e) ≡ Some t → Kind t)
          → (o : Option (Option Value)) → entry_of c cells flags asks s r ≡ o → option_and_then (λ e. run_steps c cells flags asks ss (slice_set r s.target e)) o ≡ Some t → Kind t
      go more None is h = absurd (cc)
      go more (Some e) is h = more e is h

  -- steps leave entries on their clocks
  pub steps_given : (ss : List Step) (known : ℕ → Bool) (r t : Row) → AreNew ss known → Unknown known r → run_steps c cells flags asks ss r ≡ Some t
      → GivenOnClocks c r → GivenOnClocks c t
  steps_given ss known r t new unknown ran given =
      stay (GivenOnClocks c) (λ s u e none is here. one_given u s.target none e c here _ is) ss known r t new unknown ran given

  -- a test goes on to hold
  pub steps_hold : (t : Test) (ss : List Step) (known : ℕ → Bool) (r u : Row) → AreNew ss known → Unknown known r → run_steps c cells flags asks ss r ≡ Some u
      → holds_in t r ≡ true → holds_in t u ≡ true
  steps_hold t ss known r u new unknown ran holds =
      stay (λ (w : Row). holds_in t w ≡ true) (λ s w e none is here. test_stays w s.target none e t here) ss known r u new unknown ran holds
