-- What targets are given: in a row that has more places behind the variables, and where their clocks are absent.
use Rattle.std.proofs.Common.{◌≡◌, ◌∙◌, ◌||◌, ℕ, zero, suc, ◌<◌, ◌≤◌, nat_eq, Bool, true, false, List, [], ◌∷◌, ◌++◌, length, map, take, drop, Option, Some, None, slice_set, refl, sym, ap, ap₂, subst, arith}
use Rattle.std.specs.Prelude.{if◌then◌else◌, option_map}
use Rattle.std.specs.Option.{option_and_then}
use Rattle.std.proofs.lemmas.List.{length-set, take-append-drop}
use Rattle.lus_values.specs.Lists.{item, Each}
use Rattle.lus_values.specs.Values.{Value, Row}
use Rattle.lus_classes.specs.Classes.{clock_in}
use Rattle.lus_classes.specs.Classes.{Class as PlainClass}
use Rattle.lus_classes.specs.Steps.{guarded, is_on_row}
use Rattle.lus_classes.specs.Played.{AreNew, Unknown}
use Rattle.lus_classes.proofs.OnClocks.{none_put, one_unknown}
use Rattle.lus_orders.specs.Looks.{looks}
use Rattle.lus_orders.specs.declared.class.Target.{Target}
use Rattle.lus_orders.specs.Classes.{bound}
use Rattle.lus_orders.specs.Segments.{TargetOf, taken, wide}
use Rattle.lus_orders.proofs.Steps.{bound as bound_in}
use Rattle.lus_orders.proofs.Rows.{item_taken}

set_front : (n x : ℕ) (r : Row) (e : Option Value) → x < n → take n (slice_set r x e) ≡ slice_set (take n r) x e
set_front zero x r e lt = absurd (omega arith)
set_front (suc n) x [] e lt = refl
set_front (suc n) zero (v ∷ r) e lt = refl
set_front (suc n) (suc x) (v ∷ r) e lt = ap (λ (l : Row). v ∷ l) (set_front n x r e (omega arith))

set_behind : (n x : ℕ) (r : Row) (e : Option Value) → x < n → drop n (slice_set r x e) ≡ drop n r
set_behind zero x r e lt = absurd (omega arith)
set_behind (suc n) x [] e lt = refl
set_behind (suc n) zero (v ∷ r) e lt = refl
set_behind (suc n) (suc x) (v ∷ r) e lt = set_behind n x r e (omega arith)

module _ (k : PlainClass) (called : ℕ) (a : Row) where
  abbrev w : ℕ
  w = wide k

  abbrev seen : Row
  seen = take called a

  abbrev whole_row : Row → Row → Row
  whole_row r v = v ++ drop w r

  -- targets are given the same whatever stands behind the variables
  pub bind_is : (n : ℕ) (ts : List Target) (known : ℕ → Bool) → AreNew (map (taken n) ts) known → Each (TargetOf k called) ts → (r : Row) → w ≤ length r
      → Unknown known (take w r) → bound ts a r ≡ option_map (whole_row r) (bound_in k seen ts (take w r))
  bind_is n [] known new each r le unknown = ap Some (sym (take-append-drop w r))
  bind_is n (t ∷ ts) known new each r le unknown = by (λ u wide_u none_u. bind_is n ts (λ y. nat_eq y t.variable || known y) new.1 each.1 u wide_u none_u) (looks t.test r) refl
    where
      x : ℕ
      x = t.variable

      after : ℕ → Bool
      after y = nat_eq y t.variable || known y

      lt : x < w
      lt = each.0.variable

      clock : is_on_row (clock_in k x) (take w r) ≡ looks t.test r
      clock = sym (each.0.test r le)

      given : item None seen t.place ≡ item None a t.place
      given = item_taken called t.place a each.0.place

      none : item None (take w r) x ≡ None
      none = unknown x new.0

      Rest : Type 0
      Rest = (u : Row) → w ≤ length u → Unknown after (take w u) → bound ts a u ≡ option_map (whole_row u) (bound_in k seen ts (take w u))

      one : Rest → (o : Option Value) → option_and_then (bound ts a) (option_map (λ v. slice_set r x (Some v)) o)
          ≡ option_map (whole_row r) (option_and_then (bound_in k seen ts) (option_map (slice_set (take w r) x) (option_map Some o)))
      one rest None = refl
      one rest (Some v) =
          let front = set_front w x r (Some v) lt in
          let long : w ≤ length (slice_set r x (Some v)) = (let e = length-set r x (Some v) in omega (arith, e, le)) in
          rest (slice_set r x (Some v)) long (subst (Unknown after) (sym front) (one_unknown known x (Some v) (take w r) unknown))
          ∙ ap₂ (λ (u z : Row). option_map (λ s. s ++ u) (bound_in k seen ts z)) (set_behind w x r (Some v) lt) front

      by : Rest → (b : Bool) → looks t.test r ≡ b → bound (t ∷ ts) a r ≡ option_map (whole_row r) (bound_in k seen (t ∷ ts) (take w r))
      by rest false off =
          ap (λ b. option_and_then (bound ts a) (if b then option_map (λ v. slice_set r x (Some v)) (item None a t.place) else Some r)) off
          ∙ rest r le (subst (Unknown after) (none_put (take w r) x none) (one_unknown known x None (take w r) unknown))
          ∙ ap (λ (v : Row). option_map (whole_row r) (bound_in k seen ts v)) (sym (none_put (take w r) x none))
          ∙ sym (ap (λ b. option_map (whole_row r) (option_and_then (bound_in k seen ts) (option_map (slice_set (take w r) x) (guarded b (item None seen t.place))))) (clock ∙ off))
      by rest true on =
          ap (λ b. option_and_then (bound ts a) (if b then option_map (λ v. slice_set r x (Some v)) (item None a t.place) else Some r)) on
          ∙ one rest (item None a t.place)
          ∙ sym (ap (λ b. option_map (whole_row r) (option_and_then (bound_in k seen ts) (option_map (slice_set (take w r) x) (guarded b (item None seen t.place))))) (clock ∙ on)
          ∙ ap (λ o. option_map (whole_row r) (option_and_then (bound_in k seen ts) (option_map (slice_set (take w r) x) (option_map Some o)))) given)

-- where their clocks are absent, targets are given nothing
pub bound_off : (k : PlainClass) (a : Row) (n : ℕ) (ts : List Target) (known : ℕ → Bool) (v : Row) → AreNew (map (taken n) ts) known → Unknown known v
    → Each (λ t. is_on_row (clock_in k t.variable) v ≡ false) ts → bound_in k a ts v ≡ Some v
bound_off k a n [] known v new unknown off = refl
bound_off k a n (t ∷ ts) known v new unknown off =
    ap (λ b. option_and_then (bound_in k a ts) (option_map (slice_set v t.variable) (guarded b (item None a t.place)))) off.0
    ∙ ap (bound_in k a ts) (none_put v t.variable (unknown t.variable new.0))
    ∙ bound_off k a n ts (λ y. nat_eq y t.variable || known y) v new.1
    (subst (Unknown (λ y. nat_eq y t.variable || known y)) (none_put v t.variable (unknown t.variable new.0)) (one_unknown known t.variable None v unknown)) off.1
