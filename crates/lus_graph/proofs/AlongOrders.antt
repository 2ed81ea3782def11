-- What things have by what they use, found along an order in which the uses of a thing stand before it, each thing once.
use Rattle.std.proofs.Common.{refl, arith, ◌≡◌, ◌≢◌, ◌∙◌, sym, subst, ℕ, zero, suc, ◌+◌, ◌<◌, ◌≤◌, List, [], ◌∷◌, ◌++◌, length, length-set, get_or, set, take, Contains, ⊎_elim}
use Rattle.std.proofs.lemmas.Bool.{cases_eq, cases_lt}
use Rattle.std.proofs.lemmas.List.{get_or-set_same, get_or-set_other, get_or_append_left, get_or_default, get_or_past, take_all, take-append-le}
use Rattle.std.proofs.lemmas.List.Elements.{Contains-append_cases}
use Rattle.lus_values.specs.Lists.{item}
use Rattle.lus_graph.specs.Along.{IsFilled, IsLocal, Solves, within}
use Rattle.lus_graph.specs.Ways.{Uses, used, IsOrdered, empty, next, IsOrder}
use Rattle.lus_graph.proofs.Steps.{last_item, more_length, no_item, one_item, one_more}

-- each use is of a thing
abbrev pub IsInside : Uses → Type 0
IsInside uses = (x y : ℕ) → Contains (used uses x) y → y < length uses

-- nothing has d
abbrev pub GivesNothing : {X : Type 0} → Uses → X → ((ℕ → X) → ℕ → X) → Type 0
GivesNothing {X} uses d step = (at : ℕ → X) (x : ℕ) → length uses ≤ x → step at x ≡ d

-- a use of nothing has the same, however far it is followed
abbrev pub IsSteady : {X : Type 0} → Uses → X → ((ℕ → X) → ℕ → X) → Type 0
IsSteady uses d step = (x y : ℕ) → Contains (used uses x) y → length uses ≤ y → (m n : ℕ) → within m d step y ≡ within n d step y

too_short : (xs : List ℕ) (x : ℕ) → length (xs ++ x ∷ []) ≤ 0 → ⊥
too_short xs x le = omega (arith, more_length xs x)

front_before : (before : List ℕ) (z i : ℕ) → i ≤ length before → take i (before ++ z ∷ []) ≡ take i before
front_before before z i le = take-append-le i before (z ∷ []) le

-- the uses of a thing in an order stand before it
pub uses_before : (uses : Uses) (order : List ℕ) → IsOrdered uses order → (i y : ℕ) → i < length order → y < length uses → Contains (used uses (get_or order i 0)) y → Contains (take i order) y
uses_before uses order empty i y lt thing among = elim (no_item i lt) [ ]
uses_before uses order (next {before = before} {x = z} ordered fresh all) i y lt thing among = ⊎_elim
    (λ earlier.
    let old : Contains (used uses (get_or before i 0)) y = rw (get_or_append_left before (z ∷ []) 0 i earlier) at among in
    let le : i ≤ length before = omega arith in
    rw (front_before before z i le) (uses_before uses before ordered i y earlier thing old))
    (λ late.
    let end : i ≡ length before = omega (arith, more_length before z) in
    let last : Contains (used uses z) y = rw (last_item before z i end) at among in
    let le : i ≤ length before = omega arith in
    let front : take i before ≡ before = take_all i before late in
    rw (front_before before z i le, front) (all y thing last))
    (cases_lt i (length before))

module _ {X : Type 0} (uses : Uses) (d : X) (step : (ℕ → X) → ℕ → X) where
  pub inside_steady : IsInside uses → IsSteady uses d step
  inside_steady inside x y among le m n = let lt : y < length uses = inside x y among in absurd (omega arith)

  past : GivesNothing uses d step → (n x : ℕ) → length uses ≤ x → within n d step x ≡ d
  past nothing zero x le = refl
  past nothing (suc n) x le = nothing (within n d step) x le

  pub nothing_steady : GivesNothing uses d step → IsSteady uses d step
  nothing_steady nothing x y among le m n = past nothing m y le ∙ sym (past nothing n y le)

  module _ (local : IsLocal uses step) (steady : IsSteady uses d step) where
    -- followed further than the order is long, a thing has the same
    pub settled : (order : List ℕ) → IsOrdered uses order → (m n x : ℕ) → length order ≤ m → length order ≤ n → Contains order x → within m d step x ≡ within n d step x
    settled order empty m n x lm ln among = elim (no_item among.0 among.1) [ ]
    settled order (next {before = before} {x = z} ordered fresh all) zero n x lm ln among = elim (too_short before z lm) [ ]
    settled order (next {before = before} {x = z} ordered fresh all) (suc m) zero x lm ln among = elim (too_short before z ln) [ ]
    settled order (next {before = before} {x = z} ordered fresh all) (suc m) (suc n) x lm ln among =
        let more : length (before ++ z ∷ []) ≡ suc (length before) = more_length before z in
        ⊎_elim
        (λ old. settled before ordered (suc m) (suc n) x (omega arith) (omega arith) old)
        (λ last. let same : z ≡ x = one_item z x last in
        let here : step (within m d step) z ≡ step (within n d step) z = local (within m d step) (within n d step) z (λ y in_uses. ⊎_elim
        (λ lt. settled before ordered m n y (omega arith) (omega arith) (all y lt in_uses))
        (λ le. steady z y in_uses le m n)
        (cases_lt y (length uses))) in
        rw (← same) here)
        (Contains-append_cases before (z ∷ []) x among)

  module _ (local : IsLocal uses step) (order : List ℕ) (o : IsOrder uses order) (n : ℕ) (enough : length uses ≤ n) where
    solved : IsSteady uses d step → (x : ℕ) → x < length uses → within n d step x ≡ step (within n d step) x
    solved steady x lt = settled local steady order o.ordered n (suc n) x (omega (arith, o.size)) (omega (arith, o.size)) (o.whole x lt)

    -- followed often enough, the step is solved
    pub inside_solved : (e : X) → IsInside uses → Solves uses e step (within n d step)
    inside_solved e inside = record { each = solved (inside_steady inside); past = λ x y among le. absurd (omega (arith, inside x y among)) }

    pub nothing_solved : GivesNothing uses d step → Solves uses d step (within n d step)
    nothing_solved nothing = record { each = solved (nothing_steady nothing); past = λ x y among le. past nothing n y le }

-- what has the same solves it too
pub alike_solves : {X : Type 0} (uses : Uses) (e : X) (step : (ℕ → X) → ℕ → X) → IsLocal uses step → (at at' : ℕ → X) → Solves uses e step at → ((x : ℕ) → x < length uses → at' x ≡ at x) → ((y : ℕ) → length uses ≤ y → at' y ≡ e) → Solves uses e step at'
alike_solves uses e step local at at' s same past = record {
  each = λ x lt. same x lt ∙ s.each x lt ∙ local at at' x (λ y among. ⊎_elim (λ thing. sym (same y thing)) (λ le. s.past x y among le ∙ sym (past y le)) (cases_lt y (length uses)));
  past = λ x y among le. past y le;
}

-- where what is found fits, what solves the step fits at each thing
pub all_fit : {X : Type 0} (uses : Uses) (e : X) (step : (ℕ → X) → ℕ → X) (Fits : X → Type 0) (order : List ℕ) → IsOrder uses order → (table : List X) → IsFilled uses e step Fits order table → (at : ℕ → X) → Solves uses e step at → (x : ℕ) → x < length uses → Fits (at x)
all_fit uses e step Fits order o table found at s x lt = subst Fits (found.right at s x (o.whole x lt)) (found.fit x (o.whole x lt))

-- in an order stand things
pub is_thing : (uses : Uses) (order : List ℕ) → IsOrder uses order → (i : ℕ) → i < length order → get_or order i 0 < length uses
is_thing uses order o i lt = o.within (get_or order i 0) (i, lt, get_or_default order i (get_or order i 0) 0 lt)

-- one thing more, from a table right at all before it
module _ {X : Type 0} (uses : Uses) (e : X) (step : (ℕ → X) → ℕ → X) (Fits : X → Type 0) (local : IsLocal uses step) (order : List ℕ) (o : IsOrder uses order) (i : ℕ) (lt : i < length order) (table : List X) (found : IsFilled uses e step Fits (take i order) table) where
  abbrev here : ℕ
  here = get_or order i 0

  pub next_right : (at : ℕ → X) → Solves uses e step at → step (item e table) here ≡ at here
  next_right at s =
      local (item e table) at here (λ y among. ⊎_elim
      (λ thing. found.right at s y (uses_before uses order o.ordered i y lt thing among))
      (λ past. get_or_past table y e (omega (arith, past, found.size)) ∙ sym (s.past here y among past))
      (cases_lt y (length uses)))
      ∙ sym (s.each here (is_thing uses order o i lt))

  module _ (v : X) (is : v ≡ step (item e table) here) (fits : Fits v) where
    there : item e (set table here v) here ≡ v
    there = get_or-set_same table here v e (omega (arith, is_thing uses order o i lt, found.size))

    -- what holds where it held before, and of the value
    more : (P : ℕ → X → Type 0) → ((y : ℕ) → Contains (take i order) y → P y (item e table y)) → P here v → (y : ℕ) → Contains (take (i + 1) order) y → P y (item e (set table here v) y)
    more P old new y among = ⊎_elim
        (λ same. subst (λ k. P k (item e (set table here v) k)) (sym same) (subst (P here) (sym there) new))
        (λ other. subst (P y) (sym (get_or-set_other table here y v e other)) (one_more order (λ k. k ≢ here → P k (item e table k)) i y lt (λ k among no. old k among) (λ no. absurd (no refl)) among other))
        (cases_eq y here)

    pub filled_more : IsFilled uses e step Fits (take (i + 1) order) (set table here v)
    filled_more = record {
      size = length-set table here v ∙ found.size;
      right = λ at s. more (λ y w. w ≡ at y) (found.right at s) (is ∙ next_right at s);
      fit = more (λ y w. Fits w) found.fit fits;
    }
