-- Things in an order lead nowhere back; things in a cycle do. An order by some uses is one by all that follow from these.
use Rattle.std.proofs.Common.{arith, ◌≡◌, refl, subst, ℕ, zero, suc, ◌<◌, ◌≤◌, List, [], ◌∷◌, length, get_or, Contains, ⊎_elim}
use Rattle.std.proofs.lemmas.Bool.{cases_lt}
use Rattle.std.proofs.lemmas.List.{get_or_past}
use Rattle.std.proofs.lemmas.List.Elements.{Contains-append_cases, Contains-append_left}
use Rattle.lus_graph.specs.Ways.{Uses, used, Leads, step, then, HasNoWayBack, IsOrdered, empty, next, IsOrder, IsCycle}
use Rattle.lus_graph.proofs.Steps.{no_item, one_item}

module _ (uses : Uses) where
  -- what uses something is a thing
  pub user_within : (x y : ℕ) → Contains (used uses x) y → x < length uses
  user_within x y among = ⊎_elim (λ lt. lt) (λ le. let none : used uses x ≡ [] = get_or_past uses x [] le in let f : Contains [] y = rw none at among in elim (no_item f.0 f.1) [ ]) (cases_lt x (length uses))

  leader_within : (x y : ℕ) → Leads uses x y → x < length uses
  leader_within x y (step among) = user_within x y among
  leader_within x z (then {y = y} among way) = user_within x y among

  -- an ordered list has with each thing what it uses
  has_uses : (xs : List ℕ) → IsOrdered uses xs → (x y : ℕ) → Contains xs x → Contains (used uses x) y → y < length uses → Contains xs y
  has_uses xs empty x y among in_uses lt = elim (no_item among.0 among.1) [ ]
  has_uses xs (next {before = before} {x = z} ordered fresh all) x y among in_uses lt = Contains-append_left before (z ∷ []) y (⊎_elim
      (λ old. has_uses before ordered x y old in_uses lt)
      (λ last. let same : z ≡ x = one_item z x last in all y lt (rw same in_uses))
      (Contains-append_cases before (z ∷ []) x among))

  -- and with it all that it leads to
  has_ways : (xs : List ℕ) → IsOrdered uses xs → (x y : ℕ) → Contains xs x → Leads uses x y → y < length uses → Contains xs y
  has_ways xs ordered x y among (step in_uses) lt = has_uses xs ordered x y among in_uses lt
  has_ways xs ordered x z among (then {y = y} in_uses way) lt = has_ways xs ordered y z (has_uses xs ordered x y among in_uses (leader_within y z way)) way lt

  -- a thing that uses only things before it leads only to these
  only_before : (before : List ℕ) (x z : ℕ) → IsOrdered uses before → ((y : ℕ) → y < length uses → Contains (used uses x) y → Contains before y) → Leads uses x z → z < length uses → Contains before z
  only_before before x z ordered all (step among) lt = all z lt among
  only_before before x z ordered all (then {y = y} among way) lt = has_ways before ordered y z (all y (leader_within y z way) among) way lt

  none_back : (xs : List ℕ) → IsOrdered uses xs → (x : ℕ) → Contains xs x → Leads uses x x → ⊥
  none_back xs empty x among way = no_item among.0 among.1
  none_back xs (next {before = before} {x = z} ordered fresh all) x among way = ⊎_elim
      (λ old. none_back before ordered x old way)
      (λ last. let same : z ≡ x = one_item z x last in let here : Leads uses z z = rw same way in fresh (only_before before z z ordered all here (leader_within z z here)))
      (Contains-append_cases before (z ∷ []) x among)

  pub order_has_none : (order : List ℕ) → IsOrder uses order → HasNoWayBack uses
  order_has_none order o x way = none_back order o.ordered x (o.whole x (leader_within x x way)) way

  on : {x y z : ℕ} → Leads uses x y → Contains (used uses y) z → Leads uses x z
  on (step among) last = then among (step last)
  on (then among way) last = then among (on way last)

  -- the first of a cycle leads to each
  reaches : (cycle : List ℕ) → IsCycle uses cycle → (k : ℕ) → suc k < length cycle → Leads uses (get_or cycle 0 0) (get_or cycle (suc k) 0)
  reaches cycle c zero lt = step (c.way 0 lt)
  reaches cycle c (suc k) lt = on (reaches cycle c k (omega arith)) (c.way (suc k) lt)

  closing : (cycle : List ℕ) → IsCycle uses cycle → (k : ℕ) → suc k ≡ length cycle → Leads uses (get_or cycle 0 0) (get_or cycle 0 0)
  closing cycle c zero e = step (c.closes 0 e)
  closing cycle c (suc k) e = on (reaches cycle c k (omega arith)) (c.closes (suc k) e)

  pub cycle_leads : (cycle : List ℕ) → IsCycle uses cycle → Leads uses (get_or cycle 0 0) (get_or cycle 0 0)
  cycle_leads [] c = elim (no_item 0 c.some) [ ]
  cycle_leads (x ∷ rest) c = closing (x ∷ rest) c (length rest) refl

-- what holds of a thing where it holds of all that it uses holds of each thing in an order
module _ (uses : Uses) (P : ℕ → Type 0) (each : (x : ℕ) → ((y : ℕ) → Contains (used uses x) y → P y) → P x) where
  past_holds : (x : ℕ) → length uses ≤ x → P x
  past_holds x le = each x (λ y among. let lt : x < length uses = user_within uses x y among in absurd (omega arith))

  ordered_hold : (xs : List ℕ) → IsOrdered uses xs → (x : ℕ) → Contains xs x → P x
  ordered_hold xs empty x among = elim (no_item among.0 among.1) [ ]
  ordered_hold xs (next {before = before} {x = z} ordered fresh all) x among = ⊎_elim
      (λ old. ordered_hold before ordered x old)
      (λ last. subst P (one_item z x last) (each z (λ y in_uses. ⊎_elim (λ lt. ordered_hold before ordered y (all y lt in_uses)) (past_holds y) (cases_lt y (length uses)))))
      (Contains-append_cases before (z ∷ []) x among)

  pub each_holds : (order : List ℕ) → IsOrder uses order → (x : ℕ) → P x
  each_holds order o x = ⊎_elim (λ lt. ordered_hold order o.ordered x (o.whole x lt)) (past_holds x) (cases_lt x (length uses))

joined : {uses : Uses} {x y z : ℕ} → Leads uses x y → Leads uses y z → Leads uses x z
joined (step among) rest = then among rest
joined (then among way) rest = then among (joined way rest)

-- where each use is a way by other uses, nothing leads back where those don't, and an order by those is one by these
module _ (uses other : Uses) (led : (x y : ℕ) → Contains (used other x) y → Leads uses x y) where
  led_way : {x z : ℕ} → Leads other x z → Leads uses x z
  led_way (step {x} {y} among) = led x y among
  led_way (then {x} {y} {z} among way) = joined (led x y among) (led_way way)

  pub led_nowhere_back : HasNoWayBack uses → HasNoWayBack other
  led_nowhere_back ends x way = ends x (led_way way)

  led_ordered : length other ≡ length uses → (xs : List ℕ) → IsOrdered uses xs → IsOrdered other xs
  led_ordered size xs empty = empty
  led_ordered size xs (next {before = before} {x = z} ordered fresh all) = next (led_ordered size before ordered) fresh (λ y lt among. only_before uses before z y ordered all (led z y among) (omega (arith, lt, size)))

  pub led_order : length other ≡ length uses → (order : List ℕ) → IsOrder uses order → IsOrder other order
  led_order size order o = record {
    ordered = led_ordered size order o.ordered;
    size = omega (arith, o.size, size);
    within = λ x among. omega (arith, o.within x among, size);
    whole = λ x lt. o.whole x (omega (arith, lt, size));
  }
