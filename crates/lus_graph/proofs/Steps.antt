-- What each step of the walk keeps.
use Rattle.std.proofs.Common.{arith, ◌≡◌, ◌≢◌, ◌∙◌, refl, sym, ap, ℕ, suc, ◌+◌, ◌-◌, ◌⊎◌, ◌<◌, ◌≤◌, List, [], ◌∷◌, ◌++◌, length, drop, take, set, get_or, Contains, ⊎_elim, inl, inr, length-append, length-drop, length-take, length-set, replicate, add-suc, add-zero, add-one, zero, Vec, Global}
use Rattle.std.proofs.lemmas.Bool.{cases_eq, cases_lt}
use Rattle.std.proofs.lemmas.List.{get_or-replicate, length-replicate, get_or-set_same, get_or-set_other, get_or_append_left, get_or-append_right, get_or-drop, get_or-take, length-map, get_or_past, get_or-map}
use Rattle.std.proofs.Math.Seq.{get_or-append_seam, take-suc}
use Rattle.std.proofs.lemmas.List.Elements.{Contains-append_cases, Contains-append_left, Contains-push}
use Rattle.std.proofs.lemmas.List.Folds.{sum_by-replicate}
use Rattle.std.proofs.lemmas.List.Sums.{sum_by-set}
use Rattle.lus_values.specs.Lists.{item}
use Rattle.lus_graph.specs.declared.walk.Mark.{Mark}
use Rattle.lus_graph.specs.declared.walk.Mark.TheVariants as marks
use Rattle.lus_graph.specs.Ways.{Uses, used, empty, next, IsOrder, IsWay, IsDistinct, IsCycle}
use Rattle.lus_graph.specs.Walks.{uses_of, mark_at, one_if_new, new_count, IsSound, IsReached, IsTurned}

-- the last of a list with one more
pub last_item : (xs : List ℕ) (x k : ℕ) → k ≡ length xs → get_or (xs ++ x ∷ []) k 0 ≡ x
last_item xs x k e = rw e (get_or-append_seam xs x [] 0)

item_before : (xs : List ℕ) (x k : ℕ) → k < length xs → get_or (xs ++ x ∷ []) k 0 ≡ get_or xs k 0
item_before xs x k lt = get_or_append_left xs (x ∷ []) 0 k lt

pub more_length : (xs : List ℕ) (x : ℕ) → length (xs ++ x ∷ []) ≡ suc (length xs)
more_length xs x = length-append xs (x ∷ []) ∙ omega arith

not_below : (k : ℕ) → suc k < 1 → ⊥
not_below k lt = omega arith

-- of a list with one item
pub one_item : (x y : ℕ) → Contains (x ∷ []) y → x ≡ y
one_item x y (zero, lt, e) = e
one_item x y (suc k, lt, e) = elim (not_below k lt) [ ]

-- a cycle, begun anywhere
pub record IsRound (uses : Uses) (xs : List ℕ) : Type 0 where
  pub some : 0 < length xs
  pub way : IsWay uses xs
  pub closes : (last : ℕ) → suc last ≡ length xs → Contains (used uses (item 0 xs last)) (item 0 xs 0)
  pub distinct : IsDistinct xs

some_open : (m : Mark) (j k : ℕ) → m ≡ marks.Open j → m ≡ marks.Open k → j ≡ k
some_open m j k e f = cc

module _ (uses : Uses) (ms : List Mark) (path order : List ℕ) (x : ℕ) (s : IsSound uses ms path order) where
  pub fewer_new : mark_at ms x ≡ marks.New → x < length ms → new_count (set ms x (marks.Open (length path))) < new_count ms
  fewer_new new lt = omega (arith, sum_by-set one_if_new ms x (marks.Open (length path)) marks.New lt, ap one_if_new new)

  -- a mark leaves those of other things
  kept : (m : Mark) (y : ℕ) → y ≢ x → mark_at (set ms x m) y ≡ mark_at ms y
  kept m y ne = get_or-set_other ms x y m marks.New ne

  marked : (m : Mark) → x < length uses → mark_at (set ms x m) x ≡ m
  marked m lt = get_or-set_same ms x m marks.New (omega (arith, s.size))

  -- a new thing, used by the last of the path, comes to the path
  pub opens : mark_at ms x ≡ marks.New → x < length uses → IsReached uses path x → IsSound uses (set ms x (marks.Open (length path))) (path ++ x ∷ []) order
  opens new lt reached =
      let m = marks.Open (length path) in
      record {
        size = length-set ms x m ∙ s.size;
        counted = omega (arith, s.counted, s.size, more_length path x, sum_by-set one_if_new ms x m marks.New (omega (arith, s.size)), ap one_if_new new);
        path_open = λ k below. ⊎_elim
            (λ last. rw (last_item path x k last) (marked m lt ∙ ap marks.Open (sym last)))
            (λ other. let before : k < length path = omega (arith, more_length path x) in
            rw (item_before path x k before) (kept m (get_or path k 0) (λ e. let f : mark_at ms x ≡ marks.Open k = ap (mark_at ms) (sym e) ∙ s.path_open k before in cc) ∙ s.path_open k before))
            (cases_eq k (length path));
        open_path = λ y k e. ⊎_elim
            (λ same. let place : k ≡ length path = some_open _ k (length path) (sym (ap (mark_at (set ms x m)) same) ∙ e) (marked m lt) in (omega (arith, more_length path x), last_item path x k place ∙ sym same))
            (λ other. let old = s.open_path y k (sym (kept m y other) ∙ e) in (omega (arith, more_length path x, old.0), item_before path x k old.0 ∙ old.1))
            (cases_eq y x);
        way = λ k below. ⊎_elim
            (λ last. rw (last_item path x (suc k) last, item_before path x k (omega arith)) (reached k last))
            (λ other. let before : suc k < length path = omega (arith, more_length path x) in rw (item_before path x (suc k) before, item_before path x k (omega arith)) (s.way k before))
            (cases_eq (suc k) (length path));
        ordered = s.ordered;
        order_done = λ y among. kept m y (λ e. let f : mark_at ms x ≡ marks.Done = ap (mark_at ms) (sym e) ∙ s.order_done y among in cc) ∙ s.order_done y among;
        done_order = λ y e. ⊎_elim
            (λ same. let f : m ≡ marks.Done = sym (marked m lt) ∙ sym (ap (mark_at (set ms x m)) same) ∙ e in cc)
            (λ other. s.done_order y (sym (kept m y other) ∙ e))
            (cases_eq y x);
      }

  -- the path from an open thing on, which the last of it uses, is a round
  pub round : (k : ℕ) (y : ℕ) → mark_at ms y ≡ marks.Open k → IsReached uses path y → IsRound uses (drop k path)
  round k y opened reached =
      let place = s.open_path y k opened in
      record {
        some = rw (length-drop k path) (omega (arith, place.0));
        way = λ j below. let here : suc (k + j) < length path = omega (arith, length-drop k path) in
            rw (get_or-drop k path j 0, get_or-drop k path (suc j) 0, add-suc k j) (s.way (k + j) here);
        closes = λ last e. rw (get_or-drop k path last 0, get_or-drop k path 0 0, add-zero k, place.1) (reached (k + last) (omega (arith, length-drop k path)));
        distinct = λ i j before below e.
            let far : k + j < length path = omega (arith, length-drop k path) in
            let near : k + i < length path = omega arith in
            let same : get_or path (k + i) 0 ≡ get_or path (k + j) 0 = sym (get_or-drop k path i 0) ∙ e ∙ get_or-drop k path j 0 in
            let places : k + i ≡ k + j = some_open _ (k + i) (k + j) (ap (mark_at ms) (sym same) ∙ s.path_open (k + i) near) (s.path_open (k + j) far) in
            omega arith;
      }

-- the last of the path, all of whose uses stand in the order, goes from the path to the order
module _ (uses : Uses) (ms : List Mark) (path order : List ℕ) (x : ℕ) (s : IsSound uses ms (path ++ x ∷ []) order) where
  is_open : mark_at ms x ≡ marks.Open (length path)
  is_open = let e = s.path_open (length path) (omega (arith, more_length path x)) in ap (mark_at ms) (sym (last_item path x (length path) refl)) ∙ e

  within : x < length ms
  within = ⊎_elim (λ lt. lt) (λ le. let e : mark_at ms x ≡ marks.New = get_or_past ms x marks.New le in let f = is_open in cc) (cases_lt x (length ms))

  unmarked : (m : Mark) (y : ℕ) → y ≢ x → mark_at (set ms x m) y ≡ mark_at ms y
  unmarked m y ne = get_or-set_other ms x y m marks.New ne

  done_now : mark_at (set ms x marks.Done) x ≡ marks.Done
  done_now = get_or-set_same ms x marks.Done marks.New within

  pub closes : ((y : ℕ) → y < length uses → Contains (used uses x) y → Contains order y) → IsSound uses (set ms x marks.Done) path (order ++ x ∷ [])
  closes done = record {
    size = length-set ms x marks.Done ∙ s.size;
    counted = omega (arith, s.counted, more_length path x, more_length order x, sum_by-set one_if_new ms x marks.Done marks.New within, ap one_if_new is_open);
    path_open = λ k below.
        let before : mark_at ms (get_or path k 0) ≡ marks.Open k = ap (mark_at ms) (sym (item_before path x k below)) ∙ s.path_open k (omega (arith, more_length path x)) in
        unmarked marks.Done (get_or path k 0) (λ e. let f = some_open _ k (length path) (ap (mark_at ms) (sym e) ∙ before) is_open in omega arith) ∙ before;
    open_path = λ y k e. ⊎_elim
        (λ same. let f : marks.Done ≡ marks.Open k = sym done_now ∙ ap (mark_at (set ms x marks.Done)) (sym same) ∙ e in cc)
        (λ other.
        let old = s.open_path y k (sym (unmarked marks.Done y other) ∙ e) in
        ⊎_elim
        (λ last. let f : y ≡ x = sym old.1 ∙ last_item path x k last in elim (other f) [ ])
        (λ early. let below : k < length path = omega (arith, more_length path x, old.0) in (below, sym (item_before path x k below) ∙ old.1))
        (cases_eq k (length path)))
        (cases_eq y x);
    way = λ k below. rw (← item_before path x (suc k) below, ← item_before path x k (omega arith)) (s.way k (omega (arith, more_length path x)));
    ordered = next s.ordered (λ among. let f = s.order_done x among in let g = is_open in cc) done;
    order_done = λ y among. ⊎_elim
        (λ old. unmarked marks.Done y (λ e. let f : mark_at ms x ≡ marks.Done = ap (mark_at ms) (sym e) ∙ s.order_done y old in let g = is_open in cc) ∙ s.order_done y old)
        (λ new. ap (mark_at (set ms x marks.Done)) (sym (one_item x y new)) ∙ done_now)
        (Contains-append_cases order (x ∷ []) y among);
    done_order = λ y e. ⊎_elim
        (λ same. rw same (Contains-push order x))
        (λ other. Contains-append_left order (x ∷ []) y (s.done_order y (sym (unmarked marks.Done y other) ∙ e)))
        (cases_eq y x);
  }

-- items of a list that is cut in two, the parts exchanged
item_after : (xs : List ℕ) (m k : ℕ) → m + k < length xs → get_or (drop m xs ++ take m xs) k 0 ≡ get_or xs (m + k) 0
item_after xs m k lt = get_or_append_left (drop m xs) (take m xs) 0 k (omega (arith, length-drop m xs)) ∙ get_or-drop m xs k 0

item_wrapped : (xs : List ℕ) (m k j : ℕ) → m ≤ length xs → m + k ≡ length xs + j → j < m → get_or (drop m xs ++ take m xs) k 0 ≡ get_or xs j 0
item_wrapped xs m k j le e lt =
    get_or-append_right (drop m xs) (take m xs) (length (drop m xs)) k 0 refl (omega (arith, length-drop m xs))
    ∙ (let same : k - length (drop m xs) ≡ j = omega (arith, length-drop m xs) in rw same (get_or-take m xs j 0 lt))

turned_length : (xs : List ℕ) (m : ℕ) → m ≤ length xs → length (drop m xs ++ take m xs) ≡ length xs
turned_length xs m le = length-append (drop m xs) (take m xs) ∙ omega (arith, length-drop m xs, length-take m xs)

-- where the item at a place of the turned list stood
record StoodAt (xs : List ℕ) (m k : ℕ) : Type 0 where
  place : ℕ
  within : place < length xs
  turn : (m + k ≡ place) ⊎ (m + k ≡ length xs + place)
  same : get_or (drop m xs ++ take m xs) k 0 ≡ get_or xs place 0

stood_at : (xs : List ℕ) (m k : ℕ) → m < length xs → k < length xs → StoodAt xs m k
stood_at xs m k lt below = ⊎_elim
    (λ first. record { place = m + k; within = first; turn = inl refl; same = item_after xs m k first })
    (λ wrapped. let e : m + k ≡ length xs + (m + k - length xs) = omega arith in record { place = m + k - length xs; within = omega arith; turn = inr e; same = item_wrapped xs m k (m + k - length xs) (omega arith) e (omega arith) })
    (cases_lt (m + k) (length xs))

-- places of a list that is turned by m
next_place : (n m k p q : ℕ) → k < n → m < n → p < n → q < n → (m + k ≡ p) ⊎ (m + k ≡ n + p) → (m + suc k ≡ q) ⊎ (m + suc k ≡ n + q) → (suc p ≡ q) ⊎ ((suc p ≡ n) × (q ≡ 0))
next_place n m k p q lt ml pl ql (inl e) (inl f) = inl (omega arith)
next_place n m k p q lt ml pl ql (inl e) (inr f) = inr (omega arith, omega arith)
next_place n m k p q lt ml pl ql (inr e) (inl f) = inl (omega arith)
next_place n m k p q lt ml pl ql (inr e) (inr f) = inl (omega arith)

first_place : (n m last p q : ℕ) → suc last ≡ n → m < n → p < n → q < n → (m + last ≡ p) ⊎ (m + last ≡ n + p) → (m + 0 ≡ q) ⊎ (m + 0 ≡ n + q) → (suc p ≡ q) ⊎ ((suc p ≡ n) × (q ≡ 0))
first_place n m last p q e ml pl ql (inl f) (inl g) = inr (omega arith, omega arith)
first_place n m last p q e ml pl ql (inl f) (inr g) = inl (omega arith)
first_place n m last p q e ml pl ql (inr f) (inl g) = inl (omega arith)
first_place n m last p q e ml pl ql (inr f) (inr g) = inl (omega arith)

place_of_first : (n m p : ℕ) → m < n → p < n → (m + 0 ≡ p) ⊎ (m + 0 ≡ n + p) → p ≡ m
place_of_first n m p ml pl (inl e) = omega arith
place_of_first n m p ml pl (inr e) = omega arith

no_two : (n m j k p q : ℕ) → j < k → k < n → p < n → q < n → (m + j ≡ p) ⊎ (m + j ≡ n + p) → (m + k ≡ q) ⊎ (m + k ≡ n + q) → (p < q → ⊥) → (q < p → ⊥) → ⊥
no_two n m j k p q before below pl ql (inl e) (inl f) up down = up (omega arith)
no_two n m j k p q before below pl ql (inl e) (inr f) up down = down (omega arith)
no_two n m j k p q before below pl ql (inr e) (inl f) up down = up (omega arith)
no_two n m j k p q before below pl ql (inr e) (inr f) up down = up (omega arith)

module _ (uses : Uses) (xs : List ℕ) (r : IsRound uses xs) where
  -- each thing of a round uses the next, the last the first
  uses_next : (j k : ℕ) → j < length xs → k < length xs → (suc j ≡ k) ⊎ ((suc j ≡ length xs) × (k ≡ 0)) → Contains (used uses (get_or xs j 0)) (get_or xs k 0)
  uses_next j k lt below (inl e) = rw (sym e) (r.way j (omega arith))
  uses_next j k lt below (inr e) = rw e.1 (r.closes j e.0)

  pub turned : (ys : List ℕ) → IsTurned xs ys → IsCycle uses ys
  turned ys t =
      let m = t.least in
      let size : length ys ≡ length xs = ap length t.same ∙ turned_length xs m (omega (arith, t.within)) in
      let at : (k : ℕ) → k < length xs → StoodAt xs m k = λ k lt. stood_at xs m k t.within lt in
      let read : (k : ℕ) (lt : k < length xs) → get_or ys k 0 ≡ get_or xs (at k lt).place 0 = λ k lt. ap (λ l. get_or l k 0) t.same ∙ (at k lt).same in
      record {
        some = omega (arith, r.some);
        way = λ k below.
            let here : suc k < length xs = omega arith in
            let now : k < length xs = omega arith in
            rw (read k now, read (suc k) here) (uses_next (at k now).place (at (suc k) here).place (at k now).within (at (suc k) here).within (next_place (length xs) m k _ _ now t.within (at k now).within (at (suc k) here).within (at k now).turn (at (suc k) here).turn));
        closes = λ last e.
            let end : last < length xs = omega arith in
            let start : 0 < length xs = omega arith in
            rw (read last end, read 0 start) (uses_next (at last end).place (at 0 start).place (at last end).within (at 0 start).within (first_place (length xs) m last _ _ (omega arith) t.within (at last end).within (at 0 start).within (at last end).turn (at 0 start).turn));
        distinct = λ j k before below e.
            let far : k < length xs = omega arith in
            let near : j < length xs = omega arith in
            no_two (length xs) m j k _ _ before far (at j near).within (at k far).within (at j near).turn (at k far).turn
            (λ lt. r.distinct _ _ lt (at k far).within (sym (read j near) ∙ e ∙ read k far))
            (λ lt. r.distinct _ _ lt (at j near).within (sym (sym (read j near) ∙ e ∙ read k far)));
        least = λ k below. let far : k < length xs = omega arith in let start : 0 < length xs = omega (arith, r.some) in
            let first : (at 0 start).place ≡ m = place_of_first (length xs) m _ t.within (at 0 start).within (at 0 start).turn in
            rw (read 0 start, read k far, first) (t.lowest (at k far).place (at k far).within);
      }

pub uses_length : (vs : List (Vec ℕ Global)) → length (uses_of vs) ≡ length vs
uses_length vs = length-map vs (λ v. v.items)

pub no_item : (k : ℕ) → k < 0 → ⊥
no_item k lt = omega arith

-- what held of the first items, and of one more
pub one_more : (items : List ℕ) (P : ℕ → Type 0) (i y : ℕ) → i < length items → ((z : ℕ) → Contains (take i items) z → P z) → P (get_or items i 0) → Contains (take (i + 1) items) y → P y
one_more items P i y lt before this among =
    let both : Contains (take i items ++ get_or items i 0 ∷ []) y = rw (← take-suc items i 0 lt, ← add-one i) among in
    ⊎_elim (before y) (λ last. rw (← one_item (get_or items i 0) y last) this) (Contains-append_cases (take i items) (get_or items i 0 ∷ []) y both)

pub used_at : (vs : List (Vec ℕ Global)) (x : ℕ) (v : Vec ℕ Global) → x < length vs → v ≡ get_or vs x v → v.items ≡ used (uses_of vs) x
used_at vs x v lt e = ap (λ w. w.items) e ∙ sym (get_or-map (λ w. w.items) vs x v [] lt)

no_open : (m : Mark) (k : ℕ) → m ≡ marks.New → m ≡ marks.Open k → ⊥
no_open m k e f = cc

no_done : (m : Mark) → m ≡ marks.New → m ≡ marks.Done → ⊥
no_done m e f = cc

pub starts : (uses : Uses) (ms : List Mark) → length ms ≡ length uses → new_count ms ≡ length uses → ((x : ℕ) → mark_at ms x ≡ marks.New) → IsSound uses ms [] []
starts uses ms size counted new = record {
  size = size;
  counted = omega (arith, counted);
  path_open = λ k lt. elim (no_item k lt) [ ];
  open_path = λ x k e. elim (no_open (mark_at ms x) k (new x) e) [ ];
  way = λ k lt. elim (no_item (suc k) lt) [ ];
  ordered = empty;
  order_done = λ x (k, lt, e). elim (no_item k lt) [ ];
  done_order = λ x e. elim (no_done (mark_at ms x) (new x) e) [ ];
}

pub all_new : (n x : ℕ) → get_or (replicate n marks.New) x marks.New ≡ marks.New
all_new n x = ⊎_elim (λ lt. get_or-replicate n x marks.New marks.New lt) (λ le. get_or_past (replicate n marks.New) x marks.New (rw (length-replicate n marks.New) le)) (cases_lt x n)

pub orders : (uses : Uses) (ms : List Mark) (path order : List ℕ) → IsSound uses ms path order → ((x : ℕ) → x < length uses → Contains order x) → IsOrder uses order
orders uses ms path order s all = record {
  ordered = s.ordered;
  size = omega (arith, s.counted);
  within = λ x among. ⊎_elim (λ lt. lt) (λ le. elim (no_done (mark_at ms x) (get_or_past ms x marks.New (omega (arith, s.size))) (s.order_done x among)) [ ]) (cases_lt x (length uses));
  whole = all;
}

pub new_at_first : (n : ℕ) → new_count (replicate n marks.New) ≡ n
new_at_first n = sum_by-replicate one_if_new n marks.New ∙ omega arith
