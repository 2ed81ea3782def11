-- Lemmas on lists.
use Rattle.std.proofs.Common.{◌≡◌, ℕ, zero, suc, ◌<◌, ◌≤◌, nat_eq, Bool, true, false, ◌||◌, List, [], ◌∷◌, ◌++◌, map, length, take, drop, Contains, refl, sym, ap₂, subst, arith, IsTrue, true≢false, le_of_suc-le-suc, not-suc-le-zero, suc-ne-zero}
use Rattle.std.proofs.lemmas.Bool.{eqb-true}
use Rattle.lus_values.specs.Lists.{item, Each}
use Rattle.lus_streams.specs.Order.{is_in}
pub use Rattle.lus_values.proofs.Lists.{below_at, each_found, each_left, each_right, each_append}

module _ {X : Type 0} (P : X → Type 0) where
  pub each_all : ((x : X) → P x) → (xs : List X) → Each P xs
  each_all h [] = tt
  each_all h (x ∷ xs) = (h x, each_all h xs)

  pub each_item : (d : X) (xs : List X) → P d → Each P xs → (n : ℕ) → P (item d xs n)
  each_item d [] pd h n = pd
  each_item d (x ∷ xs) pd h zero = h.0
  each_item d (x ∷ xs) pd h (suc n) = each_item d xs pd h.1 n

  pub each_of_items : (d : X) (xs : List X) → ((k : ℕ) → k < length xs → P (item d xs k)) → Each P xs
  each_of_items d [] h = tt
  each_of_items d (x ∷ xs) h = (h 0 (omega arith), each_of_items d xs (λ k lt. h (suc k) (omega arith)))

pub each_implies : {X : Type 0} (P Q : X → Type 0) → ((x : X) → P x → Q x) → (xs : List X) → Each P xs → Each Q xs
each_implies P Q f [] h = tt
each_implies P Q f (x ∷ xs) h = (f x h.0, each_implies P Q f xs h.1)

pub each_both : {X : Type 0} (P Q : X → Type 0) (xs : List X) → Each P xs → Each Q xs → Each (λ x. P x × Q x) xs
each_both P Q [] h k = tt
each_both P Q (x ∷ xs) h k = ((h.0, k.0), each_both P Q xs h.1 k.1)

module _ {X Y : Type 0} (P : Y → Type 0) (f : X → Y) where
  pub each_map_append : (xs ys : List X) → Each P (map f xs) → Each P (map f ys) → Each P (map f (xs ++ ys))
  each_map_append [] ys h k = k
  each_map_append (x ∷ xs) ys h k = (h.0, each_map_append xs ys h.1 k)

  pub each_map_right : (xs ys : List X) → Each P (map f (xs ++ ys)) → Each P (map f ys)
  each_map_right [] ys h = h
  each_map_right (x ∷ xs) ys h = each_map_right xs ys h.1

  pub each_map_drop : (n : ℕ) (xs : List X) → Each P (map f xs) → Each P (map f (drop n xs))
  each_map_drop zero xs h = h
  each_map_drop (suc n) [] h = tt
  each_map_drop (suc n) (x ∷ xs) h = each_map_drop n xs h.1

module _ (P : ℕ → Type 0) where
  in_cases : {y : ℕ} (b c : Bool) → (b ≡ true → P y) → (c ≡ true → P y) → (b || c) ≡ true → P y
  in_cases true c f g e = f refl
  in_cases false c f g e = g e

  pub each_contained : (xs : List ℕ) → ((y : ℕ) → Contains xs y → P y) → Each P xs
  each_contained [] h = tt
  each_contained (x ∷ xs) h = (h x (0, omega arith, refl), each_contained xs (λ y c. h y (suc c.0, omega arith, c.2)))

  pub contained_at : (xs : List ℕ) → Each P xs → (y : ℕ) → Contains xs y → P y
  contained_at [] h y (k, lt, e) = elim (not-suc-le-zero lt) [ ]
  contained_at (x ∷ xs) h y (zero, lt, e) = subst P e h.0
  contained_at (x ∷ xs) h y (suc k, lt, e) = contained_at xs h.1 y (k, omega arith, e)

  pub each_in : (xs : List ℕ) → Each P xs → (y : ℕ) → IsTrue (is_in xs y) → P y
  each_in [] h y e = elim (true≢false (sym e)) [ ]
  each_in (x ∷ xs) h y e = in_cases (nat_eq y x) (is_in xs y) (λ m. subst P (sym (eqb-true y x m)) h.0) (λ k. each_in xs h.1 y k) e

module _ {X : Type 0} (d : X) where
  pub item_past : (xs : List X) (n : ℕ) → length xs ≤ n → item d xs n ≡ d
  item_past [] n h = refl
  item_past (x ∷ xs) zero h = elim (not-suc-le-zero h) [ ]
  item_past (x ∷ xs) (suc n) h = item_past xs n (le_of_suc-le-suc h)

  pub item_take : (n : ℕ) (xs : List X) (x : ℕ) → x < n → item d (take n xs) x ≡ item d xs x
  item_take zero xs x h = elim (not-suc-le-zero h) [ ]
  item_take (suc n) [] x h = refl
  item_take (suc n) (y ∷ ys) zero h = refl
  item_take (suc n) (y ∷ ys) (suc x) h = item_take n ys x (le_of_suc-le-suc h)

  pub ext_item : (xs ys : List X) → length xs ≡ length ys → ((n : ℕ) → item d xs n ≡ item d ys n) → xs ≡ ys
  ext_item [] [] e h = refl
  ext_item [] (y ∷ ys) e h = absurd (suc-ne-zero (length ys) (sym e))
  ext_item (x ∷ xs) [] e h = absurd (suc-ne-zero (length xs) e)
  ext_item (x ∷ xs) (y ∷ ys) e h = ap₂ ◌∷◌ (h 0) (ext_item xs ys (omega (arith, e)) (λ n. h (suc n)))
