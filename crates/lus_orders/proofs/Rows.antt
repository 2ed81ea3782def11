-- Parts of rows that are written, and of rows that are the same elsewhere.
use Rattle.std.proofs.Common.{◌≡◌, ◌∙◌, ℕ, zero, suc, ◌+◌, ◌-◌, ◌<◌, ◌≤◌, List, [], ◌∷◌, ◌++◌, length, take, drop, None, refl, sym, ap, ap₂, arith}
use Rattle.std.proofs.Math.Seq.{drop-append_seam, take-append_seam}
use Rattle.std.proofs.lemmas.List.{drop-drop, length-drop, length-take-le}
use Rattle.lus_values.specs.Lists.{item}
use Rattle.lus_values.specs.Values.{Row}
use Rattle.lus_orders.specs.Classes.{part}

module _ {X : Type 0} where
  pub front_of : (n : ℕ) (a b : List X) → n ≡ length a → take n (a ++ b) ≡ a
  front_of n a b e = ap (λ k. take k (a ++ b)) e ∙ take-append_seam a b

  pub back_of : (n : ℕ) (a b : List X) → n ≡ length a → drop n (a ++ b) ≡ b
  back_of n a b e = ap (λ k. drop k (a ++ b)) e ∙ drop-append_seam a b

  -- what stands before a place, and from it on, where other items were put there
  pub put_front : (n : ℕ) (xs ys : List X) → n ≤ length xs → take n (take n xs ++ ys) ≡ take n xs
  put_front n xs ys le = front_of n (take n xs) ys (sym (length-take-le n xs le))

  pub put_behind : (n : ℕ) (xs ys : List X) → n ≤ length xs → drop n (take n xs ++ ys) ≡ ys
  put_behind n xs ys le = back_of n (take n xs) ys (sym (length-take-le n xs le))

  taken_twice : (n a : ℕ) (xs : List X) → n ≤ a → take n (take a xs) ≡ take n xs
  taken_twice zero a xs le = refl
  taken_twice (suc n) zero xs le = absurd (omega arith)
  taken_twice (suc n) (suc a) [] le = refl
  taken_twice (suc n) (suc a) (x ∷ xs) le = ap (λ l. x ∷ l) (taken_twice n a xs (omega arith))

  -- rows that begin alike begin alike up to an earlier place
  pub sooner : (n a : ℕ) (xs ys : List X) → n ≤ a → take a xs ≡ take a ys → take n xs ≡ take n ys
  sooner n a xs ys le same = sym (taken_twice n a xs le) ∙ ap (take n) same ∙ taken_twice n a ys le

  -- rows that end alike end alike from a later place on
  pub later : (n a : ℕ) (xs ys : List X) → a ≤ n → drop a xs ≡ drop a ys → drop n xs ≡ drop n ys
  later n a xs ys le same =
      let at : a + (n - a) ≡ n = omega arith in
      sym (ap (λ j. drop j xs) at) ∙ sym (drop-drop (n - a) a xs) ∙ ap (drop (n - a)) same ∙ drop-drop (n - a) a ys ∙ ap (λ j. drop j ys) at

  part_taken : (from long a : ℕ) (xs : List X) → from + long ≤ a → part from long (take a xs) ≡ part from long xs
  part_taken zero long a xs le = taken_twice long a xs (omega arith)
  part_taken (suc from) long zero xs le = absurd (omega arith)
  part_taken (suc from) long (suc a) [] le = refl
  part_taken (suc from) long (suc a) (x ∷ xs) le = part_taken from long a xs (omega arith)

  -- a part of rows that are the same before a place, and from a place on
  pub part_before : (from long a : ℕ) (xs ys : List X) → from + long ≤ a → take a xs ≡ take a ys → part from long xs ≡ part from long ys
  part_before from long a xs ys le same = sym (part_taken from long a xs le) ∙ ap (part from long) same ∙ part_taken from long a ys le

  pub part_behind : (from long a : ℕ) (xs ys : List X) → a ≤ from → drop a xs ≡ drop a ys → part from long xs ≡ part from long ys
  part_behind from long a xs ys le same = ap (take long) (later from a xs ys le same)

  pub part_long : (from long : ℕ) (xs : List X) → from + long ≤ length xs → length (part from long xs) ≡ long
  part_long from long xs le = length-take-le long (drop from xs) (omega (arith, length-drop from xs))

pub item_taken : (n x : ℕ) (r : Row) → x < n → item None (take n r) x ≡ item None r x
item_taken zero x r lt = absurd (omega arith)
item_taken (suc n) x [] lt = refl
item_taken (suc n) zero (e ∷ r) lt = refl
item_taken (suc n) (suc x) (e ∷ r) lt = item_taken n x r (omega arith)

pub item_front : (x : ℕ) (a b : Row) → x < length a → item None (a ++ b) x ≡ item None a x
item_front x [] b lt = absurd (omega arith)
item_front zero (e ∷ a) b lt = refl
item_front (suc x) (e ∷ a) b lt = item_front x a b (omega arith)

pub item_past : (x : ℕ) (r : Row) → length r ≤ x → item None r x ≡ None
item_past x [] le = refl
item_past zero (e ∷ r) le = absurd (omega arith)
item_past (suc x) (e ∷ r) le = item_past x r (omega arith)

-- rows with the same entries
pub same_rows : (r t : Row) → length r ≡ length t → ((x : ℕ) → x < length r → item None r x ≡ item None t x) → r ≡ t
same_rows [] [] long same = refl
same_rows [] (e ∷ t) long same = absurd (omega arith)
same_rows (e ∷ r) [] long same = absurd (omega arith)
same_rows (e ∷ r) (v ∷ t) long same = ap₂ (λ x l. x ∷ l) (same 0 (omega arith)) (same_rows r t (omega arith) (λ x lt. same (suc x) (omega arith)))
