-- A table of first-flags keeps each newest test as its two numbers, and finds it where it stands in their list.
use Rattle.std.proofs.Common.{◌≡◌, ◌∙◌, ℕ, suc, ◌+◌, ◌≤◌, ◌&&◌, ◌||◌, not, cond, nat_eq, nat_lt, Bool, true, false, List, [], ◌∷◌, ◌++◌, map, length, Option, Some, None, refl, sym, ap, arith}
use Rattle.std.specs.Prelude.{if◌then◌else◌, position}
use Rattle.std.specs.List.{list_any, position_or_len}
use Rattle.std.specs.Option.{option_eq}
use Rattle.std.proofs.lemmas.Bool.{le-ltb, lt-ltb, ltb-false, ltb-true}
use Rattle.std.proofs.lemmas.List.{map-append}
use Rattle.lus_values.specs.declared.test.Test.{Test}
use Rattle.indexmap.specs.IndexSet.{insert_key}
use Rattle.lus_translation.specs.Firsts.{first_seen, place_of, same_test, with_one}

abbrev Key : Type 0
Key = Option (ℕ × ℕ)

abbrev is_key : Key → Key → Bool
is_key = option_eq (λ x y. nat_eq x.0 y.0 && nat_eq x.1 y.1)

same_keys : (k l : Key) → is_key k l ≡ same_test (first_seen k) (first_seen l)
same_keys None None = refl
same_keys None (Some l) = refl
same_keys (Some k) None = refl
same_keys (Some k) (Some l) = refl

next_place : (b : Bool) (n m : ℕ) → n ≡ m → cond (not b) (1 + n) 0 ≡ (if b then 0 else suc m)
next_place true n m e = refl
next_place false n m e = omega (arith, e)

place_seen : (k : Key) (ks : List Key) → position_or_len (is_key k) ks ≡ place_of (first_seen k) (map first_seen ks)
place_seen k [] = refl
place_seen k (l ∷ ks) =
    ap (λ b. cond (not b) (1 + position_or_len (is_key k) ks) 0) (same_keys k l)
    ∙ next_place (same_test (first_seen k) (first_seen l)) (position_or_len (is_key k) ks) (place_of (first_seen k) (map first_seen ks)) (place_seen k ks)

next_less : (b : Bool) (n m : ℕ) → nat_lt n m ≡ b → b ≡ nat_lt (suc n) (suc m)
next_less true n m e = let lt = ltb-true n m e in sym (lt-ltb (suc n) (suc m) (omega (arith, lt)))
next_less false n m e = let le = ltb-false n m e in sym (le-ltb (suc n) (suc m) (omega (arith, le)))

next_known : (b c : Bool) (n m : ℕ) → c ≡ nat_lt n m → (b || c) ≡ nat_lt (if b then 0 else suc n) (suc m)
next_known true c n m e = sym (lt-ltb 0 (suc m) (omega arith))
next_known false c n m e = next_less c n m (sym e)

any_seen : (k : Key) (ks : List Key) → list_any (is_key k) ks ≡ nat_lt (place_of (first_seen k) (map first_seen ks)) (length (map first_seen ks))
any_seen k [] = refl
any_seen k (l ∷ ks) =
    ap (λ b. b || list_any (is_key k) ks) (same_keys k l)
    ∙ next_known (same_test (first_seen k) (first_seen l)) (list_any (is_key k) ks) (place_of (first_seen k) (map first_seen ks)) (length (map first_seen ks)) (any_seen k ks)

grown : (ks : List Key) (k : Key) (b : Bool) → map first_seen (if b then ks else ks ++ k ∷ []) ≡ (if b then map first_seen ks else map first_seen ks ++ first_seen k ∷ [])
grown ks k true = refl
grown ks k false = map-append first_seen ks (k ∷ [])

pub one_added : (ks : List Key) (k : Key) → map first_seen (insert_key is_key ks k) ≡ with_one (map first_seen ks) (first_seen k)
one_added ks k = grown ks k (list_any (is_key k) ks) ∙ ap (λ b. if b then map first_seen ks else map first_seen ks ++ first_seen k ∷ []) (any_seen k ks)

some_at : (b : Bool) (n m : ℕ) → Some n ≡ cond b (Some m) None → n ≡ m
some_at true n m e = cc
some_at false n m e = cc

none_at : (b : Bool) (m : ℕ) → None ≡ cond b (Some m) None → b ≡ false
none_at true m e = cc
none_at false m e = refl

next_within : (b : Bool) (n m : ℕ) → n ≤ m → (if b then 0 else suc n) ≤ suc m
next_within true n m le = omega arith
next_within false n m le = omega (arith, le)

place_within : (t : Option Test) (us : List (Option Test)) → place_of t us ≤ length us
place_within t [] = omega arith
place_within t (u ∷ us) = next_within (same_test t u) (place_of t us) (length us) (place_within t us)

pub place_found : (k : Key) (ks : List Key) (n : ℕ) → Some n ≡ position (is_key k) ks → n ≡ place_of (first_seen k) (map first_seen ks)
place_found k ks n e = some_at (nat_lt (position_or_len (is_key k) ks) (length ks)) n (position_or_len (is_key k) ks) e ∙ place_seen k ks

length_seen : (ks : List Key) → length (map first_seen ks) ≡ length ks
length_seen [] = refl
length_seen (k ∷ ks) = ap suc (length_seen ks)

pub place_past : (k : Key) (ks : List Key) → None ≡ position (is_key k) ks → length ks ≡ place_of (first_seen k) (map first_seen ks)
place_past k ks e =
    let p = position_or_len (is_key k) ks in
    let past = ltb-false p (length ks) (none_at (nat_lt p (length ks)) p e) in
    let seen = place_seen k ks in
    let within = place_within (first_seen k) (map first_seen ks) in
    let long = length_seen ks in
    omega (arith, past, seen, within, long)
