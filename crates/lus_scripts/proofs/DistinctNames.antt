-- Lists of names in which none stands twice.
use Rattle.std.proofs.Common.{◌≡◌, ◌∙◌, refl, ap, ap₂, sym, subst, List, [], ◌∷◌, ◌++◌, map, Bool, true, false, not, ◌&&◌, ◌||◌, ℕ, ◌+◌, ◌<◌, length, take, drop, get_or}
use Rattle.std.specs.Str.{bytes_eq}
use Rattle.std.proofs.lemmas.List.Folds.{list_any-append}
use Rattle.std.proofs.lemmas.List.{drop_more, map-append, take-append-drop, take_more}
use Rattle.std.proofs.lemmas.Slice.Eq.{bytes_eq-Decides}
use Rattle.lus_values.specs.Names.{Text}
use Rattle.lus_scripts.specs.Scripts.{all_distinct, stands_in}

turned : (a b : Text) → bytes_eq a b ≡ true → bytes_eq b a ≡ true
turned a b same =
    let e : a ≡ b = (bytes_eq-Decides a b).0 same in
    subst (λ x. bytes_eq x a ≡ true) e (subst (λ x. bytes_eq a x ≡ true) (sym e) same)

pub bytes_eq-comm : (a b : Text) → bytes_eq a b ≡ bytes_eq b a
bytes_eq-comm a b = go (bytes_eq a b) (bytes_eq b a) refl refl
  where
    go : (x y : Bool) → bytes_eq a b ≡ x → bytes_eq b a ≡ y → x ≡ y
    go true true p q = refl
    go false false p q = refl
    go true false p q = sym (turned a b p) ∙ q
    go false true p q = sym p ∙ turned b a q

or-true : (a : Bool) → (a || true) ≡ true
or-true true = refl
or-true false = refl

and-false : (a : Bool) → (a && false) ≡ false
and-false true = refl
and-false false = refl

stands_later : (names rest : List Text) (t n : Text) → bytes_eq n t ≡ true → stands_in (names ++ t ∷ rest) n ≡ true
stands_later [] rest t n same = ap (λ b. b || stands_in rest n) same
stands_later (m ∷ names) rest t n same = ap (λ b. bytes_eq n m || b) (stands_later names rest t n same) ∙ or-true (bytes_eq n m)

-- a name that stands among those before it stands twice
pub distinct-twice : (names rest : List Text) (t : Text) → stands_in names t ≡ true → all_distinct (names ++ t ∷ rest) ≡ false
distinct-twice [] rest t found = absurd (cc)
distinct-twice (n ∷ names) rest t found = go (bytes_eq t n) refl found (distinct-twice names rest t)
  where
    go : (b : Bool) → bytes_eq t n ≡ b → (b || stands_in names t) ≡ true → (stands_in names t ≡ true → all_distinct (names ++ t ∷ rest) ≡ false)
        → all_distinct (n ∷ (names ++ t ∷ rest)) ≡ false
    go true same here further = ap (λ b. not b && all_distinct (names ++ t ∷ rest)) (stands_later names rest t n (turned t n same))
    go false other later further =
        ap (λ b. not (stands_in (names ++ t ∷ rest) n) && b) (further later) ∙ and-false (not (stands_in (names ++ t ∷ rest) n))

-- a new name stands nowhere among those before it
pub distinct-more : (names : List Text) (t : Text) → all_distinct names ≡ true → stands_in names t ≡ false → all_distinct (names ++ t ∷ []) ≡ true
distinct-more [] t distinct fresh = refl
distinct-more (n ∷ names) t distinct fresh = go (bytes_eq t n) (stands_in names n) refl refl fresh distinct (distinct-more names t)
  where
    go : (b s : Bool) → bytes_eq t n ≡ b → stands_in names n ≡ s → (b || stands_in names t) ≡ false → (not s && all_distinct names) ≡ true
        → (all_distinct names ≡ true → stands_in names t ≡ false → all_distinct (names ++ t ∷ []) ≡ true)
        → all_distinct (n ∷ (names ++ t ∷ [])) ≡ true
    go true s same seen absent others further = absurd (cc)
    go false true other seen absent others further = absurd (cc)
    go false false other seen absent others further =
        let first : stands_in (names ++ t ∷ []) n ≡ false =
        list_any-append (bytes_eq n) names (t ∷ []) ∙ ap₂ (λ a b. a || (b || false)) seen (bytes_eq-comm n t ∙ other) in
        ap₂ (λ a b. not a && b) first (further others absent)

-- the name of the item at a place stands among the names before it
pub distinct-item : {X : Type 0} (f : X → Text) (xs : List X) (k : ℕ) (d : X) (names : List Text) → k < length xs
    → names ≡ map f (take k xs) → stands_in names (f (get_or xs k d)) ≡ true → all_distinct (map f xs) ≡ false
distinct-item f xs k d names within before found =
    let x = get_or xs k d in
    let parts : map f xs ≡ map f (take k xs) ++ (f x ∷ map f (drop (k + 1) xs)) =
    ap (map f) (sym (take-append-drop k xs) ∙ ap (λ rest. take k xs ++ rest) (drop_more xs k d within))
    ∙ map-append f (take k xs) (x ∷ drop (k + 1) xs) in
    ap all_distinct (parts ∙ ap (λ ns. ns ++ (f x ∷ map f (drop (k + 1) xs))) (sym before))
    ∙ distinct-twice names (map f (drop (k + 1) xs)) (f x) found

-- names with that of the item at a place
pub names-item : {X : Type 0} (f : X → Text) (xs : List X) (k : ℕ) (d : X) (names : List Text) → k < length xs
    → names ≡ map f (take k xs) → names ++ f (get_or xs k d) ∷ [] ≡ map f (take (k + 1) xs)
names-item f xs k d names within before =
    ap (λ ns. ns ++ f (get_or xs k d) ∷ []) before
    ∙ sym (ap (map f) (take_more xs k d within) ∙ map-append f (take k xs) (get_or xs k d ∷ []))
