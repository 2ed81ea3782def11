-- Where names stand, after one more name or one more type.
use Rattle.std.proofs.Common.{◌≡◌, ◌∙◌, ◌+◌, ◌<◌, ℕ, String, Vec, Global, map, take, get_or, suc, Bool, true, false, cond, List, [], ◌∷◌, ◌++◌, length, Option, Some, None, refl, sym, ap, arith}
use Rattle.std.specs.Prelude.{string_bytes}
use Rattle.std.proofs.lemmas.Grind.{common_steps}
use Rattle.std.specs.Option.{option_map, option_or}
use Rattle.std.specs.Str.{bytes_eq}
use Rattle.lus_values.specs.Names.{Text, Names, place_from, numbers_from, numbers_of}

-- the name at its place, if it is this text
abbrev here : {X : Type 0} → Text → Text → X → Option X
here text n x = cond (bytes_eq text n) (Some x) None

here_first : (text n : Text) (c : ℕ) (a b : Option ℕ) → a ≡ b → cond (bytes_eq text n) (Some c) a ≡ cond (bytes_eq text n) (Some c) b
here_first text n c a b e = ap (λ o. cond (bytes_eq text n) (Some c) o) e

cond-option_or : (e : Bool) (c : ℕ) (a b : Option ℕ) → cond e (Some c) (option_or a b) ≡ option_or (cond e (Some c) a) b
cond-option_or true c a b = refl
cond-option_or false c a b = refl

place_from-push : (c : ℕ) (ns : List Text) (n text : Text) → place_from c (ns ++ n ∷ []) text ≡ option_or (place_from c ns text) (here text n (c + length ns))
place_from-push c [] n text = ap (here text n) (omega arith)
place_from-push c (m ∷ ns) n text =
    let later : place_from (suc c) (ns ++ n ∷ []) text ≡ option_or (place_from (suc c) ns text) (here text n (c + length (m ∷ ns))) =
    place_from-push (suc c) ns n text ∙ ap (λ k. option_or (place_from (suc c) ns text) (here text n k)) (omega arith) in
    here_first text m c _ _ later ∙ cond-option_or (bytes_eq text m) c (place_from (suc c) ns text) (here text n (c + length (m ∷ ns)))

paired : (a : Option (ℕ × ℕ)) (b : Option ℕ) (e : Bool) (t k : ℕ)
    → option_or (option_or a (option_map (λ c. (t, c)) b)) (cond e (Some (t, k)) None) ≡ option_or a (option_map (λ c. (t, c)) (option_or b (cond e (Some k) None)))
paired (Some x) b e t k = refl
paired None (Some c) e t k = refl
paired None None true t k = refl
paired None None false t k = refl

next_place : (a : Option (ℕ × ℕ)) (ns later : List Text) (n text : Text) (t c : ℕ) → c ≡ length ns → later ≡ ns ++ n ∷ []
    → option_or (option_or a (option_map (λ c. (t, c)) (place_from 0 ns text))) (here text n (t, c)) ≡ option_or a (option_map (λ c. (t, c)) (place_from 0 later text))
next_place a ns later n text t c e e' =
    let place : option_or (place_from 0 ns text) (here text n c) ≡ place_from 0 later text = rw (e, e') (ap (λ k. option_or (place_from 0 ns text) (here text n k)) (omega arith) ∙ sym (place_from-push 0 ns n text)) in
    paired a (place_from 0 ns text) (bytes_eq text n) t c ∙ ap (λ o. option_or a (option_map (λ c. (t, c)) o)) place

-- the first of a and of the place in type t of a text among the names before i
abbrev pub found_before : Option (ℕ × ℕ) → ℕ → List (String Global) → ℕ → Text → Option (ℕ × ℕ)
found_before a t xs i text = option_or a (option_map (λ c. (t, c)) (place_from 0 (map string_bytes (take i xs)) text))

pub found-next : (found before a : Option (ℕ × ℕ)) (t : ℕ) (xs : List (String Global)) (i : ℕ) (x : String Global) (text : Text)
    → found ≡ option_or before (here text (string_bytes x) (t, i)) → before ≡ found_before a t xs i text → i < length xs → x ≡ get_or xs i x
    → found ≡ found_before a t xs (i + 1) text
found-next found before a t xs i x text e e' below at =
    e ∙ ap (λ o. option_or o (here text (string_bytes x) (t, i))) e'
    ∙ next_place a (map string_bytes (take i xs)) (map string_bytes (take (i + 1) xs)) (string_bytes x) text t i (grind (arith, common_steps)) (grind (arith, common_steps))

option_or-assoc : (a b c : Option (ℕ × ℕ)) → option_or a (option_or b c) ≡ option_or (option_or a b) c
option_or-assoc None b c = refl
option_or-assoc (Some x) b c = refl

option_or-None : (a : Option (ℕ × ℕ)) → option_or a None ≡ a
option_or-None None = refl
option_or-None (Some x) = refl

numbers_from-push : (t : ℕ) (names : Names) (ns : List Text) (text : Text) → numbers_from t (names ++ ns ∷ []) text ≡ option_or (numbers_from t names text) (option_map (λ c. (t + length names, c)) (place_from 0 ns text))
numbers_from-push t [] ns text = option_or-None _ ∙ ap (λ k. option_map (λ c. (k, c)) (place_from 0 ns text)) (omega arith)
numbers_from-push t (ms ∷ names) ns text =
    let first : Option (ℕ × ℕ) = option_map (λ c. (t, c)) (place_from 0 ms text) in
    ap (option_or first) (numbers_from-push (suc t) names ns text ∙ ap (λ k. option_or (numbers_from (suc t) names text) (option_map (λ c. (k, c)) (place_from 0 ns text))) (omega arith))
    ∙ option_or-assoc first (numbers_from (suc t) names text) (option_map (λ c. (t + length (ms ∷ names), c)) (place_from 0 ns text))

pub numbers_of-push : (names : Names) (ns : List Text) (text : Text) → numbers_of (names ++ ns ∷ []) text ≡ option_or (numbers_of names text) (option_map (λ c. (length names, c)) (place_from 0 ns text))
numbers_of-push names ns text =
    numbers_from-push 0 names ns text ∙ ap (λ k. option_or (numbers_of names text) (option_map (λ c. (k, c)) (place_from 0 ns text))) (omega arith)

pub found-all : (found : Option (ℕ × ℕ)) (types later : List (Vec (String Global) Global)) (names : Vec (String Global) Global) (xs : List (String Global)) (t i : ℕ) (text : Text)
    → found ≡ found_before (numbers_of (map (λ ns. map string_bytes ns.items) types) text) t xs i text
    → t ≡ length types → map string_bytes names.items ≡ map string_bytes (take i xs) → later ≡ types ++ names ∷ []
    → found ≡ numbers_of (map (λ ns. map string_bytes ns.items) later) text
found-all found types later names xs t i text e same_length copied pushed =
    let seen : map (λ ns. map string_bytes ns.items) later ≡ map (λ ns. map string_bytes ns.items) types ++ map string_bytes names.items ∷ [] = grind (arith, common_steps) in
    let count : t ≡ length (map (λ ns. map string_bytes ns.items) types) = grind (arith, common_steps) in
    e ∙ rw (seen, ← copied, count) (sym (numbers_of-push (map (λ ns. map string_bytes ns.items) types) (map string_bytes names.items) text))
