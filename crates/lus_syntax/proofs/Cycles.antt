-- The text of a cycle, a name at a time.
use Rattle.std.proofs.Common.{◌≡◌, ℕ, ◌+◌, ◌<◌, List, ◌∷◌, [], ◌++◌, length, get_or, take, map, String, string_bytes, Global, sym, ap, ◌∙◌}
use Rattle.std.specs.List.{flat_map}
use Rattle.std.proofs.lemmas.List.{flat_map_more, take_more, map_push}

abbrev behind_space : List ℕ → List ℕ
behind_space name = 32 ∷ name

pub names_more : (front : List ℕ) (names : List (String Global)) (i : ℕ) (name : String Global) → i < length names → name ≡ get_or names i name
    → (front ++ flat_map behind_space (map string_bytes (take i names))) ++ (32 ∷ string_bytes name) ≡ front ++ flat_map behind_space (map string_bytes (take (i + 1) names))
names_more front names i name lt is =
    let e : take (i + 1) names ≡ take i names ++ name ∷ [] = take_more names i name lt ∙ ap (λ (x : String Global). take i names ++ x ∷ []) (sym is) in
    flat_map_more behind_space front (map string_bytes (take i names)) (string_bytes name)
    ∙ ap (λ (x : List (List ℕ)). front ++ flat_map behind_space x) (sym (ap (map string_bytes) e ∙ map_push string_bytes (take i names) name))
