-- As many names are the same without what they are.
use Rattle.std.proofs.Common.{◌≡◌, List, [], ◌∷◌, length, map, refl, ap, arith, String, Global}
use Rattle.std.specs.Prelude.{string_bytes}
use Rattle.lus_syntax.specs.Lexemes.{Text}
use Rattle.lus_program.specs.Programs.{enumeration}
use Rattle.lus_same.specs.Nameless.{nameless_constructor, nameless_type}

no_names : (names others : List (String Global)) → length names ≡ length others
    → map nameless_constructor (map string_bytes names) ≡ map nameless_constructor (map string_bytes others)
no_names [] [] e = refl
no_names (a ∷ names) (b ∷ others) e = ap (λ (rest : List Text). [] ∷ rest) (no_names names others (omega (arith, e)))
no_names [] (b ∷ others) e = absurd (omega (arith, e))
no_names (a ∷ names) [] e = absurd (omega (arith, e))

pub as_many : (names others : List (String Global)) → length names ≡ length others
    → nameless_type (enumeration (map string_bytes names)) ≡ nameless_type (enumeration (map string_bytes others))
as_many names others e = ap (λ (l : List Text). enumeration l) (no_names names others e)
