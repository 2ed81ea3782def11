-- Texts with commas between them as they are written, one behind another.
use Rattle.std.proofs.Common.{◌≡◌, ◌∙◌, ℕ, refl, sym, Option, List, [], ◌∷◌, ◌++◌, flat_map, map, Vec, Global, codes, ap, append_assoc}
use Rattle.lus_values.specs.declared.value.Value.{Value as StoredValue, Struct}
use Rattle.lus_values.specs.Values.{Row, fields_of}
use Rattle.lus_values.specs.Names.{Text, Names}
use Rattle.lus_values.specs.View.{value_of}
use Rattle.lus_values.proofs.Views.{struct_fields}
use Rattle.lus_program.specs.Programs.{Field, Program, Variable}
use Rattle.lus_program.specs.declared.types.Kind.{Kind}
use Rattle.lus_replies.specs.Replies.{fields_at, fields_json, items_json, listed, row_json, value_json}

-- the first after this text, and each later one after a comma
abbrev pub listed_behind : Text → List Text → Text
listed_behind before [] = []
listed_behind before (t ∷ ts) = before ++ t ++ listed_behind (codes ",") ts

later_texts : (ts : List Text) → listed_behind (codes ",") ts ≡ flat_map (λ t. codes "," ++ t) ts
later_texts [] = refl
later_texts (t ∷ ts) = ap (λ rest. codes "," ++ t ++ rest) (later_texts ts)

pub listed_from : (ts : List Text) → listed ts ≡ listed_behind [] ts
listed_from [] = refl
listed_from (t ∷ ts) = ap (λ rest. t ++ rest) (sym (later_texts ts))

-- ---- members of objects

abbrev pub fields_behind : Program → Names → List Field → ℕ → Text → List StoredValue → Text
fields_behind p names declared place before xs = listed_behind before (fields_json p names declared place (fields_of (map value_of xs)))

abbrev pub items_behind : Program → Names → List Variable → ℕ → Text → Row → Text
items_behind p names outputs place before row = listed_behind before (items_json p names outputs place row)

pub structure_json : (p : Program) (names : Names) (kind : Option Kind) (v : StoredValue) (xs : Vec StoredValue Global) → v ≡ Struct xs
    → value_json p names kind (value_of v) ≡ codes "{" ++ fields_behind p names (fields_at p kind) 0 [] xs.items ++ codes "}"
structure_json p names kind v xs e =
    ap (value_json p names kind) (ap value_of e ∙ struct_fields xs) ∙ ap (λ t. codes "{" ++ t ++ codes "}") (listed_from _)

pub row_text : (p : Program) (names : Names) (outputs : List Variable) (row : Row)
    → row_json p names outputs row ≡ codes "{" ++ items_behind p names outputs 0 [] row ++ codes "}"
row_text p names outputs row = ap (λ t. codes "{" ++ t ++ codes "}") (listed_from (items_json p names outputs 0 row))

-- three pieces were appended, one after another
pub three_pieces : (old a b d one two new : Text) → one ≡ old ++ a → two ≡ one ++ b → new ≡ two ++ d → new ≡ old ++ (a ++ (b ++ d))
three_pieces old a b d one two new first second third =
    third ∙ ap (λ t. t ++ d) (second ∙ ap (λ t. t ++ b) first) ∙ append_assoc (old ++ a) b d ∙ append_assoc old a (b ++ d)
