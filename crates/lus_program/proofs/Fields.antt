-- Fields as the code holds them, and what they are seen as.
use Rattle.std.proofs.Common.{◌≡◌, ◌∙◌, ap, sym, refl, ℕ, ◌<◌, List, [], ◌∷◌, length, map, get_or}
use Rattle.std.proofs.lemmas.List.{get_or-map}
use Rattle.lus_values.specs.Lists.{item}
use Rattle.lus_program.specs.declared.types.Field.{Field as StoredField}
use Rattle.lus_program.specs.declared.types.Kind.TheVariants as kinds
use Rattle.lus_program.specs.Programs.{Field}
use Rattle.lus_program.specs.View.{field_of}

kinds_seen : (fs : List StoredField) → map (λ g. g.kind) (map field_of fs) ≡ map (λ f. f.kind) fs
kinds_seen [] = refl
kinds_seen (f ∷ fs) = ap (λ ks. f.kind ∷ ks) (kinds_seen fs)

-- the type of a field that is found
pub field_found : (fs : List StoredField) (gs : List Field) (n : ℕ) (f : StoredField) → map field_of fs ≡ gs → n < length fs → f ≡ get_or fs n f → f.kind ≡ item kinds.Bool (map (λ g. g.kind) gs) n
field_found fs gs n f seen lt here =
    ap (λ g. g.kind) here
    ∙ sym (get_or-map (λ g. g.kind) fs n f kinds.Bool lt)
    ∙ ap (λ ks. item kinds.Bool ks n) (sym (kinds_seen fs) ∙ ap (map (λ g. g.kind)) seen)
