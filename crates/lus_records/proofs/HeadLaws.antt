-- Names of heads.
use Rattle.std.proofs.Common.{◌≡◌, ◌∙◌, ap, sym, Bool, true, false, List, ◌∷◌, Some, None, ◌||◌, if◌then◌else◌}
use Rattle.std.specs.Str.{bytes_eq}
use Rattle.std.proofs.lemmas.Slice.Eq.{bytes_eq-Decides}
use Rattle.lus_values.specs.Names.{Text}
use Rattle.lus_scripts.specs.Scripts.{all_distinct, stands_in}
use Rattle.lus_records.specs.Heads.{distinct, known}

-- a name that is the first of these
pub known_here : (c name : Text) (rest : List Text) → bytes_eq name c ≡ true → Some c ≡ known (c ∷ rest) name
known_here c name rest same =
    ap Some (sym ((bytes_eq-Decides name c).0 same)) ∙ sym (ap (λ (b : Bool). if (b || stands_in rest name) then Some name else None) same)

-- or isn't
pub known_later : (c name : Text) (rest : List Text) → bytes_eq name c ≡ false → known (c ∷ rest) name ≡ known rest name
known_later c name rest other = ap (λ (b : Bool). if (b || stands_in rest name) then Some name else None) other

pub distinct_some : (names : List Text) → all_distinct names ≡ true → Some names ≡ distinct names
distinct_some names is = sym (ap (λ (b : Bool). if b then Some names else None) is)

pub distinct_none : (names : List Text) → all_distinct names ≡ false → None ≡ distinct names
distinct_none names is = sym (ap (λ (b : Bool). if b then Some names else None) is)
