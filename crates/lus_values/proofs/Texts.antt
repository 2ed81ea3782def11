-- The text of the fields that a structure holds.
use Rattle.std.proofs.Common.{◌≡◌, ◌∙◌, List, [], ◌++◌, map, Vec, Global, codes, ap}
use Rattle.lus_values.specs.declared.value.Value.{Value as StoredValue, Struct}
use Rattle.lus_values.specs.Values.{fields_of}
use Rattle.lus_values.specs.Names.{Text, Names}
use Rattle.lus_values.specs.Text.{text_of, fields_text}
use Rattle.lus_values.specs.View.{value_of}
use Rattle.lus_values.proofs.Views.{struct_fields}

abbrev pub all_text : Names → Text → List StoredValue → Text
all_text names before xs = fields_text names before (fields_of (map value_of xs))

pub text_of-structure : (names : Names) (v : StoredValue) (xs : Vec StoredValue Global) → v ≡ Struct xs → text_of names (value_of v) ≡ codes "{" ++ all_text names [] xs.items ++ codes "}"
text_of-structure names v xs e = ap (text_of names) (ap value_of e ∙ struct_fields xs)
