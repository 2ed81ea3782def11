-- The cells of values and of outputs.
use Rattle.std.proofs.Common.{◌≡◌, ◌∙◌, refl, ap, List, [], ◌∷◌, ◌++◌, map, flat_map, Vec, Global}
use Rattle.lus_values.specs.declared.value.Value.{Value as StoredValue, Struct}
use Rattle.lus_values.specs.Names.{Names}
use Rattle.lus_values.specs.Values.{Value, fields_of}
use Rattle.lus_values.specs.View.{value_of}
use Rattle.lus_values.proofs.Views.{struct_fields}
use Rattle.lus_records.specs.Outputs.{fields_cells, value_cells}

listed_cells : (names : Names) (vs : List Value) → fields_cells names (fields_of vs) ≡ flat_map (value_cells names) vs
listed_cells names [] = refl
listed_cells names (v ∷ vs) = ap (λ rest. value_cells names v ++ rest) (listed_cells names vs)

-- the cells of a structure are those of its fields
pub structure_cells : (names : Names) (v : StoredValue) (xs : Vec StoredValue Global) → v ≡ Struct xs
    → value_cells names (value_of v) ≡ flat_map (value_cells names) (map value_of xs.items)
structure_cells names v xs is = ap (value_cells names) (ap value_of is ∙ struct_fields xs) ∙ listed_cells names (map value_of xs.items)
