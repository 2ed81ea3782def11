-- The plain data of what the code holds in a `Vec`.
use Rattle.std.proofs.Common.{◌≡◌, Bool, true, false, map, Vec, Global, refl, sym, ap, ◌∙◌}
use mathlib.Core.Former.{Count}
use Rattle.lus_values.specs.declared.value.Value.{Value as StoredValue, Struct, Struct', Row_of-Value, end_of-Value, more_of-Value, items-the_row-Value, items_hidden-the_row-Value-0, out-Value, roll-Value, roll-out-Value}
use Rattle.lus_values.specs.declared.value.Value.TheOpen.{Value-F}
use Rattle.lus_values.specs.declared.value.Value.TheOpen as layers
use Rattle.lus_values.specs.declared.value.Value.TheVariants.{rolls-Bool, rolls-Int, rolls-Enum, rolls-Struct, rolls-Nil}
use Rattle.lus_values.specs.Values.{Value, struct, field, fields_of}
use Rattle.lus_values.specs.View.{value_of, fields_in}

row_fields : (n : _) (row : Row_of-Value n) → fields_of (map value_of (items-the_row-Value n row)) ≡ fields_in row
row_fields n end_of-Value = refl
row_fields n (more_of-Value v rest) = ap (field (value_of v)) (row_fields _ rest)

abbrev row_of_value : StoredValue → (n : Count) × Row_of-Value n
row_of_value (Struct' shape all) = (_, all)
row_of_value _ = (_, end_of-Value)

pub struct_fields : (all : Vec StoredValue Global) → value_of (Struct all) ≡ struct (fields_of (map value_of all.items))
struct_fields all =
    let row = row_of_value (Struct all) in
    ap struct (sym (row_fields row.0 row.1) ∙ ap (λ l. fields_of (map value_of l)) (items_hidden-the_row-Value-0 all))

abbrev pub is_structure : Value → Bool
is_structure (struct fs) = true
is_structure _ = false

pub no_structure : (v : StoredValue) → ((all : Vec StoredValue Global) → v ≡ Struct all → ⊥) → is_structure (value_of v) ≡ false
no_structure v other = by (out-Value v) (sym (roll-out-Value v))
  where
    by : (layer : Value-F StoredValue) → v ≡ roll-Value layer → is_structure (value_of v) ≡ false
    by (layers.Struct all) e = absurd (other all (e ∙ rolls-Struct all))
    by (layers.Bool b) e = ap (λ u. is_structure (value_of u)) (e ∙ rolls-Bool b)
    by (layers.Int z) e = ap (λ u. is_structure (value_of u)) (e ∙ rolls-Int z)
    by (layers.Enum t c) e = ap (λ u. is_structure (value_of u)) (e ∙ rolls-Enum t c)
    by layers.Nil e = ap (λ u. is_structure (value_of u)) (e ∙ rolls-Nil)
