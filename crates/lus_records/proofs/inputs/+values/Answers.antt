-- A structure has the values of its fields.
use Rattle.std.proofs.Common.{rules, ◌≡◌, ◌∙◌, ◌-◌, ◌<◌, ap, sym, arith, map, option_map, List, Some}
use Rattle.lus_values.specs.Values.{Value, fields_of, struct}
use Rattle.lus_values.specs.View.{value_of}
use Rattle.lus_values.proofs.Views.{struct_fields}
use Rattle.lus_program.specs.View.{field_of, program_seen}
use Rattle.lus_scripts.specs.Forms.{each}
use Rattle.lus_scripts.specs.Scripts.{fields_at}
use Rattle.lus_records.specs.Columns.{field_column}
use Rattle.lus_records.specs.Records.{value_at}
use Rattle.lus_records.specs.View.{cell_seen}
use Rattle.lus_records.proofs.InputLaws.{structure_value}
use Rattle.lus_records.proofs.inputs.+values.Goals as goal

pub read_value-returns-in-Some-2 : goal.read_value-returns-in-Some-2
read_value-returns-in-Some-2 t c =
    let p = program_seen c.args.program.now in
    let names = c.args.names.now in
    let cell = cell_seen c.args.cells.now in
    let fields = map field_of c.in-Some.fields.now in
    let levels : 0 < c.args.levels = omega arith in
    let some : fields_at p (Some c.args.kind) ≡ Some fields = search rules in
    let values : Some (map value_of c.in-Some-2.values.items)
    ≡ each (λ f. value_at (c.args.levels - 1) p names cell f.kind (field_column c.args.column.now f.name)) fields = search rules in
    ap Some (struct_fields c.in-Some-2.values)
    ∙ ap (option_map (λ (vs : List Value). struct (fields_of vs))) values
    ∙ sym (structure_value p names cell c.args.kind c.args.column.now c.args.levels fields levels some)
