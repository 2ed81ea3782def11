use Rattle.std.proofs.Common.{◌≡◌, ap, refl, length, arith, Some}
use Rattle.std.specs.Prelude.{slice_get}
use Rattle.std.proofs.lemmas.Option.{slice_get_read}
use Rattle.std.proofs.lemmas.List.{length-map}
use Rattle.lus_source.proofs.FieldsMeant.{few_fields_at}
use Rattle.lus_source.proofs.scope.Scope.fields_of.Goals as goal

pub returns-in-Some-Structure-clause-few : goal.returns-in-Some-Structure-clause-few
returns-in-Some-Structure-clause-few c =
    let found = c.in-Some-Structure.ensures.lookup in
    let items = c.args.self.now.tables.now.declared.items in
    let declaration = c.in-Some-Structure.field-0.now in
    let read : slice_get c.deref.result.now c.in-Struct.declaration ≡ Some declaration = slice_get_read c.deref.result.now (length c.deref.result.now) c.in-Struct.declaration declaration refl found.3.0 found.1 in
    let here : slice_get items c.in-Struct.declaration ≡ Some declaration = rw c.deref.ensures.value at read in
    let few = few_fields_at items c.in-Struct.declaration declaration c.args.self.now.tables.now.few_fields here in
    let shown = rw c.in-Some-Structure.field-0-is at few in
    omega (arith, ap length c.as_slice.ensures.value, simp length-map at shown)
