-- The cells of a structure are those of its fields.
use Rattle.std.proofs.Common.{arith}
use Rattle.std.proofs.lemmas.Grind.{common_steps}
use Rattle.lus_records.proofs.OutputLaws.{structure_cells}
use Rattle.lus_records.proofs.outputs.+push_value.Goals as goal

pub returns-after-loop-field : goal.returns-after-loop-field
returns-after-loop-field t c =
    let whole = structure_cells c.args.names.now _ c.in-Struct.fields c.in-Struct.is in
    grind (arith, common_steps)
