-- A variable's columns are its own, or those of its fields.
use Rattle.std.proofs.Common.{rules, ◌≡◌, append-nil, arith, map, None, Some, refl}
use Rattle.std.proofs.lemmas.Grind.{common_steps}
use Rattle.lus_program.specs.View.{field_of, program_seen}
use Rattle.lus_scripts.specs.Scripts.{fields_at}
use Rattle.lus_records.proofs.ColumnLaws.{plain_column, spent_columns}
use Rattle.lus_records.proofs.columns.+columns.Goals as goal

pub push_columns-returns-in_default : goal.push_columns-returns-in_default
push_columns-returns-in_default t c =
    let none : fields_at (program_seen c.args.program.now) (Some c.args.kind) ≡ None = search rules in
    let plain = plain_column (program_seen c.args.program.now) c.args.kind c.args.column.now c.args.levels none in
    grind (arith, common_steps)

pub push_columns-returns-then-levels-eq0 : goal.push_columns-returns-then-levels-eq0
push_columns-returns-then-levels-eq0 t c =
    let some : fields_at (program_seen c.args.program.now) (Some c.args.kind) ≡ Some (map field_of c.in-Some.fields.now) = search rules in
    let spent = spent_columns (program_seen c.args.program.now) c.args.kind c.args.column.now c.args.levels _ c.if-levels-eq0.true some in
    rw (spent, append-nil) refl
