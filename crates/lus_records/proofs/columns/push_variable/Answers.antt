-- Structures nest as deep as they may.
use Rattle.std.proofs.Common.{◌≡◌, ◌∙◌, ◌++◌, OnOk, ap, map, refl, string_bytes, subst, sym}
use Rattle.lus_syntax.specs.Limits.{most_nesting}
use Rattle.lus_program.specs.View.{program_seen, variable_of}
use Rattle.lus_records.specs.Columns.{columns_at}
use Rattle.lus_records.proofs.ColumnLaws.{columns_of-is}
use Rattle.lus_records.proofs.columns.push_variable.Goals as goal

pub returns : goal.returns
returns c =
    let p = program_seen c.args.program.now in
    subst (λ added. OnOk c.push_columns.result (map string_bytes c.push_columns.new.columns.items ≡ map string_bytes c.args.columns.now.items ++ added))
    (ap (columns_at most_nesting p c.args.variable.now.kind) c.as_str-name.ensures.value ∙ sym (columns_of-is most_nesting p (variable_of c.args.variable.now) refl))
    c.push_columns.ensures
