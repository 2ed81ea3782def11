-- Structures nest as deep as they may.
use Rattle.std.proofs.Common.{◌∙◌, ap, refl, sym}
use Rattle.std.proofs.lemmas.Result.{IfOk-weaker}
use Rattle.lus_syntax.specs.Limits.{most_nesting}
use Rattle.lus_program.specs.View.{program_seen, variable_of}
use Rattle.lus_records.specs.Records.{value_at}
use Rattle.lus_records.specs.View.{cell_seen}
use Rattle.lus_records.proofs.InputLaws.{value_in-is}
use Rattle.lus_records.proofs.inputs.read_present.Goals as goal

pub returns : goal.returns
returns c =
    let p = program_seen c.args.program.now in
    let cell = cell_seen c.args.cells.now in
    IfOk-weaker c.read_value.result _ _
    (λ o ok. ok ∙ ap (value_at most_nesting p c.args.names.now cell c.args.input.now.kind) c.as_str-name.ensures.value
    ∙ sym (value_in-is most_nesting p c.args.names.now cell (variable_of c.args.input.now) refl))
    c.read_value.ensures
