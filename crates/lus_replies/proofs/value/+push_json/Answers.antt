use Rattle.std.proofs.Common.{arith}
use Rattle.std.proofs.lemmas.Grind.{common_steps}
use Rattle.lus_program.specs.View.{program_seen}
use Rattle.lus_replies.proofs.Texts.{structure_json}
use Rattle.lus_replies.proofs.value.+push_json.Goals as goal

pub returns-in_ok-push_str-in-Struct-3 : goal.returns-in_ok-push_str-in-Struct-3
returns-in_ok-push_str-in-Struct-3 t c =
    let whole = structure_json (program_seen c.args.program.now) c.args.names.now c.args.kind _ c.in-Struct.values c.in-Struct.is in
    grind (arith, common_steps)
