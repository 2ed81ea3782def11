use Rattle.std.proofs.Common.{arith}
use Rattle.std.proofs.lemmas.Grind.{common_steps}
use Rattle.lus_values.proofs.Texts.{text_of-structure}
use Rattle.lus_values.proofs.text.+push_value.Goals as goal

pub returns-in_ok-push_str-in-Struct-3 : goal.returns-in_ok-push_str-in-Struct-3
returns-in_ok-push_str-in-Struct-3 t c =
    let whole = text_of-structure c.args.names.now _ c.in-Struct.fields c.in-Struct.is in
    grind (arith, common_steps)
