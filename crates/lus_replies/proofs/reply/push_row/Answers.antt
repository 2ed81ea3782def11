-- The items are listed between braces.
use Rattle.std.proofs.Common.{arith, map}
use Rattle.std.proofs.lemmas.Grind.{common_steps}
use Rattle.lus_program.specs.View.{program_seen, variable_of}
use Rattle.lus_replies.proofs.Texts.{row_text}
use Rattle.lus_replies.proofs.reply.push_row.Goals as goal

pub returns : goal.returns
returns c =
    let whole = row_text (program_seen c.args.program.now) c.args.names.now (map variable_of c.args.outputs.now) c.args.row.now in
    grind (arith, common_steps)
