use Rattle.std.proofs.Common.{◌∙◌}
use Rattle.lus_syntax.proofs.Meanings.{parsed}
use Rattle.lus_syntax.proofs.kind.number_of.Goals as goal

pub returns : goal.returns
returns c = c.ok.ensures.value ∙ parsed c.args.text.now c.parse.result c.requires c.parse.ensures.value.0
