use Rattle.std.proofs.Common.{◌∙◌}
use Rattle.lus_syntax.proofs.Spans.{past_is}
use Rattle.lus_syntax.proofs.place.place_behind.Goals as goal

pub returns : goal.returns
returns c = c.past.ensures ∙ past_is c.args.bytes.now
