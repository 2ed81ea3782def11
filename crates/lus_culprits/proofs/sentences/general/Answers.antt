-- It is the text that was given.
use Rattle.std.proofs.Common.{subst, sym}
use Rattle.lus_culprits.specs.Sentences.{IsSentence}
use Rattle.lus_culprits.proofs.Basics.{basic_sentence}
use Rattle.lus_culprits.proofs.sentences.general.Goals as goal

pub returns : goal.returns
returns c = subst IsSentence (sym c.in_ok-from_str.ensures.ok) (basic_sentence c.args.text.now c.requires)
