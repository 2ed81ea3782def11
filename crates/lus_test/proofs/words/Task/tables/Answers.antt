-- By what clap says of the words.
use Rattle.std.proofs.Common.{◌∙◌, codes}
use Rattle.clap.specs.Words.{found_of}
use Rattle.clap.proofs.WalkLemmas.{raw_values-rows}
use Rattle.lus_test.proofs.words.Task.tables.Goals as goal

pub returns : goal.returns
returns c = c.get_strs.ensures ∙ raw_values-rows (found_of c.args.self.now.matches) (codes "TABLE")
