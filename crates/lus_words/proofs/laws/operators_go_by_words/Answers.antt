use Rattle.lus_words.proofs.ByWords.{equal_by_words, if_by_words, structures_by_words}
use Rattle.lus_words.proofs.laws.operators_go_by_words.Goals as goal

pub returns : goal.returns
returns c = record { equal = equal_by_words; chosen = if_by_words; structures = structures_by_words }
