use Rattle.lus_syntax.proofs.Spans.{past_is}
use Rattle.lus_syntax.proofs.Characters.{behind_characters}
use Rattle.lus_syntax.proofs.laws.places_in_words.Goals as goal

pub returns-clause-bytes : goal.returns-clause-bytes
returns-clause-bytes c = past_is

pub returns-clause-characters : goal.returns-clause-characters
returns-clause-characters c = behind_characters
