-- What the parser refuses has tokens.
use Rattle.lus_syntax.specs.View.{tokens_seen}
use Rattle.lus_format.specs.Formats.{no_tree}
use Rattle.lus_format.proofs.formatting.lay_out.Goals as goal

pub returns-in-Err : goal.returns-in-Err
returns-in-Err c other = no_tree (tokens_seen c.deref.result.now) (rw c.deref.ensures.value c.in_ok-tokens.ensures.found) c.in-Err.ensures.refused
