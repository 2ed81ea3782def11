-- An error of a text that was made here is none of the source.
use Rattle.lus_format.proofs.formatting.settled.Goals as goal

pub returns-in-Err : goal.returns-in-Err
returns-in-Err c = c.own_error.ensures c.args.source.now
