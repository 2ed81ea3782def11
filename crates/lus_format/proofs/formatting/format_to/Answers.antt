-- An error of a text that was made here is none of the source.
use Rattle.lus_format.proofs.formatting.format_to.Goals as goal

pub returns-in-Err-clause-refused : goal.returns-in-Err-clause-refused
returns-in-Err-clause-refused c = c.own_error.ensures c.args.source.now
