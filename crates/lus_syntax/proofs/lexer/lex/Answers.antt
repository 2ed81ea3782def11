use Rattle.lus_syntax.proofs.Unique.{one_reading, no_fault}
use Rattle.lus_syntax.proofs.Spans.{tokens_stand}
use Rattle.lus_syntax.proofs.Refused.{only_memory, refused_at, tells_fault, numbered}
use Rattle.lus_syntax.proofs.lexer.lex.Goals as goal

pub refusal-requires : goal.refusal-requires
refusal-requires c = numbered c.args.text.now _ c.in-Err.ensures.fault

pub returns-in-Err-clause-only : goal.returns-in-Err-clause-only
returns-in-Err-clause-only c ts = only_memory c.args.text.now _ _ c.refusal.ensures.refused c.in-Err.ensures.fault ts

pub returns-in-Err-clause-fault : goal.returns-in-Err-clause-fault
returns-in-Err-clause-fault c = tells_fault c.args.text.now _ _ c.refusal.ensures.refused c.in-Err.ensures.fault

pub returns-in-Err-clause-refused : goal.returns-in-Err-clause-refused
returns-in-Err-clause-refused c number place = refused_at c.args.text.now _ _ c.refusal.ensures.refused c.in-Err.ensures.fault number place

pub returns-in-Ok-clause-only : goal.returns-in-Ok-clause-only
returns-in-Ok-clause-only c ts = one_reading c.args.text.now _ ts c.in-Ok.ensures.found

pub returns-in-Ok-clause-refused : goal.returns-in-Ok-clause-refused
returns-in-Ok-clause-refused c number place = no_fault c.args.text.now _ number place c.in-Ok.ensures.found

pub returns-in-Ok-clause-spans : goal.returns-in-Ok-clause-spans
returns-in-Ok-clause-spans c = tokens_stand c.args.text.now _ c.in-Ok.ensures.found
