-- What is read is spelt, and a refusal has its reason.
use Rattle.lus_syntax.specs.Limits.{most_depth}
use Rattle.lus_syntax.specs.View.{tokens_seen}
use Rattle.lus_spelling.proofs.SoundDeclarations.{program_sound}
use Rattle.lus_grammar.proofs.Refusals.{refused_as, refused_rightly, only_memory, same_tree}
use Rattle.lus_grammar.proofs.program.parse.Goals as goal

pub returns-in-Ok-clause-spelled : goal.returns-in-Ok-clause-spelled
returns-in-Ok-clause-spelled c = program_sound most_depth (tokens_seen c.args.tokens.now) _ c.in-Ok.ensures

pub returns-in-Ok-clause-parsed : goal.returns-in-Ok-clause-parsed
returns-in-Ok-clause-parsed c = same_tree most_depth (tokens_seen c.args.tokens.now) _ c.in-Ok.ensures

pub returns-in-Err-clause-exact : goal.returns-in-Err-clause-exact
returns-in-Err-clause-exact c = refused_as _ _ _ c.refusal.ensures c.in-Err.ensures

pub returns-in-Err-clause-refused : goal.returns-in-Err-clause-refused
returns-in-Err-clause-refused c = refused_rightly most_depth (tokens_seen c.args.tokens.now) _ (refused_as _ _ _ c.refusal.ensures c.in-Err.ensures)

pub returns-in-Err-clause-parsed : goal.returns-in-Err-clause-parsed
returns-in-Err-clause-parsed c = only_memory most_depth (tokens_seen c.args.tokens.now) _ (refused_as _ _ _ c.refusal.ensures c.in-Err.ensures)
