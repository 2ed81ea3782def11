use Rattle.std.proofs.Common.{refl}
use Rattle.lus_syntax.proofs.Runs.{kind_refused, text_wrong, token_here}
use Rattle.lus_syntax.proofs.lexer.token_at.Goals as goal

pub returns-in_default-clause-wrong : goal.returns-in_default-clause-wrong
returns-in_default-clause-wrong c = text_wrong c.args.bytes.now c.requires.plain c.requires.some c.in_default.ensures.longest

pub returns-in_err-kind-clause-wrong : goal.returns-in_err-kind-clause-wrong
returns-in_err-kind-clause-wrong c = kind_refused c.args.bytes.now _ _ c.in_err-kind.field-0.0 c.from_residual.result c.requires.plain c.in-Some.ensures.longest (rw c.split_at.ensures.front at c.in_err-kind.ensures) c.from_residual.ensures.1

pub returns-clause-found : goal.returns-clause-found
returns-clause-found c = (token_here c.args.bytes.now c.args.start c.in-Some.n _ _ _ c.in-Some.ensures.within c.in-Some.ensures.longest c.split_at.ensures.front c.split_at.ensures.back c.in_ok-kind.ensures, refl)
