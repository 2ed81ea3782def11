-- By the code and the message of the problem.
use Rattle.std.proofs.Common.{◌∙◌, ◌++◌, ap, ap₂}
use Rattle.lus_editing.specs.Answers.{answer_text, error_text}
use Rattle.lus_editing.proofs.answers.fault.Goals as goal

pub returns : goal.returns
returns c =
    c.in_ok-push_error.ensures ∙ ap (λ t. t ++ error_text c.code-code.result c.message-message.result.now) c.in_ok-text.ensures
    ∙ ap₂ (λ n m. answer_text c.args.id.now ++ error_text n m) c.code-code.ensures c.message-message.ensures
