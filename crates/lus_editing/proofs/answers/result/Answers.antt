-- What is given stands behind what each answer begins with.
use Rattle.std.proofs.Common.{◌∙◌, ◌++◌, ap}
use Rattle.lus_editing.specs.Answers.{result_text}
use Rattle.lus_editing.proofs.answers.result.Goals as goal

pub returns : goal.returns
returns c = c.in_ok-push_result.ensures ∙ ap (λ t. t ++ result_text c.args.given.now) c.in_ok-text.ensures
