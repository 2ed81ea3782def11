use Rattle.std.proofs.Common.{◌∙◌, rules}
use Rattle.lus_program.proofs.OperandViews.{seen_operate}
use Rattle.lus_types.proofs.elaboration.operators.operated.Goals as goal

pub returns : goal.returns
returns c = (search rules, c.in_ok-expr.ensures ∙ seen_operate c.args.operator c.args.operands)
