-- An operation, as contracts see its operands.
use Rattle.std.proofs.Common.{rules, ◌≡◌, ◌∙◌, ap}
use Rattle.lus_program.specs.View.{expression_of, expression_in}
use Rattle.lus_program.proofs.OperandViews.{seen_operate}
use Rattle.lus_clocks.proofs.flag.+flags.Goals as goal

pub flag_of-returns-in-Operate : goal.flag_of-returns-in-Operate
flag_of-returns-in-Operate t c =
    let e : expression_of c.args.expr.now ≡ _ = ap expression_in c.in-Operate.is ∙ seen_operate c.in-Operate.field-0 c.in-Operate.operands in
    rw e (search rules)
