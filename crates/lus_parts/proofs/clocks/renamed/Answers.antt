use Rattle.std.proofs.Common.{◌≤◌, length, sym, ap, arith}
use Rattle.std.proofs.lemmas.Grind.{common_steps}
use Rattle.lus_parts.specs.Renaming.{renamed_one}
use Rattle.lus_parts.proofs.Operands.{operand_at, operand_past}
use Rattle.lus_parts.proofs.clocks.renamed.Goals as goal

pub returns-in-Some : goal.returns-in-Some
returns-in-Some c = grind (arith, common_steps, operand_at)

pub returns-in-None : goal.returns-in-None
returns-in-None c =
    let past : length c.args.arguments.now ≤ c.args.test.variable = omega (arith, c.in-None.ensures.lookup) in
    sym (ap (λ e. renamed_one e c.args.test.constructor) (operand_past c.args.arguments.now c.args.test.variable past))
