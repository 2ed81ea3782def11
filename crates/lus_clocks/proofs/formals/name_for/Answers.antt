-- An argument names where there is one, else a variable on the left.
use Rattle.std.proofs.Common.{◌≤◌, length, sym, ◌∙◌, arith}
use Rattle.std.proofs.lemmas.Grind.{common_steps}
use Rattle.lus_clocks.proofs.Lookups.{names_of_argument, names_of_target}
use Rattle.lus_clocks.proofs.formals.name_for.Goals as goal

pub returns-in-Some : goal.returns-in-Some
returns-in-Some c = grind (arith, common_steps, names_of_argument)

pub returns-in-None : goal.returns-in-None
returns-in-None c =
    let past : length c.args.arguments.now ≤ c.args.formal = omega (arith, c.in-None.ensures.lookup) in
    c.target_at.ensures ∙ sym (names_of_target c.args.arguments.now c.args.targets.now c.args.formal past)
