-- The last values of the vector are those at the top.
use Rattle.std.proofs.Common.{◌≡◌, ◌∙◌, ◌-◌, reverse, take, drop, length, map, ap, arith, rules}
use Rattle.std.proofs.lemmas.Grind.{common_steps}
use Rattle.lus_values.specs.View.{entry_of}
use Rattle.lus_reference.specs.Made.{stack_of}
use Rattle.lus_reference.proofs.Stacks.{stack_left, stack_taken}
use Rattle.lus_reference.proofs.values.take_values.Goals as goal

pub returns-clause-taken : goal.returns-clause-taken
returns-clause-taken c =
    let xs = c.args.stack.now.items in
    let n = c.args.count in
    let at : c.saturating_sub-left.result ≡ length xs - n = first_of (search rules, grind (arith, common_steps)) in
    ap (map entry_of) (c.reverse.ensures.items ∙ ap reverse (c.in_ok-values.ensures.tail ∙ ap (λ m. drop m xs) at)) ∙ stack_taken n xs

pub returns-clause-left : goal.returns-clause-left
returns-clause-left c =
    let xs = c.args.stack.now.items in
    let n = c.args.count in
    let at : c.saturating_sub-left.result ≡ length xs - n = first_of (search rules, grind (arith, common_steps)) in
    ap stack_of (c.in_ok-values.ensures.items ∙ ap (λ m. take m xs) at) ∙ stack_left n xs
