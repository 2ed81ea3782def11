-- The right side at the place is that which defines the variable, and without a place none does.
use Rattle.std.proofs.Common.{◌≡◌, ◌∙◌, ◌++◌, ◌≤◌, length, Some, refl, sym, ap, subst, slice_get, arith, rules}
use Rattle.std.proofs.lemmas.Grind.{common_steps}
use Rattle.std.proofs.lemmas.Option.{slice_get_read}
use Rattle.lus_program.specs.Programs.{numbered}
use Rattle.lus_program.specs.View.{expression_of, node_of}
use Rattle.lus_reference.proofs.Placed.{definition_at, equation_within, not_placed}
use Rattle.lus_worlds.specs.Turns.{calls_in_turn, turns_in}
use Rattle.lus_worlds.proofs.finding.calls_of.Goals as goal

pub returns-in_ok-push_calls-in-Some-get : goal.returns-in_ok-push_calls-in-Some-get
returns-in_ok-push_calls-in-Some-get c =
    let f = node_of c.args.node.now in
    let qs = c.args.node.now.equations.items in
    let k = c.in-Some.at in
    let q = c.in-Some-get.equation.now in
    let n = k.equation in
    let slot : slice_get c.deref.result.now n ≡ Some q = slice_get_read c.deref.result.now (length c.deref.result.now) n q refl (omega (arith, c.in-Some-get.ensures.lookup.3.0)) c.in-Some-get.ensures.lookup.1 in
    let there : slice_get qs n ≡ Some q = subst (λ l. slice_get l n ≡ Some q) c.deref.ensures.value slot in
    λ x h.
    c.in_ok-push_calls-in-Some-get.ensures.found
    ∙ ap (λ l. l ++ calls_in_turn (numbered k.calls (expression_of q.right))) c.new-calls.ensures.items
    ∙ sym (ap turns_in (definition_at f qs x k (sym h ∙ c.in-Some.is) q there))

pub returns-in-None-get : goal.returns-in-None-get
returns-in-None-get c =
    let f = node_of c.args.node.now in
    let qs = c.args.node.now.equations.items in
    let k = c.in-Some.at in
    let n = k.equation in
    let past : length c.deref.result.now ≤ n = first_of (search (rules, c.in-None-get.ensures.lookup), grind (arith, common_steps)) in
    λ x h. absurd (equation_within f qs x k (sym h ∙ c.in-Some.is) (subst (λ l. length l ≤ n) c.deref.ensures.value past))

pub returns-in-None : goal.returns-in-None
returns-in-None c = λ x h. c.new-calls.ensures.items ∙ sym (ap turns_in (not_placed (node_of c.args.node.now) c.args.node.now.equations.items x 0 0 0 (sym h ∙ c.in-None.is)))
