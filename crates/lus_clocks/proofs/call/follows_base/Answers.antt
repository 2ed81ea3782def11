-- One test of the output's clock is followed, as one on what stands for its formal.
use Rattle.std.proofs.Common.{◌≡◌, ◌+◌, ◌-◌, ◌<◌, ◌&&◌, suc, true, List, Some, map, length, sym, ap, ◌∙◌, arith}
use Rattle.std.proofs.Math.ListN.{length-map}
use Rattle.lus_values.specs.Lists.{item}
use Rattle.lus_program.specs.Programs.{Variable, no_variable}
use Rattle.lus_program.specs.View.{variable_of, node_of, operands_of}
use Rattle.lus_streams.specs.Clocks.{chain}
use Rattle.lus_streams.specs.OnClock.{actuals, test_of}
use Rattle.lus_clocks.specs.Fitting.{names_in, leads_to, same_test, test_on}
use Rattle.lus_clocks.specs.View.{clock_in}
use Rattle.lus_streams.proofs.Clocks.{chain_some}
use Rattle.lus_clocks.proofs.Steps.{skipped_test, renamed_test_is}
use Rattle.lus_clocks.proofs.call.follows_base.Goals as goal
use Rattle.lus_clocks.proofs.call.follows_base.Goals.{in-Some-name_for+else-not-same_clock, in_default}

pub loop-step-preserved : goal.loop-step-preserved
loop-step-preserved c =
    let vs : List Variable = map variable_of c.args.formals.now in
    let f = node_of c.args.node.now in
    let names = names_in (actuals (operands_of c.args.arguments.now) c.args.targets.now) in
    let t = c.in-Some.test in
    let left = length vs - (c.loop-step._step + 1) in
    let some : (item no_variable vs c.loop-step.formal).test ≡ Some t = sym c.test_at.ensures ∙ c.in-Some.is in
    let below : c.loop-step._step < length vs = omega (arith, length-map c.args.formals.now variable_of, c.loop-step-test.true) in
    let one_more : length vs - c.loop-step._step ≡ suc left = omega (arith, below) in
    let opened = sym (ap (λ k. leads_to f names k (clock_in c.args.base) (clock_in c.loop-step.rest)) (chain_some left (length vs - c.loop-step._step) vs c.loop-step.formal t one_more some)) ∙ c.loop-step.invariant in
    elim c.match-name_for.branch [
      | in-Some-name_for+else-not-same_clock w ↦
          let name = w.in-Some-name_for.name in
          let k = chain left vs t.variable in
          let named = renamed_test_is f names t k (clock_in c.args.base) (clock_in c.loop-step.rest) c.name_for.result name c.name_for.ensures w.in-Some-name_for.is in
          let same : same_test (clock_in c.loop-step.rest) (test_on name t.constructor) ≡ true = ap (same_test (clock_in c.loop-step.rest)) (sym w.clock_on.ensures) ∙ sym w.same_clock.ensures ∙ w.if-not-same_clock.false in
          let rest : clock_in c.match-name_for.rest ≡ test_of f name = ap clock_in w.rest-is ∙ w.clock_at-rest.ensures ∙ ap (λ us. (item no_variable (map variable_of us) name).test) w.deref.ensures.value in
          ap (leads_to f names k (clock_in c.args.base)) rest ∙ sym (named ∙ ap (λ b. b && leads_to f names k (clock_in c.args.base) (test_of f name)) same) ∙ opened
      | in_default w ↦
          let k = chain left vs t.variable in
          ap (leads_to f names k (clock_in c.args.base)) (ap clock_in w.rest-is) ∙ sym (skipped_test f names t k (clock_in c.args.base) (clock_in c.loop-step.rest) c.name_for.result c.name_for.ensures w.in_default.is) ∙ opened
    ]
