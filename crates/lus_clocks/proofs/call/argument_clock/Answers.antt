-- A formal whose test has no name stands for is left; the rest leads where the whole does.
use Rattle.std.proofs.Common.{◌≡◌, ◌+◌, ◌-◌, ◌<◌, suc, [], List, Some, map, length, sym, ap, ◌∙◌, arith}
use Rattle.std.proofs.Math.ListN.{length-map}
use Rattle.lus_values.specs.Lists.{item}
use Rattle.lus_program.specs.Programs.{Variable, no_variable}
use Rattle.lus_program.specs.View.{variable_of, operands_of}
use Rattle.lus_streams.specs.Clocks.{chain}
use Rattle.lus_streams.specs.OnClock.{actuals}
use Rattle.lus_clocks.specs.Fitting.{names_in, renamed_by, renamed_first}
use Rattle.lus_clocks.specs.View.{clock_in}
use Rattle.lus_streams.proofs.Clocks.{chain_some}
use Rattle.lus_clocks.proofs.call.argument_clock.Goals as goal

pub loop-step-preserved : goal.loop-step-preserved
loop-step-preserved c =
    let vs : List Variable = map variable_of c.args.formals.now in
    let names = names_in (actuals (operands_of c.args.arguments.now) []) in
    let t = c.in-Some.test in
    let left = length vs - (c.loop-step._step + 1) in
    let base = clock_in c.args.base in
    let some : (item no_variable vs c.loop-step.current).test ≡ Some t = sym c.test_at.ensures ∙ c.in-Some.is in
    let below : c.loop-step._step < length vs = omega (arith, length-map c.args.formals.now variable_of, c.loop-step-test.true) in
    let one_more : length vs - c.loop-step._step ≡ suc left = omega (arith, below) in
    let opened = ap (λ k. renamed_first names k base) (chain_some left (length vs - c.loop-step._step) vs c.loop-step.current t one_more some) in
    let skipped = ap (λ r. renamed_by names r t.constructor (renamed_first names (chain left vs t.variable) base)) (sym c.name_for.ensures ∙ c.in_default.is) in
    sym skipped ∙ sym opened ∙ c.loop-step.invariant
