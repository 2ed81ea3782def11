use Rattle.std.proofs.Common.{◌≡◌, ◌+◌, ◌-◌, ◌<◌, ◌++◌, ◌∷◌, [], suc, List, None, Some, map, length, sym, ap, ◌∙◌, arith, append_assoc, append-nil}
use Rattle.std.proofs.Math.ListN.{length-map}
use Rattle.lus_values.specs.Lists.{item}
use Rattle.lus_program.specs.Programs.{Variable, no_variable}
use Rattle.lus_program.specs.View.{variable_of}
use Rattle.lus_streams.specs.Clocks.{chain}
use Rattle.lus_streams.proofs.Clocks.{chain_none, chain_some}
use Rattle.lus_parts.proofs.clocks.clock_of.Goals as goal

pub loop-step-preserved : goal.loop-step-preserved
loop-step-preserved c =
    let vs : List Variable = map variable_of c.args.variables.now in
    let some : (item no_variable vs c.loop-step.current).test ≡ Some c.in-Some.test = sym c.test_at.ensures ∙ c.in-Some.is in
    let below : c.loop-step._step < length vs = omega (arith, length-map c.args.variables.now variable_of, c.loop-step-test.true) in
    let left : length vs - c.loop-step._step ≡ suc (length vs - (c.loop-step._step + 1)) = omega (arith, below) in
    let rest = chain (length vs - (c.loop-step._step + 1)) vs c.in-Some.test.variable in
    let e = chain_some (length vs - (c.loop-step._step + 1)) (length vs - c.loop-step._step) vs c.loop-step.current c.in-Some.test left some in
    ap (λ xs. xs ++ rest) c.in_ok-push-in-Some.ensures.items ∙ append_assoc c.loop-step.clock.items (c.in-Some.test ∷ []) rest ∙ ap (λ k. c.loop-step.clock.items ++ k) (sym e) ∙ c.loop-step.invariant

pub returns-in-None : goal.returns-in-None
returns-in-None c =
    let vs : List Variable = map variable_of c.args.variables.now in
    let none : (item no_variable vs c.loop-step.current).test ≡ None = sym c.test_at.ensures ∙ c.in-None.is in
    let e = chain_none (length vs - c.loop-step._step) vs c.loop-step.current none in
    sym (append-nil c.loop-step.clock.items) ∙ ap (λ k. c.loop-step.clock.items ++ k) (sym e) ∙ c.loop-step.invariant
