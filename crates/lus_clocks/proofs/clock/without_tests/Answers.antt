-- One test fewer, and one fewer to leave out.
use Rattle.std.proofs.Common.{◌≡◌, ◌+◌, ◌-◌, suc, sym, ap, ◌∙◌, arith}
use Rattle.lus_program.specs.View.{node_of}
use Rattle.lus_clocks.specs.Fitting.{without_tests as without_newest}
use Rattle.lus_clocks.specs.View.{clock_in}
use Rattle.lus_clocks.proofs.clock.without_tests.Goals as goal

pub loop-test-preserved : goal.loop-test-preserved
loop-test-preserved c =
    let f = node_of c.args.node.now in
    let left : c.args.count - c.loop-test._test ≡ suc (c.args.count - (c.loop-test._test + 1)) = omega arith in
    ap (without_newest f (c.args.count - (c.loop-test._test + 1))) c.outer_clock-rest.ensures ∙ sym (ap (λ n. without_newest f n (clock_in c.loop-test.rest)) left) ∙ c.loop-test.invariant
