use Rattle.std.proofs.Common.{◌≡◌, ◌++◌, drop}
use Rattle.lus_program.specs.View.{operands_of}
use Rattle.lus_streams.specs.Clocks.{renamed_clock}
use Rattle.lus_parts.proofs.clocks.add_renamed.Given as goal

abbrev pub invariant-loop-test : goal.invariant-loop-test
invariant-loop-test l =
    let args = operands_of l.arguments in
    l.clock.items ++ renamed_clock args (drop l.test-index l.tests) ≡ l.initial.clock.items ++ renamed_clock args l.tests
