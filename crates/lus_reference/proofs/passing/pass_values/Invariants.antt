-- What was passed and what the values that are left give are what all give.
use Rattle.std.proofs.Common.{◌≡◌, ◌++◌, drop, map}
use Rattle.lus_values.specs.View.{entry_of}
use Rattle.lus_program.specs.Programs.{node_at}
use Rattle.lus_program.specs.View.{operands_of, program_seen}
use Rattle.lus_streams.specs.Clocks.{formal_clock}
use Rattle.lus_reference.specs.Given.{passed}
use Rattle.lus_reference.proofs.passing.pass_values.Given as goal

abbrev pub invariant-loop-formal : goal.invariant-loop-formal
invariant-loop-formal l =
    let clocks = formal_clock (node_at (program_seen l.program) l.called) (operands_of l.arguments) l.base in
    let row = map entry_of l.row in
    map entry_of l.passed.items ++ passed l.present row clocks l.formal (map entry_of (drop l.formal l.values)) ≡ passed l.present row clocks 0 (map entry_of l.values)
