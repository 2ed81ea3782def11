use Rattle.std.proofs.Common.{◌≡◌, ◌++◌, map, drop}
use Rattle.lus_program.specs.Programs.{node_at}
use Rattle.lus_program.specs.View.{operands_of, program_seen}
use Rattle.lus_translation.specs.Forms.{arguments_form}
use Rattle.lus_translation.specs.Newest.{argument_seen, tested_argument}
use Rattle.lus_translation.proofs.call.arguments_of.Given as goal

abbrev pub invariant-loop-formal : goal.invariant-loop-formal
invariant-loop-formal l =
    let args = operands_of l.arguments in
    let g = node_at (program_seen l.program) l.called in
    map argument_seen l.found.items ++ map tested_argument (arguments_form (operands_of (drop l.formal l.arguments)) g args l.base l.formal) ≡ map tested_argument (arguments_form args g args l.base 0)
