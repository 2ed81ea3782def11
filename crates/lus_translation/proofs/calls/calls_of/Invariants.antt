use Rattle.std.proofs.Common.{◌≡◌, ◌++◌, map, drop}
use Rattle.lus_program.specs.View.{node_of, program_seen}
use Rattle.lus_translation.specs.Newest.{call_seen, tested_call}
use Rattle.lus_translation.proofs.Numbered.{stored_calls}
use Rattle.lus_translation.proofs.calls.calls_of.Given as goal

abbrev pub invariant-loop-equation : goal.invariant-loop-equation
invariant-loop-equation l =
    let p = program_seen l.program in
    let f = node_of l.node in
    map call_seen l.calls.items ++ map tested_call (stored_calls p f (drop l.equation-index l.node.equations.items)) ≡ map tested_call (stored_calls p f l.node.equations.items)
