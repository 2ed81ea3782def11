use Rattle.std.proofs.Common.{◌≡◌, ◌++◌, map, drop, length}
use Rattle.lus_program.specs.View.{node_of, program_seen}
use Rattle.lus_classes.specs.View.{steps_of}
use Rattle.lus_values.specs.Lists.{Each}
use Rattle.lus_translation.specs.Making.{GivesAny, calls_made}
use Rattle.lus_translation.specs.Forms.{all_calls, all_cells, all_steps}
use Rattle.lus_translation.specs.Newest.{cell_seen, tested_memory}
use Rattle.lus_translation.specs.View.{turn_of}
use Rattle.lus_translation.proofs.class.make_turns.Given as goal

abbrev pub invariant-loop-turn : goal.invariant-loop-turn
invariant-loop-turn l =
    let p = program_seen l.program in
    let f = node_of l.node in
    let qs = l.node.equations.items in
    let rest = map turn_of (drop l.turn-index l.turns) in
    let whole = map turn_of l.turns in
    let cells = map cell_seen l.built.cells.items in
    let cells_first = map cell_seen l.initial.built.cells.items in
    record {
      steps : steps_of l.built.steps.items ++ all_steps p f qs l.numbers (length cells) l.firsts rest ≡ steps_of l.initial.built.steps.items ++ all_steps p f qs l.numbers (length cells_first) l.firsts whole;
      cells : cells ++ map tested_memory (all_cells p f qs l.numbers rest) ≡ cells_first ++ map tested_memory (all_cells p f qs l.numbers whole);
      given : Each GivesAny l.initial.built.steps.items → Each GivesAny l.built.steps.items;
      made : all_calls p f qs l.numbers (calls_made l.built.steps.items) rest ≡ all_calls p f qs l.numbers (calls_made l.initial.built.steps.items) whole;
    }
