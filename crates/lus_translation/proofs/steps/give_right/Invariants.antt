use Rattle.std.proofs.Common.{◌≡◌, ◌++◌, map, drop, length}
use Rattle.lus_program.specs.View.{expression_of}
use Rattle.lus_classes.specs.View.{steps_of}
use Rattle.lus_values.specs.Lists.{Each}
use Rattle.lus_translation.specs.Making.{GivesAny, calls_made}
use Rattle.lus_translation.specs.Forms.{given_steps, given_cells}
use Rattle.lus_translation.specs.Newest.{cell_seen, tested_memory}
use Rattle.lus_translation.proofs.steps.give_right.Given as goal

abbrev pub invariant-loop-variable : goal.invariant-loop-variable
invariant-loop-variable l =
    let e = expression_of l.right in
    let rest = drop l.variable-index l.variables in
    let cells = map cell_seen l.built.cells.items in
    let cells_first = map cell_seen l.initial.built.cells.items in
    record {
      steps : steps_of l.built.steps.items ++ given_steps (length cells) l.firsts e l.clock rest ≡ steps_of l.initial.built.steps.items ++ given_steps (length cells_first) l.firsts e l.clock l.variables;
      cells : cells ++ map tested_memory (given_cells e l.clock rest) ≡ cells_first ++ map tested_memory (given_cells e l.clock l.variables);
      given : Each GivesAny l.initial.built.steps.items → Each GivesAny l.built.steps.items;
      made : calls_made l.built.steps.items ≡ calls_made l.initial.built.steps.items;
    }
