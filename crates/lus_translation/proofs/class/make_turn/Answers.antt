use Rattle.std.proofs.Common.{◌≡◌, ◌∙◌, ◌++◌, None, map, length, slice_get, sym, ap, arith, append-nil}
use Rattle.std.proofs.lemmas.Option.{slice_get_past}
use Rattle.lus_values.specs.Lists.{item}
use Rattle.lus_program.specs.View.{node_of, program_seen}
use Rattle.lus_classes.specs.View.{steps_of}
use Rattle.lus_translation.specs.Forms.{equation_calls, equation_cells, equation_steps}
use Rattle.lus_translation.specs.Building.{next_cell}
use Rattle.lus_translation.specs.Making.{calls_made}
use Rattle.lus_translation.specs.Newest.{cell_seen, tested_memory}
use Rattle.lus_translation.proofs.class.make_turn.Goals as goal

-- there is no equation
past : (c : goal.In-None) → slice_get c.args.node.now.equations.items c.args.turn.now.equation ≡ None
past c = slice_get_past c.args.node.now.equations.items c.args.turn.now.equation (let long = ap length c.deref.ensures.value in omega (arith, c.in-None.ensures.lookup, long))

pub returns-in-None-clause-steps : goal.returns-in-None-clause-steps
returns-in-None-clause-steps c =
    let cells = c.args.built.now.cells.items in
    let ss = steps_of c.args.built.now.steps.items in
    let number = item 0 c.args.numbers.now c.args.turn.now.equation in
    sym (ap (λ o. ss ++ equation_steps (program_seen c.args.program.now) (node_of c.args.node.now) (next_cell cells) c.args.firsts.now number o c.args.turn.now.variables.items) (past c) ∙ append-nil ss)

pub returns-in-None-clause-cells : goal.returns-in-None-clause-cells
returns-in-None-clause-cells c =
    let ms = map cell_seen c.args.built.now.cells.items in
    sym (ap (λ o. ms ++ map tested_memory (equation_cells (node_of c.args.node.now) o c.args.turn.now.variables.items)) (past c) ∙ append-nil ms)

pub returns-in-None-clause-made : goal.returns-in-None-clause-made
returns-in-None-clause-made c =
    let made = calls_made c.args.built.now.steps.items in
    let number = item 0 c.args.numbers.now c.args.turn.now.equation in
    sym (ap (λ o. equation_calls (program_seen c.args.program.now) made number o c.args.turn.now.variables.items) (past c))
