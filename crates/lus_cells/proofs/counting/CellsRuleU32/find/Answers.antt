use Rattle.std.proofs.Common.{arith}
use Rattle.lus_cells.proofs.CellsAlong.{count_is}
use Rattle.lus_cells.proofs.counting.CellsRuleU32.find.Goals as goal

pub returns-then-count-le-MOST_CELLS : goal.returns-then-count-le-MOST_CELLS
returns-then-count-le-MOST_CELLS c =
    let rule = c.args.self.now in
    let right = count_is rule.sound.now (rw c.program-program.ensures.same at c.program-program.ensures.resolved) rule.leaves.now rule.are c.args.table.now c.args.thing c.index.result.now c.requires (rw c.program-program.ensures.same at c.index.ensures) in
    let few = c.if-count-le-MOST_CELLS.true in
    (omega (arith, rw (c.program-program.ensures.same, right) at c.node_cells-count.ensures), few)

pub returns-else-count-le-MOST_CELLS : goal.returns-else-count-le-MOST_CELLS
returns-else-count-le-MOST_CELLS c few =
    let rule = c.args.self.now in
    let right = count_is rule.sound.now (rw c.program-program.ensures.same at c.program-program.ensures.resolved) rule.leaves.now rule.are c.args.table.now c.args.thing c.index.result.now c.requires (rw c.program-program.ensures.same at c.index.ensures) in
    omega (arith, rw (c.program-program.ensures.same, right) at c.node_cells-count.ensures)
