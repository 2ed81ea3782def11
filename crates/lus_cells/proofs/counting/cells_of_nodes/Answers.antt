use Rattle.lus_program.specs.View.{program_seen}
use Rattle.lus_cells.proofs.CellsAlong.{cells_local, cells_whole, names_it, node_fits, none_fits, too_many}
use Rattle.lus_cells.proofs.counting.cells_of_nodes.Goals as goal

pub along-requires-clause-local : goal.along-requires-clause-local
along-requires-clause-local c = cells_local (program_seen c.args.sound.now) (rw c.program-program.ensures.same at c.program-program.ensures.resolved) c.leaves-leaves.result.now c.leaves-leaves.ensures

pub returns-in-Ok-clause-ok : goal.returns-in-Ok-clause-ok
returns-in-Ok-clause-ok c =
    cells_whole (program_seen c.args.sound.now) (rw c.program-program.ensures.same at c.program-program.ensures.resolved) c.leaves-leaves.result.now c.leaves-leaves.ensures c.nodes.result.now c.nodes.ensures c.in-Ok.cells.items c.in-Ok.ensures.found

pub returns-in-Err-clause-refused : goal.returns-in-Err-clause-refused
returns-in-Err-clause-refused c other =
    let refused = c.in-Err.ensures.refused in
    (none_fits (program_seen c.args.sound.now) (rw c.program-program.ensures.same at c.program-program.ensures.resolved) c.leaves-leaves.result.now c.leaves-leaves.ensures c.nodes.result.now c.nodes.ensures c.in-Err.place refused.0 refused.1, c.new.ensures.number)

pub returns-in-Err-clause-placed : goal.returns-in-Err-clause-placed
returns-in-Err-clause-placed c other =
    let p = c.args.sound.now in
    let refused = c.in-Err.ensures.refused in
    let many = too_many (program_seen p) (rw c.program-program.ensures.same at c.program-program.ensures.resolved) c.leaves-leaves.result.now c.leaves-leaves.ensures c.nodes.result.now c.nodes.ensures c.in-Err.place refused.0 refused.1 in
    names_it p c.in-Err.place c.index.result.now c.new.result.line c.new.result.column (node_fits p c.in-Err.place refused.0) (rw c.program-program.ensures.same at c.index.ensures) c.new.ensures.line c.new.ensures.column many
