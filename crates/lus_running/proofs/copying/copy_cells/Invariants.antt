use Rattle.std.proofs.Common.{◌≡◌, ◌++◌, map, take, drop}
use Rattle.lus_instructions.specs.Followed.{cell_of}
use Rattle.lus_running.proofs.copying.copy_cells.Given as goal

abbrev pub invariant-loop-place : goal.invariant-loop-place
invariant-loop-place g l = map (cell_of g.U.Held.entry) l.copies ≡ take l.place (map (cell_of g.T.Held.entry) l.cells) ++ drop l.place (map (cell_of g.U.Held.entry) l.initial.copies)
