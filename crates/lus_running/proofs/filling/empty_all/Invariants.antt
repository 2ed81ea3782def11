use Rattle.std.proofs.Common.{◌≡◌, ◌++◌, map, take, drop}
use Rattle.lus_values.specs.Values.{nil}
use Rattle.lus_instructions.specs.Followed.{cell_of}
use Rattle.lus_running.proofs.filling.empty_all.Given as goal

abbrev pub invariant-loop-place : goal.invariant-loop-place
invariant-loop-place g l = map (cell_of g.T.Held.entry) l.cells ≡ map (λ v. nil) (take l.place (map (cell_of g.T.Held.entry) l.initial.cells)) ++ drop l.place (map (cell_of g.T.Held.entry) l.initial.cells)
