-- The cells so far.
use Rattle.std.proofs.Common.{◌≡◌, map, take}
use Rattle.csv.specs.Records.{fields_of}
use Rattle.lus_records.proofs.cells.cells_of.Given as goal

abbrev pub invariant-loop-place : goal.invariant-loop-place
invariant-loop-place l = map (λ t. t.now) l.cells.items ≡ take l.place (fields_of l.line_record)
