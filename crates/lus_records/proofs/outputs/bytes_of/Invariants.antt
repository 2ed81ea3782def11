-- The bytes so far are those of the cells so far.
use Rattle.std.proofs.Common.{◌≡◌, map, take, string_bytes}
use Rattle.lus_records.proofs.outputs.bytes_of.Given as goal

abbrev pub invariant-loop-cell : goal.invariant-loop-cell
invariant-loop-cell l = map (λ t. t.now) l.fields.items ≡ map string_bytes (take l.cell-index l.cells)
