-- The name is none of the columns so far.
use Rattle.std.proofs.Common.{◌≡◌, drop, map, string_bytes}
use Rattle.lus_records.specs.Heads.{known}
use Rattle.lus_records.proofs.heads.known.Given as goal

abbrev pub invariant-loop-column : goal.invariant-loop-column
invariant-loop-column l = known (map string_bytes l.columns) l.name ≡ known (map string_bytes (drop l.column-index l.columns)) l.name
