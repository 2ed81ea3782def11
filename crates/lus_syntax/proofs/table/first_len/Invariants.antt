use Rattle.std.proofs.Common.{◌≡◌, drop}
use Rattle.lus_syntax.specs.Reading.{first_len, rows}
use Rattle.lus_syntax.proofs.table.first_len.Given as goal

abbrev pub invariant-loop-key : goal.invariant-loop-key
invariant-loop-key g l = first_len l.bytes (rows (drop l.key-index l.table)) ≡ first_len l.bytes (rows l.table)
