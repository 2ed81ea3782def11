use Rattle.std.proofs.Common.{◌≡◌, ◌-◌}
use Rattle.lus_syntax.specs.Reading.{block_len}
use Rattle.lus_syntax.proofs.Blocks.{found_from}
use Rattle.lus_edits.proofs.pieces.block_len.Given as goal

abbrev pub invariant-loop-i : goal.invariant-loop-i
invariant-loop-i l = found_from l.close l.bytes (l.i - 1) ≡ block_len l.close l.bytes
