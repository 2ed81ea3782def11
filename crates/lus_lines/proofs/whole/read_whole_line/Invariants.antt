-- The line so far is what was read.
use Rattle.std.proofs.Common.{◌≡◌, length}
use Rattle.lus_lines.specs.Lines.{IsBegun}
use Rattle.lus_lines.proofs.whole.read_whole_line.Given as goal

abbrev pub invariant-loop-byte : goal.invariant-loop-byte
invariant-loop-byte g l =
    (length l.byte ≡ 1) × IsBegun l.line.items (g.S.Source.left l.initial.source) (g.S.Source.left l.source)
