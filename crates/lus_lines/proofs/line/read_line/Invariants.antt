-- The line so far is what was read.
use Rattle.std.proofs.Common.{◌≡◌, ◌-◌, ◌≤◌, length, vec_len}
use Rattle.lus_lines.specs.Lines.{IsBegun}
use Rattle.lus_lines.proofs.line.read_line.Given as goal

abbrev pub invariant-loop-byte : goal.invariant-loop-byte
invariant-loop-byte g l =
    (length l.byte ≡ 1) × IsBegun l.line.items (g.S.Source.left l.initial.source) (g.S.Source.left l.source) × (vec_len l.line ≤ 1048577)

abbrev pub decreases-loop-byte : goal.decreases-loop-byte
decreases-loop-byte g l = 1048577 - vec_len l.line
