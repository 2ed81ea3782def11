-- What was read so far is plain.
use Rattle.std.proofs.Common.{◌≡◌, length}
use Rattle.lus_devices.specs.Devices.{Bytes}
use Rattle.lus_lines.specs.Lines.{IsBegun}
use Rattle.lus_lines.proofs.line.skip_line.Given as goal

abbrev pub invariant-loop-skipped : goal.invariant-loop-skipped
invariant-loop-skipped g l =
    (length l.byte ≡ 1) × ((bs : Bytes) × IsBegun bs (g.S.Source.left l.initial.source) (g.S.Source.left l.source))
