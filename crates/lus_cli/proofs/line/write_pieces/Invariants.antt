-- The pieces so far are written, and nothing failed.
use Rattle.std.proofs.Common.{◌≡◌, flat_map, take}
use Rattle.lus_devices.specs.Devices.{with_text}
use Rattle.lus_cli.proofs.line.write_pieces.Given as goal

abbrev pub invariant-loop-piece : goal.invariant-loop-piece
invariant-loop-piece g l =
    (g.F.Sink.written l.faults ≡ with_text (g.F.Sink.written l.initial.faults) (flat_map (λ p. p.now) (take l.piece-index l.pieces)))
    × (g.F.Sink.failures l.faults ≡ g.F.Sink.failures l.initial.faults)
