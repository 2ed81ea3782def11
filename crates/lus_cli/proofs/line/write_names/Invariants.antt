-- The names so far are written, and nothing failed.
use Rattle.std.proofs.Common.{◌≡◌, ◌∷◌, flat_map, string_bytes, take}
use Rattle.lus_devices.specs.Devices.{with_text}
use Rattle.lus_cli.proofs.line.write_names.Given as goal

abbrev pub invariant-loop-name : goal.invariant-loop-name
invariant-loop-name g l =
    (g.F.Sink.written l.faults ≡ with_text (g.F.Sink.written l.initial.faults) (flat_map (λ n. 32 ∷ string_bytes n) (take l.name-index l.names)))
    × (g.F.Sink.failures l.faults ≡ g.F.Sink.failures l.initial.faults)
