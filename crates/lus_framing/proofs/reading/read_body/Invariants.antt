-- The bytes so far were the front of those left at first.
use Rattle.std.proofs.Common.{◌-◌, ◌≡◌, ◌≤◌, vec_len}
use Rattle.lus_devices.specs.Devices.{with_front}
use Rattle.lus_framing.proofs.reading.read_body.Given as goal

abbrev pub invariant-loop-buffer : goal.invariant-loop-buffer
invariant-loop-buffer g l =
    (vec_len l.bytes ≤ l.length) × (g.S.Source.left l.initial.source ≡ with_front l.bytes.items (g.S.Source.left l.source))

abbrev pub decreases-loop-buffer : goal.decreases-loop-buffer
decreases-loop-buffer g l = l.length - vec_len l.bytes
