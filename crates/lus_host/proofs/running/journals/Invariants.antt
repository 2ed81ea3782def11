-- The journals so far come before those of the instances that are left.
use Rattle.std.proofs.Common.{◌≡◌, ◌++◌, drop, map}
use Rattle.lus_host.specs.Runs.{journals_of}
use Rattle.lus_devices.specs.View.{journal_seen}
use Rattle.lus_scripts.specs.View.{instance_kept}
use Rattle.lus_host.proofs.running.journals.Given as goal

abbrev pub invariant-loop-place : goal.invariant-loop-place
invariant-loop-place l =
    journals_of (map instance_kept l.instances) (map (λ h. h.entries.items) l.histories)
    ≡ map journal_seen l.journals.items
    ++ journals_of (map instance_kept (drop l.place l.instances)) (map (λ h. h.entries.items) (drop l.place l.histories))
