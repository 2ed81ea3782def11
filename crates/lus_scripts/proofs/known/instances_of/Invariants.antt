-- The instances so far come before those of the forms that are left.
use Rattle.std.proofs.Common.{◌≡◌, ◌++◌, drop, map, option_map}
use Rattle.lus_program.specs.View.{program_seen}
use Rattle.lus_scripts.specs.Forms.{each}
use Rattle.lus_scripts.specs.Scripts.{instance_of}
use Rattle.lus_scripts.specs.View.{instance_kept, instance_seen}
use Rattle.lus_scripts.proofs.known.instances_of.Given as goal

abbrev pub invariant-loop-named : goal.invariant-loop-named
invariant-loop-named l =
    each (instance_of (program_seen l.program)) (map instance_seen l.form.instances.items)
    ≡ option_map (λ rest. map instance_kept l.instances.items ++ rest)
    (each (instance_of (program_seen l.program)) (map instance_seen (drop l.named-index l.form.instances.items)))
