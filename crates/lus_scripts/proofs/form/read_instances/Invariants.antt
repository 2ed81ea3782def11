-- The forms read so far come before those of the instances that are left.
use Rattle.std.proofs.Common.{◌≡◌, ◌++◌, drop, map, option_map}
use Rattle.serde_json.specs.View.{view}
use Rattle.lus_scripts.specs.Forms.{instance_form, each}
use Rattle.lus_scripts.specs.View.{instance_seen}
use Rattle.lus_scripts.proofs.form.read_instances.Given as goal

abbrev pub invariant-loop-instance : goal.invariant-loop-instance
invariant-loop-instance l =
    each instance_form (map view l.instances)
    ≡ option_map (λ rest. map instance_seen l.forms.items ++ rest) (each instance_form (map view (drop l.instance-index l.instances)))
