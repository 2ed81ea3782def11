-- The names so far are those of the instances seen.
use Rattle.std.proofs.Common.{◌≡◌, map, take}
use Rattle.lus_scripts.specs.View.{instance_seen}
use Rattle.lus_scripts.proofs.names.instance_names.Given as goal

abbrev pub invariant-loop-instance : goal.invariant-loop-instance
invariant-loop-instance l = map (λ n. n.now) l.names.items ≡ map (λ i. i.name) (map instance_seen (take l.instance-index l.form.instances.items))
