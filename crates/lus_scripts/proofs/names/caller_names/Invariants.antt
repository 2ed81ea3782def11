-- The names so far are those of the callers seen.
use Rattle.std.proofs.Common.{◌≡◌, map, take}
use Rattle.lus_scripts.specs.View.{caller_seen}
use Rattle.lus_scripts.proofs.names.caller_names.Given as goal

abbrev pub invariant-loop-caller : goal.invariant-loop-caller
invariant-loop-caller l = map (λ n. n.now) l.names.items ≡ map (λ i. i.name) (map caller_seen (take l.caller-index l.form.callers.items))
