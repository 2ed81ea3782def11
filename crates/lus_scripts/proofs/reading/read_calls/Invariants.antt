-- The calls so far come before those of the forms that are left.
use Rattle.std.proofs.Common.{◌≡◌, ◌++◌, drop, map, option_map}
use Rattle.lus_scripts.specs.Forms.{each}
use Rattle.lus_scripts.specs.Scripts.{call_of}
use Rattle.lus_scripts.specs.View.{call_seen, scope_seen}
use Rattle.lus_scripts.proofs.reading.read_calls.Given as goal

abbrev pub invariant-loop-form : goal.invariant-loop-form
invariant-loop-form l =
    each (call_of (scope_seen l.scope)) (map call_seen l.forms)
    ≡ option_map (λ rest. l.calls.items ++ rest) (each (call_of (scope_seen l.scope)) (map call_seen (drop l.form-index l.forms)))
