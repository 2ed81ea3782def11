-- The callers so far come before those of the forms that are left.
use Rattle.std.proofs.Common.{◌≡◌, ◌++◌, drop, map, option_map}
use Rattle.lus_scripts.specs.Forms.{each}
use Rattle.lus_scripts.specs.Scripts.{calls_of}
use Rattle.lus_scripts.specs.View.{calls_kept, caller_seen, scope_seen}
use Rattle.lus_scripts.proofs.reading.read_callers.Given as goal

abbrev pub invariant-loop-caller_form : goal.invariant-loop-caller_form
invariant-loop-caller_form l =
    each (calls_of (scope_seen l.scope)) (map caller_seen l.form.callers.items)
    ≡ option_map (λ rest. map calls_kept l.callers.items ++ rest)
    (each (calls_of (scope_seen l.scope)) (map caller_seen (drop l.caller_form-index l.form.callers.items)))
