-- The forms read so far come before those of the calls that are left.
use Rattle.std.proofs.Common.{◌≡◌, ◌++◌, drop, map, option_map}
use Rattle.serde_json.specs.View.{view}
use Rattle.lus_scripts.specs.Forms.{call_form, each}
use Rattle.lus_scripts.specs.View.{call_seen}
use Rattle.lus_scripts.proofs.form.read_calls.Given as goal

abbrev pub invariant-loop-call : goal.invariant-loop-call
invariant-loop-call l =
    each call_form (map view l.calls)
    ≡ option_map (λ rest. map call_seen l.forms.items ++ rest) (each call_form (map view (drop l.call-index l.calls)))
