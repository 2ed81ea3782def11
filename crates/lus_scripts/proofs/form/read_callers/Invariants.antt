-- The forms read so far come before those of the callers that are left.
use Rattle.std.proofs.Common.{◌≡◌, ◌++◌, drop, map, option_map}
use Rattle.serde_json.specs.View.{view}
use Rattle.lus_scripts.specs.Forms.{caller_form, each}
use Rattle.lus_scripts.specs.View.{caller_seen}
use Rattle.lus_scripts.proofs.form.read_callers.Given as goal

abbrev pub invariant-loop-caller : goal.invariant-loop-caller
invariant-loop-caller l =
    each caller_form (map view l.callers)
    ≡ option_map (λ rest. map caller_seen l.forms.items ++ rest) (each caller_form (map view (drop l.caller-index l.callers)))
