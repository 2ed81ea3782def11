-- The items so far come before those of the inputs that are left.
use Rattle.std.proofs.Common.{◌≡◌, ◌++◌, drop, map, option_map}
use Rattle.serde_json.specs.View.{view}
use Rattle.lus_values.specs.View.{entry_of}
use Rattle.lus_program.specs.View.{program_seen, variable_of}
use Rattle.lus_scripts.specs.Forms.{each}
use Rattle.lus_scripts.specs.Requests.{named_item}
use Rattle.lus_scripts.proofs.request.named_items.Given as goal

abbrev pub invariant-loop-input : goal.invariant-loop-input
invariant-loop-input l =
    each (named_item (program_seen l.program) l.names (view l.given)) (map variable_of l.inputs)
    ≡ option_map (λ rest. map entry_of l.items.items ++ rest)
    (each (named_item (program_seen l.program) l.names (view l.given)) (map variable_of (drop l.input-index l.inputs)))
