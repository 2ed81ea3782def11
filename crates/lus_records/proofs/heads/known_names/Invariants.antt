-- The names so far come before those that are left.
use Rattle.std.proofs.Common.{◌≡◌, ◌++◌, drop, map, option_map, string_bytes}
use Rattle.lus_scripts.specs.Forms.{each}
use Rattle.lus_records.specs.Heads.{known}
use Rattle.lus_records.proofs.heads.known_names.Given as goal

abbrev pub invariant-loop-name : goal.invariant-loop-name
invariant-loop-name l =
    each (known (map string_bytes l.columns)) (map (λ t. t.now) l.names)
    ≡ option_map (λ rest. map (λ t. t.now) l.found.items ++ rest)
    (each (known (map string_bytes l.columns)) (map (λ t. t.now) (drop l.name-index l.names)))
