-- The table has the names so far, none of them twice.
use Rattle.std.proofs.Common.{◌≡◌, map, take, true, string_bytes}
use Rattle.lus_scripts.specs.Scripts.{all_distinct}
use Rattle.lus_records.proofs.heads.distinct.Given as goal

abbrev pub invariant-loop-name : goal.invariant-loop-name
invariant-loop-name l =
    (map string_bytes l.table.keys ≡ map (λ n. n.now) (take l.name-index l.names))
    × (all_distinct (map string_bytes l.table.keys) ≡ true)
