-- Behind the old cells stands an empty one for each column so far.
use Rattle.std.proofs.Common.{◌≡◌, ◌++◌, [], map, take, string_bytes}
use Rattle.lus_records.proofs.outputs.push_empty.Given as goal

abbrev pub invariant-loop : goal.invariant-loop
invariant-loop l =
    map string_bytes l.cells.items ≡ map string_bytes l.initial.cells.items ++ map (λ c. []) (map string_bytes (take l.index l.columns))
