-- The parts so far stand in quotes behind the old text.
use Rattle.std.proofs.Common.{◌≡◌, ◌++◌, flat_map, map, string_bytes, take}
use Rattle.lus_traces.specs.Tables.{in_quotes}
use Rattle.lus_traces.proofs.tables.push_quoted.Given as goal

abbrev pub invariant-loop-part : goal.invariant-loop-part
invariant-loop-part l = string_bytes l.out ≡ string_bytes l.initial.out ++ flat_map in_quotes (map (λ t. t.now) (take l.part-index l.part-items))
