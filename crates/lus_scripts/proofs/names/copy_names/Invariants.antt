-- The copies so far equal the names seen.
use Rattle.std.proofs.Common.{◌≡◌, map, string_bytes, take}
use Rattle.lus_scripts.proofs.names.copy_names.Given as goal

abbrev pub invariant-loop-name : goal.invariant-loop-name
invariant-loop-name l = map string_bytes l.copies.items ≡ map (λ n. n.now) (take l.name-index l.names)
