-- The copies so far stand behind the old entries.
use Rattle.std.proofs.Common.{◌≡◌, ◌++◌, map, take}
use Rattle.lus_values.specs.View.{entry_of}
use Rattle.lus_diagrams.proofs.given.push_copies.Given as goal

abbrev pub invariant-loop-entry : goal.invariant-loop-entry
invariant-loop-entry l = map entry_of l.entries.items ≡ map entry_of l.initial.entries.items ++ map entry_of (take l.entry-index l.entry-items)
