use Rattle.std.proofs.Common.{◌≡◌, ◌++◌, drop, map}
use Rattle.lus_syntax.specs.Trees.{parts_of}
use Rattle.lus_syntax.specs.View.{part_seen}
use Rattle.lus_source.specs.Loopless.{called_in}
use Rattle.lus_source.proofs.uses.+calls.Given as goal

abbrev pub invariant-push_called_in-loop-part : goal.invariant-push_called_in-loop-part
invariant-push_called_in-loop-part l =
    l.found.items ++ called_in l.nodes (parts_of (map part_seen (drop l.part-index l.parts))) ≡ l.initial.found.items ++ called_in l.nodes (parts_of (map part_seen l.parts))
