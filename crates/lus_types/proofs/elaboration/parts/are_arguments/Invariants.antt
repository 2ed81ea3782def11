use Rattle.std.proofs.Common.{◌≡◌, map, drop}
use Rattle.lus_syntax.specs.View.{part_seen}
use Rattle.lus_syntax.specs.Trees.{parts_of}
use Rattle.lus_source.specs.Meaning.{are_arguments}
use Rattle.lus_types.proofs.elaboration.parts.are_arguments.Given as goal

abbrev pub invariant-loop-part : goal.invariant-loop-part
invariant-loop-part l = are_arguments (parts_of (map part_seen (drop l.part-index l.parts))) ≡ are_arguments (parts_of (map part_seen l.parts))
