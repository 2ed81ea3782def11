use Rattle.std.proofs.Common.{◌≡◌, map, drop}
use Rattle.lus_syntax.specs.View.{part_seen}
use Rattle.lus_syntax.specs.Trees.{parts_of}
use Rattle.lus_source.specs.Named.{knows_parts}
use Rattle.lus_source.specs.NameView.{known_seen}
use Rattle.lus_source.proofs.names.+unknown.Given as goal

abbrev pub invariant-unknown_in-loop-part : goal.invariant-unknown_in-loop-part
invariant-unknown_in-loop-part l = knows_parts (known_seen l.names) (parts_of (map part_seen (drop l.part-index l.parts))) ≡ knows_parts (known_seen l.names) (parts_of (map part_seen l.parts))
