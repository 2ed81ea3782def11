-- The calls so far are those among the parts so far.
use Rattle.std.proofs.Common.{◌≡◌, flat_map, map, take}
use Rattle.lus_program.specs.View.{program_seen}
use Rattle.lus_parts.specs.Parts.{part_of}
use Rattle.lus_sketches.specs.Paths.{calls_at, called_seen}
use Rattle.lus_sketches.proofs.paths.calls_in.Given as goal

abbrev pub invariant-loop-part : goal.invariant-loop-part
invariant-loop-part l = map called_seen l.calls.items ≡ flat_map (calls_at (program_seen l.program) l.name) (map part_of (take l.part-index l.parts))
