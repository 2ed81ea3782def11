use Rattle.std.proofs.Common.{◌≡◌, length}
use Rattle.lus_program.specs.View.{program_seen}
use Rattle.lus_emission.specs.Sources.{HaveParts}
use Rattle.lus_turns.specs.Turned.{AreFirstTurned}
use Rattle.lus_code.proofs.classes.parted_classes.Given as goal

abbrev pub invariant-loop-place : goal.invariant-loop-place
invariant-loop-place l = record {
  turned : AreFirstTurned (program_seen l.program) l.place l.classes.items;
  parts : HaveParts l.classes.items l.parts.items;
  many : length l.parts.items ≡ length l.classes.items;
}
