use Rattle.std.proofs.Common.{◌≡◌, length}
use Rattle.lus_emission.specs.Made.{AreBlank}
use Rattle.lus_emission.proofs.classes.without_code.Given as goal

abbrev pub invariant-loop-class : goal.invariant-loop-class
invariant-loop-class l = record {
  many : length l.emitted.items ≡ l._class;
  blank : AreBlank l.emitted.items;
}
