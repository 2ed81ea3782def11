use Rattle.std.proofs.Common.{◌≡◌, ◌+◌, ◌≤◌, take}
use Rattle.lus_syntax.specs.Places.{past}
use Rattle.lus_syntax.proofs.place.past.Given as goal

abbrev pub invariant-loop-b : goal.invariant-loop-b
invariant-loop-b l = record {
  so_far : l.place ≡ past l.fn.at (take l.b-index l.bytes);
  byte : l.place.byte ≤ l.fn.at.byte + l.b-index;
  line : l.place.line ≤ l.fn.at.line + l.b-index;
  column : l.place.column ≤ l.fn.at.column + l.b-index;
}
