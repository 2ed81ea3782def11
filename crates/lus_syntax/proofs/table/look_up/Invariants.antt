use Rattle.std.proofs.Common.{◌≡◌, drop}
use Rattle.lus_syntax.specs.Texts.{look_up}
use Rattle.lus_syntax.specs.Reading.{rows}
use Rattle.lus_syntax.proofs.table.look_up.Given as goal

abbrev pub invariant-loop-key : goal.invariant-loop-key
invariant-loop-key g l = look_up l.text (rows (drop l.key-index l.table)) ≡ look_up l.text (rows l.table)
