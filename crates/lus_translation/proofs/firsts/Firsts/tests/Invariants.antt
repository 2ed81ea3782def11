use Rattle.std.proofs.Common.{◌≡◌, map, take}
use Rattle.lus_translation.specs.Firsts.{first_seen}
use Rattle.lus_translation.proofs.firsts.Firsts.tests.Given as goal

abbrev pub invariant-loop-key : goal.invariant-loop-key
invariant-loop-key l = l.tests.items ≡ map first_seen (take l.key-index l.keys)
