-- The rest passes where the whole does.
use Rattle.std.proofs.Common.{◌≡◌, drop}
use Rattle.std.specs.List.{list_all}
use Rattle.lus_source.specs.NameView.{known_seen}
use Rattle.lus_source.proofs.using.first_unknown.Given as goal

abbrev pub invariant-loop-thing : goal.invariant-loop-thing
invariant-loop-thing g l = list_all (g.T.Using.known (known_seen l.names)) (drop l.thing-index l.things) ≡ list_all (g.T.Using.known (known_seen l.names)) l.things
