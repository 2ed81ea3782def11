-- The rest passes where the whole does.
use Rattle.std.proofs.Common.{◌≡◌, drop, flat_map}
use Rattle.std.specs.List.{list_all}
use Rattle.lus_source.specs.Named.{is_in}
use Rattle.lus_source.specs.NameView.{differs, texts}
use Rattle.lus_source.proofs.naming.first.Given as goal

abbrev pub invariant-loop-thing : goal.invariant-loop-thing
invariant-loop-thing g l = list_all (λ n. differs l.among (is_in (texts l.table.keys) n)) (flat_map g.T.Naming.named (drop l.thing-index l.things)) ≡ list_all (λ n. differs l.among (is_in (texts l.table.keys) n)) (flat_map g.T.Naming.named l.things)
