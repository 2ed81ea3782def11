-- The names so far and those that are left are all the names; the rest is as new as the whole.
use Rattle.std.proofs.Common.{drop, flat_map}
use Rattle.lus_source.specs.NameView.{texts}
use Rattle.lus_source.proofs.AppendedNames.{Remaining}
use Rattle.lus_source.proofs.naming.declare_all.Given as goal

abbrev pub invariant-loop-thing : goal.invariant-loop-thing
invariant-loop-thing g l = Remaining (texts l.table.keys) (flat_map g.T.Naming.named (drop l.thing-index l.things)) (texts l.fn.table.keys) (flat_map g.T.Naming.named l.things)
