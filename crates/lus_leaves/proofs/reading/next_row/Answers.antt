use Rattle.std.proofs.Common.{length, ap, arith}
use Rattle.std.proofs.lemmas.List.{length_push}
use Rattle.lus_leaves.proofs.Leaves.{popped}
use Rattle.lus_leaves.proofs.reading.next_row.Goals as goal

pub loop-entry-preserved : goal.loop-entry-preserved
loop-entry-preserved c = record {
  count_is = rw c.in_ok-push.ensures.items (omega (arith, length_push c.loop-entry.items.items c.in-Some.entry, c.loop-entry.invariant.count_is));
  left = omega (arith, length_push c.pop.new.self.items c.in-Some.entry, ap length c.in-Some.ensures.items, c.loop-entry.invariant.left);
  rest = rw c.in_ok-push.ensures.items (popped _ c.loop-entry.items.items c.loop-entry.entries.items c.pop.new.self.items c.in-Some.entry c.loop-entry.invariant.rest c.in-Some.ensures.items);
}
