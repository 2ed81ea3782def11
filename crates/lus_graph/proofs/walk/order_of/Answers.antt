use Rattle.std.proofs.Common.{rules, arith, ◌≡◌, [], length, replicate, ⊎_elim, sym, ◌∙◌}
use Rattle.std.proofs.lemmas.Bool.{cases_eq}
use Rattle.std.proofs.lemmas.List.{length-replicate}
use Rattle.lus_graph.specs.declared.walk.Mark.TheVariants as marks
use Rattle.lus_graph.specs.Walks.{uses_of}
use Rattle.lus_graph.proofs.Steps.{starts, all_new, new_at_first, orders, uses_length, no_item}
use Rattle.lus_graph.proofs.walk.order_of.Goals as goal

pub loop-thing-init : goal.loop-thing-init
loop-thing-init c =
    let n = length c.args.uses.now in
    let items : c.in_ok-vec.field-0.items ≡ replicate n marks.New = search rules in
    let path : c.new.result.items ≡ [] = search rules in
    let order : c.new-2.result.items ≡ [] = search rules in
    record {
      sound = rw (items, path, order) (starts (uses_of c.args.uses.now) (replicate n marks.New) (length-replicate n marks.New ∙ sym (uses_length c.args.uses.now)) (new_at_first n ∙ sym (uses_length c.args.uses.now)) (all_new n));
      path = path;
      done = λ x lt. elim (no_item x lt) [ ];
    }

pub loop-thing-preserved : goal.loop-thing-preserved
loop-thing-preserved c =
    let kept = c.loop-thing.invariant in
    let after = c.in_ok-meet.ensures in
    record {
      sound = after.sound;
      path = after.path ∙ kept.path;
      done = λ x lt. ⊎_elim (λ same. rw same (after.done c.loop-thing-test.true)) (λ other. after.kept x (kept.done x (omega arith))) (cases_eq x c.loop-thing.thing);
    }

pub returns-clause-order : goal.returns-clause-order
returns-clause-order c =
    let kept = c.loop-thing.invariant in
    orders (uses_of c.args.uses.now) c.loop-thing.walk.marks.items c.loop-thing.walk.path.items c.loop-thing.walk.order.items kept.sound (λ x lt. kept.done x (omega (arith, uses_length c.args.uses.now)))
