use Rattle.std.proofs.Common.{rules, arith, ◌≡◌, ◌<◌, ℕ, [], ◌∷◌, ◌++◌, ◌∙◌, length, drop, Contains}
use Rattle.std.proofs.lemmas.Grind.{common_steps}
use Rattle.std.proofs.lemmas.List.{take_all}
use Rattle.std.proofs.lemmas.List.Elements.{Contains-append_left, Contains-push}
use Rattle.lus_graph.specs.declared.walk.Mark.TheVariants as marks
use Rattle.lus_graph.specs.Ways.{used}
use Rattle.lus_graph.specs.Walks.{uses_of, mark_at, IsSound, IsTurned}
use Rattle.lus_graph.proofs.Steps.{opens, closes, round, turned, fewer_new, uses_length, used_at, no_item, one_more}
use Rattle.lus_graph.proofs.walk.+visiting.Goals as goal

pub meet-cycle_from-requires : goal.meet-cycle_from-requires
meet-cycle_from-requires t c =
    let opened : mark_at c.args.walk.now.marks.items c.args.used ≡ marks.Open c.in-Open.start = grind (arith, common_steps) in
    let place = c.requires.sound.open_path c.args.used c.in-Open.start opened in
    record { within = rw c.deref-in-Open.ensures.value place.0 }

pub meet-returns-in_ok-cycle_from-in-Open-clause-cycle : goal.meet-returns-in_ok-cycle_from-in-Open-clause-cycle
meet-returns-in_ok-cycle_from-in-Open-clause-cycle t c =
    let uses = uses_of c.args.uses.now in
    let walk = c.args.walk.now in
    let opened : mark_at walk.marks.items c.args.used ≡ marks.Open c.in-Open.start = grind (arith, common_steps) in
    let turn : IsTurned (drop c.in-Open.start walk.path.items) c.in_ok-cycle_from-in-Open.field-0.items = rw c.deref-in-Open.ensures.value at c.in_ok-cycle_from-in-Open.ensures in
    turned uses (drop c.in-Open.start walk.path.items) (round uses walk.marks.items walk.path.items walk.order.items c.args.used c.requires.sound c.in-Open.start c.args.used opened c.requires.reached) c.in_ok-cycle_from-in-Open.field-0.items turn

pub visit-loop-place-init : goal.visit-loop-place-init
visit-loop-place-init t c =
    let s = c.requires.sound in
    let walk = c.args.walk.now in
    let within : c.args.thing < length (uses_of c.args.uses.now) = omega (arith, uses_length c.args.uses.now) in
    let place : c.len.result ≡ length walk.path.items = search rules in
    record {
      sound = rw (c.in_ok-push.ensures.items, place) (opens (uses_of c.args.uses.now) walk.marks.items walk.path.items walk.order.items c.args.thing s c.requires.new within c.requires.reached);
      path = c.in_ok-push.ensures.items;
      items = c.deref-place-items.ensures.value ∙ used_at c.args.uses.now c.args.thing c.index-uses-thing.result c.requires.within c.index-uses-thing.is;
      done = λ y lt (k, below, same). elim (no_item k below) [ ];
      kept = λ x among. among;
      fewer = rw place (fewer_new (uses_of c.args.uses.now) walk.marks.items walk.path.items walk.order.items c.args.thing s c.requires.new (omega (arith, s.size)));
    }

pub visit-loop-place-preserved : goal.visit-loop-place-preserved
visit-loop-place-preserved t c =
    let kept = c.loop-place.invariant in
    let after = c.in_ok-meet.ensures in
    record {
      sound = after.sound;
      path = after.path ∙ kept.path;
      items = kept.items;
      done = λ y lt among. one_more c.deref-place-items.result.now (λ z. z < length c.args.uses.now → Contains c.meet.new.walk.order.items z) c.loop-place.place-index y c.loop-place-test.true (λ z before below. after.kept z (kept.done z below before)) after.done among lt;
      kept = λ x among. after.kept x (kept.kept x among);
      fewer = omega (arith, after.fewer, kept.fewer);
    }

pub visit-returns-clause-sound : goal.visit-returns-clause-sound
visit-returns-clause-sound t c =
    let kept = c.loop-place.invariant in
    let uses = uses_of c.args.uses.now in
    let walk = c.loop-place.walk in
    let path = c.args.walk.now.path.items in
    let sound : IsSound uses walk.marks.items (path ++ c.args.thing ∷ []) walk.order.items = rw kept.path at kept.sound in
    let popped : c.pop.new.self.items ≡ path = grind (arith, common_steps) in
    let all : (y : ℕ) → y < length uses → Contains (used uses c.args.thing) y → Contains walk.order.items y = λ y lt among.
    kept.done y (omega (arith, uses_length c.args.uses.now)) (rw (take_all c.loop-place.place-index c.deref-place-items.result.now c.loop-place-test.false, kept.items) among) in
    rw (popped, c.in_ok-push-2.ensures.items) (closes uses walk.marks.items path walk.order.items c.args.thing sound all)

pub visit-returns-clause-done : goal.visit-returns-clause-done
visit-returns-clause-done t c = rw c.in_ok-push-2.ensures.items (Contains-push c.loop-place.walk.order.items c.args.thing)

pub visit-returns-clause-kept : goal.visit-returns-clause-kept
visit-returns-clause-kept t c = λ x among. rw c.in_ok-push-2.ensures.items (Contains-append_left c.loop-place.walk.order.items (c.args.thing ∷ []) x (c.loop-place.invariant.kept x among))
