use Rattle.std.proofs.Common.{◌≡◌, ◌∙◌, ap, Some}
use Rattle.std.proofs.lemmas.List.Elements.{All-pop, All-push}
use Rattle.std.specs.Arc.{arc_value}
use Rattle.lus_shared.specs.Knowledge.{Standing}
use Rattle.lus_foreign.specs.declared.node_seat.Opened.{Opened}
use Rattle.lus_foreign.specs.Seated.{IsAt}
use Rattle.lus_foreign.proofs.Gathers.{together, handed}
use Rattle.lus_foreign.proofs.seat_group.SeatGroup.open.Goals as goal

pub loop-seat-preserved : goal.loop-seat-preserved
loop-seat-preserved c =
    let i = (arc_value c.in_ok-node-2.node).node in
    let own = All-pop (λ (s : Standing). s.instance ≡ i) c.loop-seat.seats.items c.pop.new.self.items (Some c.in-Some.seat) c.in-Some.ensures.items c.loop-seat.invariant.own in
    record {
      own = own.0;
      id = c.loop-seat.invariant.id;
      order = rw c.in_ok-push.ensures.items (handed _ c.loop-seat.seats.items c.pop.new.self.items c.loop-seat.places.items _ c.loop-seat.invariant.order c.in-Some.ensures.items);
      places = rw c.in_ok-push.ensures.items (All-push (IsAt c.args.opening.id i) c.loop-seat.places.items _ c.loop-seat.invariant.places
          (ap (λ (o : Opened). o.id) c.in_ok-node-3.ensures ∙ c.loop-seat.invariant.id, own.1));
    }

pub invariant_of-result : goal.invariant_of-result
invariant_of-result c = together c.args.opening.id _ c.loop-seat.places.items c.loop-seat.invariant.places
