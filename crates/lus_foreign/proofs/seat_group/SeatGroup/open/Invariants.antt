use Rattle.std.proofs.Common.{◌≡◌, ◌++◌, reverse, vec_len}
use Rattle.std.specs.List.{All}
use Rattle.std.specs.Arc.{arc_value}
use Rattle.lus_shared.specs.Knowledge.{Standing}
use Rattle.lus_shared.specs.Views.{fresh_seats}
use Rattle.lus_foreign.specs.Seated.{IsAt, standings}
use Rattle.lus_foreign.proofs.seat_group.SeatGroup.open.Given as goal

abbrev pub invariant-loop-seat : goal.invariant-loop-seat
invariant-loop-seat l = record {
  own : All (λ (s : Standing). s.instance ≡ (arc_value l.node).node) l.seats.items;
  id : (arc_value l.node).id ≡ l.id;
  order : fresh_seats (arc_value l.node).node 0 l.callers ≡ l.seats.items ++ standings (reverse l.places.items);
  places : All (IsAt l.id (arc_value l.node).node) l.places.items;
}

abbrev pub decreases-loop-seat : goal.decreases-loop-seat
decreases-loop-seat l = vec_len l.seats
