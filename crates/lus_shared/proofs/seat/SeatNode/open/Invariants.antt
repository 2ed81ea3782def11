use Rattle.std.proofs.Common.{◌≡◌, ◌≤◌, [], false, ◌-◌, vec_capacity}
use Rattle.lus_shared.specs.Rule.{fresh}
use Rattle.lus_shared.specs.Key.{origin_of}
use Rattle.lus_shared.specs.Views.{fresh_seats}
use Rattle.lus_shared.proofs.seat.SeatNode.open.Given as goal

abbrev pub invariant-loop-number : goal.invariant-loop-number
invariant-loop-number l = record {
  table : l.rest.table_id ≡ l.table.shared.table_id;
  rest : l.rest.me ≡ (record { taker = false; seats = fresh (origin_of l.table.shared.key) l.number (l.callers - l.number) }, []);
  items : l.seats.items ≡ fresh_seats record { table = l.table.shared.table_id; origin = origin_of l.table.shared.key } 0 l.number;
  room : l.callers ≤ vec_capacity l.seats;
}
