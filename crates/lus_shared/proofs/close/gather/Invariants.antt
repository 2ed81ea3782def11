use Rattle.std.proofs.Common.{◌≡◌, ◌++◌, [], List, false, vec_len}
use Rattle.lus_shared.specs.Knowledge.{Standing}
use Rattle.std.specs.List.{All}
use Rattle.lus_shared.specs.Closing.{all_facts}
use Rattle.lus_shared.proofs.close.gather.Given as goal

abbrev pub invariant-loop-seat : goal.invariant-loop-seat
invariant-loop-seat l = record {
  table : l.all.table_id ≡ l.board.shared.table_id;
  own : All (λ (s : Standing). s.instance.table ≡ l.board.shared.table_id) l.seats.items;
  joined : (done : List Standing) × (l.fn.seats.items ≡ l.seats.items ++ done) × (l.all.me ≡ (record { taker = false; seats = all_facts done }, []));
}

abbrev pub decreases-loop-seat : goal.decreases-loop-seat
decreases-loop-seat l = vec_len l.seats
