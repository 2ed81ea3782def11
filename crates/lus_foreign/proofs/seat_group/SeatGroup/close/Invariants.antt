use Rattle.std.proofs.Common.{◌≡◌, ◌++◌, reverse, vec_len, IfSome}
use Rattle.std.specs.List.{All}
use Rattle.lus_shared.specs.Knowledge.{Standing, Instance}
use Rattle.lus_foreign.specs.Seated.{Seated, standings}
use Rattle.lus_foreign.proofs.seat_group.SeatGroup.close.Given as goal

abbrev pub invariant-loop-place : goal.invariant-loop-place
invariant-loop-place l = record {
  at_one : (i : Instance) × All (λ (p : Seated). p.standing.instance ≡ i) l.initial.places.items × All (λ (p : Seated). p.standing.instance ≡ i) l.places.items
      × All (λ (s : Standing). s.instance ≡ i) l.seats.items × IfSome l.found (λ o. o.node ≡ i);
  order : standings (reverse l.initial.places.items) ≡ l.seats.items ++ standings (reverse l.places.items);
}

abbrev pub decreases-loop-place : goal.decreases-loop-place
decreases-loop-place l = vec_len l.places
