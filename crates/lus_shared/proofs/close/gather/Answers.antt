use Rattle.std.proofs.Common.{◌≡◌, ap, ◌∙◌, arith, Some}
use Rattle.lus_shared.specs.Knowledge.{Standing}
use Rattle.std.proofs.lemmas.List.Elements.{All-pop}
use Rattle.lus_shared.proofs.Keeps.{joins}
use Rattle.lus_shared.proofs.Steps.{Sat}
use Rattle.lus_shared.proofs.close.gather.Goals as goal

pub join_seat-requires : goal.join_seat-requires
join_seat-requires c =
    let own = All-pop (λ (s : Standing). s.instance.table ≡ c.args.board.now.shared.table_id) c.loop-seat.seats.items c.pop-in-loop-seat.new.self.items (Some c.in-Some.seat) c.in-Some.ensures.items c.loop-seat.invariant.own in
    let free = ap (λ (m : Sat). m.0.taker) c.loop-seat.invariant.joined.2 in
    let free' = ap (λ (m : Sat). m.0.taker) c.into_place.ensures.1 in
    (c.loop-seat.invariant.table, c.into_place.ensures.0 ∙ own.1, ap (λ (m : Sat). m.1) c.into_place.ensures.1, omega (arith, c.requires.words), joins _ _ _ _ _ free free')
