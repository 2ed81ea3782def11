use Rattle.std.proofs.Common.{refl, ◌≡◌, ap, sym, ◌∙◌, map, List, ℕ, ◌++◌, ◌∷◌, [], arith}
use Rattle.std.specs.List.{range_with_len}
use Rattle.std.proofs.lemmas.List.{map-append}
use Rattle.std.proofs.lemmas.List.Elements.{All-push, All-same}
use Rattle.lus_shared.specs.declared.locked.LockedSeat.{LockedSeat}
use Rattle.lus_shared.proofs.Numbers.{numbers_next}
use Rattle.lus_shared.proofs.locked.LockedNodeShared.open.Goals as goal

pub loop-number-preserved : goal.loop-number-preserved
loop-number-preserved c =
    let more = numbers_next c.loop-number.number in
    let inv = c.loop-number.invariant in
    let seat : LockedSeat = record { number = c.loop-number.number; share = 0 } in (
      omega (arith, c.push_reserved.ensures.len, inv.0),
      omega (arith, c.push_reserved.ensures.capacity, inv.1),
      ap (map (λ (s : LockedSeat). s.number)) c.push_reserved.ensures.items ∙ (map-append (λ (s : LockedSeat). s.number) c.loop-number.seats.items (seat ∷ []) ∙ (ap (λ (ns : List ℕ). ns ++ c.loop-number.number ∷ []) inv.2 ∙ sym more)),
      All-same (λ (s : LockedSeat). s.share ≡ 0) _ _ c.push_reserved.ensures.items (All-push (λ (s : LockedSeat). s.share ≡ 0) c.loop-number.seats.items seat inv.3 refl),
    )

pub returns-clause-numbers : goal.returns-clause-numbers
returns-clause-numbers c =
    let all : c.loop-number.number ≡ c.args.callers = omega (arith, c.loop-number-test.false, c.loop-number.auto.number-end) in
    c.loop-number.invariant.2 ∙ ap (range_with_len 0) all
