use Rattle.std.proofs.Common.{◌≡◌, ◌==◌, ◌<◌, ℕ, List, true, sym, subst, refl}
use Rattle.std.specs.List.{count_by}
use Rattle.lus_shared.specs.Knowledge.{Standing}
use Rattle.lus_shared.proofs.seat.SeatNode.close.Goals as goal

abbrev AllOnce : ℕ × List Standing → Type 0
AllOnce p = (k : ℕ) → k < p.0 → count_by (λ (s : Standing). s.number == k) p.1 ≡ 1

pub returns-then-not-has_all-clause-err : goal.returns-then-not-has_all-clause-err
returns-then-not-has_all-clause-err c =
    (refl, refl, λ all. let have : c.has_all.result ≡ true = c.has_all.ensures.1 (subst AllOnce (λ i. (sym c.callers.ensures i, sym c.as_slice.ensures.value i)) all.once) in cc (have, c.if-not-has_all.true))

pub finish-requires-clause-all : goal.finish-requires-clause-all
finish-requires-clause-all c = subst AllOnce (λ i. (c.callers.ensures i, c.as_slice.ensures.value i)) (c.has_all.ensures.0 c.if-not-has_all.false)
