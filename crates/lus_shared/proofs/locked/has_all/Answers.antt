use Rattle.std.proofs.Common.{◌≡◌, sym, ◌∙◌, arith, refl, below_more, ℕ, ◌==◌}
use Rattle.std.specs.List.{count_by}
use Rattle.lus_shared.specs.declared.locked.LockedSeat.{LockedSeat}
use Rattle.lus_shared.proofs.locked.has_all.Goals as goal

pub returns-then-count_number-ne1 : goal.returns-then-count_number-ne1
returns-then-count_number-ne1 c = ((λ f. absurd (cc f)), λ h. absurd (c.if-count_number-ne1.true (c.count_number.ensures ∙ h c.loop-number.number c.loop-number-test.true)))

pub loop-number-preserved : goal.loop-number-preserved
loop-number-preserved c = below_more (λ (k : ℕ). count_by (λ (s : LockedSeat). s.number == k) c.args.seats.now ≡ 1) _ c.loop-number.invariant (sym c.count_number.ensures ∙ c.if-count_number-ne1.false)

pub returns : goal.returns
returns c = ((λ _ k l. c.loop-number.invariant k (omega (arith, l, c.loop-number-test.false))), λ _. refl)
