use Rattle.std.proofs.Common.{◌≡◌, ◌∙◌, ap, sym, length, ℕ, eq-eqb, nat_eq, true, arith}
use Rattle.std.proofs.lemmas.Grind.{common_steps}
use Rattle.lus_shared.proofs.Numbers.{all_below, none_of_others}
use Rattle.lus_shared.proofs.locked.are_all.Goals as goal

told_same : (m n : ℕ) → nat_eq m n ≡ true → m ≡ n
told_same m n h = grind (arith, common_steps)

pub returns-then-not-has_no_other-clause-made : goal.returns-then-not-has_no_other-clause-made
returns-then-not-has_no_other-clause-made c =
    ((λ f. absurd (cc f)), λ h. let below = c.has_no_other.ensures.1 (all_below c.args.callers c.args.seats.now h.all.no_other) in absurd (cc (below, c.if-not-has_no_other.true)))

pub returns-clause-made : goal.returns-clause-made
returns-clause-made c =
    let entries : length c.history.result.now ≡ length c.args.machine.now.history = ap length c.history.ensures.value in (
      (λ same. record {
        all = record { once = c.has_all.ensures.0 c.if-not-has_all.false; no_other = λ k l. none_of_others c.args.callers k c.args.seats.now (c.has_no_other.ensures.0 c.if-not-has_no_other.false) l };
        counted = sym c.shares.ensures ∙ (told_same _ _ same ∙ entries);
      }),
      λ h. eq-eqb _ _ (c.shares.ensures ∙ (h.counted ∙ sym entries)),
    )
