-- Which of the small nodes are on clocks, causal and flagged, and inputs for which some have no streams.
use Rattle.std.proofs.Common.{take, drop, is_some, Some, None, ◌≡◌, ℕ, Bool, true, false, pos, [], ◌∷◌, length, refl, sym, ap, ◌∙◌, ◌||◌, ◌⊎◌, rules, true≢false, suc-ne-zero, subst, IsTrue, arith, inl, inr}
use Rattle.lus_values.specs.declared.operator.Op.TheVariants.{Add, Divide}
use Rattle.lus_values.specs.declared.operator.Operator.TheVariants.{Compute}
use Rattle.lus_values.specs.Lists.{item}
use Rattle.lus_values.specs.Operators.{apply}
use Rattle.lus_values.specs.Entries.{with_operand, with_operands}
use Rattle.lus_program.specs.Programs.{variable, operate, pre, arrow, merge, Node}
use Rattle.lus_streams.specs.OnClock.{IsOnClocks, ProgramOnClocks}
use Rattle.lus_streams.specs.Order.{IsOrder, HasOrder, IsCausal, needed, is_in}
use Rattle.lus_streams.specs.Flags.{AreFlagsOf}
use Rattle.lus_streams.specs.Streams.{instant, World, Streams, value}
use Rattle.lus_streams.proofs.Examples.{plain, tested, equation, node, program, two, number, some, truth, counter, counted, restarted, summed, summed_at, sum_at_limit, sampled, counted_on, merged, divided_late, divided_early, divided_by_past, divided_by_past_at, nil_divides_without_fault}
use Rattle.lus_streams.proofs.Lists.{item_take}
use Rattle.lus_streams.proofs.Orders.{no_cycle}
use Rattle.lus_streams.proofs.Unique.{streams_unique}

counter_clocks : IsOnClocks (program (counter ∷ [])) counter
counter_clocks = search rules

sampled_clocks : IsOnClocks (program (sampled ∷ [])) sampled
sampled_clocks = search rules

counted_on_clocks : ProgramOnClocks (program (counter ∷ counted_on ∷ []))
counted_on_clocks = search rules

merged_clocks : IsOnClocks (program (merged ∷ [])) merged
merged_clocks = search rules

divided_late_clocks : IsOnClocks (program (divided_late ∷ [])) divided_late
divided_late_clocks = search rules

sampled_order : IsOrder sampled (2 ∷ 3 ∷ 1 ∷ 0 ∷ [])
sampled_order = search rules

merged_order : IsOrder merged (3 ∷ 2 ∷ 1 ∷ 0 ∷ [])
merged_order = search rules

counted_on_causal : IsCausal (program (counter ∷ counted_on ∷ []))
counted_on_causal = ((0 ∷ [], search rules), ((1 ∷ 0 ∷ [], search rules), tt))

sampled_flags : AreFlagsOf (λ x. false) (program (sampled ∷ [])) sampled
sampled_flags = search rules

restarted_flags : AreFlagsOf (λ x. false) (program (restarted ∷ [])) restarted
restarted_flags = search rules

-- y = x + z, z on c
added : Node
added = node 3 1 (plain ∷ plain ∷ tested 0 1 ∷ plain ∷ []) (equation 3 (operate (Compute Add) (two (variable 1) (variable 2))) ∷ [])

operands_of_two_clocks : IsOnClocks (program (added ∷ [])) added → ⊥
unfolding added
operands_of_two_clocks h = suc-ne-zero 0 (ap length h.rights.0.1.1.0)

-- y = pre x
bare : Node
bare = node 1 1 (plain ∷ plain ∷ []) (equation 1 (pre (variable 0)) ∷ [])

bare_pre_as_output : (flags : ℕ → Bool) → AreFlagsOf flags (program (bare ∷ [])) bare → ⊥
unfolding bare
bare_pre_as_output flags h = true≢false (sym h.defined.0 ∙ h.public.0)

-- y = 0 -> merge c (true -> pre a) (false -> b)
branched : Node
branched = node 3 1 (plain ∷ tested 0 1 ∷ tested 0 0 ∷ plain ∷ []) (equation 3 (arrow (number 0) (merge 0 (two (variable 2) (pre (variable 1))))) ∷ [])

bare_pre_as_branch : (flags : ℕ → Bool) → AreFlagsOf flags (program (branched ∷ [])) branched → ⊥
unfolding branched
bare_pre_as_branch flags h = nil_branch (flags 2) h.parts.1.1.0.1
  where
    nil_branch : (b : Bool) → (b || (true || false)) ≡ false → ⊥
    nil_branch true e = true≢false e
    nil_branch false e = true≢false e

-- a = b; b = a
circular : Node
circular = node 1 1 (plain ∷ plain ∷ plain ∷ []) (equation 1 (variable 2) ∷ equation 2 (variable 1) ∷ [])

abbrev InCycle : ℕ → Type 0
InCycle x = (x ≡ 1) ⊎ (x ≡ 2)

next : (x : ℕ) → InCycle x → (y : ℕ) × InCycle y × IsTrue (is_in (needed circular x) y)
unfolding circular
next x (inl e) = (2, inr refl, subst (λ z. IsTrue (is_in (needed circular z) 2)) (sym e) refl)
next x (inr e) = (1, inl refl, subst (λ z. IsTrue (is_in (needed circular z) 1)) (sym e) refl)

cycle_has_no_order : HasOrder circular → ⊥
unfolding circular
cycle_has_no_order o = no_cycle circular InCycle next o 1 (omega arith) (inl refl)

-- any other world is refused
counter_counts_only : (w : World) → Streams (program (counter ∷ [])) 0 ([] ∷ [] ∷ []) w → w ≡ counted 1 ∷ counted 0 ∷ []
counter_counts_only w s = streams_unique (program (counter ∷ [])) ((0 ∷ [], search rules), tt) (search rules) 0 ([] ∷ [] ∷ []) w (counted 1 ∷ counted 0 ∷ []) s (search rules)

-- 10 div 0 is a fault also where the result is absent
early_division_faults : (w : World) → Streams (program (divided_early ∷ [])) 0 ((some 0 ∷ truth false ∷ []) ∷ []) w → ⊥
early_division_faults [] s = suc-ne-zero 0 (sym (ap length s.rows))
early_division_faults (instant b row js ∷ past) s =
    let first : take 2 row ≡ some 0 ∷ truth false ∷ [] = ap (λ l. item [] l 0) s.rows in
    let x : item None row 0 ≡ some 0 = sym (item_take None 2 row 0 (omega arith)) ∙ ap (λ r. item None r 0) first in
    let value_at : is_some (with_operands (apply (Compute Divide)) (with_operand (some 10) (with_operand (item None row 0) (Some [])))) ≡ true = s.satisfied.0.0.no_fault.1.0 s.always.0 in
    true≢false (sym (subst (λ v. is_some (with_operands (apply (Compute Divide)) (with_operand (some 10) (with_operand v (Some [])))) ≡ true) x value_at))

-- x + (0 -> pre y) past the greatest number is a fault
sum_past_limit_faults : (w : World) → Streams (program (summed ∷ [])) 0 ((some 1 ∷ []) ∷ (some 9223372036854775807 ∷ []) ∷ []) w → ⊥
sum_past_limit_faults [] s = suc-ne-zero _ (sym (ap length s.rows))
sum_past_limit_faults (instant b row js ∷ past) s =
    let p = program (summed ∷ []) in
    let before : past ≡ summed_at (pos 9223372036854775807) (pos 9223372036854775807) ∷ [] =
    streams_unique p ((1 ∷ 0 ∷ [], search rules), tt) (search rules) 0 ((some 9223372036854775807 ∷ []) ∷ []) past (summed_at (pos 9223372036854775807) (pos 9223372036854775807) ∷ [])
    (record { satisfied = s.satisfied.1; always = s.always.1; rows = ap (drop 1) s.rows }) sum_at_limit in
    let first : take 1 row ≡ some 1 ∷ [] = ap (λ l. item [] l 0) s.rows in
    let x : item None row 0 ≡ some 1 = sym (item_take None 1 row 0 (omega arith)) ∙ ap (λ r. item None r 0) first in
    let sum = operate (Compute Add) (two (variable 0) (arrow (number 0) (pre (variable 1)))) in
    let has_value : is_some (value p sum [] (instant b row js) past) ≡ true = s.satisfied.0.0.no_fault.0 s.always.0 in
    let after_limit : is_some (value p sum [] (instant b row js) (summed_at (pos 9223372036854775807) (pos 9223372036854775807) ∷ [])) ≡ true = subst (λ w. is_some (value p sum [] (instant b row js) w) ≡ true) before has_value in
    true≢false (sym (subst (λ v. is_some (with_operands (apply (Compute Add)) (with_operand v (with_operand (some 9223372036854775807) (Some [])))) ≡ true) x after_limit))

-- 10 div pre x, where x was 0
past_division_faults : (w : World) → Streams (program (divided_by_past ∷ [])) 0 ((some 0 ∷ []) ∷ (some 0 ∷ []) ∷ []) w → ⊥
past_division_faults [] s = suc-ne-zero _ (sym (ap length s.rows))
past_division_faults (instant b row js ∷ past) s =
    let p = program (divided_by_past ∷ []) in
    let before : past ≡ divided_by_past_at 0 1 ∷ [] =
    streams_unique p ((1 ∷ 0 ∷ [], search rules), tt) (search rules) 0 ((some 0 ∷ []) ∷ []) past (divided_by_past_at 0 1 ∷ [])
    (record { satisfied = s.satisfied.1; always = s.always.1; rows = ap (drop 1) s.rows }) nil_divides_without_fault in
    let quotient = operate (Compute Divide) (two (number 10) (pre (variable 0))) in
    let has_value : is_some (value p quotient [] (instant b row js) past) ≡ true = s.satisfied.0.0.no_fault.1.1.0 s.always.0 in
    true≢false (sym (subst (λ w. is_some (value p quotient [] (instant b row js) w) ≡ true) before has_value))
