-- Small histories, worked by computation: which replies are right, and of each refusal a reply in its place that is wrong.
use Rattle.std.proofs.Common.{take, drop, is_some, Option, Some, None, ◌≡◌, ℕ, true, false, pos, List, [], ◌∷◌, refl, sym, ap, rules, true≢false, suc-ne-zero, length, subst}
use Rattle.lus_values.specs.declared.operator.Op.TheVariants.{Divide}
use Rattle.lus_values.specs.declared.operator.Operator.TheVariants.{Compute}
use Rattle.lus_values.specs.Values.{Value, enum, Row}
use Rattle.lus_program.specs.Programs.{enumeration, merge, operate, pre, variable, Program}
use Rattle.lus_requests.specs.declared.request.Request.{Request}
use Rattle.lus_requests.specs.declared.request.Request.TheVariants.{Step, Reset, Save, Restore, Burst}
use Rattle.lus_requests.specs.declared.request.Reply.{Reply}
use Rattle.lus_requests.specs.declared.request.Reply.TheVariants.{Outputs, Rows, Done, Refused}
use Rattle.lus_requests.specs.declared.request.Why.TheVariants.{Shape, Presence, Fault, NoSave}
use Rattle.lus_requests.specs.declared.request.Entry.{Entry}
use Rattle.lus_streams.specs.Streams.{instant, World, Streams, value}
use Rattle.lus_program.specs.declared.types.Kind.TheVariants.{Bool as BoolKind, Enum as EnumKind}
use Rattle.lus_streams.proofs.Examples.{at_base, plain, tested, node, equation, program, two, number, some, truth, summed, summed_at, divided_by_past, divided_by_past_at, nil_divides_without_fault}
use Rattle.lus_streams.proofs.Unique.{streams_unique}
use Rattle.lus_simulation.specs.Lineages.{Gives}
use Rattle.lus_history.specs.Replies.{AnswersStep, misshapen, misplaced, answered, faulted}
use Rattle.lus_history.specs.Pasts.{lineage}
use Rattle.lus_history.specs.Histories.{History, Right, empty, more}

abbrev entry : Request → Reply → Entry
entry r a = record { caller = 0; request = r; reply = a }

-- ---- y = x + (0 -> pre y): saves, and restores to them

abbrev sums : Program
sums = program (summed ∷ [])

abbrev step : ℕ → Request
step x = Step (some x ∷ [])

abbrev gives : ℕ → Reply
gives y = Outputs (some y ∷ [])

-- step 1, save 0, step 5, restore 0, step 2, restore 3, save 8
abbrev saving : List Entry
saving =
    entry (step 1) (gives 1) ∷ entry (Save 0) Done ∷ entry (step 5) (gives 6) ∷ entry (Restore 0) Done ∷ entry (step 2) (gives 3)
    ∷ entry (Restore 3) (Refused NoSave) ∷ entry (Save 8) (Refused Shape) ∷ []

first_sum : Gives sums 0 ((some 1 ∷ []) ∷ []) (some 1 ∷ [])
first_sum = record { world = summed_at (pos 1) (pos 1) ∷ []; streams = search rules; last = refl }

sum_of_two : Gives sums 0 ((some 5 ∷ []) ∷ (some 1 ∷ []) ∷ []) (some 6 ∷ [])
sum_of_two = record { world = summed_at (pos 5) (pos 6) ∷ summed_at (pos 1) (pos 1) ∷ []; streams = search rules; last = refl }

-- after the restore the 5 is forgotten
sum_after_restore : Gives sums 0 ((some 2 ∷ []) ∷ (some 1 ∷ []) ∷ []) (some 3 ∷ [])
sum_after_restore = record { world = summed_at (pos 2) (pos 3) ∷ summed_at (pos 1) (pos 1) ∷ []; streams = search rules; last = refl }

saves_are_restored : History sums 0 saving
saves_are_restored =
    more (take 6 saving) (entry (Save 8) (Refused Shape))
    (more (take 5 saving) (entry (Restore 3) (Refused NoSave))
    (more (take 4 saving) (entry (step 2) (gives 3))
    (more (take 3 saving) (entry (Restore 0) Done)
    (more (take 2 saving) (entry (step 5) (gives 6))
    (more (take 1 saving) (entry (Save 0) Done)
    (more [] (entry (step 1) (gives 1)) empty (answered refl refl (some 1 ∷ []) first_sum))
    refl)
    (answered refl refl (some 6 ∷ []) sum_of_two))
    refl)
    (answered refl refl (some 3 ∷ []) sum_after_restore))
    refl)
    refl

restored_lineage : lineage saving ≡ (some 2 ∷ []) ∷ (some 1 ∷ []) ∷ []
restored_lineage = refl

-- step 1, save 0, step 2, save 1, restore 0, step 10, reset, step 5, restore 1, step 4
abbrev saving_twice : List Entry
saving_twice =
    entry (step 1) (gives 1) ∷ entry (Save 0) Done ∷ entry (step 2) (gives 3) ∷ entry (Save 1) Done ∷ entry (Restore 0) Done
    ∷ entry (step 10) (gives 11) ∷ entry Reset Done ∷ entry (step 5) (gives 5) ∷ entry (Restore 1) Done ∷ entry (step 4) (gives 7) ∷ []

sum_of_one_and_two : Gives sums 0 ((some 2 ∷ []) ∷ (some 1 ∷ []) ∷ []) (some 3 ∷ [])
sum_of_one_and_two = sum_after_restore

sum_of_eleven : Gives sums 0 ((some 10 ∷ []) ∷ (some 1 ∷ []) ∷ []) (some 11 ∷ [])
sum_of_eleven = record { world = summed_at (pos 10) (pos 11) ∷ summed_at (pos 1) (pos 1) ∷ []; streams = search rules; last = refl }

sum_after_reset : Gives sums 0 ((some 5 ∷ []) ∷ []) (some 5 ∷ [])
sum_after_reset = record { world = summed_at (pos 5) (pos 5) ∷ []; streams = search rules; last = refl }

sum_of_three : Gives sums 0 ((some 4 ∷ []) ∷ (some 2 ∷ []) ∷ (some 1 ∷ []) ∷ []) (some 7 ∷ [])
sum_of_three = record { world = summed_at (pos 4) (pos 7) ∷ summed_at (pos 2) (pos 3) ∷ summed_at (pos 1) (pos 1) ∷ []; streams = search rules; last = refl }

slots_are_kept : History sums 0 saving_twice
slots_are_kept =
    more (take 9 saving_twice) (entry (step 4) (gives 7))
    (more (take 8 saving_twice) (entry (Restore 1) Done)
    (more (take 7 saving_twice) (entry (step 5) (gives 5))
    (more (take 6 saving_twice) (entry Reset Done)
    (more (take 5 saving_twice) (entry (step 10) (gives 11))
    (more (take 4 saving_twice) (entry (Restore 0) Done)
    (more (take 3 saving_twice) (entry (Save 1) Done)
    (more (take 2 saving_twice) (entry (step 2) (gives 3))
    (more (take 1 saving_twice) (entry (Save 0) Done)
    (more [] (entry (step 1) (gives 1)) empty (answered refl refl (some 1 ∷ []) first_sum))
    refl)
    (answered refl refl (some 3 ∷ []) sum_of_one_and_two))
    refl)
    refl)
    (answered refl refl (some 11 ∷ []) sum_of_eleven))
    refl)
    (answered refl refl (some 5 ∷ []) sum_after_reset))
    refl)
    (answered refl refl (some 7 ∷ []) sum_of_three)

-- neither the reset nor the other slot's restore changed slot 1
second_slot : lineage (take 9 saving_twice) ≡ (some 2 ∷ []) ∷ (some 1 ∷ []) ∷ []
second_slot = refl

-- a slot that nothing was saved in doesn't reset
empty_slot_resets : Right sums 0 (take 5 saving) (Restore 3) Done → ⊥
empty_slot_resets h = cc

-- there is no slot 8
slot_past_the_last : Right sums 0 (take 6 saving) (Save 8) Done → ⊥
slot_past_the_last h = cc

-- no number is refused for shape
row_that_fits : Right sums 0 [] (step 1) (Refused Shape) → ⊥
row_that_fits (misshapen shape) = true≢false shape

-- a truth value isn't given outputs, nor refused for anything but shape
row_that_does_not_fit : (a : Reply) → Right sums 0 [] (Step (truth true ∷ [])) a → a ≡ Refused Shape
row_that_does_not_fit _ (misshapen shape) = refl
row_that_does_not_fit _ (misplaced shape presence) = absurd (true≢false (sym shape))
row_that_does_not_fit _ (answered shape presence o g) = absurd (true≢false (sym shape))
row_that_does_not_fit _ (faulted shape presence n) = absurd (true≢false (sym shape))

-- a step with streams is no fault
step_with_streams : Right sums 0 (take 4 saving) (step 2) (Refused Fault) → ⊥
step_with_streams (faulted shape presence none) = none sum_after_restore.world sum_after_restore.streams

-- two rows in one burst are two steps
burst_of_two : Right sums 0 [] (Burst ((some 1 ∷ []) ∷ (some 5 ∷ []) ∷ [])) (Rows ((some 1 ∷ []) ∷ (some 6 ∷ []) ∷ []))
burst_of_two = (answered refl refl (some 1 ∷ []) first_sum, (answered refl refl (some 6 ∷ []) sum_of_two, tt))

-- a burst with a row that doesn't fit gives no rows
burst_that_does_not_fit : (outputs : List Row) → Right sums 0 [] (Burst ((truth true ∷ []) ∷ [])) (Rows outputs) → ⊥
burst_that_does_not_fit [] h = h
burst_that_does_not_fit (o ∷ outputs) h = outputs_fit h.0
  where
    outputs_fit : AnswersStep sums 0 [] (truth true ∷ []) (Outputs o) → ⊥
    outputs_fit (answered shape presence r g) = true≢false (sym shape)

-- ---- y = x, on c: an input is present exactly where its clock is

abbrev sometimes : Program
sometimes = program (node 2 1 (record { name = []; kind = BoolKind; test = None } ∷ tested 0 1 ∷ tested 0 1 ∷ []) (equation 2 (variable 1) ∷ []) ∷ [])

absent_where_the_clock_is : Right sometimes 0 [] (Step (truth false ∷ None ∷ [])) (Outputs (None ∷ []))
absent_where_the_clock_is = answered refl refl (None ∷ []) (record { world = at_base (truth false ∷ None ∷ None ∷ []) ∷ []; streams = search rules; last = refl })

present_where_the_clock_is_not : (a : Reply) → Right sometimes 0 [] (Step (truth false ∷ some 1 ∷ [])) a → a ≡ Refused Presence
present_where_the_clock_is_not _ (misshapen shape) = absurd (true≢false shape)
present_where_the_clock_is_not _ (misplaced shape presence) = refl
present_where_the_clock_is_not _ (answered shape presence o g) = absurd (true≢false (sym presence))
present_where_the_clock_is_not _ (faulted shape presence n) = absurd (true≢false (sym presence))

-- ---- y = merge k (A -> a) (B -> b): an instant that is refused is in no lineage

-- type e = enum { A, B }
abbrev choices : Program
choices = record {
  types = enumeration ([] ∷ [] ∷ []) ∷ [];
  nodes = node 3 1 (record { name = []; kind = EnumKind 0; test = None } ∷ tested 0 0 ∷ tested 0 1 ∷ plain ∷ []) (equation 3 (merge 0 (two (variable 1) (variable 2))) ∷ []) ∷ [];
}

abbrev chosen : ℕ → Option Value → Option Value → Row
chosen k a b = Some (enum 0 k) ∷ a ∷ b ∷ []

-- step A 1 -, step B 1 2, step B - 2
abbrev choosing : List Entry
choosing =
    entry (Step (chosen 0 (some 1) None)) (gives 1) ∷ entry (Step (chosen 1 (some 1) (some 2))) (Refused Presence)
    ∷ entry (Step (chosen 1 None (some 2))) (gives 2) ∷ []

first_choice : Gives choices 0 (chosen 0 (some 1) None ∷ []) (some 1 ∷ [])
first_choice = record { world = at_base (Some (enum 0 0) ∷ some 1 ∷ None ∷ some 1 ∷ []) ∷ []; streams = search rules; last = refl }

second_choice : Gives choices 0 (chosen 1 None (some 2) ∷ chosen 0 (some 1) None ∷ []) (some 2 ∷ [])
second_choice = record {
  world = at_base (Some (enum 0 1) ∷ None ∷ some 2 ∷ some 2 ∷ []) ∷ at_base (Some (enum 0 0) ∷ some 1 ∷ None ∷ some 1 ∷ []) ∷ [];
  streams = search rules;
  last = refl;
}

choices_are_present : History choices 0 choosing
choices_are_present =
    more (take 2 choosing) (entry (Step (chosen 1 None (some 2))) (gives 2))
    (more (take 1 choosing) (entry (Step (chosen 1 (some 1) (some 2))) (Refused Presence))
    (more [] (entry (Step (chosen 0 (some 1) None)) (gives 1)) empty (answered refl refl (some 1 ∷ []) first_choice))
    (misplaced refl refl))
    (answered refl refl (some 2 ∷ []) second_choice)

-- ---- y = 1 -> 10 div pre x: a refused instant isn't remembered

abbrev quotients : Program
quotients = program (divided_by_past ∷ [])

-- 10 div 0 has no value, whatever this instant's input is
division_faults : (i : Row) (w : World) → Streams quotients 0 (i ∷ (some 0 ∷ []) ∷ []) w → ⊥
division_faults i [] s = suc-ne-zero _ (sym (ap length s.rows))
division_faults i (instant b row js ∷ past) s =
    let before : past ≡ divided_by_past_at 0 1 ∷ [] =
    streams_unique quotients ((1 ∷ 0 ∷ [], search rules), tt) (search rules) 0 ((some 0 ∷ []) ∷ []) past (divided_by_past_at 0 1 ∷ [])
    (record { satisfied = s.satisfied.1; always = s.always.1; rows = ap (drop 1) s.rows }) nil_divides_without_fault in
    let quotient = operate (Compute Divide) (two (number 10) (pre (variable 0))) in
    let has_value : is_some (value quotients quotient [] (instant b row js) past) ≡ true = s.satisfied.0.0.no_fault.1.1.0 s.always.0 in
    true≢false (sym (subst (λ w. is_some (value quotients quotient [] (instant b row js) w) ≡ true) before has_value))

first_quotient : Gives quotients 0 ((some 0 ∷ []) ∷ []) (some 1 ∷ [])
first_quotient = record { world = divided_by_past_at 0 1 ∷ []; streams = nil_divides_without_fault; last = refl }

-- step 0, step 0, step 3
abbrev faulting : List Entry
faulting = entry (step 0) (gives 1) ∷ entry (step 0) (Refused Fault) ∷ entry (step 3) (Refused Fault) ∷ []

faults_are_not_remembered : History quotients 0 faulting
faults_are_not_remembered =
    more (take 2 faulting) (entry (step 3) (Refused Fault))
    (more (take 1 faulting) (entry (step 0) (Refused Fault))
    (more [] (entry (step 0) (gives 1)) empty (answered refl refl (some 1 ∷ []) first_quotient))
    (faulted refl refl (division_faults (some 0 ∷ []))))
    (faulted refl refl (division_faults (some 3 ∷ [])))

-- no outputs are right where the instant faults
fault_gives_outputs : (o : Row) → Right quotients 0 (take 1 faulting) (step 0) (Outputs o) → ⊥
fault_gives_outputs _ (answered shape presence o g) = division_faults (some 0 ∷ []) g.world g.streams
