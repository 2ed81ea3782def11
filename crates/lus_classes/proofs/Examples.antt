-- Classes of small nodes without calls, and steps of theirs.
use Rattle.std.proofs.Common.{◌≡◌, ℕ, zero, suc, ◌<◌, ◌≤◌, Bool, true, false, pos, [], ◌∷◌, Option, Some, None, refl, arith}
use Rattle.std.proofs.Math.Logic.{inl, inr}
use Rattle.lus_values.specs.Lists.{Each}
use Rattle.lus_values.specs.Values.{Value, int, enum, nil}
use Rattle.lus_program.specs.Programs.{Program, empty_node}
use Rattle.lus_streams.specs.Clocks.{Clock, clock_of}
use Rattle.lus_streams.specs.Order.{clock_variables}
use Rattle.lus_streams.proofs.Examples.{program, some, truth, sampled, merged}
use Rattle.lus_classes.specs.Classes.{named, fixed, fetch, recall, choose, select, no_code, also_code, Class, empty_class, clock_in}
use Rattle.lus_classes.specs.States.{State, state, no_state, fresh}
use Rattle.lus_classes.specs.Steps.{step}
use Rattle.lus_classes.specs.ClassesOf.{IsTarget, IsClassOf, AreClassesOf}

-- variable x is true
abbrev pub on : ℕ → Clock
on x = record { variable = x; constructor = 1 } ∷ []

-- a number that no node has
pub none_is : (p : Program) → IsClassOf p empty_node empty_class
none_is p = record {
  inputs = refl;
  narrow = omega arith;
  width = refl;
  clocks = λ x. refl;
  input_clocks = λ x lt. absurd (omega (arith, lt));
  steps = tt;
  turns = tt;
  every = λ x le lt. absurd (omega (arith, lt));
  covered = tt;
  calls = tt;
  memories = tt;
}

-- s = x when c; y = 0 -> pre s: the cell keeps s, on the clock of s
abbrev sampled_class : Class
sampled_class = record {
  inputs = 2;
  clocks = [] ∷ [] ∷ on 0 ∷ on 0 ∷ [];
  steps = record { target = 3; code = fetch 1 } ∷ record { target = 2; code = choose 0 (fixed (int (pos 0))) (recall 0) } ∷ [];
  memories = record { clock = on 0; operand = named 3 } ∷ [];
  firsts = on 0 ∷ [];
  calls = [];
}

abbrev sampled_state : Value → Bool → State
sampled_state v b = state (v ∷ []) (b ∷ []) no_state

sampled_first : step (sampled_class ∷ []) (fresh (sampled_class ∷ []) 1 0) 0 (truth false ∷ some 1 ∷ []) ≡ Some (truth false ∷ some 1 ∷ None ∷ None ∷ [], sampled_state nil true)
sampled_first = refl

sampled_second : step (sampled_class ∷ []) (sampled_state nil true) 0 (truth true ∷ some 2 ∷ []) ≡ Some (truth true ∷ some 2 ∷ some 0 ∷ some 2 ∷ [], sampled_state (int (pos 2)) false)
sampled_second = refl

sampled_third : step (sampled_class ∷ []) (sampled_state (int (pos 2)) false) 0 (truth true ∷ some 3 ∷ []) ≡ Some (truth true ∷ some 3 ∷ some 2 ∷ some 3 ∷ [], sampled_state (int (pos 3)) false)
sampled_third = refl

sampled_is : IsClassOf (program (sampled ∷ [])) sampled sampled_class
sampled_is = record {
  inputs = refl;
  narrow = omega arith;
  width = refl;
  clocks = clocks;
  input_clocks = input_clocks;
  steps = (
    record { source = inr (refl, record { atom = named 1; same = refl; code = refl; on_clock = (refl, omega arith) }); within = omega arith; no_input = omega arith },
    (record { source = inr (refl, (refl, refl, record { atom = named 3; here = refl; same = refl; on_clock = (refl, omega arith) })); within = omega arith; no_input = omega arith }, tt),
  );
  turns = ((refl, (refl, tt)), refl, omega arith, ((refl, tt), refl, omega arith, tt));
  every = every;
  covered = (
    record { place = 0; step = record { target = 3; code = fetch 1 }; here = refl; defined = refl; clock = refl },
    (record { place = 1; step = record { target = 2; code = choose 0 (fixed (int (pos 0))) (recall 0) }; here = refl; defined = refl; clock = refl }, tt),
  );
  calls = tt;
  memories = ((refl, omega arith), tt);
}
  where
    clocks : (x : ℕ) → clock_in sampled_class x ≡ clock_of sampled x
    clocks zero = refl
    clocks (suc zero) = refl
    clocks (suc (suc zero)) = refl
    clocks (suc (suc (suc zero))) = refl
    clocks (suc (suc (suc (suc x)))) = refl

    input_clocks : (x : ℕ) → x < 2 → Each (λ y. y < 2) (clock_variables (clock_of sampled x))
    input_clocks zero lt = tt
    input_clocks (suc zero) lt = tt
    input_clocks (suc (suc x)) lt = absurd (omega (arith, lt))

    every : (x : ℕ) → 2 ≤ x → x < 4 → IsTarget x sampled_class.steps
    every zero le lt = absurd (omega (arith, le))
    every (suc zero) le lt = absurd (omega (arith, le))
    every (suc (suc zero)) le lt = inr (inl refl)
    every (suc (suc (suc zero))) le lt = inl refl
    every (suc (suc (suc (suc x)))) le lt = absurd (omega (arith, lt))

sampled_belongs : AreClassesOf (program (sampled ∷ [])) (sampled_class ∷ [])
sampled_belongs zero = sampled_is
sampled_belongs (suc g) = none_is (program (sampled ∷ []))

-- y = merge k (A -> a) (B -> b)
abbrev merged_class : Class
merged_class = record {
  inputs = 3;
  clocks = [] ∷ (record { variable = 0; constructor = 0 } ∷ []) ∷ on 0 ∷ [] ∷ [];
  steps = record { target = 3; code = select 0 (also_code (fetch 1) (also_code (fetch 2) no_code)) } ∷ [];
  memories = [];
  firsts = [];
  calls = [];
}

abbrev kind : ℕ → Option Value
kind c = Some (enum 0 c)

merged_first : step (merged_class ∷ []) (fresh (merged_class ∷ []) 1 0) 0 (kind 1 ∷ None ∷ some 2 ∷ []) ≡ Some (kind 1 ∷ None ∷ some 2 ∷ some 2 ∷ [], fresh (merged_class ∷ []) 1 0)
merged_first = refl

-- a constructor without a branch is a fault
merged_faults : step (merged_class ∷ []) (fresh (merged_class ∷ []) 1 0) 0 (kind 2 ∷ None ∷ None ∷ []) ≡ None
merged_faults = refl

merged_is : IsClassOf (program (merged ∷ [])) merged merged_class
merged_is = record {
  inputs = refl;
  narrow = omega arith;
  width = refl;
  clocks = clocks;
  input_clocks = input_clocks;
  steps = (record { source = inr (refl, (refl, (refl, (refl, tt)))); within = omega arith; no_input = omega arith }, tt);
  turns = ((refl, (refl, (refl, tt))), refl, omega arith, tt);
  every = every;
  covered = (record { place = 0; step = record { target = 3; code = select 0 (also_code (fetch 1) (also_code (fetch 2) no_code)) }; here = refl; defined = refl; clock = refl }, tt);
  calls = tt;
  memories = tt;
}
  where
    clocks : (x : ℕ) → clock_in merged_class x ≡ clock_of merged x
    clocks zero = refl
    clocks (suc zero) = refl
    clocks (suc (suc zero)) = refl
    clocks (suc (suc (suc zero))) = refl
    clocks (suc (suc (suc (suc x)))) = refl

    input_clocks : (x : ℕ) → x < 3 → Each (λ y. y < 3) (clock_variables (clock_of merged x))
    input_clocks zero lt = tt
    input_clocks (suc zero) lt = (omega arith, tt)
    input_clocks (suc (suc zero)) lt = (omega arith, tt)
    input_clocks (suc (suc (suc x))) lt = absurd (omega (arith, lt))

    every : (x : ℕ) → 3 ≤ x → x < 4 → IsTarget x merged_class.steps
    every zero le lt = absurd (omega (arith, le))
    every (suc zero) le lt = absurd (omega (arith, le))
    every (suc (suc zero)) le lt = absurd (omega (arith, le))
    every (suc (suc (suc zero))) le lt = inl refl
    every (suc (suc (suc (suc x)))) le lt = absurd (omega (arith, lt))

merged_belongs : AreClassesOf (program (merged ∷ [])) (merged_class ∷ [])
merged_belongs zero = merged_is
merged_belongs (suc g) = none_is (program (merged ∷ []))
