-- Classes of small nodes with calls, and steps of theirs.
use Rattle.std.proofs.Common.{◌≡◌, ℕ, zero, suc, ◌+◌, ◌<◌, ◌≤◌, true, false, pos, negsuc, List, [], ◌∷◌, Some, None, is_some, refl, sym, subst, append-nil, arith, rules}
use Rattle.std.proofs.Math.Logic.{inl, inr}
use Rattle.lus_values.specs.Lists.{item, Each}
use Rattle.lus_values.specs.Values.{int, Row}
use Rattle.lus_program.specs.Programs.{Expression, variable, call, Variable, Node, Program}
use Rattle.lus_streams.specs.Clocks.{Clock, clock_of}
use Rattle.lus_streams.specs.Equations.{given_by, definition_of}
use Rattle.lus_streams.specs.OnClock.{ProgramOnClocks}
use Rattle.lus_streams.specs.Order.{IsCausal, clock_variables}
use Rattle.lus_streams.specs.Streams.{World, Streams}
use Rattle.lus_streams.proofs.Examples.{plain, tested, equation, node, program, one, two, number, some, whole, truth, delayed}
use Rattle.lus_classes.specs.Classes.{named, fixed, fetch, recall, choose, answer, Call, Class, clock_in}
use Rattle.lus_classes.specs.States.{State, state, no_state, also_state, fresh}
use Rattle.lus_classes.specs.Steps.{is_on_row, step}
use Rattle.lus_classes.specs.ClassesOf.{Matches, IsSource, IsStep, Linked, IsTarget, IsClassOf, AreClassesOf}
use Rattle.lus_classes.proofs.Examples.{on, none_is}
use Rattle.lus_classes.proofs.Starts.{fresh_stands}
use Rattle.lus_classes.proofs.Following.{steps_extend}

-- y = delayed(x), all of it when c, where delayed is y = (-1) fby x
abbrev held : Node
held = node 2 1 (plain ∷ tested 0 1 ∷ tested 0 1 ∷ []) (equation 2 (call 0 0 (one (variable 1))) ∷ [])

abbrev held_program : Program
held_program = program (delayed ∷ held ∷ [])

abbrev delayed_class : Class
delayed_class = record {
  inputs = 1;
  clocks = [] ∷ [] ∷ [];
  steps = record { target = 1; code = choose 0 (fixed (int (negsuc 0))) (recall 0) } ∷ [];
  memories = record { clock = []; operand = named 0 } ∷ [];
  firsts = [] ∷ [];
  calls = [];
}

abbrev held_call : Call
held_call = record { node = 0; base = on 0; arguments = record { clock = on 0; atom = named 1 } ∷ [] }

abbrev held_class : Class
held_class = record {
  inputs = 2;
  clocks = [] ∷ on 0 ∷ on 0 ∷ [];
  steps = record { target = 2; code = answer 0 1 } ∷ [];
  memories = [];
  firsts = [];
  calls = held_call ∷ [];
}

abbrev held_classes : List Class
held_classes = delayed_class ∷ held_class ∷ []

-- the state that keeps a number in the called node
abbrev keeps : ℕ → State
keeps n = state [] [] (also_state (state (int (pos n) ∷ []) (false ∷ []) no_state) no_state)

first : step held_classes (fresh held_classes 2 1) 1 (truth true ∷ some 5 ∷ []) ≡ Some (truth true ∷ some 5 ∷ whole (negsuc 0) ∷ [], keeps 5)
first = refl

-- where the clock is absent the called node and its cell stand still
second : step held_classes (keeps 5) 1 (truth false ∷ None ∷ []) ≡ Some (truth false ∷ None ∷ None ∷ [], keeps 5)
second = refl

third : step held_classes (keeps 5) 1 (truth true ∷ some 6 ∷ []) ≡ Some (truth true ∷ some 6 ∷ some 5 ∷ [], keeps 6)
third = refl

delayed_is : IsClassOf held_program delayed delayed_class
delayed_is = record {
  inputs = refl;
  narrow = omega arith;
  width = refl;
  clocks = clocks;
  input_clocks = input_clocks;
  steps = (record { source = inr (refl, (refl, refl, record { atom = named 0; here = refl; same = refl; on_clock = (refl, omega arith) })); within = omega arith; no_input = omega arith }, tt);
  turns = (tt, refl, omega arith, tt);
  every = every;
  covered = (record { place = 0; step = record { target = 1; code = choose 0 (fixed (int (negsuc 0))) (recall 0) }; here = refl; defined = refl; clock = refl }, tt);
  calls = tt;
  memories = ((refl, omega arith), tt);
}
  where
    clocks : (x : ℕ) → clock_in delayed_class x ≡ clock_of delayed x
    clocks zero = refl
    clocks (suc zero) = refl
    clocks (suc (suc x)) = refl

    input_clocks : (x : ℕ) → x < 1 → Each (λ y. y < 1) (clock_variables (clock_of delayed x))
    input_clocks zero lt = tt
    input_clocks (suc x) lt = absurd (omega (arith, lt))

    every : (x : ℕ) → 1 ≤ x → x < 2 → IsTarget x delayed_class.steps
    every zero le lt = absurd (omega (arith, le))
    every (suc zero) le lt = inl refl
    every (suc (suc x)) le lt = absurd (omega (arith, lt))

held_is : IsClassOf held_program held held_class
held_is = record {
  inputs = refl;
  narrow = omega arith;
  width = refl;
  clocks = clocks;
  input_clocks = input_clocks;
  steps = (
    record {
      source = inl (record {
        node = 0;
        number = 0;
        args = one (variable 1);
        asked = held_call;
        right = refl;
        code = refl;
        here = refl;
        same_node = refl;
        base = refl;
        arguments = (refl, refl, (refl, omega arith), tt);
        output = omega arith;
        front = [];
        clock = refl;
        matches = refl;
      });
      within = omega arith;
      no_input = omega arith;
    },
    tt,
  );
  turns = ((refl, (refl, (refl, (refl, tt)))), refl, omega arith, tt);
  every = every;
  covered = (record { place = 0; step = record { target = 2; code = answer 0 1 }; here = refl; defined = refl; clock = refl }, tt);
  calls = (record { number = refl; node = refl; base = refl; arguments = (refl, refl, (refl, omega arith), tt); arity = refl; linked = linked }, tt);
  memories = tt;
}
  where
    clocks : (x : ℕ) → clock_in held_class x ≡ clock_of held x
    clocks zero = refl
    clocks (suc zero) = refl
    clocks (suc (suc zero)) = refl
    clocks (suc (suc (suc x))) = refl

    input_clocks : (x : ℕ) → x < 2 → Each (λ y. y < 2) (clock_variables (clock_of held x))
    input_clocks zero lt = tt
    input_clocks (suc zero) lt = (omega arith, tt)
    input_clocks (suc (suc x)) lt = absurd (omega (arith, lt))

    every : (x : ℕ) → 2 ≤ x → x < 3 → IsTarget x held_class.steps
    every zero le lt = absurd (omega (arith, le))
    every (suc zero) le lt = absurd (omega (arith, le))
    every (suc (suc zero)) le lt = inl refl
    every (suc (suc (suc x))) le lt = absurd (omega (arith, lt))

    linked : (x : ℕ) → x < 1 → Linked held_program held held_class delayed (one (variable 1)) (clock_of delayed x)
    linked zero lt = tt
    linked (suc x) lt = absurd (omega (arith, lt))

held_belong : AreClassesOf held_program held_classes
held_belong zero = delayed_is
held_belong (suc zero) = held_is
held_belong (suc (suc g)) = none_is held_program

held_on_clocks : ProgramOnClocks held_program
held_on_clocks = search rules

held_causal : IsCausal held_program
held_causal = ((1 ∷ 0 ∷ [], search rules), ((2 ∷ 1 ∷ 0 ∷ [], search rules), tt))

-- so the first step is the first instant of a world
held_world : (w : World) × Streams held_program 1 ((truth true ∷ some 5 ∷ []) ∷ []) w
held_world =
    let start = fresh_stands held_classes 2 1 (tt, tt) in
    let first_row : Row = truth true ∷ some 5 ∷ whole (negsuc 0) ∷ [] in
    let d = (steps_extend held_program held_classes held_belong (fresh held_classes 2 1) (keeps 5) 1 (truth true ∷ some 5 ∷ []) first_row first).by [] [] (record { satisfied = tt; always = tt; rows = refl }) start (record { long = refl; presence = presence }) in
    (d.0 ∷ [], d.2)
  where
    presence : (x : ℕ) → x < 2 → is_some (item None (truth true ∷ some 5 ∷ []) x) ≡ is_on_row (clock_of held x) (truth true ∷ some 5 ∷ [])
    presence zero lt = refl
    presence (suc zero) lt = refl
    presence (suc (suc x)) lt = absurd (omega (arith, lt))

-- told(c; x when c) returns (b; y when b; z when c): b = c; y = 7; z = x
abbrev told_variables : List Variable
told_variables = plain ∷ tested 0 1 ∷ plain ∷ tested 2 1 ∷ tested 0 1 ∷ []

abbrev told : Node
told = node 2 3 told_variables (equation 2 (variable 0) ∷ equation 3 (number 7) ∷ equation 4 (variable 1) ∷ [])

-- (b, y, z) = told(c, x): the clock of y tests a result of the call, those of x and z the argument of a formal
abbrev heard_left : List ℕ
heard_left = 2 ∷ 3 ∷ 4 ∷ []

abbrev heard_right : Expression
heard_right = call 0 0 (two (variable 0) (variable 1))

abbrev heard : Node
heard = node 2 3 told_variables (record { targets = heard_left; right = heard_right } ∷ [])

abbrev heard_program : Program
heard_program = program (told ∷ heard ∷ [])

abbrev told_clocks : List Clock
told_clocks = [] ∷ on 0 ∷ [] ∷ on 2 ∷ on 0 ∷ []

abbrev told_class : Class
told_class = record {
  inputs = 2;
  clocks = told_clocks;
  steps = record { target = 2; code = fetch 0 } ∷ record { target = 3; code = fixed (int (pos 7)) } ∷ record { target = 4; code = fetch 1 } ∷ [];
  memories = [];
  firsts = [];
  calls = [];
}

abbrev heard_call : Call
heard_call = record { node = 0; base = []; arguments = record { clock = []; atom = named 0 } ∷ record { clock = on 0; atom = named 1 } ∷ [] }

abbrev heard_class : Class
heard_class = record {
  inputs = 2;
  clocks = told_clocks;
  steps = record { target = 2; code = answer 0 2 } ∷ record { target = 3; code = answer 0 3 } ∷ record { target = 4; code = answer 0 4 } ∷ [];
  memories = [];
  firsts = [];
  calls = heard_call ∷ [];
}

abbrev heard_classes : List Class
heard_classes = told_class ∷ heard_class ∷ []

heard_true : step heard_classes (fresh heard_classes 2 1) 1 (truth true ∷ some 5 ∷ []) ≡ Some (truth true ∷ some 5 ∷ truth true ∷ some 7 ∷ some 5 ∷ [], fresh heard_classes 2 1)
heard_true = refl

heard_false : step heard_classes (fresh heard_classes 2 1) 1 (truth false ∷ None ∷ []) ≡ Some (truth false ∷ None ∷ truth false ∷ None ∷ None ∷ [], fresh heard_classes 2 1)
heard_false = refl

-- what both classes have
clock_is : (x : ℕ) → clock_in told_class x ≡ clock_of told x
clock_is zero = refl
clock_is (suc zero) = refl
clock_is (suc (suc zero)) = refl
clock_is (suc (suc (suc zero))) = refl
clock_is (suc (suc (suc (suc zero)))) = refl
clock_is (suc (suc (suc (suc (suc x))))) = refl

inputs_test_inputs : (x : ℕ) → x < 2 → Each (λ y. y < 2) (clock_variables (clock_of told x))
inputs_test_inputs zero lt = tt
inputs_test_inputs (suc zero) lt = (omega arith, tt)
inputs_test_inputs (suc (suc x)) lt = absurd (omega (arith, lt))

all_given : (x : ℕ) → 2 ≤ x → x < 5 → IsTarget x told_class.steps
all_given zero le lt = absurd (omega (arith, le))
all_given (suc zero) le lt = absurd (omega (arith, le))
all_given (suc (suc zero)) le lt = inl refl
all_given (suc (suc (suc zero))) le lt = inr (inl refl)
all_given (suc (suc (suc (suc zero)))) le lt = inr (inr (inl refl))
all_given (suc (suc (suc (suc (suc x))))) le lt = absurd (omega (arith, lt))

told_is : IsClassOf heard_program told told_class
told_is = record {
  inputs = refl;
  narrow = omega arith;
  width = refl;
  clocks = clock_is;
  input_clocks = inputs_test_inputs;
  steps = (
    record { source = inr (refl, refl); within = omega arith; no_input = omega arith },
    (record { source = inr (refl, refl); within = omega arith; no_input = omega arith }, (record { source = inr (refl, refl); within = omega arith; no_input = omega arith }, tt)),
  );
  turns = ((refl, tt), refl, omega arith, ((refl, tt), refl, omega arith, ((refl, (refl, tt)), refl, omega arith, tt)));
  every = all_given;
  covered = (
    record { place = 0; step = record { target = 2; code = fetch 0 }; here = refl; defined = refl; clock = refl },
    (
      record { place = 1; step = record { target = 3; code = fixed (int (pos 7)) }; here = refl; defined = refl; clock = refl },
      (record { place = 2; step = record { target = 4; code = fetch 1 }; here = refl; defined = refl; clock = refl }, tt),
    ),
  );
  calls = tt;
  memories = tt;
}

-- result m of the call, on a clock that is that of the output
heard_answers : (m x : ℕ) → x < 5 → 2 ≤ x → definition_of heard x ≡ Some (given_by heard_right m heard_left []) → 2 + m < 5
    → Matches heard_program heard heard_class heard_call heard_right heard_left [] 2 (clock_of heard x) (clock_of told (2 + m))
    → IsStep heard_program heard heard_class (record { target = x; code = answer 0 (2 + m) })
heard_answers m x within no_input defined output matches = record {
  source = subst (λ d. IsSource heard_program heard heard_class x d (answer 0 (2 + m))) (sym defined) (inl (record {
    node = 0;
    number = 0;
    args = two (variable 0) (variable 1);
    asked = heard_call;
    right = refl;
    code = refl;
    here = refl;
    same_node = refl;
    base = refl;
    arguments = (refl, refl, (refl, omega arith), (refl, refl, (refl, omega arith), tt));
    output = output;
    front = clock_of heard x;
    clock = sym (append-nil (clock_of heard x));
    matches = matches;
  }));
  within = within;
  no_input = no_input;
}

heard_is : IsClassOf heard_program heard heard_class
heard_is = record {
  inputs = refl;
  narrow = omega arith;
  width = refl;
  clocks = clock_is;
  input_clocks = inputs_test_inputs;
  steps = (
    heard_answers 0 2 (omega arith) (omega arith) refl (omega arith) refl,
    (
      heard_answers 1 3 (omega arith) (omega arith) refl (omega arith) (refl, inr (record { output = 0; place = refl; within = omega arith; no_input = omega arith; defined = refl; on_clock = refl }), refl),
      (heard_answers 2 4 (omega arith) (omega arith) refl (omega arith) (refl, inl refl, refl), tt),
    ),
  );
  turns = ((refl, (refl, (refl, tt))), refl, omega arith, ((refl, (refl, (refl, (refl, tt)))), refl, omega arith, ((refl, (refl, (refl, (refl, tt)))), refl, omega arith, tt)));
  every = all_given;
  covered = (record { place = 0; step = record { target = 2; code = answer 0 2 }; here = refl; defined = refl; clock = refl }, tt);
  calls = (record { number = refl; node = refl; base = refl; arguments = (refl, refl, (refl, omega arith), (refl, refl, (refl, omega arith), tt)); arity = refl; linked = linked }, tt);
  memories = tt;
}
  where
    linked : (x : ℕ) → x < 2 → Linked heard_program heard heard_class told (two (variable 0) (variable 1)) (clock_of told x)
    linked zero lt = tt
    linked (suc zero) lt = (omega arith, tt, refl, tt)
    linked (suc (suc x)) lt = absurd (omega (arith, lt))

heard_belong : AreClassesOf heard_program heard_classes
heard_belong zero = told_is
heard_belong (suc zero) = heard_is
heard_belong (suc (suc g)) = none_is heard_program

heard_on_clocks : ProgramOnClocks heard_program
heard_on_clocks = search rules

heard_causal : IsCausal heard_program
heard_causal = ((4 ∷ 3 ∷ 2 ∷ 1 ∷ 0 ∷ [], search rules), ((4 ∷ 3 ∷ 2 ∷ 1 ∷ 0 ∷ [], search rules), tt))
