-- Every state keeps the law of steps: its own step does where the states of its calls do.
use Rattle.std.proofs.Common.{◌≡◌, ℕ, ◌+◌, ◌<◌, ◌≤◌, ◌⊎◌, nat_lt, Bool, true, false, List, [], ◌∷◌, length, take, Some, None, is_some, MatchBool, refl, sym, ap, ◌∙◌, subst, arith, ⊎_elim}
use Rattle.std.specs.Option.{option_map, option_and_then}
use Rattle.std.proofs.Math.Logic.{inl, inr}
use Rattle.std.proofs.lemmas.Bool.{cases_lt, ltb-true, ltb-false, lt-ltb}
use Rattle.std.proofs.lemmas.List.{length-replicate, length-take-le}
use Rattle.lus_values.specs.Lists.{item}
use Rattle.lus_values.specs.Values.{Value, Row}
use Rattle.lus_values.proofs.Lists.{below_all}
use Rattle.lus_program.specs.Programs.{Node, Program, node_at}
use Rattle.lus_streams.specs.Clocks.{clock_of, Part, at}
use Rattle.lus_streams.specs.Equations.{definition_of, node_parts, sites}
use Rattle.lus_streams.specs.Order.{clock_variables}
use Rattle.lus_streams.specs.Streams.{Instant, instant, Called, nobody, World, called_at, is_on, where_on, definition_value, HasValue, Follows, EquationsHold, IsInstant}
use Rattle.lus_streams.proofs.Lists.{each_all, each_implies, item_past, item_take, ext_item}
use Rattle.lus_classes.specs.Classes.{Call, Class, class_at}
use Rattle.lus_classes.specs.States.{State, state, States, no_state, also_state}
use Rattle.lus_classes.specs.Steps.{Ask, run_steps, first_row, state_after, answer_after, step, asks}
use Rattle.lus_classes.specs.ClassesOf.{IsTarget, AreClassesOf}
use Rattle.lus_classes.specs.StandsFor.{StandsFor}
use Rattle.lus_classes.specs.Laws.{Fits}
use Rattle.lus_classes.proofs.Options.{never}
use Rattle.lus_classes.proofs.Rows.{Agree, InputsOnClocks, is_on_row_same, is_on_row_is, off, first_length, first_item, absent, absent_item}
use Rattle.lus_classes.proofs.Kept.{cells_move, flags_move, cells_rest, flags_rest}
use Rattle.lus_classes.proofs.Solving.{AsksAgree, keep_length, stays, solves, finds_row}
use Rattle.lus_classes.proofs.Instants.{row_presence, equations_hold, instant_gives}
use Rattle.lus_classes.proofs.Presence.{present_at}
use Rattle.lus_classes.proofs.Calls.{finished, asks_same, width, quiet, Lawful, EachLawful, answers_of, each_call, stand_after, base_at, inputs_at, calls_done, each_fits, fed_here, calls_found, base_off, inputs_off, fed_off, calls_rest}

module _ (p : Program) (classes : List Class) (ok : AreClassesOf p classes) where
  module _ (g : ℕ) (cells : List Value) (flags : List Bool) (subs : States) (laws : EachLawful p classes ok subs (class_at classes g).calls) where
    abbrev f : Node
    f = node_at p g

    abbrev own : Class
    own = class_at classes g

    abbrev given : List Ask
    given = asks classes subs own.calls

    agree : AsksAgree own given
    agree n r t h = asks_same classes subs own.calls n r t h

    abbrev is_input : ℕ → Bool
    is_input x = nat_lt x f.inputs

    from_start : (js : Called) (i : ℕ) → called_at js (0 + i) ≡ called_at js i
    from_start js i = let e : 0 + i ≡ i = omega arith in ap (called_at js) e

    module _ (past : World) (st : StandsFor classes (state cells flags subs) g past) where
      -- a row that the steps give, from inputs that fit
      module _ (i r : Row) (fits : Fits f i) (ran : run_steps own cells flags given own.steps (first_row own.clocks i) ≡ Some r) where
        input_is : (x : ℕ) → x < f.inputs → item None r x ≡ item None i x
        input_is x lt =
            stays own cells flags given agree own.steps is_input (first_row own.clocks i) r (ok g).turns ran x (lt-ltb x f.inputs lt)
            ∙ first_item own.clocks i x (omega (arith, lt, (ok g).narrow, (ok g).width))

        wide : length r ≡ length f.variables
        wide = keep_length own cells flags given agree own.steps (first_row own.clocks i) r ran ∙ first_length own.clocks i ∙ (ok g).width

        inputs_present : (js : Called) → InputsOnClocks f (instant true r js)
        inputs_present js x lt =
            ap is_some (input_is x lt)
            ∙ fits.presence x lt
            ∙ is_on_row_same (clock_of f x) i r (each_implies (λ y. y < f.inputs) (Agree i r) (λ y l. sym (input_is y l)) (clock_variables (clock_of f x)) ((ok g).input_clocks x lt))
            ∙ is_on_row_is (clock_of f x) r js

        taken : take f.inputs r ≡ i
        taken =
            let short = length-take-le f.inputs r (omega (arith, (ok g).narrow, wide)) in
            ext_item None (take f.inputs r) i (short ∙ sym fits.long)
            (λ x. ⊎_elim
            (λ lt. item_take None f.inputs r x lt ∙ input_is x lt)
            (λ ge. item_past None (take f.inputs r) x (subst (λ n. n ≤ x) (sym short) ge) ∙ sym (item_past None i x (subst (λ n. n ≤ x) (sym fits.long) ge)))
            (cases_lt x f.inputs))

      own_gives : (i r : Row) (after : State) → Fits f i → step classes (state cells flags subs) g i ≡ Some (r, after)
          → (js : Called) × IsInstant p (instant true r js) g past × (take f.inputs r ≡ i) × StandsFor classes after g (instant true r js ∷ past)
      own_gives i r after fits h =
          let o = ok g in
          let done = finished own cells flags given i r after h in
          let solved = solves own cells flags given agree own.steps is_input (first_row own.clocks i) r o.turns (first_length own.clocks i) done.ran in
          let inputs = λ (js : Called). inputs_present i r fits done.ran js in
          let here = row_presence p f own o cells flags given r nobody solved (inputs nobody) in
          let calls = calls_done p classes ok g r past subs own.calls (sites p f) 0 done.states o.calls laws st.2 (each_fits p classes ok g r past here (sites p f) own.calls 0 o.calls) done.answered in
          let js = calls.0 in
          let B = base_at p classes ok g r past in
          let I = inputs_at p classes ok g r past in
          let answers = answers_of p classes ok B I r past js own.calls given done.states 0 calls.1 in
          let hold = equations_hold p f own o cells flags given r js past st.0 st.1 answers solved (inputs js) (wide i r fits done.ran) in
          let each = each_call p classes ok B I r past true r js f own (fed_here p classes ok g r past js) js (sites p f) own.calls given done.states 0 o.calls calls.1 (from_start js) in
          let presence = row_presence p f own o cells flags given r js solved (inputs js) in
          let cells_stand = cells_move p f own past r js presence own.memories cells o.memories st.0 in
          let flags_stand = flags_move p f own past r js own.firsts flags st.1 in
          let states_stand = stand_after p classes ok B I r past true r js js own.calls given done.states 0 calls.1 (from_start js) in
          (js, (hold, each), taken i r fits done.ran, subst (λ z. StandsFor classes z g (instant true r js ∷ past)) done.whole (cells_stand, flags_stand, states_stand))

      own_finds : (r : Row) (js : Called) → IsInstant p (instant true r js) g past
          → (after : State) × (step classes (state cells flags subs) g (take f.inputs r) ≡ Some (r, after))
      own_finds r js is =
          let o = ok g in
          let i = take f.inputs r in
          let all = calls_found p classes ok g r past subs own.calls (sites p f) 0 js js o.calls laws st.2 is.1 in
          let gives = instant_gives p f own o cells flags given r js past st.0 st.1 all.answers is.0 (present_at p classes ok (instant true r js) g past is) in
          let ran = finds_row own cells flags given agree own.steps is_input (first_row own.clocks i) r o.turns (first_length own.clocks i) (is.0.width ∙ sym o.width)
          (λ x k. first_item own.clocks i x (omega (arith, ltb-true x f.inputs k, o.narrow, o.width)) ∙ item_take None f.inputs r x (ltb-true x f.inputs k))
          gives
          (λ x lt. input_or x (subst (λ n. x < n) o.width lt) (is_input x) refl) in (
            state_after own cells flags given r all.states,
            ap (option_and_then (answer_after own cells flags given)) ran ∙ ap (option_map (λ ss. (r, state_after own cells flags given r ss))) all.after,
          )
        where
          input_or : (x : ℕ) → x < length f.variables → (b : Bool) → nat_lt x f.inputs ≡ b → (nat_lt x f.inputs ≡ true) ⊎ IsTarget x own.steps
          input_or x lt true e = inl e
          input_or x lt false e = inr ((ok g).every x (ltb-false x f.inputs e) lt)

      own_rests : (js : Called) × IsInstant p (quiet p classes ok g js) g past × StandsFor classes (state cells flags subs) g (quiet p classes ok g js ∷ past)
      own_rests =
          let o = ok g in
          let row = absent (width p classes ok g) in
          let calls = calls_rest p classes ok g [] past subs own.calls (sites p f) 0 o.calls laws st.2 in
          let js = calls.0 in
          let now : Instant = instant false row js in
          let B = base_off p classes ok g [] past in
          let I = inputs_off p classes ok g [] past in
          let each = each_call p classes ok B I [] past false row js f own (fed_off p classes ok g [] past row js) js (sites p f) own.calls given subs 0 o.calls calls.1 (from_start js) in
          let hold : EquationsHold p f now past = record {
            width = length-replicate (length f.variables) None;
            variables = below_all (Follows p f now past) (length f.variables) (λ x lt. quiet_follows row js x (absent_item (length f.variables) x) (nat_lt x f.inputs));
            no_fault = each_all (λ e. HasValue p e now past) (λ e. quiet_part row js e) (node_parts p f);
          } in
          let cells_stand = cells_rest p f own past row js own.memories cells st.0 in
          let flags_stand = flags_rest p f own past row js own.firsts flags st.1 in
          let states_stand = stand_after p classes ok B I [] past false row js js own.calls given subs 0 calls.1 (from_start js) in
          (js, (hold, each), (cells_stand, flags_stand, states_stand))
        where
          quiet_follows : (row : Row) (js : Called) (x : ℕ) → item None row x ≡ None → (b : Bool)
              → MatchBool b (is_some (item None row x) ≡ is_on (clock_of f x) (instant false row js)) (item None row x ≡ where_on (is_on (clock_of f x) (instant false row js)) (definition_value p (definition_of f x) (instant false row js) past))
          quiet_follows row js x e true = ap is_some e ∙ sym (off (clock_of f x) row js)
          quiet_follows row js x e false = e ∙ sym (ap (λ b. where_on b (definition_value p (definition_of f x) (instant false row js) past)) (off (clock_of f x) row js))

          quiet_part : (row : Row) (js : Called) (e : Part) → HasValue p e (instant false row js) past
          quiet_part row js (at k e) = λ t. absurd (never (sym (off k row js) ∙ t))

    own_lawful : Lawful p classes ok (state cells flags subs) g
    own_lawful = record { gives = own_gives; finds = own_finds; rests = own_rests }

  mutual
    pub lawful : (s : State) (g : ℕ) → Lawful p classes ok s g
    lawful (state cells flags subs) g = own_lawful g cells flags subs (lawfuls subs (class_at classes g).calls)

    lawfuls : (subs : States) (qs : List Call) → EachLawful p classes ok subs qs
    lawfuls no_state qs = tt
    lawfuls (also_state s subs) [] = tt
    lawfuls (also_state s subs) (q ∷ qs) = (lawful s q.node, lawfuls subs qs)
