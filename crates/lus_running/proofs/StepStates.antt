-- The step of an instance, from what the code of its class leaves.
use Rattle.std.proofs.Common.{◌≡◌, ◌∙◌, ◌+◌, ◌≤◌, ℕ, zero, suc, List, [], ◌∷◌, length, take, Option, None, Some, Ok, slice_get, refl, sym, ap, ap₂, arith}
use Rattle.std.specs.Prelude.{option_map}
use Rattle.std.proofs.lemmas.List.{length-map}
use Rattle.lus_values.specs.Values.{Value, Row}
use Rattle.lus_classes.specs.Classes.{class_at}
use Rattle.lus_classes.specs.Classes.{Class as PlainClass}
use Rattle.lus_classes.specs.Looks.{newest, short_memory, shorts_of}
use Rattle.lus_classes.specs.States.{State, WithinDepth, also_state, state}
use Rattle.lus_classes.specs.Steps.{Answer, step}
use Rattle.lus_classes.specs.View.{classes_of, clock_from, memory_of}
use Rattle.lus_instructions.specs.declared.class.Class.{Class}
use Rattle.lus_orders.specs.declared.class.Call.{Call}
use Rattle.lus_orders.specs.declared.class.Class.{Class as Emitted}
use Rattle.lus_orders.specs.Classes.{begun, calls_of, follows_class, part}
use Rattle.lus_orders.specs.Made.{StateOf, flags_in, state_in, states_with, width}
use Rattle.lus_orders.specs.Orders.{Board}
use Rattle.lus_running.specs.Answering.{AnswersTo}
use Rattle.lus_running.specs.Fits.{FitsPresence}
use Rattle.lus_running.specs.Instances.{Answers, HasRowsOfClass, Seen}
use Rattle.lus_running.specs.Settings.{RunsClasses}
use Rattle.lus_emission.proofs.Steps.{code_makes_class_steps}
use Rattle.lus_emission.proofs.Segments.{short_found}
use Rattle.lus_running.proofs.Seeing.{long_of}
use Rattle.lus_running.proofs.ShortSteps.{fits_on_clocks, step_same}

-- classes keep as many cells and first-flags, whether clocks are whole or cut to their newest tests
same_memories : (cs : List Class) (g : ℕ) → length (class_at (classes_of cs) g).memories ≡ length (class_at (shorts_of cs) g).memories
same_memories [] g = refl
same_memories (c ∷ cs) zero = length-map c.cells.items (memory_of c.tests.items) ∙ sym (length-map c.cells.items short_memory)
same_memories (c ∷ cs) (suc g) = same_memories cs g

same_firsts : (cs : List Class) (g : ℕ) → length (class_at (classes_of cs) g).firsts ≡ length (class_at (shorts_of cs) g).firsts
same_firsts [] g = refl
same_firsts (c ∷ cs) zero = length-map c.firsts.items (clock_from c.tests.items) ∙ sym (length-map c.firsts.items newest)
same_firsts (c ∷ cs) (suc g) = same_firsts cs g

states_same : (f e : StateOf) → ((g : ℕ) (vs : List Value) → f g vs ≡ e g vs) → (qs : List Call) (vs : List Value) → states_with f qs vs ≡ states_with e qs vs
states_same f e law [] vs = refl
states_same f e law (q ∷ qs) vs = ap₂ also_state (law q.node (part q.cells q.length vs)) (states_same f e law qs vs)

-- a part of what a row begins with
part_taken : (from count w : ℕ) (r : Row) → from + count ≤ w → part from count r ≡ part from count (take w r)
part_taken zero zero w r le = refl
part_taken zero (suc m) zero r le = absurd (omega arith)
part_taken zero (suc m) (suc w) [] le = refl
part_taken zero (suc m) (suc w) (v ∷ r) le = ap (λ l. v ∷ l) (part_taken zero m w r (omega arith))
part_taken (suc n) m zero r le = absurd (omega arith)
part_taken (suc n) m (suc w) [] le = refl
part_taken (suc n) m (suc w) (v ∷ r) le = part_taken n m w r (omega arith)

module _ (classes : List Class) (emitted : List Emitted) (runs : RunsClasses classes emitted) where
  abbrev whole : List PlainClass
  whole = classes_of classes

  abbrev short : List PlainClass
  short = shorts_of classes

  state_same : (d g : ℕ) (vs : List Value) → state_in whole emitted d g vs ≡ state_in short emitted d g vs
  state_same zero g vs = refl
  state_same (suc d) g vs =
      let m = same_memories classes g in
      let n = same_firsts classes g in
      let calls = states_same (λ h us. state_in whole emitted d h us) (λ h us. state_in short emitted d h us) (state_same d) (calls_of emitted g) vs in
      λ i. state (take (m i) vs) (flags_in (part (m i) (n i) vs)) (calls i)

  -- the step of an instance, whose node has this class and this code
  module _ (d : ℕ) (o : Seen) (shaped : HasRowsOfClass classes emitted o) (within : WithinDepth whole (suc d) o.node) (i : Row)
      (f : Emitted) (coded : slice_get emitted o.node ≡ Some f)
      (c : Class) (found : slice_get classes o.node ≡ Some c) (narrow : length i ≡ c.inputs) (fits : FitsPresence c i) where
    abbrev g : ℕ
    g = o.node

    abbrev vs : List Value
    vs = o.cells

    abbrev left : Option Board
    left = follows_class emitted d f vs (vs, begun f.own i)

    abbrev stepped : Answer
    stepped = step whole (state_in whole emitted (suc d) g vs) g i

    abbrev told : Board → Row × State
    told b = (take (length c.tests.items) b.1, state_in whole emitted (suc d) g b.0)

    step_is : stepped ≡ option_map told left
    step_is =
        let given = fits_on_clocks c i narrow fits in
        let wide : width short emitted g ≡ length c.tests.items = ap (λ (k : PlainClass). length k.clocks) (short_found classes g c found) ∙ length-map c.tests.items newest in
        sym (step_same classes runs.can runs.passing (state_in whole emitted (suc d) g vs) g c i found narrow given)
        ∙ ap (λ s. step short s g i) (state_same (suc d) g vs)
        ∙ code_makes_class_steps classes emitted runs.size runs.code d g c f found coded within vs i (long_of classes emitted o f coded shaped).cells narrow given
        ∙ (λ j. option_map (λ (b : Board). (take (wide j) b.1, sym (state_same (suc d) g b.0) j)) left)

    pub answers_ok : (count : ℕ) (outputs : Row) (ws : List Value) → c.inputs + count ≤ length c.tests.items → AnswersTo left (length i) count (Ok (Some outputs)) ws
        → Answers c count (Ok outputs) stepped (state_in whole emitted (suc d) g ws)
    answers_ok count outputs ws room h =
        let b = h.0 in (
          take (length c.tests.items) b.1,
          step_is ∙ ap (option_map told) h.1 ∙ ap (λ us. Some (take (length c.tests.items) b.1, state_in whole emitted (suc d) g us)) (sym h.2),
          h.3 ∙ ap (λ n. part n count b.1) narrow ∙ part_taken c.inputs count (length c.tests.items) b.1 room,
        )

    pub answers_none : left ≡ None → stepped ≡ None
    answers_none h = step_is ∙ ap (option_map told) h
