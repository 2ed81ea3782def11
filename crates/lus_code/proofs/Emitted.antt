-- The classes of all nodes, each with its turns, can get their code.
use Rattle.std.proofs.Common.{◌≡◌, ◌∙◌, ◌+◌, ◌^◌, ◌<◌, ◌≤◌, ℕ, List, [], ◌∷◌, ◌++◌, map, length, Option, Some, None, slice_get, sym, ap, subst, arith, ⊎_elim}
use Rattle.std.specs.Prelude.{option_map}
use Rattle.std.proofs.lemmas.List.{length-map}
use Rattle.std.proofs.lemmas.Option.{slice_get-map}
use Rattle.lus_values.specs.Lists.{Each}
use Rattle.lus_values.proofs.Lists.{each_found, each_left, each_right}
use Rattle.lus_program.specs.Programs.{Node, Program, node_at}
use Rattle.lus_streams.specs.Equations.{Definition, given_by, definition_of}
use Rattle.lus_streams.proofs.Lists.{each_implies}
use Rattle.lus_classes.specs.Classes.{Call as PlainCall, answer}
use Rattle.lus_classes.specs.ClassesOf.{IsAnswer, IsSource, IsStep}
use Rattle.lus_classes.specs.Turns.{GivesSome}
use Rattle.lus_classes.specs.View.{call_of, class_of, clock_from, steps_of, taken}
use Rattle.lus_classes.proofs.ShortTurns.{whole_clock_at}
use Rattle.lus_instructions.specs.declared.class.Call.{Call}
use Rattle.lus_instructions.specs.declared.class.Class.{Class}
use Rattle.lus_instructions.specs.declared.class.Step.{Step}
use Rattle.lus_instructions.specs.declared.class.Step.TheVariants as steps
use Rattle.lus_instructions.specs.declared.class.Target.{Target}
use Rattle.lus_turns.specs.Turned.{AreTurned, CallsNode, IsTurned}
use Rattle.lus_turns.proofs.CallsMade.{no_answer}
use Rattle.lus_emission.specs.Sources.{Answers, CallsClass, CanAllBeEmitted, CanBeEmitted, TakesOut}
use Rattle.lus_emission.proofs.Underway.{found_within}
use Rattle.lus_code.specs.Made.{AreSmall}

-- the class of a called node
record IsOf (p : Program) (classes : List Class) (q : Call) : Type 0 where
  called : Class
  found : slice_get classes q.node ≡ Some called
  turned : IsTurned p (node_at p q.node) called

class_of_call : (p : Program) (classes : List Class) → AreTurned p classes → (q : Call) → CallsNode p q → IsOf p classes q
class_of_call p classes are q h =
    let size = are.size in
    let known = h.known in
    let there = found_within classes q.node (omega (arith, size, known)) in
    record { called = there.0; found = there.1; turned = are.each q.node there.0 there.1 }

module _ (p : Program) (classes : List Class) (are : AreTurned p classes) where
  call_class : (q : Call) → CallsNode p q → CallsClass classes q
  call_class q h =
      let of = class_of_call p classes are q h in
      record { called = of.called; found = of.found; arguments = h.arguments ∙ sym of.turned.belongs.inputs }

  module _ (f : Node) (c : Class) (turned : IsTurned p f c) where
    module _ (n : ℕ) (q : Call) (here : slice_get c.calls.items n ≡ Some q) (t : Target) where
      asked_is : (a : PlainCall) → slice_get (class_of c).calls n ≡ Some a → call_of c.tests.items q ≡ a
      asked_is a found =
          let seen : slice_get (class_of c).calls n ≡ Some (call_of c.tests.items q) =
          slice_get-map (call_of c.tests.items) c.calls.items n ∙ ap (option_map (call_of c.tests.items)) here in
          let both : Some (call_of c.tests.items q) ≡ Some a = sym seen ∙ found in
          cc

      by_answer : (e : _) (m : ℕ) (k : _) (xs : List ℕ) → IsAnswer p f (class_of c) e m k t.variable (answer n t.place) xs → TakesOut classes c q t
      by_answer e m k xs is =
          let code = is.code in
          let number : is.number ≡ n = cc in
          let place : (node_at p is.node).inputs + m ≡ t.place = cc in
          let asked : call_of c.tests.items q ≡ is.asked = asked_is is.asked (subst (λ i. slice_get (class_of c).calls i ≡ Some is.asked) number is.here) in
          let node : q.node ≡ is.node = ap (λ (a : PlainCall). a.node) asked ∙ is.same_node in
          let of = class_of_call p classes are q (each_found (CallsNode p) c.calls.items n q turned.calls here) in
          let tests = of.called.tests.items in
          let wide : length (node_at p is.node).variables ≡ length tests =
          ap (λ g. length (node_at p g).variables) (sym node) ∙ sym of.turned.belongs.width ∙ length-map tests (clock_from tests) in
          record {
            called = of.called;
            found = of.found;
            place = subst (λ x. x < length tests) place (subst (λ w. (node_at p is.node).inputs + m < w) wide is.output);
            front = is.front;
            clock = sym (whole_clock_at c t.variable) ∙ turned.belongs.clocks t.variable ∙ is.clock
                ∙ ap (λ l. is.front ++ l) (sym (ap (λ (a : PlainCall). a.base) asked ∙ is.base));
          }

      by_source : (o : Option Definition) → IsSource p f (class_of c) t.variable o (answer n t.place) → TakesOut classes c q t
      by_source None h = absurd h
      by_source (Some (given_by e m xs k)) h = ⊎_elim (λ is. by_answer e m k xs is) (λ is. absurd (no_answer p f (class_of c) e n t.place k is.1)) h

    takes_out : (n : ℕ) (q : Call) → slice_get c.calls.items n ≡ Some q → (ts : List Target) → Each (IsStep p f (class_of c)) (map (taken n) ts) → Each (TakesOut classes c q) ts
    takes_out n q here [] h = tt
    takes_out n q here (t ∷ ts) h = (by_source n q here t (definition_of f t.variable) h.0.source, takes_out n q here ts h.1)

    all_answer : (ss : List Step) → Each (GivesSome (length c.calls.items)) ss → Each (IsStep p f (class_of c)) (steps_of ss) → Each (Answers classes c) ss
    all_answer [] some h = tt
    all_answer (steps.Give x d ∷ ss) some h = (tt, all_answer ss some.1 h.1)
    all_answer (steps.Call n ts ∷ ss) some h =
        let there = found_within c.calls.items n some.0.0 in (
          (there.0, there.1, takes_out n there.0 there.1 ts.items (each_left (IsStep p f (class_of c)) (map (taken n) ts.items) (steps_of ss) h)),
          all_answer ss some.1 (each_right (IsStep p f (class_of c)) (map (taken n) ts.items) (steps_of ss) h),
        )

    can_be_emitted : length f.variables + 1 < 2 ^ 32 → CanBeEmitted classes c
    can_be_emitted narrow =
        let tests = c.tests.items in
        let wide : length f.variables ≡ length tests = sym turned.belongs.width ∙ length-map tests (clock_from tests) in
        record {
          inputs = subst (λ (w : ℕ). c.inputs ≤ w) wide (subst (λ (i : ℕ). i ≤ length f.variables) (sym turned.belongs.inputs) turned.belongs.narrow);
          variables = turned.variables;
          turns = turned.turns;
          answers = all_answer c.steps.items turned.turns.given turned.belongs.steps;
          calls = each_implies (CallsNode p) (CallsClass classes) call_class c.calls.items turned.calls;
          wide = subst (λ (w : ℕ). w + 1 < 2 ^ 32) wide narrow;
        }

pub turned_can_be_emitted : (p : Program) (classes : List Class) → AreTurned p classes → AreSmall p → CanAllBeEmitted classes
turned_can_be_emitted p classes are small g c here = can_be_emitted p classes are (node_at p g) c (are.each g c here) (small.variables g)
