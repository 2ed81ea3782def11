-- Steps of an instance against the streams of its source.
use Rattle.std.proofs.Common.{◌≡◌, ◌↔◌, ◌∙◌, ℕ, zero, suc, ◌+◌, ◌<◌, ◌≤◌, Bool, true, false, IsTrue, length, take, drop, Some, None, Result, Ok, Err, is_some, refl, sym, ap, subst, arith}
use Rattle.std.specs.Prelude.{slice_get}
use Rattle.std.specs.Result.{IfErr, IfOk}
use Rattle.std.proofs.lemmas.List.{length-map}
use Rattle.lus_values.specs.Lists.{item}
use Rattle.lus_values.specs.Values.{Row}
use Rattle.lus_values.proofs.Lists.{below_at}
use Rattle.lus_program.specs.Programs.{Node, Program, node_at}
use Rattle.lus_streams.specs.Clocks.{clock_of}
use Rattle.lus_classes.specs.Classes.{clock_in}
use Rattle.lus_classes.specs.States.{State}
use Rattle.lus_classes.specs.Steps.{is_on_row}
use Rattle.lus_classes.specs.ClassesOf.{IsClassOf}
use Rattle.lus_instructions.specs.declared.class.Class.{Class}
use Rattle.lus_classes.specs.View.{clock_from, class_of}
use Rattle.lus_code.specs.SimulationSpecs.Fitting.{has_shape, has_presence, all_below, same_truth}
use Rattle.lus_code.specs.SimulationSpecs.LineageLaws.{StepsTo, EndsStreams}
use Rattle.lus_code.specs.SimulationSpecs.Lineages.{outputs_of}
use Rattle.lus_code.specs.SimulationSpecs.Nesting.{depth_of}
use Rattle.lus_code.proofs.SimulationProofs.FittingRows.{below_true, one_truth, rows_that_fit}
use Rattle.lus_code.proofs.SimulationProofs.Lived.{formals_at}
use Rattle.lus_code.specs.Codes.{ProgramCode, plain_classes, program_of}
use Rattle.lus_code.specs.Correct.{IsCorrect}
use Rattle.lus_running.specs.declared.error.StepError.{StepError}
use Rattle.lus_running.specs.declared.error.StepError.TheVariants as errors
use Rattle.lus_running.specs.Fits.{FitsPresence}
use Rattle.lus_running.specs.Instances.{HasFormals, Seen, TakesStep}
use Rattle.lus_running.specs.Instances.{state_of as instance_state}
use Rattle.lus_running.proofs.Placed.{class_found}

module _ (c : ProgramCode) (correct : IsCorrect c) (f : ℕ) (k : Class) (found : slice_get c.classes f ≡ Some k) where
  abbrev p : Program
  p = program_of c

  abbrev q : Program
  q = correct.belong.0

  belongs : IsClassOf q (node_at q f) (class_of k)
  belongs = subst (IsClassOf q (node_at q f)) (class_found c.classes f k found) (correct.belong.1.belong f)

  pub same_inputs : k.inputs ≡ (node_at p f).inputs
  same_inputs = belongs.inputs ∙ (correct.belong.1.normal f).inputs

  room : (node_at p f).inputs + (node_at p f).outputs ≤ length k.tests.items
  room =
      let own = formals_at p correct.checked.resolved f in
      let more = (correct.belong.1.normal f).width in
      let wide = sym (length-map k.tests.items (clock_from k.tests.items)) ∙ belongs.width in
      omega (arith, own, more, wide)

  pub same_clock : (x : ℕ) → x < (node_at p f).inputs → clock_in (class_of k) x ≡ clock_of (node_at p f) x
  same_clock x lt =
      let own = formals_at p correct.checked.resolved f in
      belongs.clocks x ∙ below_at (λ y. clock_of (node_at q f) y ≡ clock_of (node_at p f) y) (length (node_at p f).variables) (correct.belong.1.normal f).clocks x (omega (arith, own, lt))

  module _ (i : Row) (shape : IsTrue (has_shape p f i)) (presence : IsTrue (has_presence p f i)) where
    pub has_formals : HasFormals (node_at p f).outputs i k
    has_formals = (((rows_that_fit p correct.checked).fits f i shape presence).long ∙ sym same_inputs, subst (λ n. n + (node_at p f).outputs ≤ length k.tests.items) (sym same_inputs) room)

module _ (c : ProgramCode) (correct : IsCorrect c) (before after : Seen) (k : Class) (found : slice_get c.classes before.node ≡ Some k) (i : Row) (depth : ℕ) (deep : suc depth ≡ depth_of (program_of c)) where
  abbrev node : Node
  node = node_at (program_of c) before.node

  abbrev state_at : Seen → ℕ → State
  state_at o d = instance_state c.classes c.emitted d o

  pub step_follows : (r : Result Row StepError) → IsTrue (has_shape (program_of c) before.node i) → IsTrue (has_presence (program_of c) before.node i)
      → TakesStep c.classes c.emitted depth node.outputs before i r after
      → IfOk r (λ outputs. StepsTo (program_of c) (plain_classes c) (state_at before (depth_of (program_of c))) (state_at after (depth_of (program_of c))) before.node i outputs)
  step_follows (Err e) shape presence takes = tt
  step_follows (Ok outputs) shape presence takes =
      let f = before.node in
      let a = takes k found in
      let goes = correct.gives (state_at before (suc depth)) (state_at after (suc depth)) f i a.0 shape presence a.1 in
      let same : outputs_of node a.0 ≡ outputs = ap (λ n. take node.outputs (drop n a.0)) (sym (same_inputs c correct f k found)) ∙ sym a.2 in
      let shown = subst (λ o. StepsTo (program_of c) (plain_classes c) (state_at before (suc depth)) (state_at after (suc depth)) f i o) same goes in
      subst (λ d. StepsTo (program_of c) (plain_classes c) (state_at before d) (state_at after d) f i outputs) deep shown

  pub fault_follows : (r : Result Row StepError) → TakesStep c.classes c.emitted depth node.outputs before i r after
      → IfErr r (λ e. e ≡ errors.Fault → EndsStreams (program_of c) (plain_classes c) (state_at before (depth_of (program_of c))) before.node i)
  fault_follows (Ok outputs) takes = tt
  fault_follows (Err errors.Memory) takes = λ is. absurd cc
  fault_follows (Err errors.Fault) takes = λ is.
      subst (λ d. EndsStreams (program_of c) (plain_classes c) (state_at before d) before.node i) deep
      (correct.faults.only (state_at before (suc depth)) before.node i (takes k found))

true_below : (n : ℕ) (t : ℕ → Bool) → ((x : ℕ) → x < n → t x ≡ true) → all_below n t ≡ true
true_below zero t h = refl
true_below (suc n) t h = rw (h n (omega arith)) (true_below n t (λ x lt. h x (omega arith)))

is_same : (a b : Bool) → a ≡ b → same_truth a b ≡ true
is_same true b e = sym e
is_same false true e = e
is_same false false e = refl

-- tests of one fact are one test
pub one_test : (a b : Bool) (P : Type 0) → (IsTrue a ↔ P) → (IsTrue b ↔ P) → a ≡ b
one_test true true P f g = refl
one_test true false P f g = sym (g.1 (f.0 refl))
one_test false true P f g = f.1 (g.0 refl)
one_test false false P f g = refl

module _ (c : ProgramCode) (correct : IsCorrect c) (f : ℕ) (k : Class) (found : slice_get c.classes f ≡ Some k) (i : Row) where
  -- inputs are present by the class's clocks exactly where they are by the node's
  pub presence_told : IsTrue (has_presence (program_of c) f i) ↔ FitsPresence k i
  presence_told =
      let g = node_at (program_of c) f in
      let inputs = same_inputs c correct f k found in
      let clock = same_clock c correct f k found in
      let t = λ (x : ℕ). same_truth (is_some (item None i x)) (is_on_row (clock_of g x) i) in (
        λ yes x lt.
            let within : x < g.inputs = subst (λ n. x < n) inputs lt in
            one_truth (is_some (item None i x)) (is_on_row (clock_of g x) i) (below_true g.inputs t yes x within) ∙ ap (λ l. is_on_row l i) (sym (clock x within)),
        λ h. true_below g.inputs t
            (λ x lt. is_same (is_some (item None i x)) (is_on_row (clock_of g x) i) (h x (subst (λ n. x < n) (sym inputs) lt) ∙ ap (λ l. is_on_row l i) (clock x lt))),
      )
