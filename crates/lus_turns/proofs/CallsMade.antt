-- Each call of a class is made by a step, and is of a node of the program.
use Rattle.std.proofs.Common.{◌≡◌, ◌∙◌, ◌⊎◌, inl, inr, ℕ, zero, suc, ◌+◌, ◌<◌, List, [], ◌∷◌, ◌++◌, map, length, Option, Some, None, slice_get, nat_lt, refl, sym, ap, subst, arith, ⊎_elim}
use Rattle.std.proofs.lemmas.List.{length-map}
use Rattle.std.proofs.lemmas.Option.{slice_get_within}
use Rattle.lus_values.specs.Lists.{item, Each}
use Rattle.lus_values.proofs.Lists.{each_found}
use Rattle.lus_program.specs.declared.node.Equation.{Equation as StoredEquation}
use Rattle.lus_program.specs.Programs.{Expression, literal, when, call, Operands, Node, Program, node_at, empty_node, numbered, all_numbered}
use Rattle.lus_program.specs.View.{equations_from}
use Rattle.lus_streams.specs.Clocks.{Clock}
use Rattle.lus_streams.specs.Equations.{Definition, given_by, definition_of, equation_clock, Site, sites}
use Rattle.lus_streams.proofs.Lists.{each_left, each_right}
use Rattle.lus_values.specs.declared.test.Test.{Test}
use Rattle.lus_classes.specs.Classes.{Atom, constant, named, Class, answer, Step, Call}
use Rattle.lus_classes.specs.ClassesOf.{IsClassOf, IsCode, IsCovered, IsSource, IsStep, AreCalls, InTurn, atom_code}
use Rattle.lus_normal_form.specs.NormalForm.{IsSimpleRight}
use Rattle.lus_normal_form.specs.Ready.{IsReady}
use Rattle.lus_instructions.specs.declared.formula.Formula.{Formula, Fixed}
use Rattle.lus_instructions.specs.declared.class.Call.{Call as StoredCall}
use Rattle.lus_instructions.specs.declared.class.Class.{Class as StoredClass}
use Rattle.lus_instructions.specs.declared.class.Target.{Target}
use Rattle.lus_instructions.specs.declared.class.Step.{Step as StoredStep}
use Rattle.lus_instructions.specs.declared.class.Step.TheVariants as steps
use Rattle.lus_classes.specs.Turns.{AreMaking, AreOnce, GivesSome}
use Rattle.lus_classes.specs.Variables.{NamesVariables}
use Rattle.lus_classes.specs.View.{argument_of, call_of, class_of, code_of, steps_of, taken}
use Rattle.lus_translation.specs.Forms.{calls_form, numbers_form}
use Rattle.lus_translation.specs.Making.{GivesAny}
use Rattle.lus_translation.proofs.Numbered.{stored_calls, calls_stored}
use Rattle.lus_turns.specs.Turned.{CallsNode, HaveOneLeft, IsTurned, KeepsFew}
use Rattle.lus_turns.proofs.CallNumbers.{number_at}
use Rattle.lus_turns.proofs.CallPlaces.{IsRightSide, call_place, equation_at}
use Rattle.lus_turns.proofs.StoredEquations.{numbered_equation}

-- a node with variables is one of the program
item_known : (fs : List Node) (g x : ℕ) → x < length (item empty_node fs g).variables → g < length fs
item_known [] g x lt = absurd (omega arith)
item_known (f ∷ fs) zero x lt = omega arith
item_known (f ∷ fs) (suc g) x lt = let rest = item_known fs g x lt in omega (arith, rest)

-- no code of an expression asks a call
atom_asks : (a : Atom) (n m : ℕ) → answer n m ≡ atom_code a → ⊥
atom_asks (constant v) n m e = cc
atom_asks (named x) n m e = cc

pub no_answer : (p : Program) (f : Node) (c : Class) (e : Expression) (n m : ℕ) (k : Clock) → IsCode p f c e (answer n m) k → ⊥
no_answer p f c (literal v) n m k h = h
no_answer p f c (when t a) n m k h = atom_asks h.atom n m h.code
no_answer p f c e n m k h = h

-- a step that answers call n makes one of the calls
source_within : (p : Program) (f : Node) (c : Class) (x n m : ℕ) (d : Option Definition) → IsSource p f c x d (answer n m) → n < length c.calls
source_within p f c x n m None h = absurd h
source_within p f c x n m (Some (given_by e o xs k)) h =
    ⊎_elim
    (λ is. let same : n ≡ is.number = (let code = is.code in cc) in subst (λ i. i < length c.calls) (sym same) (slice_get_within c.calls is.number is.asked is.here))
    (λ is. absurd (no_answer p f c e n m k is.1))
    h

one_within : (p : Program) (f : Node) (c : Class) (n : ℕ) (us : List Target) → 0 < length us → Each (IsStep p f c) (map (taken n) us) → n < length c.calls
one_within p f c n [] some is = absurd (omega arith)
one_within p f c n (u ∷ us) some is = source_within p f c u.variable n u.place (definition_of f u.variable) is.0.source

gives_some : (p : Program) (f : Node) (c : Class) (ss : List StoredStep) → Each GivesAny ss → Each (IsStep p f c) (steps_of ss) → Each (GivesSome (length c.calls)) ss
gives_some p f c [] any are = tt
gives_some p f c (steps.Give x d ∷ ss) any are = (tt, gives_some p f c ss any.1 are.1)
gives_some p f c (steps.Call n ts ∷ ss) any are = (
  (one_within p f c n ts.items any.0 (each_left (IsStep p f c) (map (taken n) ts.items) (steps_of ss) are), any.0),
  gives_some p f c ss any.1 (each_right (IsStep p f c) (map (taken n) ts.items) (steps_of ss) are),
)

-- some step answers call n
abbrev IsAnswering : ℕ → List Step → Type 0
IsAnswering n [] = ⊥
IsAnswering n (s ∷ ss) = ((m : ℕ) × (s.code ≡ answer n m)) ⊎ IsAnswering n ss

answering_at : (n m : ℕ) (ss : List Step) (i : ℕ) (s : Step) → slice_get ss i ≡ Some s → s.code ≡ answer n m → IsAnswering n ss
answering_at n m [] i s here is = cc
answering_at n m (r ∷ ss) zero s here is = let same : r ≡ s = cc in inl (m, ap (λ z. z.code) same ∙ is)
answering_at n m (r ∷ ss) (suc i) s here is = inr (answering_at n m ss i s here is)

answering_append : (n : ℕ) (ss rs : List Step) → IsAnswering n (ss ++ rs) → IsAnswering n ss ⊎ IsAnswering n rs
answering_append n [] rs h = inr h
answering_append n (s ∷ ss) rs h = ⊎_elim (λ here. inl (inl here)) (λ rest. ⊎_elim (λ left. inl (inr left)) (λ right. inr right) (answering_append n ss rs rest)) h

stored_asks : (d : Formula) (n m : ℕ) → code_of d ≡ answer n m → ⊥
stored_asks (Fixed v) n m e = cc
stored_asks d n m e = cc

taken_answers : (n k : ℕ) (us : List Target) → IsAnswering n (map (taken k) us) → n ≡ k
taken_answers n k [] h = absurd h
taken_answers n k (u ∷ us) h = ⊎_elim (λ here. let code = here.1 in cc) (λ rest. taken_answers n k us rest) h

making : (n : ℕ) (ss : List StoredStep) → IsAnswering n (steps_of ss) → AreMaking n ss
making n [] h = absurd h
making n (steps.Give x d ∷ ss) h = ⊎_elim (λ here. absurd (stored_asks d n here.0 here.1)) (λ rest. inr (making n ss rest)) h
making n (steps.Call k ts ∷ ss) h =
    ⊎_elim (λ here. inl (taken_answers n k ts.items here)) (λ rest. inr (making n ss rest)) (answering_append n (map (taken k) ts.items) (steps_of ss) h)

-- call n is made, and of a node of the program
record IsMade (p : Program) (c : Class) (n : ℕ) : Type 0 where
  place : ℕ
  step : Step
  here : slice_get c.steps place ≡ Some step
  output : ℕ
  code : step.code ≡ answer n output
  asked : Call
  found : slice_get c.calls n ≡ Some asked
  known : asked.node < length p.nodes

source_made : (p : Program) (f : Node) (c : Class) (g n m : ℕ) (args : Operands) (xs : List ℕ) (k : Clock) (place : ℕ) (s : Step) → slice_get c.steps place ≡ Some s
    → IsSource p f c s.target (Some (given_by (call g n args) m xs k)) s.code → IsMade p c n
source_made p f c g n m args xs k place s here h =
    ⊎_elim
    (λ is.
    let right = is.right in
    let same : is.number ≡ n = cc in
    let output = is.output in
    record {
      place = place;
      step = s;
      here = here;
      output = (node_at p is.node).inputs + m;
      code = subst (λ i. s.code ≡ answer i ((node_at p is.node).inputs + m)) same is.code;
      asked = is.asked;
      found = subst (λ i. slice_get c.calls i ≡ Some is.asked) same is.here;
      known = subst (λ h. h < length p.nodes) (sym is.same_node) (item_known p.nodes is.node ((node_at p is.node).inputs + m) output);
    })
    (λ is. absurd is.1)
    h

module _ (p : Program) (f : Node) (ready : IsReady p f) (qs : List StoredEquation) (is : f.equations ≡ equations_from 0 qs) (c : Class) (belongs : IsClassOf p f c) (same_calls : c.calls ≡ calls_form p f f.equations) where
  made_by : (n : ℕ) → IsRightSide qs n → IsMade p c n
  made_by n r =
      let simple = subst (Each (λ q. IsSimpleRight q.right)) is ready.simple in
      let i = r.place in
      let q = numbered_equation (item 0 (numbers_form 0 qs) i) r.stored in
      let here : slice_get f.equations i ≡ Some q = subst (λ es. slice_get es i ≡ Some q) (sym is) (equation_at 0 qs i r.stored simple r.here) in
      let covered = each_found (IsCovered p f c) f.equations i q belongs.covered here in
      let step = each_found (IsStep p f c) c.steps covered.place covered.step belongs.steps covered.here in
      let at = number_at 0 qs i (slice_get_within qs i r.stored r.here) in
      let before = r.before in
      let number : item 0 (numbers_form 0 qs) i ≡ n = omega (arith, at, before) in
      let right : q.right ≡ call r.right.node n (all_numbered (suc n) r.right.args) =
      ap (numbered (item 0 (numbers_form 0 qs) i)) r.right.same ∙ ap (λ m. call r.right.node m (all_numbered (suc m) r.right.args)) number in
      let k = equation_clock f q in
      let defined : definition_of f covered.step.target ≡ Some (given_by (call r.right.node n (all_numbered (suc n) r.right.args)) 0 q.targets k) =
      covered.defined ∙ ap (λ e. Some (given_by e 0 q.targets k)) right in
      source_made p f c r.right.node n 0 (all_numbered (suc n) r.right.args) q.targets k covered.place covered.step covered.here
      (subst (λ d. IsSource p f c covered.step.target d covered.step.code) defined step.source)

  made : (n : ℕ) → n < length c.calls → IsMade p c n
  made n lt =
      let all : c.calls ≡ stored_calls p f qs = same_calls ∙ ap (calls_form p f) is ∙ calls_stored p f 0 qs in
      made_by n (call_place p f qs n (subst (λ cs. n < length cs) all lt))

each_by : {X : Type 0} (P : X → Type 0) (xs : List X) → ((i : ℕ) (x : X) → slice_get xs i ≡ Some x → P x) → Each P xs
each_by P [] h = tt
each_by P (x ∷ xs) h = (h 0 x refl, each_by P xs (λ i y here. h (suc i) y here))

calls_known : (p : Program) (c : Class) → ((n : ℕ) → n < length c.calls → IsMade p c n) → Each (λ q. q.node < length p.nodes) c.calls
calls_known p c all =
    each_by (λ q. q.node < length p.nodes) c.calls
    (λ i q here.
    let m = all i (slice_get_within c.calls i q here) in
    let found = m.found in
    let same : m.asked ≡ q = cc in
    subst (λ z. z.node < length p.nodes) same m.known)

calls_node : (p : Program) (f : Node) (c : Class) (ts : List (Option Test)) (ss : List Site) (qs : List StoredCall) (n : ℕ) → AreCalls p f c ss (map (call_of ts) qs) n → Each (λ q. q.node < length p.nodes) (map (call_of ts) qs) → Each (CallsNode p) qs
calls_node p f c ts ss [] n are known = tt
calls_node p f c ts [] (q ∷ qs) n are known = absurd are
calls_node p f c ts (s ∷ ss) (q ∷ qs) n are known = (
  record {
    known = known.0;
    arguments = sym (length-map q.arguments.items (argument_of ts)) ∙ are.0.arity ∙ ap (λ g. (node_at p g).inputs) (sym are.0.node);
  },
  calls_node p f c ts ss qs (suc n) are.1 known.1,
)

-- a class that belongs to its node and whose calls are those of its equations has its turns
pub classes_are_turned : (p : Program) (f : Node) → IsReady p f → (qs : List StoredEquation) → f.equations ≡ equations_from 0 qs → (c : StoredClass) → IsClassOf p f (class_of c)
    → (class_of c).calls ≡ calls_form p f f.equations → c.outputs ≡ f.outputs → NamesVariables c → Each GivesAny c.steps.items → AreOnce c.steps.items
    → (HaveOneLeft f → KeepsFew f c) → IsTurned p f c
classes_are_turned p f ready qs is c belongs same_calls outputs variables any once kept =
    let d = class_of c in
    let size : length d.calls ≡ length c.calls.items = length-map c.calls.items (call_of c.tests.items) in
    let all = made p f ready qs is d belongs same_calls in
    record {
      belongs = belongs;
      outputs = outputs;
      variables = variables;
      turns = record {
        turns = subst (λ n. InTurn d d.steps (λ x. nat_lt x n)) (sym belongs.inputs) belongs.turns;
        given = subst (λ n. Each (GivesSome n) c.steps.items) size (gives_some p f d c.steps.items any belongs.steps);
        every = λ n lt. (
            let m = all n (subst (λ l. n < l) (sym size) lt) in
            making n c.steps.items (answering_at n m.output d.steps m.place m.step m.here m.code));
        once = once;
      };
      calls = calls_node p f d c.tests.items (sites p f) c.calls.items 0 belongs.calls (calls_known p d all);
      kept = kept;
    }
