-- A class that keeps the newest tests of the class of a node in normal form is that class.
use Rattle.std.proofs.Common.{◌≡◌, ◌∙◌, ℕ, zero, suc, ◌+◌, ◌<◌, ◌≤◌, List, [], ◌∷◌, map, length, drop, Option, Some, None, slice_get, refl, sym, ap, ap₂, subst, arith, drop-cons, drop_of_length-le}
use Rattle.std.proofs.Math.ListN.{get_or-map, length-map}
use Rattle.std.specs.Prelude.{option_map}
use Rattle.std.proofs.lemmas.Option.{slice_get-map}
use Rattle.std.proofs.lemmas.Simd.{map-map}
use Rattle.lus_values.specs.Lists.{item, Each}
use Rattle.lus_values.specs.declared.test.Test.{Test}
use Rattle.lus_program.specs.declared.node.Variable.{Variable as StoredVariable}
use Rattle.lus_program.specs.declared.node.Equation.{Equation as StoredEquation}
use Rattle.lus_program.specs.Programs.{Variable, Node, Program, no_variable}
use Rattle.lus_program.specs.View.{equations_from, variable_of}
use Rattle.lus_streams.specs.Clocks.{Clock, chain, clock_of}
use Rattle.lus_streams.specs.Equations.{equation_clock}
use Rattle.lus_streams.specs.OnClock.{test_of}
use Rattle.lus_classes.specs.Classes.{Memory, Argument, Call, Class}
use Rattle.lus_normal_form.specs.Laws.{IsChain}
use Rattle.lus_normal_form.specs.Ready.{IsReady}
use Rattle.lus_normal_form.proofs.OneTest.{clock_is_chain}
use Rattle.lus_instructions.specs.declared.class.Cell.{Cell}
use Rattle.lus_instructions.specs.declared.class.Argument.{Argument as StoredArgument}
use Rattle.lus_instructions.specs.declared.class.Call.{Call as StoredCall}
use Rattle.lus_instructions.specs.declared.class.Class.{Class as StoredClass}
use Rattle.lus_classes.specs.View.{chain_in, clock_from, memory_of, argument_of, call_of, class_of}
use Rattle.lus_translation.specs.Forms.{Turn, all_clocks, class_form, flags_of, marked, numbers_form}
use Rattle.lus_translation.specs.Laws.{HasFlag, IsFittingRight, NewestSuffice}
use Rattle.lus_translation.specs.Newest.{newest, Tested, TestedCall, cell_seen, argument_seen, call_seen, tested_memory, tested_argument, tested_call, HasNewest}
use Rattle.lus_translation.proofs.Chains.{Chained, ArgumentChained, CallChained, all_chained, calls_chained, marked_chained}
use Rattle.lus_translation.specs.Firsts.{place_of}
use Rattle.lus_translation.proofs.Flags.{Has, all_had}
use Rattle.lus_translation.proofs.FittingCalls.{ready_rights_fit}

abbrev test : Variable → Option Test
test v = v.test

pub tests_seen : (vs : List StoredVariable) → map (λ (v : StoredVariable). v.test) vs ≡ map test (map variable_of vs)
tests_seen vs = sym (map-map test variable_of vs)

test_at : (vs : List Variable) (x : ℕ) → item None (map test vs) x ≡ (item no_variable vs x).test
test_at vs x = get_or-map test vs x no_variable

module _ (f : Node) where
  abbrev tests : List (Option Test)
  tests = map test f.variables

  one_more : (k l : ℕ → Clock) → ((x : ℕ) → k x ≡ l x) → (o : Option Test)
      → ◌≡◌ {A = Clock} (elim o [ None ↦ [] | Some t ↦ t ∷ k t.variable ]) (elim o [ None ↦ [] | Some t ↦ t ∷ l t.variable ])
  one_more k l same None = refl
  one_more k l same (Some t) = ap (λ z. t ∷ z) (same t.variable)

  chains_are : (n x : ℕ) → chain_in n tests x ≡ chain n f.variables x
  chains_are zero x = refl
  chains_are (suc n) x =
      ap (λ o. elim o [ None ↦ [] | Some t ↦ t ∷ chain_in n tests t.variable ]) (test_at f.variables x)
      ∙ one_more (chain_in n tests) (chain n f.variables) (chains_are n) (item no_variable f.variables x).test

  chain_is : (x : ℕ) → chain_in (length tests) tests x ≡ clock_of f x
  chain_is x = ap (λ n. chain_in n tests x) (length-map f.variables test) ∙ chains_are (length f.variables) x

  -- the older tests are found again
  pub found_again : (k : Clock) → IsChain f k → clock_from tests (newest k) ≡ k
  found_again [] h = refl
  found_again (t ∷ k) h = ap (λ l. t ∷ l) (chain_is t.variable ∙ h.0)

  -- first-flags stand where they are found by their newest tests
  flags_are : (fs : List (Option Test)) (ks : List Clock) → Each (IsChain f) ks → Each (Has fs) (map newest ks)
      → Each (λ k. slice_get (map (clock_from tests) fs) (place_of (newest k) fs) ≡ Some k) ks
  flags_are fs [] h had = tt
  flags_are fs (k ∷ ks) h had = (
    slice_get-map (clock_from tests) fs (place_of (newest k) fs) ∙ ap (option_map (clock_from tests)) had.0 ∙ ap Some (found_again k h.0),
    flags_are fs ks h.1 had.1,
  )

  newest_declared : (n x : ℕ) → newest (chain (suc n) f.variables x) ≡ test_of f x
  newest_declared n x = by (test_of f x)
    where
      by : (o : Option Test) → newest (elim o [ None ↦ [] | Some t ↦ t ∷ chain n f.variables t.variable ]) ≡ o
      by None = refl
      by (Some t) = refl

  module _ (own : (x : ℕ) → IsChain f (clock_of f x)) where
    declared_again : (x n : ℕ) → length f.variables ≡ suc n → clock_from tests (test_of f x) ≡ clock_of f x
    declared_again x n e =
        let first : newest (clock_of f x) ≡ test_of f x = ap (λ m. newest (chain m f.variables x)) e ∙ newest_declared n x in
        ap (clock_from tests) (sym first) ∙ found_again (clock_of f x) (own x)

    clocks_again : (n x : ℕ) → x + n ≡ length f.variables → map (clock_from tests) (map test (drop x f.variables)) ≡ all_clocks f x n
    clocks_again zero x e = ap (λ vs. map (clock_from tests) (map test vs)) (drop_of_length-le f.variables (let le : length f.variables ≤ x = omega (arith, e) in le))
    clocks_again (suc n) x e =
        let lt : x < length f.variables = omega (arith, e) in
        let next : suc x + n ≡ length f.variables = omega (arith, e) in
        let long : length f.variables ≡ suc (x + n) = omega (arith, e) in
        ap (λ vs. map (clock_from tests) (map test vs)) (drop-cons f.variables x no_variable lt)
        ∙ ap₂ (λ k ks. k ∷ ks) (declared_again x (x + n) long) (clocks_again n (suc x) next)

  -- what is stored, with all tests of its clocks
  abbrev whole_memory : Tested → Memory
  whole_memory t = record { clock = clock_from tests t.test; operand = t.atom }

  abbrev whole_argument : Tested → Argument
  whole_argument t = record { clock = clock_from tests t.test; atom = t.atom }

  abbrev whole_call : TestedCall → Call
  whole_call q = record { node = q.node; base = clock_from tests q.base; arguments = map whole_argument q.arguments }

  memories_seen : (ms : List Cell) → map (memory_of tests) ms ≡ map whole_memory (map cell_seen ms)
  memories_seen ms = sym (map-map whole_memory cell_seen ms)

  memories_again : (ms : List Memory) → Each (Chained f) ms → map whole_memory (map tested_memory ms) ≡ ms
  memories_again [] h = refl
  memories_again (m ∷ ms) h = ap₂ (λ k l. (let one : Memory = record { clock = k; operand = m.operand } in one) ∷ l) (found_again m.clock h.0) (memories_again ms h.1)

  arguments_seen : (xs : List StoredArgument) → map (argument_of tests) xs ≡ map whole_argument (map argument_seen xs)
  arguments_seen xs = sym (map-map whole_argument argument_seen xs)

  arguments_again : (xs : List Argument) → Each (ArgumentChained f) xs → map whole_argument (map tested_argument xs) ≡ xs
  arguments_again [] h = refl
  arguments_again (a ∷ xs) h = ap₂ (λ k l. (let one : Argument = record { clock = k; atom = a.atom } in one) ∷ l) (found_again a.clock h.0) (arguments_again xs h.1)

  calls_seen : (qs : List StoredCall) → map (call_of tests) qs ≡ map whole_call (map call_seen qs)
  calls_seen [] = refl
  calls_seen (q ∷ qs) = ap₂ (λ xs l. (let one : Call = record { node = q.node; base = clock_from tests q.base; arguments = xs } in one) ∷ l) (arguments_seen q.arguments.items) (calls_seen qs)

  calls_again : (qs : List Call) → Each (CallChained f) qs → map whole_call (map tested_call qs) ≡ qs
  calls_again [] h = refl
  calls_again (q ∷ qs) h =
      let base = found_again q.base h.0.base in
      let xs = arguments_again q.arguments h.0.arguments in
      ap₂ (λ a l. a ∷ l) (λ i. record { node = q.node; base = base i; arguments = xs i }) (calls_again qs h.1)

  -- a class whose clocks are such
  pub same_class : (stored : StoredClass) (c : Class) → ((x : ℕ) → IsChain f (clock_of f x)) → HasNewest f stored c → c.clocks ≡ all_clocks f 0 (length f.variables)
      → Each (Chained f) c.memories → Each (CallChained f) c.calls → class_of stored ≡ c
  same_class stored c own h width memories calls =
      let clocks : map (clock_from stored.tests.items) stored.tests.items ≡ c.clocks = ap (λ ts. map (clock_from ts) ts) h.tests ∙ clocks_again own (length f.variables) 0 (omega arith) ∙ sym width in
      let cells : map (memory_of stored.tests.items) stored.cells.items ≡ c.memories = ap (λ ts. map (memory_of ts) stored.cells.items) h.tests ∙ memories_seen stored.cells.items ∙ ap (map whole_memory) h.cells ∙ memories_again c.memories memories in
      let asked : map (call_of stored.tests.items) stored.calls.items ≡ c.calls = ap (λ ts. map (call_of ts) stored.calls.items) h.tests ∙ calls_seen stored.calls.items ∙ ap (map whole_call) h.calls ∙ calls_again c.calls calls in
      λ i. record { inputs = h.inputs i; clocks = clocks i; steps = h.steps i; memories = cells i; firsts = h.firsts i; calls = asked i }

pub newest_tests_suffice : NewestSuffice
newest_tests_suffice p f ready qs is ts stored h =
    let own = clock_is_chain f ready.on_clocks.declared in
    let fit = ready_rights_fit p f ready in
    let kept = all_chained p f own qs (numbers_form 0 qs) ts (subst (Each (λ q. IsFittingRight p f q.right (equation_clock f q))) is fit) in
    same_class f stored (class_form p f qs (numbers_form 0 qs) ts) own h refl kept (calls_chained p f own f.equations fit)

-- the class that is made has a flag for each clock on which an equation marks a first instant
pub all_flagged : (p : Program) (f : Node) → IsReady p f → (qs : List StoredEquation) → f.equations ≡ equations_from 0 qs → (ts : List Turn)
    → Each (HasFlag (class_form p f qs (numbers_form 0 qs) ts) (flags_of f qs)) (marked f qs)
all_flagged p f ready qs is ts =
    let fit = subst (Each (λ q. IsFittingRight p f q.right (equation_clock f q))) is (ready_rights_fit p f ready) in
    flags_are f (flags_of f qs) (marked f qs) (marked_chained p f (clock_is_chain f ready.on_clocks.declared) 0 qs fit) (all_had [] (map newest (marked f qs)))
