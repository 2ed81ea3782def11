-- What the class of a node keeps and passes, and its clocks, name variables of the node.
use Rattle.std.proofs.Common.{◌≡◌, ℕ, zero, suc, ◌+◌, ◌<◌, List, [], ◌∷◌, length, drop, map, Option, Some, None, sym, ap, subst, ⊎_elim, slice_get}
use Rattle.std.proofs.lemmas.Bool.{cases_lt}
use Rattle.lus_values.specs.Lists.{item, Each}
use Rattle.lus_values.specs.declared.test.Test.{Test}
use Rattle.lus_program.specs.declared.node.Equation.{Equation as StoredEquation}
use Rattle.lus_program.specs.Programs.{Expression, literal, variable, operate, pre, arrow, merge, call, Operands, none, more, Equation, Node, Program, no_variable, node_at, calls, numbered, all_numbered}
use Rattle.lus_program.specs.View.{expression_of, equations_from}
use Rattle.lus_streams.specs.Clocks.{Clock, clock_of, formal_clock, base_of, branch_clock, Part, parts, all_parts}
use Rattle.lus_streams.specs.Equations.{equation_clock}
use Rattle.lus_streams.specs.Order.{clock_variables}
use Rattle.lus_streams.proofs.Lists.{each_left, each_right, each_append, below_at, item_past}
use Rattle.lus_classes.specs.Classes.{Atom, constant, named, Memory, Argument, Call}
use Rattle.lus_classes.specs.Variables.{ArgumentWithin, AtomWithin, CallWithin, CellWithin, NamesVariables, TestWithin}
use Rattle.lus_classes.specs.View.{argument_of, atom_of, call_of, class_of, clock_from, memory_of}
use Rattle.lus_normal_form.specs.Named.{GivesOutput, Known, Uses}
use Rattle.lus_normal_form.specs.Ready.{IsReady}
use Rattle.lus_normal_form.specs.Laws.{IsChain}
use Rattle.lus_normal_form.proofs.OneTest.{clock_is_chain, untested}
use Rattle.lus_instructions.specs.declared.class.Argument.{Argument as StoredArgument}
use Rattle.lus_instructions.specs.declared.class.Call.{Call as StoredCall}
use Rattle.lus_instructions.specs.declared.class.Class.{Class as StoredClass}
use Rattle.lus_instructions.specs.declared.formula.Atom.{Atom as StoredAtom}
use Rattle.lus_instructions.specs.declared.formula.Atom.TheVariants as atoms
use Rattle.lus_translation.specs.Forms.{Turn, all_cells, all_clocks, all_kept_cells, all_kept_firsts, arguments_form, atom_form, call_first, call_form, calls_form, cells_at, class_form, equation_cells, flags_of, given_cells, kept_cells, kept_firsts, marked, numbers_form, one_clock, tests_in, turn_cells}
use Rattle.lus_translation.specs.Laws.{IsFittingCall, IsFittingRight}
use Rattle.lus_translation.specs.Newest.{newest}
use Rattle.lus_translation.proofs.Chains.{marked_chained}
use Rattle.lus_translation.proofs.Flags.{each_all}
use Rattle.lus_translation.proofs.FittingCalls.{ready_rights_fit}
use Rattle.lus_translation.proofs.NewestTests.{found_again}

module _ (f : Node) where
  -- the variables of a clock
  abbrev pub ClockKnown : Clock → Type 0
  ClockKnown k = Each (Known f) (clock_variables k)

  -- of an atom, a memory, an argument and a call
  abbrev pub AtomKnown : Atom → Type 0
  AtomKnown (constant v) = Unit {0}
  AtomKnown (named x) = Known f x

  abbrev pub MemoryKnown : Memory → Type 0
  MemoryKnown m = ClockKnown m.clock × AtomKnown m.operand

  abbrev pub ArgumentKnown : Argument → Type 0
  ArgumentKnown a = ClockKnown a.clock × AtomKnown a.atom

  abbrev pub CallKnown : Call → Type 0
  CallKnown q = ClockKnown q.base × Each ArgumentKnown q.arguments

  drop_known : (n : ℕ) (k : Clock) → ClockKnown k → ClockKnown (drop n k)
  drop_known zero k h = h
  drop_known (suc n) [] h = h
  drop_known (suc n) (t ∷ k) h = drop_known n k h.1

module _ (p : Program) (f : Node) where
  abbrev Used : Part → Type 0
  Used = Uses (Known f) (GivesOutput p f)

  part_known : (e : Expression) (k : Clock) → Each Used (parts p e k) → ClockKnown f k
  part_known (literal v) k o = o.0.0
  part_known e k o = o.0.0

  atom_known : (e : Expression) (k : Clock) → Each Used (parts p e k) → AtomKnown f (atom_form e)
  atom_known (variable x) k o = o.0.1
  atom_known e k o = tt

  kept_atom_known : (n : ℕ) (e : Expression) (k : Clock) → Each Used (parts p (numbered n e) k) → AtomKnown f (atom_form e)
  kept_atom_known n (variable x) k o = o.0.1
  kept_atom_known n e k o = tt

  -- what an expression without numbers keeps
  mutual
    kept_known : (n : ℕ) (e : Expression) (k : Clock) → Each Used (parts p (numbered n e) k) → Each (MemoryKnown f) (kept_cells e k) × Each (ClockKnown f) (kept_firsts e k)
    kept_known n (literal v) k o = (tt, tt)
    kept_known n (operate op es) k o = all_kept_known n es (one_clock k) 0 o.1
    kept_known n (pre a) k o = (((o.0.0, kept_atom_known n a k o.1), tt), tt)
    kept_known n (arrow a b) k o =
        let first = kept_known n a k (each_left Used (parts p (numbered n a) k) (parts p (numbered (n + calls a) b) k) o.1) in
        let later = kept_known (n + calls a) b k (each_right Used (parts p (numbered n a) k) (parts p (numbered (n + calls a) b) k) o.1) in
        (each_append (MemoryKnown f) (kept_cells a k) (kept_cells b k) first.0 later.0, (o.0.0, each_append (ClockKnown f) (kept_firsts a k) (kept_firsts b k) first.1 later.1))
    kept_known n (merge x bs) k o = all_kept_known n bs (branch_clock x k) 0 o.1
    kept_known n e k o = (tt, tt)

    all_kept_known : (n : ℕ) (es : Operands) (ks : ℕ → Clock) (m : ℕ) → Each Used (all_parts p (all_numbered n es) ks m) → Each (MemoryKnown f) (all_kept_cells es ks m) × Each (ClockKnown f) (all_kept_firsts es ks m)
    all_kept_known n none ks m o = (tt, tt)
    all_kept_known n (more e es) ks m o =
        let k = ks m in
        let rest = all_parts p (all_numbered (n + calls e) es) ks (suc m) in
        let first = kept_known n e k (each_left Used (parts p (numbered n e) k) rest o) in
        let later = all_kept_known (n + calls e) es ks (suc m) (each_right Used (parts p (numbered n e) k) rest o) in
        (each_append (MemoryKnown f) (kept_cells e k) (all_kept_cells es ks (suc m)) first.0 later.0, each_append (ClockKnown f) (kept_firsts e k) (all_kept_firsts es ks (suc m)) first.1 later.1)

  given_known : (e : Expression) (k : Clock) (xs : List ℕ) → Each (MemoryKnown f) (kept_cells e k) → Each (MemoryKnown f) (given_cells e k xs)
  given_known e k [] h = tt
  given_known e k (x ∷ xs) h = each_append (MemoryKnown f) (kept_cells e k) (given_cells e k xs) h (given_known e k xs h)

  -- what an equation keeps at a turn, and the clocks of what it marks
  turn_known : (n : ℕ) (e : Expression) (k : Clock) → IsFittingRight p f (numbered n e) k
      → ((xs : List ℕ) → Each (MemoryKnown f) (turn_cells e k xs)) × Each (ClockKnown f) (kept_firsts e k)
  turn_known n (call g i args) k fit = (λ xs. tt, tt)
  turn_known n (literal v) k fit = (λ xs. given_known (literal v) k xs tt, tt)
  turn_known n e k fit = let kept = kept_known n e k fit.1.known in (λ xs. given_known e k xs kept.0, kept.1)

  equation_known : (n : ℕ) (qs : List StoredEquation) (i : ℕ) (xs : List ℕ) → Each (λ q. IsFittingRight p f q.right (equation_clock f q)) (equations_from n qs)
      → Each (MemoryKnown f) (equation_cells f (slice_get qs i) xs)
  equation_known n [] i xs fit = tt
  equation_known n (q ∷ qs) zero xs fit = (turn_known n (expression_of q.right) (clock_of f (item 0 q.targets.items 0)) fit.0).0 xs
  equation_known n (q ∷ qs) (suc i) xs fit = equation_known (n + calls (expression_of q.right)) qs i xs fit.1

  -- what all turns keep
  all_known : (qs : List StoredEquation) (numbers : List ℕ) (ts : List Turn) → Each (λ q. IsFittingRight p f q.right (equation_clock f q)) (equations_from 0 qs)
      → Each (MemoryKnown f) (all_cells p f qs numbers ts)
  all_known qs numbers [] fit = tt
  all_known qs numbers (t ∷ ts) fit =
      each_append (MemoryKnown f) (cells_at p f qs numbers t) (all_cells p f qs numbers ts) (equation_known 0 qs t.equation t.variables fit) (all_known qs numbers ts fit)

  -- and what all equations mark
  marked_known : (n : ℕ) (qs : List StoredEquation) → Each (λ q. IsFittingRight p f q.right (equation_clock f q)) (equations_from n qs) → Each (ClockKnown f) (marked f qs)
  marked_known n [] fit = tt
  marked_known n (q ∷ qs) fit =
      let e = expression_of q.right in
      let k = clock_of f (item 0 q.targets.items 0) in
      each_append (ClockKnown f) (kept_firsts e k) (marked f qs) (turn_known n e k fit.0).1 (marked_known (n + calls e) qs fit.1)

  arguments_known : (es : Operands) (g : Node) (args : Operands) (base : Clock) (m : ℕ) → Each Used (all_parts p es (formal_clock g args base) m) → Each (ArgumentKnown f) (arguments_form es g args base m)
  arguments_known none g args base m o = tt
  arguments_known (more e es) g args base m o =
      let k = formal_clock g args base m in
      let rest = all_parts p es (formal_clock g args base) (suc m) in
      let here = each_left Used (parts p e k) rest o in
      ((part_known e k here, atom_known e k here), arguments_known es g args base (suc m) (each_right Used (parts p e k) rest o))

  call_known : (g : ℕ) (args : Operands) (k : Clock) → ClockKnown f k → IsFittingCall p f g args (base_of (node_at p g) k) → CallKnown f (call_form p g args k)
  call_known g args k h fit = (drop_known f _ k h, arguments_known args (node_at p g) args (base_of (node_at p g) k) 0 fit.known)

  module _ (own : (x : ℕ) → ClockKnown f (clock_of f x)) where
    calls_first : (e : Expression) (k : Clock) → ClockKnown f k → IsFittingRight p f e k → (rest : List Call) → Each (CallKnown f) rest → Each (CallKnown f) (call_first p e k rest)
    calls_first (call g i args) k h fit rest later = (call_known g args k h fit, later)
    calls_first (literal v) k h fit rest later = later
    calls_first e k h fit rest later = later

    calls_known : (qs : List Equation) → Each (λ q. IsFittingRight p f q.right (equation_clock f q)) qs → Each (CallKnown f) (calls_form p f qs)
    calls_known [] fit = tt
    calls_known (q ∷ qs) fit = calls_first q.right (equation_clock f q) (own (item 0 q.targets 0)) fit.0 (calls_form p f qs) (calls_known qs fit.1)

    clocks_known : (x n : ℕ) → Each (ClockKnown f) (all_clocks f x n)
    clocks_known x zero = tt
    clocks_known x (suc n) = (own x, clocks_known (suc x) n)

-- the clock of a variable, known or not
own_known : (p : Program) (f : Node) → IsReady p f → (x : ℕ) → ClockKnown f (clock_of f x)
own_known p f ready x =
    ⊎_elim
    (λ lt. below_at (λ y. ClockKnown f (clock_of f y)) (length f.variables) ready.named.clocks x lt)
    (λ past. subst (ClockKnown f) (sym (untested f ready.on_clocks.declared x (ap (λ v. v.test) (item_past no_variable f.variables x past)))) tt)
    (cases_lt x (length f.variables))

-- what holds of all that is seen holds of all
each_of : {X Y : Type 0} (g : X → Y) (P : Y → Type 0) (Q : X → Type 0) → ((x : X) → P (g x) → Q x) → (xs : List X) → Each P (map g xs) → Each Q xs
each_of g P Q h [] all = tt
each_of g P Q h (x ∷ xs) all = (h x all.0, each_of g P Q h xs all.1)

all_of : {X Y : Type 0} (g : X → Y) (P : Y → Type 0) (xs : List X) → Each (λ x. P (g x)) xs → Each P (map g xs)
all_of g P [] all = tt
all_of g P (x ∷ xs) all = (all.0, all_of g P xs all.1)

-- the clocks of first-flags are among those that equations mark
newest_known : (f : Node) (ks : List Clock) → Each (IsChain f) ks → Each (ClockKnown f) ks → Each (λ t. ClockKnown f (clock_from (tests_in f) t)) (map newest ks)
newest_known f [] chained known = tt
newest_known f (k ∷ ks) chained known = (subst (ClockKnown f) (sym (found_again f k chained.0)) known.0, newest_known f ks chained.1 known.1)

flags_known : (p : Program) (f : Node) (qs : List StoredEquation) → Each (IsChain f) (marked f qs) → Each (ClockKnown f) (marked f qs)
    → Each (ClockKnown f) (map (clock_from (tests_in f)) (flags_of f qs))
flags_known p f qs chained known =
    all_of (clock_from (tests_in f)) (ClockKnown f) (flags_of f qs)
    (each_all (λ t. ClockKnown f (clock_from (tests_in f) t)) [] (map newest (marked f qs)) tt (newest_known f (marked f qs) chained known))

-- a stored class with as many variables as the node
module _ (f : Node) (c : StoredClass) (wide : length c.tests.items ≡ length f.variables) where
  abbrev tests : List (Option Test)
  tests = c.tests.items

  test_within : (o : Option Test) → ClockKnown f (clock_from c.tests.items o) → TestWithin (length c.tests.items) o
  test_within None h = tt
  test_within (Some t) h = subst (λ n. t.variable < n) (sym wide) h.0

  atom_within : (a : StoredAtom) → AtomKnown f (atom_of a) → AtomWithin (length c.tests.items) a
  atom_within (atoms.Constant v) h = tt
  atom_within (atoms.Variable x) h = subst (λ n. x < n) (sym wide) h

  argument_within : (a : StoredArgument) → ArgumentKnown f (argument_of c.tests.items a) → ArgumentWithin (length c.tests.items) a
  argument_within a h = (test_within a.test h.0, atom_within a.atom h.1)

  call_within : (q : StoredCall) → CallKnown f (call_of c.tests.items q) → CallWithin (length c.tests.items) q
  call_within q h =
      (test_within q.base h.0, each_of (argument_of tests) (ArgumentKnown f) (ArgumentWithin (length tests)) argument_within q.arguments.items h.1)

  pub names_variables : (p : Program) (qs : List StoredEquation) (ts : List Turn) → IsReady p f → f.equations ≡ equations_from 0 qs → class_of c ≡ class_form p f qs (numbers_form 0 qs) ts
      → NamesVariables c
  names_variables p qs ts ready is same =
      let own = own_known p f ready in
      let fit = ready_rights_fit p f ready in
      let stored = subst (Each (λ q. IsFittingRight p f q.right (equation_clock f q))) is fit in
      let kept = all_known p f qs (numbers_form 0 qs) ts stored in
      let flags = flags_known p f qs (marked_chained p f (clock_is_chain f ready.on_clocks.declared) 0 qs stored) (marked_known p f 0 qs stored) in
      let w = length tests in
      record {
        tests = each_of (clock_from tests) (ClockKnown f) (TestWithin w) test_within tests (subst (λ d. Each (ClockKnown f) d.clocks) (sym same) (clocks_known p f own 0 (length f.variables)));
        cells = each_of (memory_of tests) (MemoryKnown f) (CellWithin w) (λ m h. (test_within m.test h.0, atom_within m.operand h.1)) c.cells.items (subst (λ d. Each (MemoryKnown f) d.memories) (sym same) kept);
        firsts = each_of (clock_from tests) (ClockKnown f) (TestWithin w) test_within c.firsts.items (subst (λ d. Each (ClockKnown f) d.firsts) (sym same) flags);
        calls = each_of (call_of tests) (CallKnown f) (CallWithin w) call_within c.calls.items (subst (λ d. Each (CallKnown f) d.calls) (sym same) (calls_known p f own f.equations fit));
      }
