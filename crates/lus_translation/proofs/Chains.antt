-- The clocks of what is made of a node on clocks: each is a test after the clock of the test's variable.
use Rattle.std.proofs.Common.{◌≡◌, ℕ, zero, suc, ◌+◌, List, [], ◌∷◌, slice_get}
use Rattle.lus_values.specs.Lists.{item, Each}
use Rattle.lus_program.specs.declared.node.Equation.{Equation as StoredEquation}
use Rattle.lus_program.specs.Programs.{Expression, literal, variable, operate, pre, arrow, merge, call, Operands, none, more, Equation, Node, Program, node_at, calls, numbered, all_numbered}
use Rattle.lus_program.specs.View.{expression_of, equations_from}
use Rattle.lus_streams.specs.Clocks.{Clock, clock_of, operand, formal_clock, base_of, branch_clock, Part, parts, all_parts}
use Rattle.lus_streams.specs.Equations.{equation_clock}
use Rattle.lus_streams.specs.OnClock.{PartOnClock}
use Rattle.lus_streams.proofs.Lists.{each_left, each_right, each_append}
use Rattle.lus_classes.specs.Classes.{Memory, Argument, Call}
use Rattle.lus_normal_form.specs.Laws.{IsChain}
use Rattle.lus_normal_form.proofs.OneTest.{call_clock, chain_drop, clock_is_chain, renamed_is_chain}
use Rattle.lus_translation.specs.Forms.{Turn, all_cells, arguments_form, call_first, call_form, calls_form, cells_at, equation_cells, given_cells, marked, turn_cells, kept_cells, all_kept_cells, kept_firsts, all_kept_firsts, one_clock}
use Rattle.lus_translation.specs.Laws.{IsFittingCall, IsFittingRight}

module _ (f : Node) where
  -- so are those of a memory, an argument and a call
  abbrev pub Chained : Memory → Type 0
  Chained m = IsChain f m.clock

  abbrev pub ArgumentChained : Argument → Type 0
  ArgumentChained a = IsChain f a.clock

  pub record CallChained (q : Call) : Type 0 where
    pub base : IsChain f q.base
    pub arguments : Each ArgumentChained q.arguments

  arguments_chained : (es : Operands) (g : Node) (args : Operands) (base : Clock) (m : ℕ) → ((y : ℕ) → IsChain g (clock_of g y)) → IsChain f base
      → ((m x : ℕ) → operand args m ≡ variable x → clock_of f x ≡ formal_clock g args base m) → Each ArgumentChained (arguments_form es g args base m)
  arguments_chained none g args base m formals h on = tt
  arguments_chained (more e es) g args base m formals h on =
      (renamed_is_chain f g args base (clock_of g m) (formals m) h on, arguments_chained es g args base (suc m) formals h on)

module _ (p : Program) (f : Node) where
  abbrev OnClock : Part → Type 0
  OnClock = PartOnClock p f

  -- what an expression without numbers keeps, where it is on its clock with its numbers
  mutual
    kept_chained : (n : ℕ) (e : Expression) (k : Clock) → IsChain f k → Each OnClock (parts p (numbered n e) k) → Each (Chained f) (kept_cells e k) × Each (IsChain f) (kept_firsts e k)
    kept_chained n (literal v) k h o = (tt, tt)
    kept_chained n (operate op es) k h o = all_kept_chained n es (one_clock k) 0 (λ m. h) o.1
    kept_chained n (pre a) k h o = ((h, tt), tt)
    kept_chained n (arrow a b) k h o =
        let first = kept_chained n a k h (each_left OnClock (parts p (numbered n a) k) (parts p (numbered (n + calls a) b) k) o.1) in
        let later = kept_chained (n + calls a) b k h (each_right OnClock (parts p (numbered n a) k) (parts p (numbered (n + calls a) b) k) o.1) in
        (each_append (Chained f) (kept_cells a k) (kept_cells b k) first.0 later.0, (h, each_append (IsChain f) (kept_firsts a k) (kept_firsts b k) first.1 later.1))
    kept_chained n (merge x bs) k h o = all_kept_chained n bs (branch_clock x k) 0 (λ m. (o.0, h)) o.1
    kept_chained n e k h o = (tt, tt)

    all_kept_chained : (n : ℕ) (es : Operands) (ks : ℕ → Clock) (m : ℕ) → ((l : ℕ) → IsChain f (ks l)) → Each OnClock (all_parts p (all_numbered n es) ks m) → Each (Chained f) (all_kept_cells es ks m) × Each (IsChain f) (all_kept_firsts es ks m)
    all_kept_chained n none ks m h o = (tt, tt)
    all_kept_chained n (more e es) ks m h o =
        let k = ks m in
        let rest = all_parts p (all_numbered (n + calls e) es) ks (suc m) in
        let first = kept_chained n e k (h m) (each_left OnClock (parts p (numbered n e) k) rest o) in
        let later = all_kept_chained (n + calls e) es ks (suc m) h (each_right OnClock (parts p (numbered n e) k) rest o) in
        (each_append (Chained f) (kept_cells e k) (all_kept_cells es ks (suc m)) first.0 later.0, each_append (IsChain f) (kept_firsts e k) (all_kept_firsts es ks (suc m)) first.1 later.1)

  given_chained : (e : Expression) (k : Clock) (xs : List ℕ) → Each (Chained f) (kept_cells e k) → Each (Chained f) (given_cells e k xs)
  given_chained e k [] h = tt
  given_chained e k (x ∷ xs) h = each_append (Chained f) (kept_cells e k) (given_cells e k xs) h (given_chained e k xs h)

  -- what an equation keeps at a turn, and the clocks of what it marks
  turn_chained : (n : ℕ) (e : Expression) (k : Clock) → IsChain f k → IsFittingRight p f (numbered n e) k
      → ((xs : List ℕ) → Each (Chained f) (turn_cells e k xs)) × Each (IsChain f) (kept_firsts e k)
  turn_chained n (call g i args) k h fit = (λ xs. tt, tt)
  turn_chained n (literal v) k h fit = (λ xs. given_chained (literal v) k xs tt, tt)
  turn_chained n e k h fit = let kept = kept_chained n e k h fit.1.on_clock in (λ xs. given_chained e k xs kept.0, kept.1)

  module _ (own : (x : ℕ) → IsChain f (clock_of f x)) where
    equation_chained : (n : ℕ) (qs : List StoredEquation) (i : ℕ) (xs : List ℕ) → Each (λ q. IsFittingRight p f q.right (equation_clock f q)) (equations_from n qs)
        → Each (Chained f) (equation_cells f (slice_get qs i) xs)
    equation_chained n [] i xs fit = tt
    equation_chained n (q ∷ qs) zero xs fit = (turn_chained n (expression_of q.right) (clock_of f (item 0 q.targets.items 0)) (own (item 0 q.targets.items 0)) fit.0).0 xs
    equation_chained n (q ∷ qs) (suc i) xs fit = equation_chained (n + calls (expression_of q.right)) qs i xs fit.1

    -- what all turns keep
    pub all_chained : (qs : List StoredEquation) (numbers : List ℕ) (ts : List Turn) → Each (λ q. IsFittingRight p f q.right (equation_clock f q)) (equations_from 0 qs)
        → Each (Chained f) (all_cells p f qs numbers ts)
    all_chained qs numbers [] fit = tt
    all_chained qs numbers (t ∷ ts) fit =
        each_append (Chained f) (cells_at p f qs numbers t) (all_cells p f qs numbers ts) (equation_chained 0 qs t.equation t.variables fit) (all_chained qs numbers ts fit)

    -- and what all equations mark
    pub marked_chained : (n : ℕ) (qs : List StoredEquation) → Each (λ q. IsFittingRight p f q.right (equation_clock f q)) (equations_from n qs) → Each (IsChain f) (marked f qs)
    marked_chained n [] fit = tt
    marked_chained n (q ∷ qs) fit =
        let e = expression_of q.right in
        let k = clock_of f (item 0 q.targets.items 0) in
        each_append (IsChain f) (kept_firsts e k) (marked f qs) (turn_chained n e k (own (item 0 q.targets.items 0)) fit.0).1 (marked_chained (n + calls e) qs fit.1)

    call_chained : (g : ℕ) (args : Operands) (k : Clock) → IsChain f k → IsFittingCall p f g args (base_of (node_at p g) k) → CallChained f (call_form p g args k)
    call_chained g args k h fit =
        let callee = node_at p g in
        let base = base_of callee k in
        let below = chain_drop f _ k h in
        record { base = below; arguments = arguments_chained f args callee args base 0 (clock_is_chain callee fit.declared) below (call_clock p f callee args base fit.on_clock) }

    calls_first : (e : Expression) (k : Clock) → IsChain f k → IsFittingRight p f e k → (rest : List Call) → Each (CallChained f) rest → Each (CallChained f) (call_first p e k rest)
    calls_first (call g i args) k h fit rest later = (call_chained g args k h fit, later)
    calls_first (literal v) k h fit rest later = later
    calls_first e k h fit rest later = later

    pub calls_chained : (qs : List Equation) → Each (λ q. IsFittingRight p f q.right (equation_clock f q)) qs → Each (CallChained f) (calls_form p f qs)
    calls_chained [] fit = tt
    calls_chained (q ∷ qs) fit = calls_first q.right (equation_clock f q) (own (item 0 q.targets 0)) fit.0 (calls_form p f qs) (calls_chained qs fit.1)
