-- A class that is made of turns keeps no more than its node wants: each variable has one turn at most, and an equation that is
-- no call one variable.
use Rattle.std.proofs.Common.{◌≡◌, ◌≢◌, ◌∙◌, ℕ, zero, suc, ◌+◌, ◌<◌, ◌≤◌, Bool, true, false, cond, ◌||◌, nat_eq, nat_lt, List, [], ◌∷◌, length, length-append, map, sum_by, Option, Some, None, slice_get, refl, sym, ap, subst, arith, ⊎_elim, eq-eqb}
use Rattle.std.proofs.lemmas.Bool.{cases_eq, cases_lt, eqb-true}
use Rattle.std.proofs.lemmas.List.{length-map}
use Rattle.std.proofs.lemmas.List.Sums.{sum_by-append, sum_by-cons}
use Rattle.lus_values.specs.Lists.{item, Each}
use Rattle.lus_program.specs.declared.node.Equation.{Equation as StoredEquation}
use Rattle.lus_program.specs.Programs.{Expression, literal, operate, arrow, merge, call, Operands, none, more, calls, numbered, all_numbered, Equation, Node, Program}
use Rattle.lus_program.specs.View.{expression_of, equations_from}
use Rattle.lus_streams.specs.Clocks.{Clock, clock_of, branch_clock}
use Rattle.lus_streams.specs.Equations.{Definition, given_by, definition_in, definition_of, equation_clock, place_in}
use Rattle.lus_normal_form.specs.NormalNodes.{memories, all_memories, firsts, all_firsts, count_rights}
use Rattle.lus_normal_form.specs.NormalForm.{IsSimpleRight}
use Rattle.lus_normal_form.specs.Ready.{IsReady}
use Rattle.lus_translation.specs.Forms.{kept_cells, all_kept_cells, kept_firsts, all_kept_firsts, flags_of, given_cells, marked, tests_in, turn_cells, equation_cells, Turn, cells_at, all_cells, numbers_form}
use Rattle.lus_translation.specs.Orders.{InOrder, IsGivenBy, IsTurn, AreTurns, in_turn}
use Rattle.lus_instructions.specs.declared.class.Class.{Class as StoredClass}
use Rattle.lus_classes.specs.View.{class_of, clock_from, memory_of}
use Rattle.lus_translation.specs.Forms.{class_form}
use Rattle.lus_turns.specs.Turned.{HasOneLeft, HaveOneLeft, KeepsFew}
use Rattle.lus_translation.specs.Newest.{newest}
use Rattle.lus_translation.proofs.Flags.{all_few}
use Rattle.lus_turns.proofs.StoredEquations.{stored_at}

-- ---- what right sides keep

mutual
  kept_few : (n : ℕ) (e : Expression) (k : Clock) → (length (kept_cells e k) ≤ memories (numbered n e)) × (length (kept_firsts e k) ≤ firsts (numbered n e))
  kept_few n (literal v) k = (omega arith, omega arith)
  kept_few n (operate o es) k = all_kept_few n es (λ m. k) 0
  kept_few n (arrow a b) k =
      let first = kept_few n a k in
      let later = kept_few (n + calls a) b k in
      let cells = length-append (kept_cells a k) (kept_cells b k) in
      let flags = length-append (kept_firsts a k) (kept_firsts b k) in
      (omega (arith, first.0, later.0, cells), omega (arith, first.1, later.1, flags))
  kept_few n (merge x bs) k = all_kept_few n bs (branch_clock x k) 0
  kept_few n e k = (omega arith, omega arith)

  all_kept_few : (n : ℕ) (es : Operands) (ks : ℕ → Clock) (m : ℕ)
      → (length (all_kept_cells es ks m) ≤ all_memories (all_numbered n es)) × (length (all_kept_firsts es ks m) ≤ all_firsts (all_numbered n es))
  all_kept_few n none ks m = (omega arith, omega arith)
  all_kept_few n (more e es) ks m =
      let first = kept_few n e (ks m) in
      let later = all_kept_few (n + calls e) es ks (suc m) in
      let cells = length-append (kept_cells e (ks m)) (all_kept_cells es ks (suc m)) in
      let flags = length-append (kept_firsts e (ks m)) (all_kept_firsts es ks (suc m)) in
      (omega (arith, first.0, later.0, cells), omega (arith, first.1, later.1, flags))

-- ---- sums over the first n numbers

abbrev total : (ℕ → ℕ) → ℕ → ℕ
total V zero = 0
total V (suc n) = V n + total V n

-- those that aren't known
abbrev unknown : (ℕ → ℕ) → (ℕ → Bool) → ℕ → ℕ
unknown V known zero = 0
unknown V known (suc n) = cond (known n) 0 (V n) + unknown V known n

total_less : (V W : ℕ → ℕ) (n : ℕ) → ((x : ℕ) → x < n → V x ≤ W x) → total V n ≤ total W n
total_less V W zero h = omega arith
total_less V W (suc n) h =
    let here = h n (omega arith) in
    let rest = total_less V W n (λ x lt. h x (omega arith)) in
    omega (arith, here, rest)

total_none : (n : ℕ) → total (λ x. 0) n ≤ 0
total_none zero = omega arith
total_none (suc n) = let rest = total_none n in omega (arith, rest)

-- at one number more by w
total_more : (V W : ℕ → ℕ) (y w n : ℕ) → ((x : ℕ) → x ≢ y → V x ≤ W x) → V y ≤ w → total V n ≤ w + total W n
total_more V W y w zero others one = omega arith
total_more V W y w (suc n) others one =
    ⊎_elim
    (λ (same : n ≡ y).
    let here : V n ≤ w = subst (λ z. V z ≤ w) (sym same) one in
    let below = total_less V W n (λ x lt. others x (λ e. absurd (omega (arith, e, same, lt)))) in
    omega (arith, here, below))
    (λ (other : n ≢ y).
    let here = others n other in
    let rest = total_more V W y w n others one in
    omega (arith, here, rest))
    (cases_eq n y)

cond_less : (a b : Bool) (v : ℕ) → cond (a || b) 0 v ≤ cond b 0 v
cond_less true true v = omega arith
cond_less true false v = omega arith
cond_less false true v = omega arith
cond_less false false v = omega arith

cond_most : (b : Bool) (v : ℕ) → cond b 0 v ≤ v
cond_most true v = omega arith
cond_most false v = omega arith

unknown_less : (V : ℕ → ℕ) (known also : ℕ → Bool) (n : ℕ) → unknown V (λ y. also y || known y) n ≤ unknown V known n
unknown_less V known also zero = omega arith
unknown_less V known also (suc n) =
    let here = cond_less (also n) (known n) (V n) in
    let rest = unknown_less V known also n in
    omega (arith, here, rest)

unknown_most : (V : ℕ → ℕ) (known : ℕ → Bool) (n : ℕ) → unknown V known n ≤ total V n
unknown_most V known zero = omega arith
unknown_most V known (suc n) =
    let here = cond_most (known n) (V n) in
    let rest = unknown_most V known n in
    omega (arith, here, rest)

known_here : (b c : Bool) (v : ℕ) → b ≡ true → c ≡ false → v + cond (b || c) 0 v ≤ cond c 0 v
known_here true true v p q = absurd (cc)
known_here true false v p q = omega arith
known_here false c v p q = absurd (cc)

-- one number more that is known
known_next : (V : ℕ → ℕ) (known : ℕ → Bool) (x n : ℕ) → x < n → known x ≡ false → V x + unknown V (λ y. nat_eq y x || known y) n ≤ unknown V known n
known_next V known x zero lt new = absurd (omega arith)
known_next V known x (suc n) lt new =
    ⊎_elim
    (λ (less : x < n).
    let here = cond_less (nat_eq n x) (known n) (V n) in
    let rest = known_next V known x n less new in
    omega (arith, here, rest))
    (λ (last : n ≤ x).
    let same : n ≡ x = omega (arith, last, lt) in
    let here = known_here (nat_eq n x) (known n) (V n) (eq-eqb n x same) (ap known same ∙ new) in
    let value = ap V same in
    let rest = unknown_less V known (λ y. nat_eq y x) n in
    omega (arith, here, value, rest))
    (cases_lt x n)

-- variables in an order are counted once each
order_counts : (p : Program) (f : Node) (V : ℕ → ℕ) (xs : List ℕ) (known : ℕ → Bool) → InOrder p f xs known → sum_by V xs ≤ unknown V known (length f.variables)
order_counts p f V [] known h = omega arith
order_counts p f V (x ∷ xs) known h =
    let rest = order_counts p f V xs (λ y. nat_eq y x || known y) h.3 in
    let one = known_next V known x (length f.variables) h.2 h.1 in
    let sum = sum_by-cons V x xs in
    omega (arith, rest, one, sum)

-- ---- what definitions keep

module _ (count : Expression → ℕ) where
  -- a right side itself, a call nothing
  abbrev own : Expression → ℕ
  own (call g c args) = 0
  own e = count e

  abbrev kept_by : Option Definition → ℕ
  kept_by None = 0
  kept_by (Some (given_by e n xs k)) = own e

  -- w where there is a place, else v
  abbrev picked : Option ℕ → ℕ → ℕ → ℕ
  picked None w v = v
  picked (Some m) w v = w

  picked_is : (e : Expression) (ts : List ℕ) (k : Clock) (o : Option ℕ) (d : Option Definition) → kept_by (elim o [ None ↦ d | Some n ↦ Some (given_by e n ts k) ]) ≡ picked o (own e) (kept_by d)
  picked_is e ts k None d = refl
  picked_is e ts k (Some n) d = refl

  picked_none : (o : Option ℕ) (v : ℕ) → picked o 0 v ≤ v
  picked_none None v = omega arith
  picked_none (Some m) v = omega arith

  picked_other : (b : Bool) (w v : ℕ) → b ≡ false → picked (cond b (Some 0) None) w v ≤ v
  picked_other true w v e = absurd (cc)
  picked_other false w v e = omega arith

  picked_one : (b : Bool) (w v : ℕ) → b ≡ true → picked (cond b (Some 0) None) w v ≤ w
  picked_one true w v e = omega arith
  picked_one false w v e = absurd (cc)

  differ : (a b : ℕ) → a ≢ b → (c : Bool) → nat_eq a b ≡ c → c ≡ false
  differ a b h true e = absurd (h (eqb-true a b e))
  differ a b h false e = refl

  -- on a left side of one variable
  picked_few : (ts : List ℕ) (w : ℕ) (V : ℕ → ℕ) (n : ℕ) → length ts ≤ 1 → total (λ x. picked (place_in x ts 0) w (V x)) n ≤ w + total V n
  picked_few [] w V n h = let all = total_less (λ x. V x) V n (λ x lt. omega arith) in omega (arith, all)
  picked_few (y ∷ []) w V n h =
      total_more (λ x. picked (place_in x (y ∷ []) 0) w (V x)) V y w n
      (λ x other. picked_other (nat_eq x y) w (V x) (differ x y other (nat_eq x y) refl))
      (picked_one (nat_eq y y) w (V y) (eq-eqb y y refl))
  picked_few (y ∷ z ∷ ts) w V n h = absurd (omega (arith, h))

  equation_few : (e : Expression) (ts : List ℕ) (V : ℕ → ℕ) (n : ℕ) → HasOneLeft e (length ts) → total (λ x. picked (place_in x ts 0) (own e) (V x)) n ≤ count e + total V n
  equation_few (call g c args) ts V n h =
      let all = total_less (λ x. picked (place_in x ts 0) 0 (V x)) V n (λ x lt. picked_none (place_in x ts 0) (V x)) in omega (arith, all)
  equation_few e ts V n h = picked_few ts (count e) V n h

  -- all definitions keep no more than the right sides want
  definitions_few : (f : Node) (qs : List Equation) (n : ℕ) → Each (λ q. HasOneLeft q.right (length q.targets)) qs → total (λ x. kept_by (definition_in f qs x)) n ≤ count_rights count qs
  definitions_few f [] n h = total_none n
  definitions_few f (q ∷ qs) n h =
      let V : ℕ → ℕ = λ x. kept_by (definition_in f qs x) in
      let seen = total_less (λ x. kept_by (definition_in f (q ∷ qs) x)) (λ x. picked (place_in x q.targets 0) (own q.right) (V x)) n
      (λ x lt. let e = picked_is q.right q.targets (equation_clock f q) (place_in x q.targets 0) (definition_in f qs x) in omega (arith, e)) in
      let here = equation_few q.right q.targets V n h.0 in
      let rest = definitions_few f qs n h.1 in
      omega (arith, seen, here, rest)

  abbrev variable_keeps : Node → ℕ → ℕ
  variable_keeps f x = kept_by (definition_of f x)

  -- those of turns too
  turns_few : (p : Program) (f : Node) (ts : List Turn) → AreTurns p f ts → Each (λ q. HasOneLeft q.right (length q.targets)) f.equations
      → sum_by (variable_keeps f) (in_turn ts) ≤ count_rights count f.equations
  turns_few p f ts turns one =
      let once = order_counts p f (variable_keeps f) (in_turn ts) (λ x. nat_lt x f.inputs) turns.order in
      let all = unknown_most (variable_keeps f) (λ x. nat_lt x f.inputs) (length f.variables) in
      let few = definitions_few f f.equations (length f.variables) one in
      omega (arith, once, all, few)

  -- the variables of a turn keep what its right side wants
  turn_keeps : (f : Node) (q : Equation) (xs : List ℕ) → Each (IsGivenBy f q) xs → Each (λ x. variable_keeps f x ≡ own q.right) xs
  turn_keeps f q [] h = tt
  turn_keeps f q (x ∷ xs) h = (ap kept_by h.0.defined, turn_keeps f q xs h.1)

-- ---- what turns keep

given_cells_few : (e : Expression) (k : Clock) (w : ℕ) (V : ℕ → ℕ) (xs : List ℕ) → length (kept_cells e k) ≤ w → Each (λ x. V x ≡ w) xs → length (given_cells e k xs) ≤ sum_by V xs
given_cells_few e k w V [] few h = omega arith
given_cells_few e k w V (x ∷ xs) few h =
    let here = h.0 in
    let rest = given_cells_few e k w V xs few h.1 in
    let both = length-append (kept_cells e k) (given_cells e k xs) in
    let sum = sum_by-cons V x xs in
    omega (arith, few, here, rest, both, sum)

turn_cells_few : (n : ℕ) (e : Expression) (k : Clock) (V : ℕ → ℕ) (xs : List ℕ) → Each (λ x. V x ≡ own memories (numbered n e)) xs → length (turn_cells e k xs) ≤ sum_by V xs
turn_cells_few n (call g c args) k V xs h = omega arith
turn_cells_few n e k V xs h = given_cells_few e k (memories (numbered n e)) V xs (kept_few n e k).0 h

module _ (p : Program) (f : Node) (ready : IsReady p f) (qs : List StoredEquation) (is : f.equations ≡ equations_from 0 qs) where
  cells_in_turns : (ts : List Turn) → Each (IsTurn f) ts → length (all_cells p f qs (numbers_form 0 qs) ts) ≤ sum_by (variable_keeps memories f) (in_turn ts)
  cells_in_turns [] h = omega arith
  cells_in_turns (t ∷ ts) h =
      let V = variable_keeps memories f in
      let turn = h.0 in
      let simple = subst (Each (λ r. IsSimpleRight r.right)) is ready.simple in
      let s = stored_at 0 qs t.equation turn.equation simple (subst (λ es. slice_get es t.equation ≡ Some turn.equation) is turn.here) in
      let number = item 0 (numbers_form 0 qs) t.equation in
      let keeps = subst (λ (q : Equation). Each (λ x. V x ≡ own memories q.right) t.variables) (sym s.same) (turn_keeps memories f turn.equation t.variables turn.given) in
      let own_few = turn_cells_few number (expression_of s.stored.right) (clock_of f (item 0 s.stored.targets.items 0)) V t.variables keeps in
      let here = subst (λ z. length (equation_cells f z t.variables) ≤ sum_by V t.variables) (sym s.here) own_few in
      let rest = cells_in_turns ts h.1 in
      let both = length-append (cells_at p f qs (numbers_form 0 qs) t) (all_cells p f qs (numbers_form 0 qs) ts) in
      let sum = sum_by-append V t.variables (in_turn ts) in
      omega (arith, here, rest, both, sum)

  -- no more cells than the node's memories
  few_cells : (ts : List Turn) → AreTurns p f ts → Each (λ q. HasOneLeft q.right (length q.targets)) f.equations
      → length (all_cells p f qs (numbers_form 0 qs) ts) ≤ count_rights memories f.equations
  few_cells ts turns one =
      let here = cells_in_turns ts turns.each in
      let all = turns_few memories p f ts turns one in
      omega (arith, here, all)

  -- no more first-flags than its marks of a first instant
  marked_few : (n : ℕ) (rs : List StoredEquation) → length (marked f rs) ≤ count_rights firsts (equations_from n rs)
  marked_few n [] = omega arith
  marked_few n (q ∷ rs) =
      let e = expression_of q.right in
      let k = clock_of f (item 0 q.targets.items 0) in
      let here = (kept_few n e k).1 in
      let rest = marked_few (n + calls e) rs in
      let both = length-append (kept_firsts e k) (marked f rs) in
      omega (arith, here, rest, both)

  -- the class of the turns
  pub keeps_few : (ts : List Turn) → AreTurns p f ts → (c : StoredClass) → class_of c ≡ class_form p f qs (numbers_form 0 qs) ts → HaveOneLeft f → KeepsFew f c
  keeps_few ts turns c made one =
      let cells = ap (λ d. length d.memories) made in
      let firsts_made = ap (λ d. length d.firsts) made ∙ length-map (flags_of f qs) (clock_from (tests_in f)) in
      let stored_cells = length-map c.cells.items (memory_of c.tests.items) in
      let stored_firsts = length-map c.firsts.items (clock_from c.tests.items) in
      let a = few_cells ts turns one in
      let flags = all_few [] (map newest (marked f qs)) in
      let marks = length-map (marked f qs) newest in
      let wants = ap (count_rights firsts) is in
      let b = marked_few 0 qs in
      record { cells = omega (arith, cells, stored_cells, a); firsts = omega (arith, firsts_made, stored_firsts, flags, marks, wants, b) }
