-- The calls of a right side can run in turn, where what it needs was found; and all calls of a node, the last first.
use Rattle.std.proofs.Common.{◌≡◌, ℕ, zero, suc, ◌+◌, ◌<◌, ◌≤◌, nat_eq, Bool, true, false, ◌||◌, List, [], ◌∷◌, ◌++◌, drop, length, Contains, IsTrue, Option, Some, None, refl, sym, ap, ◌∙◌, subst, append_assoc, append-nil, reverse, arith, ⊎_elim}
use Rattle.std.proofs.lemmas.Bool.{cases_lt}
use Rattle.std.proofs.lemmas.Bool.Decides.{nat_tests}
use Rattle.std.proofs.lemmas.List.{reverse-append}
use Rattle.lus_values.specs.Lists.{Each}
use Rattle.lus_program.specs.Programs.{Expression, literal, variable, operate, pre, arrow, when, merge, call, Operands, none, more, calls, numbered, all_numbered, Equation, Node, Program, node_at}
use Rattle.lus_values.specs.declared.test.Test.{Test}
use Rattle.lus_program.specs.Resolved.{AreNumbered}
use Rattle.lus_streams.specs.Clocks.{Clock, Part, clock_of, formal_clock, base_of, branch_clock, renamed_clock, parts, all_parts}
use Rattle.lus_streams.specs.Equations.{Definition, given_by, definition_of, equation_clock, equation_parts, node_parts, Site, sites}
use Rattle.lus_streams.specs.OnClock.{actuals, DefinedOnClock, IsOnClocks}
use Rattle.lus_streams.specs.Order.{needs, needs_all, clock_variables, needs_right, needed, is_in, HasNeedsFirst}
use Rattle.lus_streams.proofs.Calls.{OfCall, OfSite, AtBase, sites_of_parts}
use Rattle.lus_streams.proofs.Definitions.{RightParts, right_parts, defined_on_clock}
use Rattle.lus_streams.proofs.Lists.{each_left, each_right, each_append, each_all, each_in, each_implies, each_map_right, each_map_drop}
use Rattle.lus_streams.proofs.Unique.{formal_variables}
use Rattle.lus_reference.specs.Needed.{calls_now, all_calls_now}
use Rattle.lus_worlds.proofs.Among.{each_among}
use Rattle.lus_worlds.specs.Turns.{calls_in_turn, all_calls_in_turn, turns_in, turns_of, below, CanRun, CanRunInTurn}

abbrev variable_of : Test → ℕ
variable_of t = t.variable

-- items of lists
in_either : (b c : Bool) → IsTrue c → IsTrue (b || c)
in_either true c h = refl
in_either false c h = h

in_or : (b c d : Bool) → IsTrue (b || c) → IsTrue (b || (c || d))
in_or true c d h = refl
in_or false true d h = refl
in_or false false d h = absurd (cc)

pub in_left : (xs ys : List ℕ) (y : ℕ) → IsTrue (is_in xs y) → IsTrue (is_in (xs ++ ys) y)
in_left [] ys y h = absurd (cc)
in_left (x ∷ xs) ys y h = left (nat_eq y x) (is_in xs y) (is_in (xs ++ ys) y) (in_left xs ys y) h
  where
    left : (b c d : Bool) → (IsTrue c → IsTrue d) → IsTrue (b || c) → IsTrue (b || d)
    left true c d f h = refl
    left false c d f h = f h

pub in_right : (xs ys : List ℕ) (y : ℕ) → IsTrue (is_in ys y) → IsTrue (is_in (xs ++ ys) y)
in_right [] ys y h = h
in_right (x ∷ xs) ys y h = in_either (nat_eq y x) (is_in (xs ++ ys) y) (in_right xs ys y h)

pub in_first : (x : ℕ) (xs : List ℕ) → IsTrue (is_in (x ∷ xs) x)
in_first x xs = first (nat_eq x x) (is_in xs x) (grind (arith, nat_tests))
  where
    first : (b c : Bool) → b ≡ true → IsTrue (b || c)
    first true c e = refl
    first false c e = absurd (cc)

both_now : (xs ys cs ds : List ℕ) → Each (λ c. IsTrue (is_in xs c)) cs → Each (λ c. IsTrue (is_in ys c)) ds → Each (λ c. IsTrue (is_in (xs ++ ys) c)) (cs ++ ds)
both_now xs ys cs ds h k =
    each_append (λ c. IsTrue (is_in (xs ++ ys) c)) cs ds
    (each_implies (λ c. IsTrue (is_in xs c)) (λ c. IsTrue (is_in (xs ++ ys) c)) (λ c. in_left xs ys c) cs h)
    (each_implies (λ c. IsTrue (is_in ys c)) (λ c. IsTrue (is_in (xs ++ ys) c)) (λ c. in_right xs ys c) ds k)

-- the calls outside of `pre` are among those in turn
mutual
  pub now_in_turn : (e : Expression) → Each (λ c. IsTrue (is_in (calls_in_turn e) c)) (calls_now e)
  now_in_turn (literal v) = tt
  now_in_turn (variable x) = tt
  now_in_turn (operate o es) = all_now_in_turn es
  now_in_turn (pre a) = tt
  now_in_turn (arrow a b) = both_now (calls_in_turn a) (calls_in_turn b) (calls_now a) (calls_now b) (now_in_turn a) (now_in_turn b)
  now_in_turn (when t a) = now_in_turn a
  now_in_turn (merge x bs) = all_now_in_turn bs
  now_in_turn (call g c args) =
      let turns = all_calls_in_turn args in
      (in_right turns (c ∷ []) c (in_first c []), each_implies (λ d. IsTrue (is_in turns d)) (λ d. IsTrue (is_in (turns ++ c ∷ []) d)) (λ d. in_left turns (c ∷ []) d) (all_calls_now args) (all_now_in_turn args))

  pub all_now_in_turn : (es : Operands) → Each (λ c. IsTrue (is_in (all_calls_in_turn es) c)) (all_calls_now es)
  all_now_in_turn none = tt
  all_now_in_turn (more e es) = both_now (calls_in_turn e) (all_calls_in_turn es) (calls_now e) (all_calls_now es) (now_in_turn e) (all_now_in_turn es)

-- calls behind others
abbrev behind : List ℕ → List ℕ → List ℕ
behind [] before = before
behind (c ∷ cs) before = behind cs (c ∷ before)

behind_append : (cs ds before : List ℕ) → behind (cs ++ ds) before ≡ behind ds (behind cs before)
behind_append [] ds before = refl
behind_append (c ∷ cs) ds before = behind_append cs ds (c ∷ before)

in_before : (cs before : List ℕ) (d : ℕ) → IsTrue (is_in before d) → IsTrue (is_in (behind cs before) d)
in_before [] before d h = h
in_before (c ∷ cs) before d h = in_before cs (c ∷ before) d (in_either (nat_eq d c) (is_in before d) h)

in_among : (b : Bool) (c : ℕ) (cs before : List ℕ) (d : ℕ) → nat_eq d c ≡ b → (IsTrue (is_in cs d) → IsTrue (is_in (behind cs (c ∷ before)) d)) → IsTrue (b || is_in cs d) → IsTrue (is_in (behind cs (c ∷ before)) d)
in_among true c cs before d e rest h = in_before cs (c ∷ before) d (subst (λ z. IsTrue (z || is_in before d)) (sym e) refl)
in_among false c cs before d e rest h = rest h

in_behind : (cs before : List ℕ) (d : ℕ) → IsTrue (is_in cs d) → IsTrue (is_in (behind cs before) d)
in_behind [] before d h = absurd (cc)
in_behind (c ∷ cs) before d h = in_among (nat_eq d c) c cs before d refl (in_behind cs (c ∷ before) d) h

module _ (p : Program) (all : List Site) where
  -- a call has its number alone
  abbrev pub IsOnly : (g c : ℕ) → Operands → Clock → Type 0
  IsOnly g c args base = (s : Site) → Contains all s → s.number ≡ c → s ≡ record { node = g; number = c; args = args; base = base }

  abbrev pub OnlyCall : Part → Type 0
  OnlyCall = OfCall (AtBase p IsOnly)

module _ (p : Program) (all : List Site) (P : ℕ → Type 0) where
  abbrev Only : Part → Type 0
  Only = OnlyCall p all

  abbrev InTurn : List ℕ → List ℕ → Type 0
  InTurn = CanRunInTurn all P

  -- a call can run behind those in its arguments
  call_in_turn : (g c : ℕ) (args : Operands) (base : Clock) (before rest : List ℕ) → IsOnly p all g c args base → Each P (clock_variables base) → Each P (needs_all args)
      → InTurn (behind (all_calls_in_turn args ++ c ∷ []) before) rest → InTurn (behind (all_calls_in_turn args) before) (c ∷ rest)
  call_in_turn g c args base before rest only hb ha later =
      let turns = all_calls_in_turn args in
      let ran : Each (λ d. d < length all → IsTrue (is_in (behind turns before) d)) (all_calls_now args) =
      each_implies (λ d. IsTrue (is_in turns d)) (λ d. d < length all → IsTrue (is_in (behind turns before) d)) (λ d h lt. in_behind turns before d h) (all_calls_now args) (all_now_in_turn args) in
      let own : CanRun all P c (behind turns before) = λ s among number.
      subst (λ (z : Site). Each P (clock_variables z.base) × Each P (needs_all z.args) × Each (λ d. d < length all → IsTrue (is_in (behind turns before) d)) (all_calls_now z.args)) (sym (only s among number)) (hb, ha, ran) in
      (own, subst (λ b. InTurn b rest) (behind_append turns (c ∷ []) before) later)

  two_in_turn : (cs ds before rest : List ℕ) → InTurn (behind (cs ++ ds) before) rest → (InTurn (behind cs before) (ds ++ rest) → InTurn before (cs ++ (ds ++ rest)))
      → (InTurn (behind ds (behind cs before)) rest → InTurn (behind cs before) (ds ++ rest)) → InTurn before ((cs ++ ds) ++ rest)
  two_in_turn cs ds before rest h first second =
      subst (InTurn before) (sym (append_assoc cs ds rest)) (first (second (subst (λ b. InTurn b rest) (behind_append cs ds before) h)))

  mutual
    right_in_turn : (e : Expression) (k : Clock) (before rest : List ℕ) → Each P (clock_variables k) → Each P (needs e) → Each Only (parts p e k) → InTurn (behind (calls_in_turn e) before) rest → InTurn before (calls_in_turn e ++ rest)
    right_in_turn (literal v) k before rest hk hn hc h = h
    right_in_turn (variable x) k before rest hk hn hc h = h
    right_in_turn (operate o es) k before rest hk hn hc h = all_in_turn es (λ m. k) 0 before rest (λ m. hk) hn hc.1 h
    right_in_turn (pre a) k before rest hk hn hc h = h
    right_in_turn (arrow a b) k before rest hk hn hc h =
        two_in_turn (calls_in_turn a) (calls_in_turn b) before rest h
        (λ later. right_in_turn a k before (calls_in_turn b ++ rest) hk (each_left P (needs a) (needs b) hn) (each_left Only (parts p a k) (parts p b k) hc.1) later)
        (λ later. right_in_turn b k (behind (calls_in_turn a) before) rest hk (each_right P (needs a) (needs b) hn) (each_right Only (parts p a k) (parts p b k) hc.1) later)
    right_in_turn (when t a) k before rest hk hn hc h = right_in_turn a (drop 1 k) before rest (each_map_drop P variable_of 1 k hk) hn.1 hc.1 h
    right_in_turn (merge x bs) k before rest hk hn hc h = all_in_turn bs (branch_clock x k) 0 before rest (λ m. (hn.0, hk)) hn.1 hc.1 h
    right_in_turn (call g c args) k before rest hk hn hc h =
        let base = base_of (node_at p g) k in
        let hb = each_map_drop P variable_of _ k hk in
        subst (InTurn before) (sym (append_assoc (all_calls_in_turn args) (c ∷ []) rest))
        (all_in_turn args (formal_clock (node_at p g) args base) 0 before (c ∷ rest) (λ m. formal_variables P (node_at p g) args base m hn hb) hn hc.1 (call_in_turn g c args base before rest hc.0 hb hn h))

    all_in_turn : (es : Operands) (ks : ℕ → Clock) (m : ℕ) (before rest : List ℕ) → ((n : ℕ) → Each P (clock_variables (ks n))) → Each P (needs_all es) → Each Only (all_parts p es ks m)
        → InTurn (behind (all_calls_in_turn es) before) rest → InTurn before (all_calls_in_turn es ++ rest)
    all_in_turn none ks m before rest hk hn hc h = h
    all_in_turn (more e es) ks m before rest hk hn hc h =
        two_in_turn (calls_in_turn e) (all_calls_in_turn es) before rest h
        (λ later. right_in_turn e (ks m) before (all_calls_in_turn es ++ rest) (hk m) (each_left P (needs e) (needs_all es) hn) (each_left Only (parts p e (ks m)) (all_parts p es ks (suc m)) hc) later)
        (λ later. all_in_turn es ks (suc m) (behind (calls_in_turn e) before) rest hk (each_right P (needs e) (needs_all es) hn) (each_right Only (parts p e (ks m)) (all_parts p es ks (suc m)) hc) later)

  -- a call with this base
  whole_in_turn : (g c : ℕ) (args : Operands) (base : Clock) (before rest : List ℕ) → Each P (clock_variables base) → Each P (needs_all args) → IsOnly p all g c args base
      → Each Only (all_parts p args (formal_clock (node_at p g) args base) 0) → InTurn (behind (all_calls_in_turn args ++ c ∷ []) before) rest → InTurn before ((all_calls_in_turn args ++ c ∷ []) ++ rest)
  whole_in_turn g c args base before rest hb ha only hc h =
      let ks = formal_clock (node_at p g) args base in
      subst (InTurn before) (sym (append_assoc (all_calls_in_turn args) (c ∷ []) rest))
      (all_in_turn args ks 0 before (c ∷ rest) (λ m. formal_variables P (node_at p g) args base m ha hb) ha hc (call_in_turn g c args base before rest only hb ha h))

  -- those of the right side that defines a variable, where what that needs was found
  module _ (f : Node) where
    defined_in_turn : (x : ℕ) (d : Option Definition) → DefinedOnClock p f x d → RightParts p Only d → Each P (clock_variables (clock_of f x)) → Each P (needs_right d) → InTurn [] (turns_in d)
    defined_in_turn x None hd hc hk hn = tt
    defined_in_turn x (Some (given_by (call g c args) n xs k)) hd hc hk hn =
        let base = base_of (node_at p g) k in
        let front = renamed_clock (actuals args xs) (clock_of (node_at p g) ((node_at p g).inputs + n)) in
        let hb = each_map_right P variable_of front base (subst (λ j. Each P (clock_variables j)) hd.0 hk) in
        subst (InTurn []) (append-nil (calls_in_turn (call g c args))) (whole_in_turn g c args base [] [] hb hn hc.0 hc.1 tt)
    defined_in_turn x (Some (given_by e n xs k)) hd hc hk hn =
        subst (InTurn []) (append-nil (calls_in_turn e)) (right_in_turn e k [] [] (subst (λ j. Each P (clock_variables j)) hd hk) hn hc tt)

    pub turns_run : IsOnClocks p f → Each Only (node_parts p f) → (x : ℕ) → Each P (needed f x) → InTurn [] (turns_of f x)
    turns_run clocks only x h =
        defined_in_turn x (definition_of f x) (defined_on_clock p f x clocks) (right_parts p Only f f.equations x only)
        (each_left P (clock_variables (clock_of f x)) (needs_right (definition_of f x)) h) (each_right P (clock_variables (clock_of f x)) (needs_right (definition_of f x)) h)

-- the calls in the arguments of a call have greater numbers
abbrev pub IsBefore : (g c : ℕ) → Operands → Clock → Type 0
IsBefore g c args k = Each (λ d. c < d) (all_calls_now args)

mutual
  numbers_from : (e : Expression) (n m : ℕ) → m < n → Each (λ d. m < d) (calls_now (numbered n e))
  numbers_from (literal v) n m lt = tt
  numbers_from (variable x) n m lt = tt
  numbers_from (operate o es) n m lt = all_numbers_from es n m lt
  numbers_from (pre a) n m lt = tt
  numbers_from (arrow a b) n m lt = each_append (λ d. m < d) (calls_now (numbered n a)) (calls_now (numbered (n + calls a) b)) (numbers_from a n m lt) (numbers_from b (n + calls a) m (omega (arith, lt)))
  numbers_from (when t a) n m lt = numbers_from a n m lt
  numbers_from (merge x bs) n m lt = all_numbers_from bs n m lt
  numbers_from (call g c args) n m lt = (lt, all_numbers_from args (suc n) m (omega (arith, lt)))

  all_numbers_from : (es : Operands) (n m : ℕ) → m < n → Each (λ d. m < d) (all_calls_now (all_numbered n es))
  all_numbers_from none n m lt = tt
  all_numbers_from (more e es) n m lt = each_append (λ d. m < d) (calls_now (numbered n e)) (all_calls_now (all_numbered (n + calls e) es)) (numbers_from e n m lt) (all_numbers_from es (n + calls e) m (omega (arith, lt)))

module _ (p : Program) where
  abbrev Before : List Part → Type 0
  Before = Each (OfCall IsBefore)

  mutual
    parts_before : (e : Expression) (n : ℕ) (k : Clock) → Before (parts p (numbered n e) k)
    parts_before (literal v) n k = (tt, tt)
    parts_before (variable x) n k = (tt, tt)
    parts_before (operate o es) n k = (tt, all_before es n (λ m. k) 0)
    parts_before (pre a) n k = (tt, parts_before a n k)
    parts_before (arrow a b) n k = (tt, each_append (OfCall IsBefore) (parts p (numbered n a) k) (parts p (numbered (n + calls a) b) k) (parts_before a n k) (parts_before b (n + calls a) k))
    parts_before (when t a) n k = (tt, parts_before a n (drop 1 k))
    parts_before (merge x bs) n k = (tt, all_before bs n (branch_clock x k) 0)
    parts_before (call g c args) n k = (all_numbers_from args (suc n) n (omega arith), all_before args (suc n) (formal_clock (node_at p g) (all_numbered (suc n) args) (base_of (node_at p g) k)) 0)

    all_before : (es : Operands) (n : ℕ) (ks : ℕ → Clock) (m : ℕ) → Before (all_parts p (all_numbered n es) ks m)
    all_before none n ks m = tt
    all_before (more e es) n ks m = each_append (OfCall IsBefore) (parts p (numbered n e) (ks m)) (all_parts p (all_numbered (n + calls e) es) ks (suc m)) (parts_before e n (ks m)) (all_before es (n + calls e) ks (suc m))

  equations_before : (f : Node) (n : ℕ) (qs : List Equation) → AreNumbered n qs → Before (equation_parts p f qs)
  equations_before f n [] h = tt
  equations_before f n (q ∷ qs) h =
      let k = equation_clock f q in
      each_append (OfCall IsBefore) (parts p q.right k) (equation_parts p f qs) (subst (λ e. Before (parts p e k)) h.0 (parts_before q.right n k)) (equations_before f (n + calls q.right) qs h.1)

  pub sites_before : (f : Node) → AreNumbered 0 f.equations → Each (OfSite p IsBefore) (sites p f)
  sites_before f h = sites_of_parts p IsBefore (node_parts p f) (equations_before f 0 f.equations h)

-- all calls can run, the last first, where all variables were found
module _ (p : Program) (all : List Site) (before_all : Each (OfSite p IsBefore) all) (P : ℕ → Type 0) (every : (x : ℕ) → P x) where
  last_can_run : (n : ℕ) (before : List ℕ) → ((d : ℕ) → suc n ≤ d → d < length all → IsTrue (is_in before d)) → CanRun all P n before
  last_can_run n before ran s among number = (
    each_all P every (clock_variables s.base),
    each_all P every (needs_all s.args),
    each_implies (λ d. s.number < d) (λ d. d < length all → IsTrue (is_in before d)) (λ d lt within. ran d (omega (arith, lt, number)) within) (all_calls_now s.args) (each_among (OfSite p IsBefore) all s before_all among),
  )

  pub below_run : (n : ℕ) (before : List ℕ) → ((d : ℕ) → n ≤ d → d < length all → IsTrue (is_in before d)) → CanRunInTurn all P before (below n)
  below_run zero before ran = tt
  below_run (suc n) before ran = (
    last_can_run n before ran,
    below_run n (n ∷ before)
        (λ d le within.
        ⊎_elim (λ lt. let same : d ≡ n = omega (arith, lt, le) in subst (λ z. IsTrue (is_in (n ∷ before) z)) (sym same) (in_first n before)) (λ ge. in_either (nat_eq d n) (is_in before d) (ran d ge within))
        (cases_lt d (suc n))),
  )

-- what each variable of an order needs stands before it
first_of_rest : (f : Node) (xs ys : List ℕ) → HasNeedsFirst f (xs ++ ys) → HasNeedsFirst f ys
first_of_rest f [] ys h = h
first_of_rest f (x ∷ xs) ys h = first_of_rest f xs ys h.1

pub needs_before : (f : Node) (P : ℕ → Type 0) (before rest : List ℕ) (x : ℕ) → HasNeedsFirst f (reverse (before ++ x ∷ rest)) → Each P (reverse before) → Each P (needed f x)
needs_before f P before rest x h found =
    let split : reverse (before ++ x ∷ rest) ≡ reverse rest ++ (x ∷ reverse before) =
    reverse-append before (x ∷ rest) ∙ ap (λ l. l ++ reverse before) (reverse-append (x ∷ []) rest) ∙ append_assoc (reverse rest) (x ∷ []) (reverse before) in
    let here = first_of_rest f (reverse rest) (x ∷ reverse before) (subst (HasNeedsFirst f) split h) in
    each_implies (λ y. IsTrue (is_in (reverse before) y)) P (each_in P (reverse before) found) (needed f x) here.0
