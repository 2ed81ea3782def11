-- The least flags that meet the equations of a node decide whether any flags meet all that is required.
use Rattle.std.proofs.Common.{◌≡◌, ℕ, zero, suc, ◌+◌, ◌<◌, ◌≤◌, nat_eq, nat_lt, Bool, true, false, not, ◌&&◌, ◌||◌, List, [], ◌∷◌, map, length, take, drop, Option, Some, None, IsFalse, refl, sym, ap, ap₂, ◌∙◌, subst, true≢false, not-suc-le-zero, le_of_suc-le-suc, arith, if◌then◌else◌, ⊎_elim}
use Rattle.std.proofs.lemmas.Bool.{cases_lt}
use Rattle.std.proofs.lemmas.Bool.Decides.{nat_tests}
use Rattle.std.proofs.lemmas.List.{length-take}
use Rattle.lus_values.specs.Lists.{item, Each}
use Rattle.lus_values.proofs.Lists.{below_all}
use Rattle.lus_values.specs.declared.test.Test.{Test}
use Rattle.lus_program.specs.declared.node.Equation.{Equation as StoredEquation}
use Rattle.lus_program.specs.declared.node.Node.{Node as StoredNode}
use Rattle.lus_program.specs.Programs.{Expression, literal, variable, operate, pre, arrow, when, merge, call, Operands, none, more, calls, numbered, all_numbered, Variable, Equation, Node, Program, no_variable, node_at}
use Rattle.lus_program.specs.View.{expression_of, equations_from, node_of}
use Rattle.lus_streams.specs.Clocks.{Clock, chain, clock_of, Part, formal_clock, base_of, branch_clock, parts, all_parts}
use Rattle.lus_streams.specs.Equations.{Definition, given_by, place_in, equation_clock, definition_in, definition_of, equation_parts}
use Rattle.lus_streams.specs.Order.{is_in, clock_variables}
use Rattle.lus_streams.specs.Flags.{flag, greatest, Required, DefinedFlag, AreFlagsOf}
use Rattle.lus_streams.proofs.Lists.{each_left, each_right, each_append, below_at, item_past, item_take}
use Rattle.lus_streams.proofs.NilFree.{and_left, and_right, and_true}
use Rattle.lus_clocks.specs.Raising.{flags_in, meets, all_meet, raised, rights_meet, tests_meet, none_raised, all_required, AreGiven, AreLeast, HasFlags}
use Rattle.lus_streams.proofs.Clocks.{chain_some}
use Rattle.lus_clocks.proofs.Whole.{one_less}
use Rattle.lus_clocks.proofs.Rising.{flag_more, greatest_more, raised_more}

not_is : (b : Bool) → not b ≡ true → b ≡ false
not_is true h = sym h
not_is false h = refl

is_not : (b : Bool) → b ≡ false → not b ≡ true
is_not true h = sym h
is_not false h = refl

-- requirements of an expression and its parts
module _ (p : Program) (flags : ℕ → Bool) where
  abbrev R : Part → Type 0
  R = Required flags

  mutual
    pub meets_is : (e : Expression) (k : Clock) → meets flags e ≡ true → Each R (parts p e k)
    meets_is (literal v) k h = (h, tt)
    meets_is (variable x) k h = (tt, tt)
    meets_is (operate o es) k h = (tt, all_are es (λ m. k) 0 h)
    meets_is (pre a) k h = (not_is (flag flags a) (and_left (not (flag flags a)) (meets flags a) h), meets_is a k (and_right (not (flag flags a)) (meets flags a) h))
    meets_is (arrow a b) k h = (tt, each_append R (parts p a k) (parts p b k) (meets_is a k (and_left (meets flags a) (meets flags b) h)) (meets_is b k (and_right (meets flags a) (meets flags b) h)))
    meets_is (when t a) k h = (not_is (flags t.variable) (and_left (not (flags t.variable)) (meets flags a) h), meets_is a (drop 1 k) (and_right (not (flags t.variable)) (meets flags a) h))
    meets_is (merge x bs) k h =
        let rest = and_right (not (flags x)) (not (greatest flags bs) && all_meet flags bs) h in (
          (not_is (flags x) (and_left (not (flags x)) (not (greatest flags bs) && all_meet flags bs) h), not_is (greatest flags bs) (and_left (not (greatest flags bs)) (all_meet flags bs) rest)),
          all_are bs (branch_clock x k) 0 (and_right (not (greatest flags bs)) (all_meet flags bs) rest),
        )
    meets_is (call g c args) k h =
        (not_is (greatest flags args) (and_left (not (greatest flags args)) (all_meet flags args) h), all_are args (formal_clock (node_at p g) args (base_of (node_at p g) k)) 0 (and_right (not (greatest flags args)) (all_meet flags args) h))

    all_are : (es : Operands) (ks : ℕ → Clock) (m : ℕ) → all_meet flags es ≡ true → Each R (all_parts p es ks m)
    all_are none ks m h = tt
    all_are (more e es) ks m h =
        each_append R (parts p e (ks m)) (all_parts p es ks (suc m)) (meets_is e (ks m) (and_left (meets flags e) (all_meet flags es) h)) (all_are es ks (suc m) (and_right (meets flags e) (all_meet flags es) h))

  mutual
    pub is_met : (e : Expression) (k : Clock) → Each R (parts p e k) → meets flags e ≡ true
    is_met (literal v) k h = h.0
    is_met (variable x) k h = refl
    is_met (operate o es) k h = are_all es (λ m. k) 0 h.1
    is_met (pre a) k h = and_true (not (flag flags a)) (meets flags a) (is_not (flag flags a) h.0) (is_met a k h.1)
    is_met (arrow a b) k h = and_true (meets flags a) (meets flags b) (is_met a k (each_left R (parts p a k) (parts p b k) h.1)) (is_met b k (each_right R (parts p a k) (parts p b k) h.1))
    is_met (when t a) k h = and_true (not (flags t.variable)) (meets flags a) (is_not (flags t.variable) h.0) (is_met a (drop 1 k) h.1)
    is_met (merge x bs) k h =
        and_true (not (flags x)) (not (greatest flags bs) && all_meet flags bs) (is_not (flags x) h.0.0)
        (and_true (not (greatest flags bs)) (all_meet flags bs) (is_not (greatest flags bs) h.0.1) (are_all bs (branch_clock x k) 0 h.1))
    is_met (call g c args) k h = and_true (not (greatest flags args)) (all_meet flags args) (is_not (greatest flags args) h.0) (are_all args (formal_clock (node_at p g) args (base_of (node_at p g) k)) 0 h.1)

    are_all : (es : Operands) (ks : ℕ → Clock) (m : ℕ) → Each R (all_parts p es ks m) → all_meet flags es ≡ true
    are_all none ks m h = refl
    are_all (more e es) ks m h =
        let rest = all_parts p es ks (suc m) in
        and_true (meets flags e) (all_meet flags es) (is_met e (ks m) (each_left R (parts p e (ks m)) rest h)) (are_all es ks (suc m) (each_right R (parts p e (ks m)) rest h))

-- numbers of calls count for nothing
module _ (flags : ℕ → Bool) where
  mutual
    pub flag_numbered : (e : Expression) (n : ℕ) → flag flags (numbered n e) ≡ flag flags e
    flag_numbered (literal v) n = refl
    flag_numbered (operate o es) n = greatest_numbered es n
    flag_numbered (arrow a b) n = flag_numbered a n
    flag_numbered (when t a) n = flag_numbered a n
    flag_numbered e n = refl

    pub greatest_numbered : (es : Operands) (n : ℕ) → greatest flags (all_numbered n es) ≡ greatest flags es
    greatest_numbered none n = refl
    greatest_numbered (more e es) n = ap₂ ◌||◌ (flag_numbered e n) (greatest_numbered es (n + calls e))

  mutual
    pub meets_numbered : (e : Expression) (n : ℕ) → meets flags (numbered n e) ≡ meets flags e
    meets_numbered (literal v) n = refl
    meets_numbered (variable x) n = refl
    meets_numbered (operate o es) n = all_meet_numbered es n
    meets_numbered (pre a) n = ap₂ ◌&&◌ (ap not (flag_numbered a n)) (meets_numbered a n)
    meets_numbered (arrow a b) n = ap₂ ◌&&◌ (meets_numbered a n) (meets_numbered b (n + calls a))
    meets_numbered (when t a) n = ap (λ b. not (flags t.variable) && b) (meets_numbered a n)
    meets_numbered (merge x bs) n = ap (λ b. not (flags x) && b) (ap₂ ◌&&◌ (ap not (greatest_numbered bs n)) (all_meet_numbered bs n))
    meets_numbered (call g c es) n = ap₂ ◌&&◌ (ap not (greatest_numbered es (suc n))) (all_meet_numbered es (suc n))

    all_meet_numbered : (es : Operands) (n : ℕ) → all_meet flags (all_numbered n es) ≡ all_meet flags es
    all_meet_numbered none n = refl
    all_meet_numbered (more e es) n = ap₂ ◌&&◌ (meets_numbered e n) (all_meet_numbered es (n + calls e))

-- fewer flags meet more
module _ (a b : ℕ → Bool) (below : (x : ℕ) → a x ≡ true → b x ≡ true) where
  not_less : (p q : Bool) → (p ≡ true → q ≡ true) → not q ≡ true → not p ≡ true
  not_less true q h k = subst (λ c. not c ≡ true) (h refl) k
  not_less false q h k = refl

  mutual
    meets_less : (e : Expression) → meets b e ≡ true → meets a e ≡ true
    meets_less (literal v) h = h
    meets_less (variable x) h = h
    meets_less (operate o es) h = all_meet_less es h
    meets_less (pre e) h = and_true (not (flag a e)) (meets a e) (not_less (flag a e) (flag b e) (flag_more a b below e) (and_left (not (flag b e)) (meets b e) h)) (meets_less e (and_right (not (flag b e)) (meets b e) h))
    meets_less (arrow e e') h = and_true (meets a e) (meets a e') (meets_less e (and_left (meets b e) (meets b e') h)) (meets_less e' (and_right (meets b e) (meets b e') h))
    meets_less (when t e) h = and_true (not (a t.variable)) (meets a e) (not_less (a t.variable) (b t.variable) (below t.variable) (and_left (not (b t.variable)) (meets b e) h)) (meets_less e (and_right (not (b t.variable)) (meets b e) h))
    meets_less (merge x es) h =
        let rest = and_right (not (b x)) (not (greatest b es) && all_meet b es) h in
        and_true (not (a x)) (not (greatest a es) && all_meet a es) (not_less (a x) (b x) (below x) (and_left (not (b x)) (not (greatest b es) && all_meet b es) h))
        (and_true (not (greatest a es)) (all_meet a es) (not_less (greatest a es) (greatest b es) (greatest_more a b below es) (and_left (not (greatest b es)) (all_meet b es) rest)) (all_meet_less es (and_right (not (greatest b es)) (all_meet b es) rest)))
    meets_less (call g c es) h = and_true (not (greatest a es)) (all_meet a es) (not_less (greatest a es) (greatest b es) (greatest_more a b below es) (and_left (not (greatest b es)) (all_meet b es) h)) (all_meet_less es (and_right (not (greatest b es)) (all_meet b es) h))

    all_meet_less : (es : Operands) → all_meet b es ≡ true → all_meet a es ≡ true
    all_meet_less none h = h
    all_meet_less (more e es) h = and_true (meets a e) (all_meet a es) (meets_less e (and_left (meets b e) (all_meet b es) h)) (all_meet_less es (and_right (meets b e) (all_meet b es) h))

  pub rights_less : (qs : List StoredEquation) → rights_meet b qs ≡ true → rights_meet a qs ≡ true
  rights_less [] h = h
  rights_less (q ∷ qs) h =
      let e = expression_of q.right in
      and_true (meets a e) (rights_meet a qs) (meets_less e (and_left (meets b e) (rights_meet b qs) h)) (rights_less qs (and_right (meets b e) (rights_meet b qs) h))

-- the text of a node
module _ (p : Program) (f : Node) (flags : ℕ → Bool) where
  pub rights_are : (n : ℕ) (qs : List StoredEquation) → rights_meet flags qs ≡ true → Each (Required flags) (equation_parts p f (equations_from n qs))
  rights_are n [] h = tt
  rights_are n (q ∷ qs) h =
      let e = expression_of q.right in
      let plain : Equation = record { targets = q.targets.items; right = numbered n e } in
      let k = equation_clock f plain in
      each_append (Required flags) (parts p (numbered n e) k) (equation_parts p f (equations_from (n + calls e) qs))
      (meets_is p flags (numbered n e) k (meets_numbered flags e n ∙ and_left (meets flags e) (rights_meet flags qs) h))
      (rights_are (n + calls e) qs (and_right (meets flags e) (rights_meet flags qs) h))

  pub are_rights : (n : ℕ) (qs : List StoredEquation) → Each (Required flags) (equation_parts p f (equations_from n qs)) → rights_meet flags qs ≡ true
  are_rights n [] h = refl
  are_rights n (q ∷ qs) h =
      let e = expression_of q.right in
      let plain : Equation = record { targets = q.targets.items; right = numbered n e } in
      let k = equation_clock f plain in
      let rest = equation_parts p f (equations_from (n + calls e) qs) in
      and_true (meets flags e) (rights_meet flags qs)
      (sym (meets_numbered flags e n) ∙ is_met p flags (numbered n e) k (each_left (Required flags) (parts p (numbered n e) k) rest h))
      (are_rights (n + calls e) qs (each_right (Required flags) (parts p (numbered n e) k) rest h))

-- the flag that a definition gives
abbrev GivesFlag : (ℕ → Bool) → Bool → Option Definition → Type 0
GivesFlag flags b None = b ≡ false
GivesFlag flags b (Some (given_by e n xs k)) = b ≡ flag flags e

module _ (x : ℕ) where
  some_by : (b c : Bool) (n : ℕ) (o : Option ℕ) → (c ≡ true → (m : ℕ) × (o ≡ Some m)) → (b || c) ≡ true → (m : ℕ) × ((if b then Some n else o) ≡ Some m)
  some_by true c n o h e = (n, refl)
  some_by false c n o h e = h e

  none_by : (b c : Bool) (n : ℕ) (o : Option ℕ) → (c ≡ false → o ≡ None) → (b || c) ≡ false → (if b then Some n else o) ≡ None
  none_by true c n o h e = absurd (true≢false e)
  none_by false c n o h e = h e

  place_some : (xs : List ℕ) (n : ℕ) → is_in xs x ≡ true → (m : ℕ) × (place_in x xs n ≡ Some m)
  place_some [] n e = absurd (true≢false (sym e))
  place_some (y ∷ ys) n e = some_by (nat_eq x y) (is_in ys x) n (place_in x ys (suc n)) (place_some ys (suc n)) e

  place_none : (xs : List ℕ) (n : ℕ) → is_in xs x ≡ false → place_in x xs n ≡ None
  place_none [] n e = refl
  place_none (y ∷ ys) n e = none_by (nat_eq x y) (is_in ys x) n (place_in x ys (suc n)) (place_none ys (suc n)) e

module _ (f : Node) (flags : ℕ → Bool) (x : ℕ) where
  abbrev first_or : Option ℕ → Equation → List Equation → Option Definition
  first_or o q qs = elim o [ None ↦ definition_in f qs x | Some n ↦ Some (given_by q.right n q.targets (equation_clock f q)) ]

  gives_by : (q : StoredEquation) (n : ℕ) (qs : List Equation) (rest : Bool) (b : Bool) → is_in q.targets.items x ≡ b → GivesFlag flags rest (definition_in f qs x)
      → GivesFlag flags (if b then flag flags (expression_of q.right) else rest) (first_or (place_in x q.targets.items 0) (record { targets = q.targets.items; right = numbered n (expression_of q.right) }) qs)
  gives_by q n qs rest true e h =
      let plain : Equation = record { targets = q.targets.items; right = numbered n (expression_of q.right) } in
      let s = place_some x q.targets.items 0 e in
      subst (λ o. GivesFlag flags (flag flags (expression_of q.right)) (first_or o plain qs)) (sym s.1) (sym (flag_numbered flags (expression_of q.right) n))
  gives_by q n qs rest false e h =
      let plain : Equation = record { targets = q.targets.items; right = numbered n (expression_of q.right) } in
      subst (λ o. GivesFlag flags rest (first_or o plain qs)) (sym (place_none x q.targets.items 0 e)) h

  pub gives : (n : ℕ) (qs : List StoredEquation) → GivesFlag flags (raised flags qs x) (definition_in f (equations_from n qs) x)
  gives n [] = refl
  gives n (q ∷ qs) = gives_by q n (equations_from (n + calls (expression_of q.right)) qs) (raised flags qs x) (is_in q.targets.items x) refl (gives (n + calls (expression_of q.right)) qs)

defined_by : (flags : ℕ → Bool) (x : ℕ) (b : Bool) (o : Option Definition) → GivesFlag flags b o → flags x ≡ b → DefinedFlag flags x o
defined_by flags x b None g e = tt
defined_by flags x b (Some (given_by e' n xs k)) g e = e ∙ g

closed_by : (flags : ℕ → Bool) (x : ℕ) (b : Bool) (o : Option Definition) → GivesFlag flags b o → DefinedFlag flags x o → b ≡ true → flags x ≡ true
closed_by flags x b None g d e = absurd (true≢false (sym e ∙ g))
closed_by flags x b (Some (given_by e' n xs k)) g d e = d ∙ sym g ∙ e

none_at : (bs : List Bool) → none_raised bs ≡ true → (x : ℕ) → flags_in bs x ≡ false
none_at [] h x = refl
none_at (b ∷ bs) h zero = not_is b (and_left (not b) (none_raised bs) h)
none_at (b ∷ bs) h (suc x) = none_at bs (and_right (not b) (none_raised bs) h) x

at_none : (bs : List Bool) → ((x : ℕ) → flags_in bs x ≡ false) → none_raised bs ≡ true
at_none [] h = refl
at_none (b ∷ bs) h = and_true (not b) (none_raised bs) (is_not b (h 0)) (at_none bs (λ x. h (suc x)))

false_by : (b : Bool) → (b ≡ true → ⊥) → b ≡ false
false_by true h = absurd (h refl)
false_by false h = refl

-- tests of declarations
module _ (flags : ℕ → Bool) where
  abbrev test_meets : Option Test → Bool
  test_meets o = elim o [ None ↦ true | Some t ↦ not (flags t.variable) ]

  test_at : (vs : List Variable) → tests_meet flags vs ≡ true → (x : ℕ) → test_meets (item no_variable vs x).test ≡ true
  test_at [] h x = refl
  test_at (v ∷ vs) h zero = and_left (test_meets v.test) (tests_meet flags vs) h
  test_at (v ∷ vs) h (suc x) = test_at vs (and_right (test_meets v.test) (tests_meet flags vs) h) x

  at_test : (vs : List Variable) → ((x : ℕ) → x < length vs → test_meets (item no_variable vs x).test ≡ true) → tests_meet flags vs ≡ true
  at_test [] h = refl
  at_test (v ∷ vs) h = and_true (test_meets v.test) (tests_meet flags vs) (h 0 (omega arith)) (at_test vs (λ x lt. h (suc x) (omega arith)))

  abbrev AreClear : Clock → Type 0
  AreClear k = Each (λ y. IsFalse (flags y)) (clock_variables k)

  module _ (vs : List Variable) (h : tests_meet flags vs ≡ true) where
    clear_by : (m : ℕ) → ((x : ℕ) → AreClear (chain m vs x)) → (o : Option Test) → test_meets o ≡ true → AreClear (elim o [ None ↦ [] | Some t ↦ t ∷ chain m vs t.variable ])
    clear_by m ih None e = tt
    clear_by m ih (Some t) e = (not_is (flags t.variable) e, ih t.variable)

    clear : (m x : ℕ) → AreClear (chain m vs x)
    clear zero x = tt
    clear (suc m) x = clear_by m (clear m) (item no_variable vs x).test (test_at vs h x)

  clear_meets : (f : Node) (x : ℕ) → x < length f.variables → AreClear (clock_of f x) → (o : Option Test) → (item no_variable f.variables x).test ≡ o → test_meets o ≡ true
  clear_meets f x lt h None e = refl
  clear_meets f x lt h (Some t) e =
      let m = one_less (length f.variables) x lt in
      is_not (flags t.variable) ((subst AreClear (chain_some m.0 (length f.variables) f.variables x t m.1 e) h).0)

lowered_false : (x n : ℕ) (b : Bool) → x < n → not (nat_lt x n) && b ≡ false
lowered_false x n b lt = grind (arith, nat_tests)

lowered_same : (x n : ℕ) (b : Bool) → n ≤ x → not (nat_lt x n) && b ≡ b
lowered_same x n b ge = grind (arith, nat_tests)

-- a node that the code holds, the least flags that meet the equations of its locals, and the flags that all equations give
-- under these
module _ (p : Program) (node : StoredNode) (bs given : List Bool) (l : AreLeast (node_of node) node.equations.items bs) (g : AreGiven node.equations.items bs given) where
  abbrev f : Node
  f = node_of node

  abbrev qs : List StoredEquation
  qs = node.equations.items

  abbrev count : ℕ
  count = f.inputs + f.outputs

  abbrev formals : Bool
  formals = none_raised (take count given)

  abbrev tests : Bool
  tests = tests_meet (flags_in bs) f.variables

  abbrev rights : Bool
  rights = rights_meet (flags_in bs) qs

  formal_clear : (x : ℕ) → x < count → flags_in bs x ≡ false
  formal_clear x lt =
      ⊎_elim (λ (below : x < length bs). l.fixed x below ∙ lowered_false x count (raised (flags_in bs) qs x) lt)
      (λ (past : length bs ≤ x). item_past false bs x past)
      (cases_lt x (length bs))

  -- under flags that meet what is required the equation of each variable gives it its flag
  given_own : formals ≡ true → (x : ℕ) → x < length bs → flags_in bs x ≡ raised (flags_in bs) qs x
  given_own h x below =
      ⊎_elim (λ (lt : x < count). formal_clear x lt ∙ sym (sym (g.each x below) ∙ sym (item_take false count given x lt) ∙ none_at (take count given) h x))
      (λ (ge : count ≤ x). l.fixed x below ∙ lowered_same x count (raised (flags_in bs) qs x) ge)
      (cases_lt x count)

  pub least_meet : all_required f qs bs given ≡ true → AreFlagsOf (flags_in bs) p f
  least_meet h =
      let rest = and_right formals (tests && rights) h in
      record {
        public = below_all (λ x. IsFalse (flags_in bs x)) count formal_clear;
        tested = below_all (λ x. AreClear (flags_in bs) (clock_of f x)) (length f.variables) (λ x lt. clear (flags_in bs) f.variables (and_left tests rights rest) (length f.variables) x);
        defined = below_all (λ x. DefinedFlag (flags_in bs) x (definition_of f x)) (length f.variables) (λ x lt. defined_by (flags_in bs) x (raised (flags_in bs) qs x) (definition_of f x) (gives f (flags_in bs) x 0 qs) (given_own (and_left formals (tests && rights) h) x (subst (λ n. x < n) (sym l.size) lt)));
        parts = rights_are p f (flags_in bs) 0 qs (and_right tests rights rest);
      }

  module _ (flags : ℕ → Bool) (h : AreFlagsOf flags p f) where
    raised_meet : (x : ℕ) → x < length f.variables → raised flags qs x ≡ true → flags x ≡ true
    raised_meet x lt = closed_by flags x (raised flags qs x) (definition_of f x) (gives f flags x 0 qs) (below_at (λ y. DefinedFlag flags y (definition_of f y)) (length f.variables) h.defined x lt)

    below_any : (x : ℕ) → flags_in bs x ≡ true → flags x ≡ true
    below_any = l.least flags (λ x lt e. raised_meet x lt (and_right (not (nat_lt x count)) (raised flags qs x) e))

    clear_where : (x : ℕ) → flags x ≡ false → flags_in bs x ≡ false
    clear_where x e = false_by (flags_in bs x) (λ t. true≢false (sym (below_any x t) ∙ e))

    clear_tests : (k : Clock) → AreClear flags k → AreClear (flags_in bs) k
    clear_tests [] h = tt
    clear_tests (t ∷ k) h = (clear_where t.variable h.0, clear_tests k h.1)

    -- no equation gives an input or output flag true: it would under these flags too
    given_clear : (x : ℕ) → x < count → flags_in given x ≡ false
    given_clear x lt =
        ⊎_elim (λ (below : x < length given).
        let within : x < length bs = subst (λ n. x < n) g.size below in
        let declared : x < length f.variables = subst (λ n. x < n) l.size within in
        false_by (flags_in given x) (λ t. true≢false (sym (raised_meet x declared (raised_more (flags_in bs) flags below_any qs x (sym (g.each x within) ∙ t))) ∙ below_at (λ y. IsFalse (flags y)) count h.public x lt)))
        (λ (past : length given ≤ x). item_past false given x past)
        (cases_lt x (length given))

    pub all_meet_least : all_required f qs bs given ≡ true
    all_meet_least =
        and_true formals (tests && rights)
        (at_none (take count given)
        (λ x.
        ⊎_elim (λ (lt : x < count). item_take false count given x lt ∙ given_clear x lt)
        (λ (ge : count ≤ x). item_past false (take count given) x (omega (arith, length-take count given, ge)))
        (cases_lt x count)))
        (and_true tests rights
        (at_test (flags_in bs) f.variables (λ x lt. clear_meets (flags_in bs) f x lt (clear_tests (clock_of f x) (below_at (λ y. AreClear flags (clock_of f y)) (length f.variables) h.tested x lt)) (item no_variable f.variables x).test refl))
        (rights_less (flags_in bs) flags below_any qs (are_rights p f flags 0 qs h.parts)))

  pub none_meet : all_required f qs bs given ≡ false → HasFlags p f → ⊥
  none_meet e h = true≢false (sym (all_meet_least h.0 h.1) ∙ e)

-- nodes of a program in turn
pub each_taken : (P : Node → Type 0) (fs : List StoredNode) (n : ℕ) (d : StoredNode) → n < length fs → Each P (map node_of (take n fs)) → P (node_of (item d fs n)) → Each P (map node_of (take (n + 1) fs))
each_taken P [] n d lt h k = absurd (not-suc-le-zero lt)
each_taken P (f ∷ fs) zero d lt h k = (k, tt)
each_taken P (f ∷ fs) (suc n) d lt h k =
    let next : suc n + 1 ≡ suc (n + 1) = omega arith in
    subst (λ m. Each P (map node_of (take m (f ∷ fs)))) (sym next) (h.0, each_taken P fs n d (le_of_suc-le-suc lt) h.1 k)

pub node_of_each : (P : Node → Type 0) (fs : List StoredNode) (n : ℕ) (d : StoredNode) → n < length fs → Each P (map node_of fs) → P (node_of (item d fs n))
node_of_each P [] n d lt h = absurd (not-suc-le-zero lt)
node_of_each P (f ∷ fs) zero d lt h = h.0
node_of_each P (f ∷ fs) (suc n) d lt h = node_of_each P fs n d (le_of_suc-le-suc lt) h.1
