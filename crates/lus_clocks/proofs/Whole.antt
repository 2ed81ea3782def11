-- What the check of a program computes is that it is on clocks.
use Rattle.std.proofs.Common.{◌≡◌, ℕ, zero, suc, ◌+◌, ◌<◌, ◌≤◌, nat_eq, nat_lt, Bool, true, false, not, ◌&&◌, ◌||◌, List, [], ◌∷◌, map, length, Option, Some, None, refl, sym, ap, ◌∙◌, subst, true≢false, suc-ne-zero, not-suc-le-zero, arith, le_of_suc-le-suc, eq-eqb, ⊎_elim}
use Rattle.std.proofs.lemmas.Bool.{eqb-true, cases_lt}
use Rattle.std.proofs.lemmas.Bool.Decides.{nat_tests}
use Rattle.lus_values.specs.Lists.{item, Each}
use Rattle.lus_values.proofs.Lists.{below_all}
use Rattle.lus_values.specs.declared.test.Test.{Test}
use Rattle.lus_program.specs.declared.node.Equation.{Equation as StoredEquation}
use Rattle.lus_program.specs.declared.node.Node.{Node as StoredNode}
use Rattle.lus_program.specs.declared.node.Program.{Program as StoredProgram}
use Rattle.lus_program.specs.Programs.{Variable, calls, numbered, Node, Program, no_variable, empty_node, node_at}
use Rattle.lus_program.specs.View.{expression_of, equations_from, node_of, program_seen}
use Rattle.lus_streams.specs.Clocks.{chain, clock_of, parts}
use Rattle.lus_streams.specs.Equations.{equation_clock}
use Rattle.lus_streams.specs.OnClock.{MayTest, IsDeclared, test_of, LeftOnClock, RightOnClock, IsOnClocks, ProgramOnClocks}
use Rattle.lus_streams.proofs.Lists.{below_at, each_item}
use Rattle.lus_streams.proofs.NilFree.{and_left, and_right, and_true}
use Rattle.lus_clocks.specs.Fitting.{may_test, is_declared, are_declared, all_declared, equation_fits, equations_fit, all_fit}
use Rattle.lus_streams.proofs.Clocks.{chain_some}
use Rattle.lus_clocks.proofs.NewestTests.{AreDeclared}
use Rattle.lus_clocks.proofs.Equations.{equation_is, is_equation}
use Rattle.lus_clocks.proofs.Numbering.{equation_numbered}

-- a chain that has no more tests through one step more is whole
module _ (vs : List Variable) where
  abbrev step_of : ℕ → Option Test → List Test
  step_of n o = elim o [ None ↦ [] | Some t ↦ t ∷ chain n vs t.variable ]

  abbrev Stays : ℕ → Type 0
  Stays n = (x : ℕ) → length (chain n vs x) ≡ length (chain (suc n) vs x) → chain n vs x ≡ chain (suc n) vs x

  stays_first : (o : Option Test) → 0 ≡ length (step_of 0 o) → [] ≡ step_of 0 o
  stays_first None h = refl
  stays_first (Some t) h = absurd (suc-ne-zero _ (sym h))

  stays_next : (n : ℕ) → Stays n → (o : Option Test) → length (step_of n o) ≡ length (step_of (suc n) o) → step_of n o ≡ step_of (suc n) o
  stays_next n ih None h = refl
  stays_next n ih (Some t) h = ap (λ k. t ∷ k) (ih t.variable (omega (arith, h)))

  chain_stays : (n : ℕ) → Stays n
  chain_stays zero x h = stays_first (item no_variable vs x).test h
  chain_stays (suc n) x h = stays_next n (chain_stays n) (item no_variable vs x).test h

pub one_less : (n x : ℕ) → x < n → (m : ℕ) × (n ≡ suc m)
one_less zero x lt = absurd (not-suc-le-zero lt)
one_less (suc m) x lt = (m, refl)

module _ (f : Node) where
  allowed_is : (x y : ℕ) → may_test f x y ≡ true → MayTest f x y
  allowed_is x y h = (
    below_by x y f.inputs (and_left (not (nat_lt x f.inputs) || nat_lt y f.inputs) (not (nat_lt x (f.inputs + f.outputs)) || nat_lt y (f.inputs + f.outputs)) h),
    below_by x y (f.inputs + f.outputs) (and_right (not (nat_lt x f.inputs) || nat_lt y f.inputs) (not (nat_lt x (f.inputs + f.outputs)) || nat_lt y (f.inputs + f.outputs)) h),
  )
    where
      below_by : (x y a : ℕ) → (not (nat_lt x a) || nat_lt y a) ≡ true → x < a → y < a
      below_by x y a h lt = grind (arith, nat_tests)

  is_allowed : (x y : ℕ) → MayTest f x y → may_test f x y ≡ true
  is_allowed x y h = and_true (not (nat_lt x f.inputs) || nat_lt y f.inputs) (not (nat_lt x (f.inputs + f.outputs)) || nat_lt y (f.inputs + f.outputs)) (by_below x y f.inputs h.0) (by_below x y (f.inputs + f.outputs) h.1)
    where
      by_below : (x y a : ℕ) → (x < a → y < a) → (not (nat_lt x a) || nat_lt y a) ≡ true
      by_below x y a h = ⊎_elim (λ (lt : x < a). let le = h lt in grind (arith, nat_tests)) (λ (ge : a ≤ x). grind (arith, nat_tests)) (cases_lt x a)

  abbrev deeper : ℕ → Test → Bool
  deeper x t = nat_eq (length (clock_of f x)) (length (clock_of f t.variable) + 1)

  depth_is : (x : ℕ) (t : Test) (m : ℕ) → length f.variables ≡ suc m → test_of f x ≡ Some t → length (clock_of f x) ≡ length (clock_of f t.variable) + 1 → clock_of f x ≡ t ∷ clock_of f t.variable
  depth_is x t m n e h =
      let opened : clock_of f x ≡ t ∷ chain m f.variables t.variable = chain_some m (length f.variables) f.variables x t n e in
      let longer : clock_of f t.variable ≡ chain (suc m) f.variables t.variable = ap (λ i. chain i f.variables t.variable) n in
      let same : length (chain m f.variables t.variable) ≡ length (chain (suc m) f.variables t.variable) = omega (arith, ap length opened, ap length longer, h) in
      opened ∙ ap (λ k. t ∷ k) (chain_stays f.variables m t.variable same ∙ sym longer)

  declared_is : (x : ℕ) → x < length f.variables → (o : Option Test) → test_of f x ≡ o → is_declared f x o ≡ true → IsDeclared f x o
  declared_is x lt None e h = tt
  declared_is x lt (Some t) e h =
      let m = one_less (length f.variables) x lt in
      (depth_is x t m.0 m.1 e (eqb-true (length (clock_of f x)) (length (clock_of f t.variable) + 1) (and_left (deeper x t) (may_test f x t.variable) h)), allowed_is x t.variable (and_right (deeper x t) (may_test f x t.variable) h))

  is_declared_by : (x : ℕ) (o : Option Test) → IsDeclared f x o → is_declared f x o ≡ true
  is_declared_by x None h = refl
  is_declared_by x (Some t) h =
      and_true (deeper x t) (may_test f x t.variable)
      (eq-eqb (length (clock_of f x)) (length (clock_of f t.variable) + 1) (omega (arith, ap length h.0)))
      (is_allowed x t.variable h.1)

  declared_at : (vs : List Variable) (x i : ℕ) → are_declared f x vs ≡ true → i < length vs → is_declared f (x + i) (item no_variable vs i).test ≡ true
  declared_at [] x i h lt = absurd (not-suc-le-zero lt)
  declared_at (v ∷ vs) x zero h lt =
      let place : x + 0 ≡ x = omega arith in
      subst (λ z. is_declared f z v.test ≡ true) (sym place) (and_left (is_declared f x v.test) (are_declared f (suc x) vs) h)
  declared_at (v ∷ vs) x (suc i) h lt =
      let place : suc x + i ≡ x + suc i = omega arith in
      subst (λ z. is_declared f z (item no_variable vs i).test ≡ true) place (declared_at vs (suc x) i (and_right (is_declared f x v.test) (are_declared f (suc x) vs) h) (le_of_suc-le-suc lt))

  at_declared : (vs : List Variable) (x : ℕ) → ((i : ℕ) → i < length vs → is_declared f (x + i) (item no_variable vs i).test ≡ true) → are_declared f x vs ≡ true
  at_declared [] x h = refl
  at_declared (v ∷ vs) x h =
      let place : x + 0 ≡ x = omega arith in
      and_true (is_declared f x v.test) (are_declared f (suc x) vs)
      (subst (λ z. is_declared f z v.test ≡ true) place (h 0 (omega arith)))
      (at_declared vs (suc x) (λ i lt. let next : x + suc i ≡ suc x + i = omega arith in subst (λ z. is_declared f z (item no_variable vs i).test ≡ true) next (h (suc i) (omega arith))))

  pub declared_clocks : are_declared f 0 f.variables ≡ true → AreDeclared f
  declared_clocks h =
      below_all (λ x. IsDeclared f x (test_of f x)) (length f.variables)
      (λ x lt. let place : 0 + x ≡ x = omega arith in declared_is x lt (test_of f x) refl (subst (λ z. is_declared f z (test_of f x) ≡ true) place (declared_at f.variables 0 x h lt)))

  pub are_declared_by : AreDeclared f → are_declared f 0 f.variables ≡ true
  are_declared_by h =
      at_declared f.variables 0
      (λ i lt. let place : i ≡ 0 + i = omega arith in subst (λ z. is_declared f z (test_of f i) ≡ true) place (is_declared_by i (test_of f i) (below_at (λ y. IsDeclared f y (test_of f y)) (length f.variables) h i lt)))

all_declared_is : (fs : List StoredNode) → all_declared fs ≡ true → Each AreDeclared (map node_of fs)
all_declared_is [] h = tt
all_declared_is (f ∷ fs) h =
    let here = are_declared (node_of f) 0 (node_of f).variables in
    (declared_clocks (node_of f) (and_left here (all_declared fs) h), all_declared_is fs (and_right here (all_declared fs) h))

is_all_declared : (fs : List StoredNode) → Each AreDeclared (map node_of fs) → all_declared fs ≡ true
is_all_declared [] h = refl
is_all_declared (f ∷ fs) h = and_true (are_declared (node_of f) 0 (node_of f).variables) (all_declared fs) (are_declared_by (node_of f) h.0) (is_all_declared fs h.1)

module _ (p : Program) (all : (g : ℕ) → AreDeclared (node_at p g)) where
  module _ (f : Node) (declared : AreDeclared f) where
    equations_are : (n : ℕ) (qs : List StoredEquation) → equations_fit p f qs ≡ true
        → Each (λ q. LeftOnClock p f q 0 q.targets) (equations_from n qs) × Each (λ q. RightOnClock p f (parts p q.right (equation_clock f q))) (equations_from n qs)
    equations_are n [] h = (tt, tt)
    equations_are n (q ∷ qs) h =
        let xs = q.targets.items in
        let e = expression_of q.right in
        let o = test_of f (item 0 xs 0) in
        let here = equation_fits p f xs e o in
        let both = equation_is p all f declared xs (numbered n e) (equation_numbered p f xs e n o ∙ and_left here (equations_fit p f qs) h) in
        let rest = equations_are (n + calls e) qs (and_right here (equations_fit p f qs) h) in
        ((both.0, rest.0), (both.1, rest.1))

    are_equations : (n : ℕ) (qs : List StoredEquation) → Each (λ q. LeftOnClock p f q 0 q.targets) (equations_from n qs) → Each (λ q. RightOnClock p f (parts p q.right (equation_clock f q))) (equations_from n qs) → equations_fit p f qs ≡ true
    are_equations n [] l r = refl
    are_equations n (q ∷ qs) l r =
        let xs = q.targets.items in
        let e = expression_of q.right in
        let o = test_of f (item 0 xs 0) in
        and_true (equation_fits p f xs e o) (equations_fit p f qs) (sym (equation_numbered p f xs e n o) ∙ is_equation p all f declared xs (numbered n e) (l.0, r.0)) (are_equations (n + calls e) qs l.1 r.1)

  nodes_are : (fs : List StoredNode) → Each AreDeclared (map node_of fs) → all_fit p fs ≡ true → Each (IsOnClocks p) (map node_of fs)
  nodes_are [] d h = tt
  nodes_are (f ∷ fs) d h =
      let here = equations_fit p (node_of f) f.equations.items in
      let both = equations_are (node_of f) d.0 0 f.equations.items (and_left here (all_fit p fs) h) in
      (record { declared = d.0; lefts = both.0; rights = both.1 }, nodes_are fs d.1 (and_right here (all_fit p fs) h))

  are_nodes : (fs : List StoredNode) → Each (IsOnClocks p) (map node_of fs) → all_fit p fs ≡ true
  are_nodes [] h = refl
  are_nodes (f ∷ fs) h = and_true (equations_fit p (node_of f) f.equations.items) (all_fit p fs) (are_equations (node_of f) h.0.declared 0 f.equations.items h.0.lefts h.0.rights) (are_nodes fs h.1)

declared_nodes : (p : Program) (fs : List StoredNode) → Each (IsOnClocks p) (map node_of fs) → Each AreDeclared (map node_of fs)
declared_nodes p [] h = tt
declared_nodes p (f ∷ fs) h = (h.0.declared, declared_nodes p fs h.1)

all_at : (p : Program) → Each AreDeclared p.nodes → (g : ℕ) → AreDeclared (node_at p g)
all_at p h = each_item AreDeclared empty_node p.nodes tt h

-- of a program that the code holds
module _ (p : StoredProgram) where
  abbrev pub is_whole : Bool
  is_whole = all_declared p.nodes.items && all_fit (program_seen p) p.nodes.items

  pub on_clocks : is_whole ≡ true → ProgramOnClocks (program_seen p)
  on_clocks h =
      let declared = all_declared_is p.nodes.items (and_left (all_declared p.nodes.items) (all_fit (program_seen p) p.nodes.items) h) in
      nodes_are (program_seen p) (all_at (program_seen p) declared) p.nodes.items declared (and_right (all_declared p.nodes.items) (all_fit (program_seen p) p.nodes.items) h)

  pub off_clocks : is_whole ≡ false → ProgramOnClocks (program_seen p) → ⊥
  off_clocks d h =
      let declared = declared_nodes (program_seen p) p.nodes.items h in
      let whole = and_true (all_declared p.nodes.items) (all_fit (program_seen p) p.nodes.items) (is_all_declared p.nodes.items declared) (are_nodes (program_seen p) (all_at (program_seen p) declared) p.nodes.items h) in
      true≢false (sym whole ∙ d)
