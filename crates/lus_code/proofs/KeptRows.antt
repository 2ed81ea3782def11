-- What a node of the source wants to keep is within its count of state cells, and so is what the class of its normal form keeps.
use Rattle.std.proofs.Common.{◌≡◌, ℕ, suc, ◌+◌, ◌<◌, ◌≤◌, List, [], ◌∷◌, ◌++◌, length, map, sum_by, Option, Some, refl, sym, ap, subst, arith, ⊎_elim}
use Rattle.std.proofs.lemmas.Bool.{cases_lt}
use Rattle.std.proofs.lemmas.List.{get_or_past}
use Rattle.std.proofs.lemmas.List.Sums.{sum_by-cons}
use Rattle.lus_values.specs.Lists.{item, Each}
use Rattle.lus_values.proofs.Lists.{below_at, each_at}
use Rattle.lus_program.specs.declared.types.Kind.{Kind}
use Rattle.lus_program.specs.declared.types.Kind.TheVariants as kinds
use Rattle.lus_values.specs.declared.test.Test.{Test}
use Rattle.lus_program.specs.Programs.{Expression, literal, variable, operate, pre, arrow, when, merge, call, Operands, none, more, Equation, Node, Program, node_at, empty_node}
use Rattle.lus_streams.specs.Clocks.{Clock, Part, at, formal_clock, base_of, branch_clock, parts, all_parts}
use Rattle.lus_streams.specs.Equations.{Site, sites, sites_in, site_first, node_parts, equation_parts, equation_clock}
use Rattle.lus_program.specs.Resolved.{EquationFits, NodeResolved, Resolved, kind_in, kinds_given_in}
use Rattle.lus_program.proofs.TypedParts.{HasKind, HaveKinds, operate_typed, both_typed, when_typed, merge_typed, call_typed, more_typed, whole_call, whole_typed, fits_given}
use Rattle.lus_classes.specs.ClassesOf.{AreCalls}
use Rattle.lus_normal_form.specs.NormalForm.{StandsFor}
use Rattle.lus_normal_form.specs.NormalNodes.{AreSites, IsNormalOf, memories, all_memories, firsts, all_firsts, count_rights, node_memories, node_firsts}
use Rattle.lus_instructions.specs.declared.class.Call.{Call}
use Rattle.lus_instructions.specs.declared.class.Class.{Class}
use Rattle.lus_classes.specs.View.{call_of, class_of}
use Rattle.lus_cells.specs.Cells.{AreStateCells, HaveLeaves, expression_cells, operand_cells, kind_leaves, leaves_given, node_cells}
use Rattle.lus_emission.specs.Sources.{AreFew, KeepTo}
use Rattle.lus_turns.specs.Turned.{AreTurned, HaveOneLeft}
use Rattle.lus_code.specs.Made.{AreSmall, NodesKeepTo}

-- ---- the source

-- what the calls among parts keep
abbrev called_keep : Program → (ℕ → ℕ) → List Part → ℕ
called_keep p counts es = sum_by (λ s. counts s.node) (sites_in p es)

first_keeps : (p : Program) (counts : ℕ → ℕ) (e : Part) (ss : List Site) → sum_by (λ s. counts s.node) (site_first p e ss) ≡ sum_by (λ s. counts s.node) (site_first p e []) + sum_by (λ s. counts s.node) ss
first_keeps p counts (at k (call g c args)) ss =
    let s : Site = record { node = g; number = c; args = args; base = base_of (node_at p g) k } in
    let one = sum_by-cons (λ (t : Site). counts t.node) s ss in
    let alone = sum_by-cons (λ (t : Site). counts t.node) s [] in
    omega (arith, one, alone)
first_keeps p counts (at k e) ss = omega arith

called_append : (p : Program) (counts : ℕ → ℕ) (es ds : List Part) → called_keep p counts (es ++ ds) ≡ called_keep p counts es + called_keep p counts ds
called_append p counts [] ds = omega arith
called_append p counts (e ∷ es) ds =
    let rest = called_append p counts es ds in
    let here = first_keeps p counts e (sites_in p (es ++ ds)) in
    let alone = first_keeps p counts e (sites_in p es) in
    omega (arith, rest, here, alone)

one_leaf : (leaves : ℕ → ℕ) → ((t : ℕ) → 1 ≤ leaves t) → (k : Kind) → 1 ≤ kind_leaves leaves k
one_leaf leaves h kinds.Bool = omega arith
one_leaf leaves h kinds.Int = omega arith
one_leaf leaves h (kinds.Enum t) = omega arith
one_leaf leaves h (kinds.Struct t) = h t

module _ (p : Program) (f : Node) (leaves : ℕ → ℕ) (positive : (t : ℕ) → 1 ≤ leaves t) (counts : ℕ → ℕ) where
  abbrev size : Expression → ℕ
  size e = leaves_given leaves (kind_in p f e)

  size_positive : (e : Expression) → HasKind p f e → 1 ≤ size e
  size_positive e h = let same = ap (leaves_given leaves) h.1 in let one = one_leaf leaves positive h.0 in omega (arith, same, one)

  -- an expression wants no more than its cells
  abbrev Within : Expression → Clock → Type 0
  Within e k = memories e + firsts e + called_keep p counts (parts p e k) ≤ expression_cells size counts e

  call_within : (g c : ℕ) (es : Operands) (k : Clock) (rest : List Part) → all_memories es + all_firsts es + called_keep p counts rest ≤ operand_cells size counts es
      → memories (call g c es) + firsts (call g c es) + called_keep p counts (at k (call g c es) ∷ rest) ≤ expression_cells size counts (call g c es)
  call_within g c es k rest h =
      let s : Site = record { node = g; number = c; args = es; base = base_of (node_at p g) k } in
      let one = sum_by-cons (λ (t : Site). counts t.node) s (sites_in p rest) in
      omega (arith, h, one)

  mutual
    within_cells : (e : Expression) (k : Clock) → HasKind p f e → Within e k
    within_cells (literal v) k h = omega arith
    within_cells (variable x) k h = omega arith
    within_cells (operate o es) k h = all_within es (λ m. k) 0 (operate_typed p f o es h)
    within_cells (pre a) k h =
        let one = size_positive a h in
        let rest = within_cells a k h in
        omega (arith, one, rest)
    within_cells (arrow a b) k h =
        let both = both_typed p f a b h in
        let first = within_cells a k both.0 in
        let later = within_cells b k both.1 in
        let sum = called_append p counts (parts p a k) (parts p b k) in
        omega (arith, first, later, sum)
    within_cells (when t a) k h = within_cells a _ (when_typed p f t a h).1
    within_cells (merge x bs) k h = all_within bs (branch_clock x k) 0 (merge_typed p f x bs h).1
    within_cells (call g c es) k h =
        let made = call_typed p f g c es h in
        let ks = formal_clock (node_at p g) es (base_of (node_at p g) k) in
        call_within g c es k (all_parts p es ks 0) (all_within es ks 0 (made.2.arguments, made.2.have))

    all_within : (es : Operands) (ks : ℕ → Clock) (m : ℕ) → HaveKinds p f es → all_memories es + all_firsts es + called_keep p counts (all_parts p es ks m) ≤ operand_cells size counts es
    all_within none ks m h = omega arith
    all_within (more e es) ks m h =
        let both = more_typed p f e es h in
        let first = within_cells e (ks m) both.0 in
        let later = all_within es ks (suc m) both.1 in
        let sum = called_append p counts (parts p e (ks m)) (all_parts p es ks (suc m)) in
        omega (arith, first, later, sum)

  right_within : (e : Expression) (k : Clock) (ks : List Kind) → kinds_given_in p f e ≡ Some ks → Within e k
  right_within (call g c es) k ks h =
      let made = whole_call p f g c es ks h in
      let ks = formal_clock (node_at p g) es (base_of (node_at p g) k) in
      call_within g c es k (all_parts p es ks 0) (all_within es ks 0 (made.arguments, made.have))
  right_within e k ks h = within_cells e k (whole_typed p f e ks h)

  equations_within : (qs : List Equation) → Each (EquationFits p f) qs
      → count_rights memories qs + count_rights firsts qs + called_keep p counts (equation_parts p f qs) ≤ sum_by (λ q. expression_cells size counts q.right) qs
  equations_within [] h = omega arith
  equations_within (q ∷ qs) h =
      let r = fits_given p f q h.0 in
      let here = right_within q.right (equation_clock f q) r.kinds r.given in
      let rest = equations_within qs h.1 in
      let called = called_append p counts (parts p q.right (equation_clock f q)) (equation_parts p f qs) in
      let sum = sum_by-cons (λ (z : Equation). expression_cells size counts z.right) q qs in
      omega (arith, here, rest, called, sum)

-- the nodes of a program keep to their counts of state cells
pub source_keeps : (p : Program) (cells : List ℕ) → Resolved p → HaveLeaves p → AreStateCells p cells → NodesKeepTo cells p
source_keeps p cells resolved leaves are g =
    ⊎_elim
    (λ (lt : g < length p.nodes).
    let f = node_at p g in
    let positive = leaves are.exact.leaves are.exact.leaves_are in
    let fits = (each_at (NodeResolved p) p.nodes g empty_node lt resolved.nodes).equations in
    let within = equations_within p f are.exact.leaves positive (item 0 cells) f.equations fits in
    let exact = below_at (λ y. item 0 cells y ≡ node_cells p are.exact.leaves (item 0 cells) (node_at p y)) (length p.nodes) are.exact.each g lt in
    omega (arith, within, exact))
    (λ (past : length p.nodes ≤ g).
    let no_node : node_at p g ≡ empty_node = get_or_past p.nodes g empty_node past in
    subst (λ f. node_memories f + node_firsts f + called_keep p (item 0 cells) (node_parts p f) ≤ item 0 cells g) (sym no_node) (omega arith))
    (cases_lt g (length p.nodes))

-- ---- the normal form

sites_keep : (p : Program) (New : ℕ → Clock → Expression → Type 0) (counts : ℕ → ℕ) (ss ss' : List Site) → AreSites p New ss ss' → sum_by (λ s. counts s.node) ss' ≡ sum_by (λ s. counts s.node) ss
sites_keep p New counts [] ss' h = ap (sum_by (λ s. counts s.node)) h
sites_keep p New counts (s ∷ ss) ss' h =
    let rest = sites_keep p New counts ss h.1 h.4 in
    let made : Site = record s { args = h.0 } in
    let same = ap (sum_by (λ (t : Site). counts t.node)) h.2 in
    let here = sum_by-cons (λ (t : Site). counts t.node) s ss in
    let there = sum_by-cons (λ (t : Site). counts t.node) made h.1 in
    omega (arith, rest, same, here, there)

-- and so do those of its normal form
pub normal_keeps : (p p' : Program) (new_parts : ℕ → List Part) → IsNormalOf p p' new_parts → (counts : List ℕ) → NodesKeepTo counts p → NodesKeepTo counts p'
normal_keeps p p' new_parts normal counts kept g =
    let is = normal g in
    let was = kept g in
    let a = is.same_memories in
    let b = is.same_firsts in
    let called = sites_keep p (StandsFor (length (node_at p g).variables) (new_parts g)) (item 0 counts) (sites p (node_at p g)) (sites p' (node_at p' g)) is.calls in
    omega (arith, was, a, b, called)

-- ---- classes

calls_keep : (p : Program) (f : Node) (ts : List (Option Test)) (c : Class) (counts : ℕ → ℕ) (ss : List Site) (qs : List Call) (n : ℕ) → AreCalls p f (class_of c) ss (map (call_of ts) qs) n
    → sum_by (λ q. counts q.node) qs ≡ sum_by (λ s. counts s.node) ss
calls_keep p f ts c counts [] [] n h = refl
calls_keep p f ts c counts [] (q ∷ qs) n h = absurd h
calls_keep p f ts c counts (s ∷ ss) [] n h = absurd h
calls_keep p f ts c counts (s ∷ ss) (q ∷ qs) n h =
    let rest = calls_keep p f ts c counts ss qs (suc n) h.1 in
    let node = ap counts h.0.node in
    let here = sum_by-cons (λ (z : Call). counts z.node) q qs in
    let there = sum_by-cons (λ (z : Site). counts z.node) s ss in
    omega (arith, rest, node, here, there)

module _ (p : Program) (classes : List Class) (are : AreTurned p classes) (lefts : (g : ℕ) → HaveOneLeft (node_at p g)) where
  -- classes keep to the counts of their nodes
  pub classes_keep : (counts : List ℕ) → NodesKeepTo counts p → KeepTo counts classes
  classes_keep counts kept g c here =
      let turned = are.each g c here in
      let few = turned.kept (lefts g) in
      let a = few.cells in
      let b = few.firsts in
      let called = calls_keep p (node_at p g) c.tests.items c (item 0 counts) (sites p (node_at p g)) c.calls.items 0 turned.belongs.calls in
      let all = kept g in
      omega (arith, a, b, called, all)

-- few enough for their cells to be numbered
pub classes_few : (p : Program) (classes : List Class) → AreTurned p classes → AreSmall p → AreFew classes
classes_few p classes are small =
    record {
      counts = small.counts;
      counted = classes_keep p classes are small.lefts small.counts small.kept;
      small = λ g. let few = small.few g in omega (arith, few);
    }
