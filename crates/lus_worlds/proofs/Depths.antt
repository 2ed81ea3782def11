-- In a resolved program calls are no deeper than there are nodes: on a way of calls no node stands twice.
use Rattle.std.proofs.Common.{◌≡◌, ◌∙◌, ℕ, zero, suc, ◌-◌, ◌<◌, ◌≤◌, Bool, true, false, List, [], ◌∷◌, length, map, flat_map, drop, set, replicate, sum_by, Contains, Option, Some, None, MatchOption, refl, sym, ap, subst, arith, ⊎_elim, length-set}
use Rattle.std.proofs.lemmas.Bool.{cases_eq, cases_lt}
use Rattle.std.proofs.lemmas.List.{get_or_past, get_or-set_other, get_or-replicate, length-replicate}
use Rattle.std.proofs.lemmas.List.Folds.{sum_by-replicate}
use Rattle.std.proofs.lemmas.List.Sums.{sum_by-set}
use Rattle.std.proofs.Math.ListN.{get_or-map as get_or_any-map}
use Rattle.lus_values.specs.Lists.{item, Each}
use Rattle.lus_values.proofs.Lists.{each_append, each_left, each_right}
use Rattle.lus_graph.specs.Ways.{Uses, used, Leads, step, then}
use Rattle.lus_program.specs.Programs.{Expression, literal, variable, operate, pre, arrow, when, merge, call, Operands, none, more, Equation, Node, Program, numbered, empty_node, node_at}
use Rattle.lus_program.specs.Resolved.{Resolved, nodes_called, all_nodes_called, program_uses}
use Rattle.lus_program.specs.View.{expression_of}
use Rattle.lus_streams.specs.Clocks.{Clock, Part, at, formal_clock, base_of, branch_clock, parts, all_parts}
use Rattle.lus_streams.specs.Equations.{Site, equation_clock, equation_parts, node_parts, site_first, sites_in, sites}
use Rattle.lus_streams.proofs.Calls.{OfCall, sites_of_parts}
use Rattle.lus_parts.specs.declared.part.Part.{Part as StoredPart}
use Rattle.lus_parts.specs.Parts.{part_of}
use Rattle.lus_reference.specs.Given.{callee}
use Rattle.lus_worlds.specs.Beginning.{IsWithin}
use Rattle.lus_worlds.proofs.Among.{each_among, each_from}
use Rattle.lus_worlds.proofs.Sites.{each_is_node}

-- a call of a node that an expression calls
module _ (p : Program) (Q : ℕ → Type 0) where
  abbrev pub Calls : (g c : ℕ) → Operands → Clock → Type 0
  Calls g c args k = Q g

  mutual
    parts_called : (e : Expression) (k : Clock) → Each Q (nodes_called e) → Each (OfCall Calls) (parts p e k)
    parts_called (literal v) k h = (tt, tt)
    parts_called (variable x) k h = (tt, tt)
    parts_called (operate o es) k h = (tt, all_called es (λ m. k) 0 h)
    parts_called (pre a) k h = (tt, parts_called a k h)
    parts_called (arrow a b) k h =
        (tt, each_append (OfCall Calls) (parts p a k) (parts p b k) (parts_called a k (each_left Q (nodes_called a) (nodes_called b) h)) (parts_called b k (each_right Q (nodes_called a) (nodes_called b) h)))
    parts_called (when t a) k h = (tt, parts_called a (drop 1 k) h)
    parts_called (merge x bs) k h = (tt, all_called bs (branch_clock x k) 0 h)
    parts_called (call g c args) k h = (h.0, all_called args (formal_clock (node_at p g) args (base_of (node_at p g) k)) 0 h.1)

    all_called : (es : Operands) (ks : ℕ → Clock) (m : ℕ) → Each Q (all_nodes_called es) → Each (OfCall Calls) (all_parts p es ks m)
    all_called none ks m h = tt
    all_called (more e es) ks m h =
        each_append (OfCall Calls) (parts p e (ks m)) (all_parts p es ks (suc m)) (parts_called e (ks m) (each_left Q (nodes_called e) (all_nodes_called es) h)) (all_called es ks (suc m) (each_right Q (nodes_called e) (all_nodes_called es) h))

  equations_called : (f : Node) (qs : List Equation) → Each Q (flat_map (λ q. nodes_called q.right) qs) → Each (OfCall Calls) (equation_parts p f qs)
  equations_called f [] h = tt
  equations_called f (q ∷ qs) h =
      let rest = flat_map (λ (r : Equation). nodes_called r.right) qs in
      each_append (OfCall Calls) (parts p q.right (equation_clock f q)) (equation_parts p f qs) (parts_called q.right (equation_clock f q) (each_left Q (nodes_called q.right) rest h)) (equations_called f qs (each_right Q (nodes_called q.right) rest h))

-- what is used is used by a node
module _ (p : Program) where
  abbrev nodes_used : Node → List ℕ
  nodes_used f = flat_map (λ q. nodes_called q.right) f.equations

  each_used : (f : ℕ) → Each (λ s. Contains (used (program_uses p) f) s.node) (sites p (node_at p f))
  each_used f =
      let uses = used (program_uses p) f in
      let are : uses ≡ nodes_used (node_at p f) = get_or_any-map nodes_used p.nodes f empty_node in
      let each : Each (Contains uses) (nodes_used (node_at p f)) = subst (Each (Contains uses)) are (each_from (Contains uses) uses (λ y c. c)) in
      sites_of_parts p (Calls p (Contains uses)) (node_parts p (node_at p f)) (equations_called p (Contains uses) (node_at p f) (node_at p f).equations each)

further : {uses : Uses} {x y z : ℕ} → Leads uses x y → Contains (used uses y) z → Leads uses x z
further (step among) last = then among (step last)
further (then among way) last = then among (further way last)

abbrev one_if_new : Bool → ℕ
one_if_new false = 1
one_if_new true = 0

not_true : (b : Bool) → (b ≡ true → ⊥) → b ≡ false
not_true true never = absurd (never refl)
not_true false never = refl

unmarked : (n y : ℕ) → item false (replicate n false) y ≡ false
unmarked n y = ⊎_elim (λ lt. get_or-replicate n y false false lt) (λ le. get_or_past (replicate n false) y false (omega (arith, le, length-replicate n false))) (cases_lt y n)

-- where each marked node leads to this one, its calls are no deeper than as many nodes are new
module _ (p : Program) (resolved : Resolved p) where
  fewer : (marks : List Bool) (x : ℕ) → length marks ≡ length p.nodes → ((y : ℕ) → item false marks y ≡ true → Leads (program_uses p) y x) → x < length p.nodes
      → sum_by one_if_new (set marks x true) < sum_by one_if_new marks
  fewer marks x size lead lt =
      let new : item false marks x ≡ false = not_true (item false marks x) (λ e. resolved.loopless x (lead x e)) in
      omega (arith, sum_by-set one_if_new marks x true false (omega (arith, lt, size)), ap one_if_new new)

  deep : (n : ℕ) (marks : List Bool) (x : ℕ) → length marks ≡ length p.nodes → sum_by one_if_new marks ≤ n → ((y : ℕ) → item false marks y ≡ true → Leads (program_uses p) y x)
      → x < length p.nodes → IsWithin p n x
  deep zero marks x size few lead lt = absurd (let less = fewer marks x size lead lt in omega (arith, few, less))
  deep (suc n) marks x size few lead lt =
      let all = sites p (node_at p x) in
      let less = fewer marks x size lead lt in (
        lt,
        each_from (λ s. IsWithin p n s.node) all (λ s among.
            let calls : Contains (used (program_uses p) x) s.node = each_among (λ t. Contains (used (program_uses p) x) t.node) all s (each_used p x) among in
            deep n (set marks x true) s.node (length-set marks x true ∙ size) (omega (arith, few, less))
            (λ y e. ⊎_elim
            (λ same. subst (λ z. Leads (program_uses p) z s.node) (sym same) (step calls))
            (λ other. further (lead y (sym (get_or-set_other marks x y true false other) ∙ e)) calls)
            (cases_eq y x))
            (each_among (λ t. t.node < length p.nodes) all s (each_is_node p resolved x) among)),
      )

  pub is_within : (x : ℕ) → x < length p.nodes → IsWithin p (length p.nodes) x
  is_within x lt =
      let marks = replicate (length p.nodes) false in
      deep (length p.nodes) marks x (length-replicate (length p.nodes) false) (omega (arith, sum_by-replicate one_if_new (length p.nodes) false))
      (λ y e. let none : item false marks y ≡ false = unmarked (length p.nodes) y in absurd (cc)) lt

-- of a node whose calls are so deep
module _ (p : Program) (f : ℕ) where
  pub none_within : (n : ℕ) → n ≡ 0 → IsWithin p n f → ⊥
  none_within zero e h = h
  none_within (suc n) e h = absurd (omega (arith, e))

  pub node_within : (n : ℕ) → IsWithin p n f → f < length p.nodes
  node_within zero h = absurd h
  node_within (suc n) h = h.0

  pub calls_within : (n m : ℕ) → m ≡ n - 1 → IsWithin p n f → Each (λ s. IsWithin p m s.node) (sites p (node_at p f))
  calls_within zero m e h = absurd h
  calls_within (suc n) m e h = let same : n ≡ m = omega (arith, e) in subst (λ k. Each (λ s. IsWithin p k s.node) (sites p (node_at p f))) same h.1

-- not of each call the node has Q where not that of one of these parts
module _ (p : Program) (Q : ℕ → Type 0) where
  abbrev Lacks : Option ℕ → Type 0
  Lacks o = MatchOption o ⊥ (λ g. Q g → ⊥)

  first_lacks : (n : ℕ) (k : Clock) (e : Expression) (ss : List Site) → Lacks (callee e) → Each (λ s. Q s.node) (site_first p (at k (numbered n e)) ss) → ⊥
  first_lacks n k (literal v) ss h all = h
  first_lacks n k (variable x) ss h all = h
  first_lacks n k (operate o es) ss h all = h
  first_lacks n k (pre a) ss h all = h
  first_lacks n k (arrow a b) ss h all = h
  first_lacks n k (when t a) ss h all = h
  first_lacks n k (merge x bs) ss h all = h
  first_lacks n k (call g c es) ss h all = h all.0

  others : (e : Part) (ss : List Site) → Each (λ s. Q s.node) (site_first p e ss) → Each (λ s. Q s.node) ss
  others (at k (call g c args)) ss h = h.1
  others (at k _) ss h = h

  pub one_lacks : (i : ℕ) (qs rest : List StoredPart) (q : StoredPart) → drop i qs ≡ q ∷ rest → Lacks (callee (expression_of q.expr.now)) → Each (λ s. Q s.node) (sites_in p (map part_of qs)) → ⊥
  one_lacks zero [] rest q e h all = absurd (cc)
  one_lacks (suc i) [] rest q e h all = absurd (cc)
  one_lacks zero (r ∷ qs) rest q e h all =
      let same : r ≡ q = cc in
      first_lacks q.number q.clock.items (expression_of q.expr.now) (sites_in p (map part_of qs)) h (subst (λ d. Each (λ s. Q s.node) (site_first p (part_of d) (sites_in p (map part_of qs)))) same all)
  one_lacks (suc i) (r ∷ qs) rest q e h all = one_lacks i qs rest q e h (others (part_of r) (sites_in p (map part_of qs)) all)

-- in a resolved program something is found of each node
pub started : {X : Type 0} (p : Program) (n f : ℕ) (K : X → Type 0) (o : Option X) → n ≡ length p.nodes → MatchOption o (IsWithin p n f → ⊥) K → MatchOption o (Resolved p → f < length p.nodes → ⊥) K
started p n f K (Some m) e h = h
started p n f K None e h = λ resolved lt. h (subst (λ k. IsWithin p k f) (sym e) (is_within p resolved f lt))
