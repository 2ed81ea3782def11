-- What things have by what those have that they use, found along an order of them: sizes of types, and how deep calls go.
use Rattle.std.proofs.Common.{arith, ◌≡◌, ◌∙◌, sym, ℕ, ◌<◌, ◌≤◌, List, length, ⊎_elim, refl, [], ◌∷◌, ◌++◌, max, Contains, ap, subst, suc, map}
use Rattle.std.proofs.lemmas.Bool.{cases_lt}
use Rattle.std.proofs.lemmas.List.{get_or_past, length-map}
use Rattle.lus_values.specs.Lists.{Below, item}
use Rattle.lus_values.proofs.Lists.{below_all, below_at}
use Rattle.lus_graph.specs.Along.{IsFilled, Solves, within}
use Rattle.lus_graph.specs.Ways.{Uses, IsOrder, used}
use Rattle.lus_graph.proofs.AlongOrders.{alike_solves, all_fit, nothing_solved}
use Rattle.lus_source.specs.Sized.{IsMeasure, greater, greatest, AreWithin, Counted, declared_nesting, size_at, call_depth_at}
use Rattle.std.proofs.lemmas.Bool.Decides.{nat_tests}
use Rattle.std.proofs.lemmas.List.Elements.{Contains-append_left, Contains-append_right}
use Rattle.std.proofs.Math.ListN.{get_or-map as get_or_any-map}
use Rattle.lus_syntax.specs.declared.tree.Tree.{Tree as StoredTree}
use Rattle.lus_syntax.specs.declared.tree.TypeDeclaration.{TypeDeclaration as StoredType}
use Rattle.lus_syntax.specs.Trees.{TypeDeclaration}
use Rattle.lus_syntax.specs.View.{tree_seen, type_seen, node_seen}
use Rattle.lus_program.specs.declared.types.Declared.{Declared as StoredDeclared}
use Rattle.lus_program.specs.View.{declared_of}
use Rattle.lus_program.specs.Programs.{Declared, structure}
use Rattle.lus_program.specs.Kinds.{nothing_declared}
use Rattle.lus_program.specs.Leaves.{declared_leaves, AreTheLeaves}
use Rattle.lus_program.specs.Sound.{declared_uses}
use Rattle.lus_program.proofs.OneTable.{declared_alike, the_leaves}
use Rattle.lus_source.specs.Loopless.{type_uses, calls_of, node_names, node_uses}
use Rattle.lus_source.specs.Meaning.{program_of}
use Rattle.lus_source.proofs.FieldsMeant.{meant_fields}
use Rattle.lus_source.proofs.TypesMeant.{types_order}
use Rattle.lus_source.specs.declared.scope.Tables.{Tables}
use Rattle.lus_source.specs.Sources.{HasTables}
use Rattle.lus_source.specs.Scopes.{Scope}
use Rattle.lus_source.specs.Tables.{declared_as}
use Rattle.lus_syntax.specs.declared.tree.Node.{Node as StoredNode}

module _ {X : Type 0} {uses : Uses} {e : X} {step : (ℕ → X) → ℕ → X} {n : ℕ} (m : IsMeasure uses e step n)
    (order : List ℕ) (o : IsOrder uses order) where
  pub solved : Solves uses e step (within n e step)
  solved = nothing_solved uses e step m.local order o n (omega (arith, m.count)) m.nothing

  -- a table that is found has at each place what the step gives
  pub found_solves : (Fits : X → Type 0) (table : List X) → IsFilled uses e step Fits order table
      → (x : ℕ) → item e table x ≡ step (item e table) x
  found_solves Fits table found x =
      let past : (y : ℕ) → length uses ≤ y → item e table y ≡ e = λ y le. get_or_past table y e (omega (arith, le, found.size)) in
      let right : (y : ℕ) → y < length uses → item e table y ≡ within n e step y = λ y lt.
      found.right (within n e step) solved y (o.whole y lt) in
      let same = alike_solves uses e step m.local (within n e step) (item e table) solved right past in
      ⊎_elim (same.each x) (λ le. past x le ∙ sym (m.nothing (item e table) x le)) (cases_lt x (length uses))

  module _ (Fits : X → Type 0) where
    pub found_fit : (table : List X) → IsFilled uses e step Fits order table → Below n (λ x. Fits (within n e step x))
    found_fit table found = below_all (λ x. Fits (within n e step x)) n (λ x lt.
        all_fit uses e step Fits order o table found (within n e step) solved x (omega (arith, lt, m.count)))

    pub past_refused : (x : ℕ) → x < length uses → ((at : ℕ → X) → Solves uses e step at → Fits (at x) → ⊥)
        → Below n (λ x. Fits (within n e step x)) → ⊥
    past_refused x lt past all =
        past (within n e step) solved (below_at (λ x. Fits (within n e step x)) n all x (omega (arith, lt, m.count)))

greater-is_max : (m n : ℕ) → greater m n ≡ max m n
greater-is_max m n = grind (arith, nat_tests)

pub greatest-one : (f : ℕ → ℕ) (x : ℕ) → greatest f (x ∷ []) ≡ f x
greatest-one f x = omega (arith, greater-is_max (f x) 0)

pub greatest-append : (f : ℕ → ℕ) (xs ys : List ℕ) → greatest f (xs ++ ys) ≡ max (greatest f xs) (greatest f ys)
greatest-append f [] ys = omega arith
greatest-append f (x ∷ xs) ys = omega (arith, greatest-append f xs ys, greater-is_max (f x) (greatest f (xs ++ ys)), greater-is_max (f x) (greatest f xs))

-- the same of each is the same of the greatest
pub greatest-same : (f g : ℕ → ℕ) (xs : List ℕ) → ((x : ℕ) → Contains xs x → f x ≡ g x) → greatest f xs ≡ greatest g xs
greatest-same f g [] agree = refl
greatest-same f g (x ∷ xs) agree =
    let first = agree x (Contains-append_left (x ∷ []) xs x (0, omega arith, refl)) in
    let rest = greatest-same f g xs (λ y among. agree y (Contains-append_right (x ∷ []) xs y among)) in
    rw (first, rest) refl

abbrev Size : Type 0
Size = (ℕ → ℕ) → Declared → ℕ

-- it comes from the structures that a declaration names
abbrev IsOfStructures : Size → Type 0
IsOfStructures size =
    (at at' : ℕ → ℕ) (d : Declared) → ((t : ℕ) → Contains (declared_uses d) t → at t ≡ at' t) → size at d ≡ size at' d

nesting_alike : IsOfStructures declared_nesting
nesting_alike at at' (structure fs) agree = ap suc (greatest-same at at' (declared_uses (structure fs)) agree)
nesting_alike at at' d agree = greatest-same at at' (declared_uses d) agree

abbrev pub uses_in : List Declared → Uses
uses_in types = map declared_uses types

abbrev pub step_in : Size → List Declared → (ℕ → ℕ) → ℕ → ℕ
step_in size types at t = size at (item nothing_declared types t)

module _ (types : List Declared) where
  measured : (e : ℕ) (size : Size) → IsOfStructures size → ((at : ℕ → ℕ) → size at nothing_declared ≡ e)
      → IsMeasure (uses_in types) e (step_in size types) (length types)
  measured e size alike bare = record {
    count = length-map types declared_uses;
    local = λ at at' t agree. alike at at' (item nothing_declared types t) (λ u among.
        agree u (subst (λ us. Contains us u) (sym (get_or_any-map declared_uses types t nothing_declared)) among));
    nothing = λ at t le.
        ap (size at) (get_or_past types t nothing_declared (omega (arith, le, length-map types declared_uses))) ∙ bare at;
  }

  pub leaves_measure : IsMeasure (uses_in types) 1 (step_in declared_leaves types) (length types)
  leaves_measure = measured 1 declared_leaves declared_alike (λ at. refl)

  pub nesting_measure : IsMeasure (uses_in types) 0 (step_in declared_nesting types) (length types)
  nesting_measure = measured 0 declared_nesting nesting_alike (λ at. refl)

-- of the types that a source declares, as its tables have them
module _ (t : StoredTree) (tables : Tables) (has : HasTables (tree_seen t) tables) (declared : List StoredDeclared) (here : declared ≡ tables.declared.items) where
  abbrev types : List Declared
  types = map declared_of declared

  same : types ≡ (program_of (tree_seen t)).types
  same = ap (map declared_of) here ∙ ap (λ (s : Scope). s.declared) has.seen

  module _ (order : List ℕ) (o : IsOrder (type_uses (tree_seen t)) order) where
    pub ordered : IsOrder (uses_in types) order
    ordered = subst (λ ds. IsOrder (uses_in ds) order) (sym same) (types_order (tree_seen t) order o)

    pub leaves_meant : (most : ℕ) (table : List ℕ) → IsFilled (uses_in types) 1 (step_in declared_leaves types) (λ k. k ≤ most) order table
        → Counted (tree_seen t) → AreTheLeaves (program_of (tree_seen t)) table
    leaves_meant most table found counted =
        the_leaves (program_of (tree_seen t)) order (types_order (tree_seen t) order o) table (meant_fields (tree_seen t) counted)
        (subst (λ ds. (x : ℕ) → item 1 table x ≡ declared_leaves (item 1 table) (item nothing_declared ds x)) same
        (found_solves (leaves_measure types) order ordered (λ k. k ≤ most) table found))

  module _ (e : ℕ) (size : Size) (m : IsMeasure (uses_in types) e (step_in size types) (length types)) (things : List StoredType) (listed : things ≡ t.types.items) where
    type_count : length types ≡ length things
    type_count = omega (
      arith,
      ap length same,
      length-map (tree_seen t).types (λ (d : TypeDeclaration). declared_as (tree_seen t) d.definition),
      length-map t.types.items type_seen,
      ap length listed,
    )

    -- there are as many as declarations
    pub of_things : IsMeasure (uses_in types) e (step_in size types) (length things)
    of_things = subst (λ n. IsMeasure (uses_in types) e (step_in size types) n) type_count m

    -- what is within a limit is so of the types that are meant
    pub meant_within : (most : ℕ) → Below (length things) (λ x. within (length things) e (step_in size types) x ≤ most)
        ≡ AreWithin (length (program_of (tree_seen t)).types) (size_at e size (program_of (tree_seen t)).types) most
    meant_within most =
        ap (λ n. Below n (λ x. within n e (step_in size types) x ≤ most)) (sym type_count)
        ∙ ap (λ ds. AreWithin (length ds) (size_at e size ds) most) same

abbrev deeper : Uses → (ℕ → ℕ) → ℕ → ℕ
deeper uses at x = suc (greatest at (used uses x))

-- of the nodes of a source, by the uses that are found
module _ (t : StoredTree) (uses : Uses) (same : uses ≡ node_uses (tree_seen t)) (things : List StoredNode) (listed : things ≡ t.nodes.items) where
  node_count : length (tree_seen t).nodes ≡ length things
  node_count = omega (arith, length-map t.nodes.items node_seen, ap length listed)

  pub calls_measure : IsMeasure uses 1 (deeper uses) (length things)
  calls_measure = record {
    count = ap length same ∙ length-map (tree_seen t).nodes (calls_of (node_names (tree_seen t))) ∙ node_count;
    local = λ at at' x agree. ap suc (greatest-same at at' (used uses x) agree);
    nothing = λ at x le. ap (λ us. suc (greatest at us)) (get_or_past uses x [] le);
  }

  pub depths_within : (most : ℕ) → Below (length things) (λ x. within (length things) 1 (deeper uses) x ≤ most)
      ≡ AreWithin (length (tree_seen t).nodes) (call_depth_at (tree_seen t)) most
  depths_within most =
      ap (λ n. Below n (λ x. within n 1 (deeper uses) x ≤ most)) (sym node_count)
      ∙ ap (λ us. AreWithin (length (tree_seen t).nodes) (within (length (tree_seen t).nodes) 1 (deeper us)) most) same
