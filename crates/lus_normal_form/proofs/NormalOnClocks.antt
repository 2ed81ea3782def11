-- The normal form of a resolved program on clocks is on clocks.
use Rattle.std.proofs.Common.{◌≡◌, refl, sym, ap, ◌∙◌, subst, ℕ, zero, suc, ◌+◌, ◌<◌, ◌≤◌, List, [], ◌∷◌, length, Option, Some, None, arith, ⊎_elim}
use Rattle.std.specs.Prelude.{flat_map}
use Rattle.std.proofs.lemmas.Bool.{cases_lt}
use Rattle.lus_values.specs.Lists.{item, Each}
use Rattle.lus_values.specs.declared.test.Test.{Test}
use Rattle.lus_program.specs.Programs.{Expression, call, Operands, Variable, Equation, Node, Program, no_variable, empty_node, node_at}
use Rattle.lus_streams.specs.Clocks.{Clock, chain, clock_of, Part, at, formal_clock, base_of, parts}
use Rattle.lus_streams.specs.Equations.{Definition, given_by, place_in, equation_clock, definition_in, definition_of, equation_parts, node_parts, sites}
use Rattle.lus_streams.specs.OnClock.{MayTest, IsDeclared, test_of, OutputOn, DefinedOnClock, LeftOnClock, RightOnClock, IsOnClocks, ProgramOnClocks}
use Rattle.lus_streams.specs.Order.{clock_variables}
use Rattle.lus_streams.specs.Flags.{HasOutput, OutputIs, CallsHaveOutputs}
use Rattle.lus_streams.proofs.Lists.{each_of_items, each_left, each_right, each_implies, each_item, below_at}
use Rattle.lus_program.specs.Resolved.{EquationFits, NodeResolved, Resolved}
use Rattle.lus_streams.proofs.CallsResolved.{output_within, resolved_calls_have_outputs}
use Rattle.lus_values.proofs.Lists.{below_all}
use Rattle.lus_program.proofs.TypedParts.{fits_given}
use Rattle.lus_normal_form.specs.NormalForm.{StandsFor, IsRight, IsSimple}
use Rattle.lus_normal_form.specs.Named.{Uses, Known, GivesOutput, DefinesFirst, AreNamed}
use Rattle.lus_normal_form.specs.NormalNodes.{IsDefinition, IsWithin, IsNormalOf}
use Rattle.lus_normal_form.specs.Laws.{IsChain, IsOnChain, NormalIsOnClocks}
use Rattle.lus_normal_form.proofs.CallsOnClock.{actuals_stay, output_kept}
use Rattle.lus_normal_form.proofs.Equations.{bases, each_within, new_clock, new_defined, new_uses, old_clock, old_defined}
use Rattle.lus_normal_form.proofs.Faults.{first_part}
use Rattle.lus_normal_form.proofs.NewParts.{new_at, new_part, stands_from_place}
use Rattle.lus_normal_form.proofs.OneCall.{numbered_same, one_left}
use Rattle.lus_normal_form.proofs.OneTest.{clock_is_chain, one_test_suffices, untested}
use Rattle.lus_normal_form.proofs.PartsOnClock.{IsPlaced, IsWhole, equations_placed, right_on}
use Rattle.lus_normal_form.proofs.ResolvedNamed.{resolved_are_named}
use Rattle.lus_normal_form.proofs.Simple.{inner_simple}

-- a clock of a variable with a test begins with it
chain_begins : (n : ℕ) (vs : List Variable) (x : ℕ) (t : Test) → 0 < n → (item no_variable vs x).test ≡ Some t → (rest : Clock) × (chain n vs x ≡ t ∷ rest)
chain_begins zero vs x t lt e = let wrong : ⊥ = omega (arith, lt) in absurd wrong
chain_begins (suc n) vs x t lt e = (chain n vs t.variable, ap (λ o. elim o [ None ↦ [] | Some t ↦ t ∷ chain n vs t.variable ]) e)

-- P holds of what each equation gives its variables
abbrev Gives : (Expression → List ℕ → Clock → Type 0) → Option Definition → Type 0
Gives P None = Unit {0}
Gives P (Some (given_by e n xs k)) = P e xs k

gives_first : (P : Expression → List ℕ → Clock → Type 0) (f : Node) (q : Equation) (qs : List Equation) (x : ℕ) (o : Option ℕ) → P q.right q.targets (equation_clock f q) → Gives P (definition_in f qs x)
    → Gives P (elim o [ None ↦ definition_in f qs x | Some n ↦ Some (given_by q.right n q.targets (equation_clock f q)) ])
gives_first P f q qs x None h rest = rest
gives_first P f q qs x (Some n) h rest = h

definitions_give : (P : Expression → List ℕ → Clock → Type 0) (f : Node) (qs : List Equation) (x : ℕ) → Each (λ q. P q.right q.targets (equation_clock f q)) qs → Gives P (definition_in f qs x)
definitions_give P f [] x h = tt
definitions_give P f (q ∷ qs) x h = gives_first P f q qs x (place_in x q.targets 0) h.0 (definitions_give P f qs x h.1)

-- variables on the left of a right side, the first of which is output n, are on the clocks that it gives them
abbrev Lefts : Program → Node → Expression → List ℕ → Clock → ℕ → List ℕ → Type 0
Lefts p f e xs k n [] = Unit {0}
Lefts p f e xs k n (y ∷ ys) = DefinedOnClock p f y (Some (given_by e n xs k)) × Lefts p f e xs k (suc n) ys

lefts_on_clock : (p : Program) (f : Node) (q : Equation) (n : ℕ) (ys : List ℕ) → Lefts p f q.right q.targets (equation_clock f q) n ys → LeftOnClock p f q n ys
lefts_on_clock p f q n [] h = tt
lefts_on_clock p f q n (y ∷ ys) h = (h.0, lefts_on_clock p f q (suc n) ys h.1)

-- an equation is on clocks
record EquationOn (p : Program) (f : Node) (e : Expression) (xs : List ℕ) (k : Clock) : Type 0 where
  pub left : Lefts p f e xs k 0 xs
  pub right : RightOnClock p f (parts p e k)

-- and in the source its variables and calls are known
abbrev KnownLefts : Program → Node → Expression → List ℕ → Clock → ℕ → List ℕ → Type 0
KnownLefts p f e xs k n [] = Unit {0}
KnownLefts p f e xs k n (y ∷ ys) = ((Known f y × OutputIs p (Some (given_by e n xs k))) × DefinedOnClock p f y (Some (given_by e n xs k))) × KnownLefts p f e xs k (suc n) ys

record SourceEquation (p : Program) (f : Node) (e : Expression) (xs : List ℕ) (k : Clock) : Type 0 where
  pub left : KnownLefts p f e xs k 0 xs
  pub right : RightOnClock p f (parts p e k)
  pub uses : Each (Uses (Known f) (GivesOutput p f)) (parts p e k)

known_lefts : (p : Program) (f : Node) (q : Equation) (n : ℕ) (ys : List ℕ) → Each (Known f) ys → ((i : ℕ) → i < n + length ys → OutputIs p (Some (given_by q.right i q.targets (equation_clock f q)))) → LeftOnClock p f q n ys
    → KnownLefts p f q.right q.targets (equation_clock f q) n ys
known_lefts p f q n [] known outputs h = tt
known_lefts p f q n (y ∷ ys) known outputs h = (((known.0, outputs n (omega arith)), h.0), known_lefts p f q (suc n) ys known.1 (λ i lt. outputs i (omega (arith, lt))) h.1)

module _ (p : Program) (nodes : Each (NodeResolved p) p.nodes) (f : Node) where
  source_equations : (qs : List Equation) → Each (Known f) (flat_map (λ q. q.targets) qs) → Each (EquationFits p f) qs → Each (λ q. LeftOnClock p f q 0 q.targets) qs → Each (λ q. RightOnClock p f (parts p q.right (equation_clock f q))) qs
      → Each (Uses (Known f) (GivesOutput p f)) (equation_parts p f qs) → Each (λ q. SourceEquation p f q.right q.targets (equation_clock f q)) qs
  source_equations [] known fits lefts rights uses = tt
  source_equations (q ∷ qs) known fits lefts rights uses =
      let k = equation_clock f q in
      let r = fits_given p f q fits.0 in (
        record {
          left =
              known_lefts p f q 0 q.targets (each_left (Known f) q.targets (flat_map (λ q. q.targets) qs) known)
              (λ i lt. output_within p nodes f q.right i r.kinds q.targets k r.given (let size = r.size in omega (arith, lt, size)))
              lefts.0;
          right = rights.0;
          uses = each_left (Uses (Known f) (GivesOutput p f)) (parts p q.right k) (equation_parts p f qs) uses;
        },
        source_equations qs (each_right (Known f) q.targets (flat_map (λ q. q.targets) qs) known) fits.1 lefts.1 rights.1 (each_right (Uses (Known f) (GivesOutput p f)) (parts p q.right k) (equation_parts p f qs) uses),
      )

none_resolved : (p : Program) → NodeResolved p empty_node
none_resolved p = record { formals = omega arith; variables = tt; targets = tt; defined = tt; lefts = tt; equations = tt; numbered = tt }

pub none_on_clocks : (p : Program) → IsOnClocks p empty_node
none_on_clocks p = record { declared = tt; lefts = tt; rights = tt }

none_have_outputs : (p : Program) → CallsHaveOutputs p empty_node
none_have_outputs p = record { parts = tt; defined = tt }

module _ (p p' : Program) (new_parts : ℕ → List Part) (resolved : Resolved p) (on_clocks : ProgramOnClocks p) (normal : IsNormalOf p p' new_parts) (f : ℕ) where
  abbrev node : Node
  node = node_at p f

  abbrev node' : Node
  node' = node_at p' f

  abbrev New : ℕ → Clock → Expression → Type 0
  New = StandsFor (length node.variables) (new_parts f)

  abbrev Used : Part → Type 0
  Used = Uses (Known node) (GivesOutput p node)

  named : AreNamed p
  named = resolved_are_named p resolved on_clocks

  resolved_at : (g : ℕ) → NodeResolved p (node_at p g)
  resolved_at g = each_item (NodeResolved p) empty_node p.nodes (none_resolved p) resolved.nodes g

  on_at : IsOnClocks p node
  on_at = each_item (IsOnClocks p) empty_node p.nodes (none_on_clocks p) on_clocks f

  fit : (g : ℕ) → (node_at p g).inputs + (node_at p g).outputs ≤ length (node_at p g).variables
  fit g = (resolved_at g).formals

  old : (x : ℕ) → Known node x → clock_of node' x ≡ clock_of node x
  old x lt = old_clock p p' new_parts named normal f x lt

  new : (y : ℕ) (k : Clock) (a : Expression) → New y k a → clock_of node' y ≡ k
  new y k a s = new_clock p p' new_parts named normal f y k a s

  -- what holds of each part of the source holds of each part that was taken out
  of_new : (P : Part → Type 0) → Each P (node_parts p node) → (y : ℕ) (k : Clock) (a : Expression) → New y k a → P (at k a)
  of_new P h y k a s = first_part p P a k (each_within p P (node_parts p node) k a (new_part (IsWithin p (node_parts p node)) (length node.variables) (new_parts f) (normal f).within y k a s) h)

  placed : Each (IsPlaced p node) (node_parts p node)
  placed = equations_placed p node node.equations (named f).equations on_at.rights

  chains : Each (IsOnChain node) (node_parts p node)
  chains = each_item (λ g. Each (IsOnChain g) (node_parts p g)) empty_node p.nodes tt (one_test_suffices p on_clocks) f

  outputs : Each (HasOutput p) (node_parts p node)
  outputs = (each_item (CallsHaveOutputs p) empty_node p.nodes (none_have_outputs p) (resolved_calls_have_outputs p resolved) f).parts

  -- declared clocks
  module _ (x : ℕ) (lt : x < length node'.variables) (k : Clock) (is : clock_of node' x ≡ k) (chained : IsChain node k) (known : Each (Known node) (clock_variables k)) where
    test_declared : (t : Test) → test_of node' x ≡ Some t → ((rest : Clock) → k ≡ t ∷ rest → MayTest node' x t.variable) → IsDeclared node' x (Some t)
    test_declared t e may =
        let begun = chain_begins (length node'.variables) node'.variables x t (omega (arith, lt)) e in
        let shape : k ≡ t ∷ begun.0 = sym is ∙ begun.1 in
        let tested : clock_of node' t.variable ≡ begun.0 = old t.variable (subst (λ z. Each (Known node) (clock_variables z)) shape known).0 ∙ (subst (IsChain node) shape chained).0 in
        (is ∙ shape ∙ ap (λ z. t ∷ z) (sym tested), may begun.0 shape)

    declared_by : (o : Option Test) → test_of node' x ≡ o → ((t : Test) (rest : Clock) → k ≡ t ∷ rest → MayTest node' x t.variable) → IsDeclared node' x o
    declared_by None e may = tt
    declared_by (Some t) e may = test_declared t e (may t)

  old_may_test : (x : ℕ) (t : Test) (rest : Clock) → clock_of node x ≡ t ∷ rest → (o : Option Test) → test_of node x ≡ o → IsDeclared node x o → MayTest node' x t.variable
  old_may_test x t rest e None none d = let empty : clock_of node x ≡ [] = untested node on_at.declared x none in cc
  old_may_test x t rest e (Some s) some d =
      let same : s ≡ t = let first = d.0 in cc in
      let may : MayTest node x t.variable = subst (λ z. MayTest node x z.variable) same d.1 in
      let inputs = (normal f).inputs in
      let outs = (normal f).outputs in (
        λ lt. let inside = may.0 (omega (arith, lt, inputs)) in omega (arith, inside, inputs),
        λ lt. let inside = may.1 (omega (arith, lt, inputs, outs)) in omega (arith, inside, inputs, outs),
      )

  new_may_test : (y z : ℕ) → length node.variables ≤ y → MayTest node' y z
  new_may_test y z ge =
      let le = fit f in
      let inputs = (normal f).inputs in
      let outs = (normal f).outputs in (
        λ lt. let wrong : ⊥ = omega (arith, lt, le, ge, inputs) in absurd wrong,
        λ lt. let wrong : ⊥ = omega (arith, lt, le, ge, inputs, outs) in absurd wrong,
      )

  declared : (x : ℕ) → x < length node'.variables → IsDeclared node' x (test_of node' x)
  declared x lt =
      ⊎_elim
      (λ known.
      declared_by x lt (clock_of node x) (old x known) (clock_is_chain node on_at.declared x)
      (below_at (λ x. Each (Known node) (clock_variables (clock_of node x))) (length node.variables) (named f).clocks x known)
      (test_of node' x) refl
      (λ t rest e. old_may_test x t rest e (test_of node x) refl (below_at (λ x. IsDeclared node x (test_of node x)) (length node.variables) on_at.declared x known)))
      (λ ge.
      let found = new_at (length node.variables) (new_parts f) x ge (subst (λ n. x < n) (normal f).width lt) in
      let k = found.0 in
      let a = found.1 in
      let s = found.2 in
      declared_by x lt k (new x k a s) (of_new (IsOnChain node) chains x k a s) (of_new Used (named f).uses x k a s).0 (test_of node' x) refl (λ t rest e. new_may_test x t.variable ge))
      (cases_lt x (length node.variables))

  -- equations
  abbrev NormalEquation : Expression → List ℕ → Clock → Type 0
  NormalEquation = EquationOn p' node'

  simply_defined : (e' : Expression) (n : ℕ) (xs : List ℕ) (k : Clock) (y : ℕ) → IsSimple e' → clock_of node' y ≡ k → DefinedOnClock p' node' y (Some (given_by e' n xs k))
  simply_defined (call g c args) n xs k y is h = absurd is
  simply_defined _ n xs k y is h = h

  defined_kept : (e e' : Expression) (k : Clock) (xs : List ℕ) (n y : ℕ) → IsRight p New e e' k → Each Used (parts p e k) → Known node y → OutputIs p (Some (given_by e n xs k)) → DefinedOnClock p node y (Some (given_by e n xs k))
      → DefinedOnClock p' node' y (Some (given_by e' n xs k))
  defined_kept (call g c args) e' k xs n y is u known some on =
      let base = base_of (node_at p g) k in
      subst (λ z. DefinedOnClock p' node' y (Some (given_by z n xs k))) (sym is.1)
      (subst (OutputOn (node_at p' g) n is.0 xs (base_of (node_at p' g) k)) (sym (old y known))
      (output_kept p p' new_parts normal fit g n some args is.0 xs xs (actuals_stay p New args is.0 (formal_clock (node_at p g) args base) 0 is.2.1 xs xs (λ m x e. e)) base (base_of (node_at p' g) k) (clock_of node y) (bases p p' new_parts named normal f g c u.0.1 k) on))
  defined_kept e e' k xs n y is u known some on = simply_defined e' n xs k y (inner_simple p New e e' k is) (old y known ∙ on)

  lefts_kept : (e e' : Expression) (k : Clock) (xs : List ℕ) (n : ℕ) (ys : List ℕ) → IsRight p New e e' k → Each Used (parts p e k) → KnownLefts p node e xs k n ys → Lefts p' node' e' xs k n ys
  lefts_kept e e' k xs n [] is u h = tt
  lefts_kept e e' k xs n (y ∷ ys) is u h = (defined_kept e e' k xs n y is u h.0.0.0 h.0.0.1 h.0.1, lefts_kept e e' k xs (suc n) ys is u h.1)

  old_equation : (d d' : Option Definition) → IsDefinition p New d d' → Gives (SourceEquation p node) d → Gives NormalEquation d'
  old_equation None d' is h = subst (Gives NormalEquation) (sym is) tt
  old_equation (Some (given_by e n xs k)) d' is h =
      subst (Gives NormalEquation) (sym is.1) (record { left = lefts_kept e is.0 k xs 0 xs is.2 h.uses h.left; right = right_on p p' new_parts named normal f e is.0 k is.2 h.uses h.right })

  -- a call that is a whole right side isn't taken out
  whole_stays : (y g c : ℕ) (k : Clock) (args : Operands) → New y k (call g c args) → IsWhole p node (call g c args) k → ⊥
  whole_stays y g c k args s w =
      let x = item 0 w.0 0 in
      let d = subst (λ z. IsDefinition p New z (definition_of node' x)) w.2 (old_defined p p' new_parts named normal f x w.1) in
      let d' = new_defined p p' new_parts named normal f y k (call g c args) s in
      let same = one_left p' node' 0 node'.equations (numbered_same p New 0 (sites p node) (sites p' node') (normal f).calls (named f).numbered) x y g c 0 0 d.2.0 d'.2.0 w.0 (y ∷ []) k k
      (d.1 ∙ ap (λ z. Some (given_by z 0 w.0 k)) d.2.1) (d'.1 ∙ ap (λ z. Some (given_by z 0 (y ∷ []) k)) d'.2.1) in
      let lt : y < length node.variables = subst (λ z. Known node (item 0 z 0)) same w.1 in
      let ge = stands_from_place (length node.variables) (new_parts f) y k (call g c args) s in
      omega (arith, lt, ge)

  new_left : (a : Expression) (y : ℕ) (k : Clock) → New y k a → (e' : Expression) → IsRight p New a e' k → DefinedOnClock p' node' y (Some (given_by e' 0 (y ∷ []) k))
  new_left (call g c args) y k s e' is =
      let base = base_of (node_at p g) k in
      let part = of_new (IsPlaced p node) placed y k (call g c args) s in
      let on = ⊎_elim (λ here. here) (λ whole. absurd (whole_stays y g c k args s whole)) part.1 in
      subst (λ z. DefinedOnClock p' node' y (Some (given_by z 0 (y ∷ []) k))) (sym is.1)
      (subst (OutputOn (node_at p' g) 0 is.0 (y ∷ []) (base_of (node_at p' g) k)) (sym (new y k (call g c args) s))
      (output_kept p p' new_parts normal fit g 0 (of_new (HasOutput p) outputs y k (call g c args) s) args is.0 [] (y ∷ []) (actuals_stay p New args is.0 (formal_clock (node_at p g) args base) 0 is.2.1 [] (y ∷ []) (λ m x e. cc)) base (base_of (node_at p' g) k) k
      (bases p p' new_parts named normal f g c (of_new Used (named f).uses y k (call g c args) s).1 k) on))
  new_left a y k s e' is = simply_defined e' 0 (y ∷ []) k y (inner_simple p New a e' k is) (new y k a s)

  new_equation : (y : ℕ) (k : Clock) (a : Expression) → New y k a → Gives NormalEquation (definition_of node' y)
  new_equation y k a s =
      let d = new_defined p p' new_parts named normal f y k a s in
      subst (Gives NormalEquation) (sym d.1) (record {
        left = (new_left a y k s d.0 d.2, tt);
        right = right_on p p' new_parts named normal f a d.0 k d.2 (new_uses p p' new_parts named normal f y k a s) (of_new (IsPlaced p node) placed y k a s).0;
      })

  equations_of_source : (x : ℕ) → Gives (SourceEquation p node) (definition_of node x)
  equations_of_source x =
      let r = resolved_at f in
      definitions_give (SourceEquation p node) node node.equations x (source_equations p resolved.nodes node node.equations r.targets r.equations on_at.lefts on_at.rights (named f).uses)

  equation : (x : ℕ) → Known node' x → Gives NormalEquation (definition_of node' x)
  equation x lt =
      ⊎_elim
      (λ known. old_equation (definition_of node x) (definition_of node' x) (old_defined p p' new_parts named normal f x known) (equations_of_source x))
      (λ ge. let found = new_at (length node.variables) (new_parts f) x ge (subst (λ n. x < n) (normal f).width lt) in new_equation x found.0 found.1 found.2)
      (cases_lt x (length node.variables))

  by_first : (q : Equation) → DefinesFirst node' q → NormalEquation q.right q.targets (equation_clock node' q)
  by_first q h = subst (Gives NormalEquation) h.1 (equation (item 0 q.targets 0) h.0)

  pub node_on_clocks : IsOnClocks p' node'
  node_on_clocks = record {
    declared = below_all (λ x. IsDeclared node' x (test_of node' x)) (length node'.variables) declared;
    lefts = each_implies (DefinesFirst node') (λ q. LeftOnClock p' node' q 0 q.targets) (λ q h. lefts_on_clock p' node' q 0 q.targets (by_first q h).left) node'.equations (normal f).equations;
    rights = each_implies (DefinesFirst node') (λ q. RightOnClock p' node' (parts p' q.right (equation_clock node' q))) (λ q h. (by_first q h).right) node'.equations (normal f).equations;
  }

pub normal_is_on_clocks : NormalIsOnClocks
normal_is_on_clocks p p' new_parts resolved on_clocks normal = each_of_items (IsOnClocks p') empty_node p'.nodes (λ f lt. node_on_clocks p p' new_parts resolved on_clocks normal f)
