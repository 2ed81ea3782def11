-- A resolved program on clocks is named: each part uses variables and calls of its node.
use Rattle.std.proofs.Common.{◌≡◌, refl, sym, ℕ, suc, ◌+◌, ◌<◌, ◌≤◌, nat_lt, true, false, List, [], ◌∷◌, length, drop, Option, Some, None, true≢false, arith}
use Rattle.std.proofs.Math.Logic.{inl, inr}
use Rattle.std.proofs.lemmas.Option.{slice_get_within}
use Rattle.std.specs.Prelude.{slice_get}
use Rattle.lus_values.specs.Lists.{item, Each, Below}
use Rattle.lus_values.proofs.Lists.{below_all}
use Rattle.lus_values.specs.declared.test.Test.{Test}
use Rattle.lus_program.specs.declared.types.Kind.{Kind}
use Rattle.lus_program.specs.Programs.{Expression, literal, variable, operate, pre, arrow, when, merge, call, Operands, none, more, Equation, Node, Program, empty_node, node_at}
use Rattle.lus_streams.specs.Clocks.{Clock, clock_of, Part, at, formal_clock, base_of, branch_clock, parts, all_parts}
use Rattle.lus_streams.specs.Equations.{Definition, given_by, equation_clock, definition_of, equation_parts, node_parts, Site, sites}
use Rattle.lus_streams.specs.OnClock.{DefinedOnClock, IsOnClocks}
use Rattle.lus_streams.specs.Order.{clock_variables, needs_right, needed}
use Rattle.lus_streams.specs.Flags.{HasOutput, OutputIs, CallsHaveOutputs}
use Rattle.lus_streams.proofs.Calls.{OfCall, parts_of_sites}
use Rattle.lus_streams.proofs.Definitions.{RightParts, right_parts, defined_on_clock}
use Rattle.lus_streams.proofs.Lists.{each_left, each_append, each_both, each_implies, each_item, each_map_drop, below_at}
use Rattle.lus_program.specs.Resolved.{values_of, kind_of_variable, kinds_given_in, EquationFits, NodeResolved}
use Rattle.lus_streams.proofs.CallsResolved.{resolved_calls_have_outputs}
use Rattle.lus_streams.proofs.NeedsResolved.{resolved_needs_are_variables}
use Rattle.lus_program.proofs.Options.{map_gives}
use Rattle.lus_program.proofs.TypedParts.{HasKind, HaveKinds, operate_typed, both_typed, when_typed, merge_typed, call_typed, more_typed, whole_call, whole_typed, fits_given}
use Rattle.lus_normal_form.specs.Named.{Names, Uses, IsCalled, Known, OutputKnown, GivesOutput, DefinitionFits, DefinesFirst, IsNamed}
use Rattle.lus_normal_form.specs.Laws.{ResolvedAreNamed}
use Rattle.lus_normal_form.proofs.FirstsDefined.{equations_define}
use Rattle.lus_normal_form.proofs.SitesNumbered.{equations_numbered}
use Rattle.lus_normal_form.proofs.Variables.{formal_variables, all_known}

-- each call is one of the calls
pub each_called : (ss : List Site) → Each (λ s. IsCalled ss s.node s.number) ss
each_called [] = tt
each_called (s ∷ ss) = (inl (refl, refl), each_implies (λ t. IsCalled ss t.node t.number) (λ t. IsCalled (s ∷ ss) t.node t.number) (λ t here. inr here) ss (each_called ss))

-- variables
module _ (p : Program) (f : Node) where
  abbrev AnyCall : (g c n : ℕ) → Type 0
  AnyCall g c n = Unit {0}

  -- the variables of a part and of its clock are those of f
  abbrev InNode : Part → Type 0
  InNode = Uses (Known f) AnyCall

  variable_known : (x : ℕ) → HasKind p f (variable x) → Known f x
  variable_known x h = let found = map_gives (λ v. v.kind) (slice_get f.variables x) h.0 h.1 in slice_get_within f.variables x found.0 found.1

  tested_known : (t : Test) (o : Option Kind) → kind_of_variable p f t.variable ≡ o → elim o [ Some k ↦ nat_lt t.constructor (values_of p k) | None ↦ false ] ≡ true → Known f t.variable
  tested_known t None e h = absurd (true≢false (sym h))
  tested_known t (Some k) e h = variable_known t.variable (k, e)

  mutual
    typed_in_node : (e : Expression) (k : Clock) → HasKind p f e → Each (Known f) (clock_variables k) → Each InNode (parts p e k)
    typed_in_node (literal v) k h on = ((on, tt), tt)
    typed_in_node (variable x) k h on = ((on, variable_known x h), tt)
    typed_in_node (operate o es) k h on = ((on, tt), all_in_node es (λ m. k) 0 (operate_typed p f o es h) (λ m. on))
    typed_in_node (pre a) k h on = ((on, tt), typed_in_node a k h on)
    typed_in_node (arrow a b) k h on =
        let both = both_typed p f a b h in
        ((on, tt), each_append InNode (parts p a k) (parts p b k) (typed_in_node a k both.0 on) (typed_in_node b k both.1 on))
    typed_in_node (when t a) k h on =
        let given = when_typed p f t a h in
        ((on, tested_known t (kind_of_variable p f t.variable) refl given.0), typed_in_node a (drop 1 k) given.1 (each_map_drop (Known f) (λ (t : Test). t.variable) 1 k on))
    typed_in_node (merge x bs) k h on =
        let given = merge_typed p f x bs h in
        let known = variable_known x given.0 in
        ((on, known), all_in_node bs (branch_clock x k) 0 given.1 (λ m. (known, on)))
    typed_in_node (call g c args) k h on =
        let made = call_typed p f g c args h in
        let base = base_of (node_at p g) k in
        let have : HaveKinds p f args = (made.2.arguments, made.2.have) in
        let below = each_map_drop (Known f) (λ (t : Test). t.variable) _ k on in
        let named = all_known p (Known f) AnyCall args (λ m. []) 0 (all_in_node args (λ m. []) 0 have (λ m. tt)) in
        ((on, tt), all_in_node args (formal_clock (node_at p g) args base) 0 have (λ m. formal_variables (Known f) (node_at p g) args base m named below))

    all_in_node : (es : Operands) (ks : ℕ → Clock) (m : ℕ) → HaveKinds p f es → ((n : ℕ) → Each (Known f) (clock_variables (ks n))) → Each InNode (all_parts p es ks m)
    all_in_node none ks m h on = tt
    all_in_node (more e es) ks m h on =
        let both = more_typed p f e es h in
        each_append InNode (parts p e (ks m)) (all_parts p es ks (suc m)) (typed_in_node e (ks m) both.0 (on m)) (all_in_node es ks (suc m) both.1 on)

  -- whole right sides
  right_in_node : (e : Expression) (k : Clock) (ls : List Kind) → kinds_given_in p f e ≡ Some ls → Each (Known f) (clock_variables k) → Each InNode (parts p e k)
  right_in_node (call g c args) k ls h on =
      let made = whole_call p f g c args ls h in
      let base = base_of (node_at p g) k in
      let have : HaveKinds p f args = (made.arguments, made.have) in
      let below = each_map_drop (Known f) (λ (t : Test). t.variable) _ k on in
      let named = all_known p (Known f) AnyCall args (λ m. []) 0 (all_in_node args (λ m. []) 0 have (λ m. tt)) in
      ((on, tt), all_in_node args (formal_clock (node_at p g) args base) 0 have (λ m. formal_variables (Known f) (node_at p g) args base m named below))
  right_in_node e k ls h on = typed_in_node e k (whole_typed p f e ls h) on

  equations_in_node : ((x : ℕ) → Known f x → Each (Known f) (clock_variables (clock_of f x))) → (qs : List Equation) → Each (EquationFits p f) qs → Each (DefinesFirst f) qs → Each InNode (equation_parts p f qs)
  equations_in_node clocks [] fits first = tt
  equations_in_node clocks (q ∷ qs) fits first =
      let given = fits_given p f q fits.0 in
      each_append InNode (parts p q.right (equation_clock f q)) (equation_parts p f qs)
      (right_in_node q.right (equation_clock f q) given.kinds given.given (clocks (item 0 q.targets 0) first.0.0))
      (equations_in_node clocks qs fits.1 first.1)

module _ (p : Program) (nodes : Each (NodeResolved p) p.nodes) where
  formals_known : (g : ℕ) → (node_at p g).inputs + (node_at p g).outputs ≤ length (node_at p g).variables
  formals_known g =
      each_item (λ f. f.inputs + f.outputs ≤ length f.variables) empty_node p.nodes (omega arith)
      (each_implies (NodeResolved p) (λ f. f.inputs + f.outputs ≤ length f.variables) (λ f r. r.formals) p.nodes nodes) g

  output_known : (g n : ℕ) → n < (node_at p g).outputs → OutputKnown p g n
  output_known g n lt = let le = formals_known g in omega (arith, le, lt)

  module _ (f : Node) where
    -- a call that is one of f's
    abbrev IsCallHere : (g c : ℕ) → Operands → Clock → Type 0
    IsCallHere g c args k = IsCalled (sites p f) g c

    calls_here : Each (OfCall IsCallHere) (node_parts p f)
    calls_here = parts_of_sites p IsCallHere (node_parts p f) (each_called (sites p f))

    names_here : (e : Expression) (k : Clock) → Names (Known f) (AnyCall p f) e → OfCall IsCallHere (at k e) → HasOutput p (at k e) → Names (Known f) (GivesOutput p f) e
    names_here (call g c args) k h here some = (here, output_known g 0 some)
    names_here (literal v) k h here some = tt
    names_here (variable x) k h here some = h
    names_here (when t a) k h here some = h
    names_here (merge x bs) k h here some = h
    names_here e k h here some = tt

    part_uses : (e : Part) → (InNode p f e × OfCall IsCallHere e) × HasOutput p e → Uses (Known f) (GivesOutput p f) e
    part_uses (at k e) h = (h.0.0.0, names_here e k h.0.0.1 h.0.1 h.1)

    definition_fits : (x : ℕ) (d : Option Definition) → DefinedOnClock p f x d → OutputIs p d → RightParts p (OfCall IsCallHere) d → DefinitionFits p f x d
    definition_fits x None on some here = tt
    definition_fits x (Some (given_by (call g c args) n xs k)) on some here = (here.0, output_known g n some)
    definition_fits x (Some (given_by e n xs k)) on some here = on

    node_named : NodeResolved p f → IsOnClocks p f → CallsHaveOutputs p f → Below (length f.variables) (λ x. Each (Known f) (needed f x)) → IsNamed p f
    node_named r o outputs needs =
        let first = equations_define f r.lefts r.targets r.defined in
        let clocks = λ (x : ℕ) (lt : Known f x). each_left (Known f) (clock_variables (clock_of f x)) (needs_right (definition_of f x)) (below_at (λ y. Each (Known f) (needed f y)) (length f.variables) needs x lt) in
        record {
          inputs = let le = r.formals in omega (arith, le);
          numbered = equations_numbered p f 0 f.equations r.numbered;
          uses =
              each_implies (λ e. (InNode p f e × OfCall IsCallHere e) × HasOutput p e) (Uses (Known f) (GivesOutput p f)) part_uses (node_parts p f)
              (each_both (λ e. InNode p f e × OfCall IsCallHere e) (HasOutput p) (node_parts p f)
              (each_both (InNode p f) (OfCall IsCallHere) (node_parts p f) (equations_in_node p f clocks f.equations r.equations first) calls_here)
              outputs.parts);
          clocks = below_all (λ x. Each (Known f) (clock_variables (clock_of f x))) (length f.variables) clocks;
          definitions =
              below_all (λ x. DefinitionFits p f x (definition_of f x)) (length f.variables)
              (λ x lt. definition_fits x (definition_of f x) (defined_on_clock p f x o) (below_at (λ y. OutputIs p (definition_of f y)) (length f.variables) outputs.defined x lt) (right_parts p (OfCall IsCallHere) f f.equations x calls_here));
          equations = first;
        }

none_named : (p : Program) → IsNamed p empty_node
none_named p = record { inputs = omega arith; numbered = tt; uses = tt; clocks = tt; definitions = tt; equations = tt }

pub resolved_are_named : ResolvedAreNamed
resolved_are_named p r o =
    let Needs : Node → Type 0 = λ f. Below (length f.variables) (λ x. Each (Known f) (needed f x)) in
    each_item (IsNamed p) empty_node p.nodes (none_named p)
    (each_implies (λ f. (NodeResolved p f × IsOnClocks p f) × (CallsHaveOutputs p f × Needs f)) (IsNamed p)
    (λ f h. node_named p r.nodes f h.0.0 h.0.1 h.1.0 h.1.1)
    p.nodes
    (each_both (λ f. NodeResolved p f × IsOnClocks p f) (λ f. CallsHaveOutputs p f × Needs f) p.nodes
    (each_both (NodeResolved p) (IsOnClocks p) p.nodes r.nodes o)
    (each_both (CallsHaveOutputs p) Needs p.nodes (resolved_calls_have_outputs p r) (resolved_needs_are_variables p r))))
