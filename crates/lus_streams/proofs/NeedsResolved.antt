-- In a resolved program what variables need at the same instant are variables of their node.
use Rattle.std.proofs.Common.{◌≡◌, refl, sym, ℕ, zero, suc, ◌<◌, nat_lt, true, false, List, [], ◌∷◌, length, Option, Some, None, true≢false}
use Rattle.std.proofs.lemmas.Option.{slice_get_within}
use Rattle.std.specs.Prelude.{slice_get}
use Rattle.lus_values.specs.Lists.{item, Each, Below}
use Rattle.lus_values.proofs.Lists.{below_all, each_append}
use Rattle.lus_values.specs.declared.test.Test.{Test}
use Rattle.lus_program.specs.declared.types.Kind.{Kind}
use Rattle.lus_program.specs.Programs.{Expression, literal, variable, operate, pre, arrow, when, merge, call, Operands, none, more, Equation, Node, Program, no_variable}
use Rattle.lus_streams.specs.Clocks.{chain, clock_of}
use Rattle.lus_streams.specs.Equations.{Definition, given_by, place_in, equation_clock, definition_in, definition_of}
use Rattle.lus_streams.specs.Order.{needs, needs_all, clock_variables, needs_right, needed}
use Rattle.lus_streams.proofs.Lists.{each_implies, each_item}
use Rattle.lus_program.specs.Resolved.{values_of, kind_of_variable, test_fits, kinds_given_in, EquationFits, VariableFits, NodeResolved}
use Rattle.lus_streams.specs.ResolvedLaws.{ResolvedNeedsAreVariables}
use Rattle.lus_program.proofs.Options.{map_gives}
use Rattle.lus_program.proofs.TypedParts.{HasKind, HaveKinds, operate_typed, both_typed, when_typed, merge_typed, call_typed, more_typed, whole_call, whole_typed, fits_given}

module _ (p : Program) (f : Node) where
  abbrev Within : List ℕ → Type 0
  Within = Each (λ y. y < length f.variables)

  -- only variables have types
  variable_within : (x : ℕ) → HasKind p f (variable x) → x < length f.variables
  variable_within x h = let found = map_gives (λ v. v.kind) (slice_get f.variables x) h.0 h.1 in slice_get_within f.variables x found.0 found.1

  tested_within : (t : Test) (o : Option Kind) → kind_of_variable p f t.variable ≡ o → elim o [ Some k ↦ nat_lt t.constructor (values_of p k) | None ↦ false ] ≡ true → t.variable < length f.variables
  tested_within t None e h = absurd (true≢false (sym h))
  tested_within t (Some k) e h = variable_within t.variable (k, e)

  test_within : (t : Test) → test_fits p f t ≡ true → t.variable < length f.variables
  test_within t h = tested_within t (kind_of_variable p f t.variable) refl h

  -- expressions
  mutual
    needs_within : (e : Expression) → HasKind p f e → Within (needs e)
    needs_within (literal v) h = tt
    needs_within (variable x) h = (variable_within x h, tt)
    needs_within (operate o es) h = all_within es (operate_typed p f o es h)
    needs_within (pre a) h = tt
    needs_within (arrow a b) h = let both = both_typed p f a b h in each_append (λ y. y < length f.variables) (needs a) (needs b) (needs_within a both.0) (needs_within b both.1)
    needs_within (when t a) h = let given = when_typed p f t a h in (test_within t given.0, needs_within a given.1)
    needs_within (merge x bs) h = let given = merge_typed p f x bs h in (variable_within x given.0, all_within bs given.1)
    needs_within (call g c es) h = let made = call_typed p f g c es h in all_within es (made.2.arguments, made.2.have)

    all_within : (es : Operands) → HaveKinds p f es → Within (needs_all es)
    all_within none h = tt
    all_within (more e es) h = let both = more_typed p f e es h in each_append (λ y. y < length f.variables) (needs e) (needs_all es) (needs_within e both.0) (all_within es both.1)

  -- whole right sides
  given_within : (e : Expression) (ls : List Kind) → kinds_given_in p f e ≡ Some ls → Within (needs e)
  given_within (call g c es) ls h = let made = whole_call p f g c es ls h in all_within es (made.arguments, made.have)
  given_within e ls h = needs_within e (whole_typed p f e ls h)

  defined_or : (q : Equation) (o : Option ℕ) (rest : Option Definition) → Within (needs q.right) → Within (needs_right rest)
      → Within (needs_right (elim o [ None ↦ rest | Some i ↦ Some (given_by q.right i q.targets (equation_clock f q)) ]))
  defined_or q None rest h k = k
  defined_or q (Some i) rest h k = h

  right_within : (qs : List Equation) → Each (EquationFits p f) qs → (x : ℕ) → Within (needs_right (definition_in f qs x))
  right_within [] fits x = tt
  right_within (q ∷ qs) fits x =
      let r = fits_given p f q fits.0 in
      defined_or q (place_in x q.targets 0) (definition_in f qs x) (given_within q.right r.kinds r.given) (right_within qs fits.1 x)

  -- clocks
  module _ (fit : Each (VariableFits p f) f.variables) where
    abbrev Fits : Option Test → Type 0
    Fits o = elim o [ None ↦ Unit {0} | Some t ↦ test_fits p f t ≡ true ]

    declared_within : (n : ℕ) (o : Option Test) → Fits o → ((x : ℕ) → Within (clock_variables (chain n f.variables x)))
        → Within (clock_variables (elim o [ None ↦ [] | Some t ↦ t ∷ chain n f.variables t.variable ]))
    declared_within n None h rest = tt
    declared_within n (Some t) h rest = (test_within t h, rest t.variable)

    chain_within : (n x : ℕ) → Within (clock_variables (chain n f.variables x))
    chain_within zero x = tt
    chain_within (suc n) x = declared_within n (item no_variable f.variables x).test (each_item (VariableFits p f) no_variable f.variables tt fit x) (chain_within n)

  node_within : NodeResolved p f → Below (length f.variables) (λ x. Each (λ y. y < length f.variables) (needed f x))
  node_within r =
      below_all (λ x. Within (needed f x)) (length f.variables)
      (λ x lt. each_append (λ y. y < length f.variables) (clock_variables (clock_of f x)) (needs_right (definition_of f x)) (chain_within r.variables (length f.variables) x) (right_within f.equations r.equations x))

pub resolved_needs_are_variables : ResolvedNeedsAreVariables
resolved_needs_are_variables p h = each_implies (NodeResolved p) (λ f. Below (length f.variables) (λ x. Each (λ y. y < length f.variables) (needed f x))) (node_within p) p.nodes h.nodes
