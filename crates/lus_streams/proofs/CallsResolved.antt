-- Calls of a resolved program have outputs, one for each variable on their left.
use Rattle.std.proofs.Common.{arith, ◌≡◌, ◌∙◌, sym, ap, refl, ℕ, ◌+◌, ◌<◌, ◌≤◌, List, [], ◌∷◌, length, take, drop, Option, Some, None, length-drop}
use Rattle.std.proofs.Math.ListN.{length-map}
use Rattle.std.proofs.lemmas.List.{length-take-le}
use Rattle.std.proofs.lemmas.Option.{get_or_from_slice_get}
use Rattle.std.specs.Prelude.{slice_get}
use Rattle.lus_values.specs.Lists.{Each}
use Rattle.lus_values.proofs.Lists.{below_all, each_append, each_found}
use Rattle.lus_program.specs.declared.types.Kind.{Kind}
use Rattle.lus_program.specs.Programs.{Expression, literal, variable, operate, pre, arrow, when, merge, call, Operands, none, more, Equation, Node, Program, empty_node, node_at}
use Rattle.lus_streams.specs.Clocks.{Clock, parts}
use Rattle.lus_streams.specs.Equations.{Definition, given_by, place_in, equation_clock, definition_in, definition_of, equation_parts}
use Rattle.lus_streams.specs.Flags.{HasOutput, OutputIs, CallsHaveOutputs}
use Rattle.lus_streams.proofs.Lists.{each_implies}
use Rattle.lus_streams.proofs.Definitions.{place_within}
use Rattle.lus_program.specs.Kinds.{all_same}
use Rattle.lus_program.specs.Resolved.{input_kinds, output_kinds, call_results, results, kinds_given_in, EquationFits, NodeResolved}
use Rattle.lus_streams.specs.ResolvedLaws.{ResolvedCallsHaveOutputs}
use Rattle.lus_program.proofs.Options.{and_then_gives, where_true_gives}
use Rattle.lus_program.proofs.TypedParts.{HasKind, HaveKinds, IsCall, HasGiven, operate_typed, both_typed, when_typed, merge_typed, call_typed, more_typed, whole_call, whole_typed, fits_given}
use Rattle.lus_program.proofs.Calls.{EachCall, EachCallIn}
use Rattle.lus_streams.proofs.CallParts.{HasSome, parts_have}

output_count : (f : Node) → f.inputs + f.outputs ≤ length f.variables → length (output_kinds f) ≡ f.outputs
output_count f le =
    length-map (take f.outputs (drop f.inputs f.variables)) (λ v. v.kind)
    ∙ length-take-le f.outputs (drop f.inputs f.variables) (let rest = length-drop f.inputs f.variables in omega (arith, le, rest))

module _ (p : Program) (resolved : Each (NodeResolved p) p.nodes) where
  -- a call gives as many types as its node has outputs
  results_count : (g : ℕ) (ks ls : List Kind) → results p g ks ≡ Some ls → (node_at p g).outputs ≡ length ls
  results_count g ks ls h =
      let found = and_then_gives (call_results p ks) (slice_get p.nodes g) ls h in
      let f = found.0 in
      let fits = where_true_gives (all_same (input_kinds f) ks) (Some (output_kinds f)) ls found.2 in
      let given : output_kinds f ≡ ls = let e = fits.1 in cc in
      let is : node_at p g ≡ f = get_or_from_slice_get p.nodes g f empty_node found.1 in
      let r = each_found (NodeResolved p) p.nodes g f resolved found.1 in
      ap (λ d. d.outputs) is ∙ sym (output_count f r.formals) ∙ ap length given

  module _ (f : Node) where
    some_outputs : (g : ℕ) (es : Operands) (ls : List Kind) → IsCall p f g es ls → 0 < length ls → HasSome p g
    some_outputs g es ls c some = let size = results_count g c.arguments ls c.gives in omega (arith, size, some)

    mutual
      typed_calls : (e : Expression) → HasKind p f e → EachCall (HasSome p) e
      typed_calls (literal v) h = tt
      typed_calls (variable x) h = tt
      typed_calls (operate o es) h = all_typed_calls es (operate_typed p f o es h)
      typed_calls (pre a) h = typed_calls a h
      typed_calls (arrow a b) h = let both = both_typed p f a b h in (typed_calls a both.0, typed_calls b both.1)
      typed_calls (when t a) h = let given = when_typed p f t a h in typed_calls a given.1
      typed_calls (merge x bs) h = let given = merge_typed p f x bs h in all_typed_calls bs given.1
      typed_calls (call g c es) h =
          let made = call_typed p f g c es h in
          (some_outputs g es made.0 made.2 made.1, all_typed_calls es (made.2.arguments, made.2.have))

      all_typed_calls : (es : Operands) → HaveKinds p f es → EachCallIn (HasSome p) es
      all_typed_calls none h = tt
      all_typed_calls (more e es) h = let both = more_typed p f e es h in (typed_calls e both.0, all_typed_calls es both.1)

    -- whole right sides
    given_calls : (e : Expression) (ls : List Kind) → kinds_given_in p f e ≡ Some ls → 0 < length ls → EachCall (HasSome p) e
    given_calls (call g c es) ls h some =
        let made = whole_call p f g c es ls h in
        (some_outputs g es ls made some, all_typed_calls es (made.arguments, made.have))
    given_calls e ls h some = typed_calls e (whole_typed p f e ls h)

    right_calls : (q : Equation) → HasGiven p f q → 0 < length q.targets → EachCall (HasSome p) q.right
    right_calls q r some = let size = r.size in given_calls q.right r.kinds r.given (omega (arith, size, some))

    rights_have : (qs : List Equation) → Each (EquationFits p f) qs → Each (λ q. 0 < length q.targets) qs → Each (HasOutput p) (equation_parts p f qs)
    rights_have [] fits some = tt
    rights_have (q ∷ qs) fits some =
        each_append (HasOutput p) (parts p q.right (equation_clock f q)) (equation_parts p f qs)
        (parts_have p q.right (equation_clock f q) (right_calls q (fits_given p f q fits.0) some.0))
        (rights_have qs fits.1 some.1)

    -- outputs of the calls that define variables
    pub output_within : (e : Expression) (i : ℕ) (ls : List Kind) (xs : List ℕ) (k : Clock) → kinds_given_in p f e ≡ Some ls → i < length ls → OutputIs p (Some (given_by e i xs k))
    output_within (call g c es) i ls xs k h lt =
        let made = whole_call p f g c es ls h in
        let size = results_count g made.arguments ls made.gives in omega (arith, size, lt)
    output_within e i ls xs k h lt = tt

    defined_or : (q : Equation) (o : Option ℕ) (rest : Option Definition) → ((i : ℕ) → o ≡ Some i → OutputIs p (Some (given_by q.right i q.targets (equation_clock f q)))) → OutputIs p rest
        → OutputIs p (elim o [ None ↦ rest | Some i ↦ Some (given_by q.right i q.targets (equation_clock f q)) ])
    defined_or q None rest h k = k
    defined_or q (Some i) rest h k = h i refl

    defined_outputs : (qs : List Equation) → Each (EquationFits p f) qs → (x : ℕ) → OutputIs p (definition_in f qs x)
    defined_outputs [] fits x = tt
    defined_outputs (q ∷ qs) fits x =
        let r = fits_given p f q fits.0 in
        defined_or q (place_in x q.targets 0) (definition_in f qs x)
        (λ i at. output_within q.right i r.kinds q.targets (equation_clock f q) r.given (let lt = place_within x q.targets 0 i at in let size = r.size in omega (arith, lt, size)))
        (defined_outputs qs fits.1 x)

    node_calls : NodeResolved p f → CallsHaveOutputs p f
    node_calls r = record {
      parts = rights_have f.equations r.equations r.lefts;
      defined = below_all (λ x. OutputIs p (definition_of f x)) (length f.variables) (λ x lt. defined_outputs f.equations r.equations x);
    }

pub resolved_calls_have_outputs : ResolvedCallsHaveOutputs
resolved_calls_have_outputs p h = each_implies (NodeResolved p) (CallsHaveOutputs p) (node_calls p h.nodes) p.nodes h.nodes
