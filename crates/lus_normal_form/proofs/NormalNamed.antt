-- In the normal form of a resolved program on clocks, all names are known, and calls have arguments for all inputs.
use Rattle.std.proofs.Common.{◌≡◌, ℕ, ◌+◌, ◌<◌, ◌≤◌, List, [], ◌∷◌, length, Option, Some, None, arith, ⊎_elim}
use Rattle.std.proofs.lemmas.Bool.{cases_lt}
use Rattle.lus_values.specs.Lists.{Each}
use Rattle.lus_values.proofs.Lists.{below_all}
use Rattle.lus_program.specs.Programs.{Expression, literal, variable, when, merge, call, Node, Program, node_at}
use Rattle.lus_streams.specs.Clocks.{Clock, clock_of, Part, at}
use Rattle.lus_streams.specs.Equations.{Definition, given_by, definition_of, node_parts, sites}
use Rattle.lus_streams.specs.Flags.{OutputIs}
use Rattle.lus_streams.specs.OnClock.{DefinedOnClock, IsOnClocks}
use Rattle.lus_streams.specs.Order.{clock_variables, needs_right}
use Rattle.lus_streams.proofs.Calls.{AtBase, OfCall}
use Rattle.lus_streams.proofs.Definitions.{RightParts, right_parts, defined_on_clock}
use Rattle.lus_streams.proofs.Lists.{below_at, each_both, each_implies, each_left}
use Rattle.lus_normal_form.specs.NormalForm.{StandsFor}
use Rattle.lus_normal_form.specs.NormalNodes.{DefinesNew, IsDefinition, IsNormalNode, IsWithin}
use Rattle.lus_normal_form.specs.Named.{DefinitionFits, GivesOutput, IsCalled, IsNamed, Known, OutputKnown, Uses}
use Rattle.lus_normal_form.proofs.Equations.{each_within, equation_parts_hold}
use Rattle.lus_normal_form.proofs.NewParts.{new_at, new_fact, new_part, stands_before}
use Rattle.lus_normal_form.proofs.OneCall.{numbered_same}
use Rattle.lus_normal_form.specs.Ready.{HasArguments}
use Rattle.lus_normal_form.proofs.CallsKept.{IsFitCall, fit_has_arguments, parts_fit, sites_fit, source_fits}
use Rattle.lus_normal_form.proofs.NamesKept.{AnyCall, definition_named}
use Rattle.lus_normal_form.proofs.NeedsKnown.{all_need}
use Rattle.lus_normal_form.proofs.OutputsKept.{LeftHasOutputs, output_is}

-- names and calls of a part, apart from one another
names_of : (V : ℕ → Type 0) (p : Program) (f : Node) (t : Part) → Uses V AnyCall t × OfCall (AtBase p (IsFitCall p (sites p f))) t → Uses V (GivesOutput p f) t
names_of V p f (at k (call g c args)) h = (h.0.0, (h.1.1, h.1.0.1))
names_of V p f (at k (literal v)) h = (h.0.0, tt)
names_of V p f (at k (variable x)) h = h.0
names_of V p f (at k (when t a)) h = h.0
names_of V p f (at k (merge x bs)) h = h.0
names_of V p f (at k e) h = (h.0.0, tt)

-- a variable is an output that its call has, or on the clock of its right side
fits_by : (p : Program) (f : Node) (formals : (g n : ℕ) → n < (node_at p g).outputs → OutputKnown p g n) (x : ℕ) (d : Option Definition) → DefinedOnClock p f x d → OutputIs p d
    → RightParts p (OfCall (AtBase p (IsFitCall p (sites p f)))) d → DefinitionFits p f x d
fits_by p f formals x None on output here = tt
fits_by p f formals x (Some (given_by (call g c args) n xs k)) on output here = (here.0.1, formals g n output)
fits_by p f formals x (Some (given_by e n xs k)) on output here = on

module _ (p p' : Program) (formals : (g : ℕ) → (node_at p g).inputs + (node_at p g).outputs ≤ length (node_at p g).variables) (new_parts : ℕ → List Part)
    (all_named : (g : ℕ) → IsNamed p (node_at p g)) (normals : (g : ℕ) → IsNormalNode p p' (node_at p g) (node_at p' g) (new_parts g)) where
  -- outputs stay
  same_output : (g n : ℕ) → n < (node_at p' g).outputs → OutputKnown p' g n
  same_output g n lt =
      let inputs = (normals g).inputs in
      let outputs = (normals g).outputs in
      let width = (normals g).width in
      let fit = formals g in
      omega (arith, inputs, outputs, width, fit, lt)

  output_stays : (g : ℕ) → OutputKnown p g 0 → OutputKnown p' g 0
  output_stays g known = let inputs = (normals g).inputs in let width = (normals g).width in omega (arith, inputs, width, known)

  module _ (h : ℕ) (arguments : Each (HasArguments p) (node_parts p (node_at p h))) (on : IsOnClocks p' (node_at p' h)) (outputs : Each (LeftHasOutputs p') (node_at p' h).equations) where
    abbrev f : Node
    f = node_at p h

    abbrev f' : Node
    f' = node_at p' h

    abbrev w : ℕ
    w = length f.variables

    abbrev u : ℕ
    u = length f'.variables

    abbrev ts : List Part
    ts = new_parts h

    abbrev New : ℕ → Clock → Expression → Type 0
    New = StandsFor w ts

    abbrev normal : IsNormalNode p p' f f' ts
    normal = normals h

    abbrev named : IsNamed p f
    named = all_named h

    abbrev Source : Part → Type 0
    Source = Uses (Known f) (GivesOutput p f)

    abbrev InNode : Part → Type 0
    InNode = Uses (Known f') AnyCall

    old_below : (x : ℕ) → Known f x → x < u
    old_below x lt = let size = normal.width in omega (arith, lt, size)

    new_below : (y : ℕ) (k : Clock) (a : Expression) → New y k a → y < u
    new_below y k a s = let lt = stands_before w ts y k a s in let size = normal.width in omega (arith, lt, size)

    -- the variables of parts
    kept : (d d' : Option Definition) → RightParts p Source d → IsDefinition p New d d' → RightParts p' InNode d'
    kept = definition_named p p' f u New old_below new_below

    old_right : (x : ℕ) → x < w → RightParts p' InNode (definition_of f' x)
    old_right x lt =
        kept (definition_of f x) (definition_of f' x) (right_parts p Source f f.equations x named.uses)
        (below_at (λ y. IsDefinition p New (definition_of f y) (definition_of f' y)) w normal.definitions x lt)

    new_right : (x : ℕ) → w ≤ x → x < u → RightParts p' InNode (definition_of f' x)
    new_right x le lt =
        let size = normal.width in
        let found = new_at w ts x le (omega (arith, lt, size)) in
        let k = found.0 in
        let a = found.1 in
        let is = new_fact (DefinesNew p f' New) w ts normal.new_definitions x k a found.2 in
        let uses = each_within p Source (node_parts p f) k a (new_part (IsWithin p (node_parts p f)) w ts normal.within x k a found.2) named.uses in
        kept (Some (given_by a 0 (x ∷ []) k)) (definition_of f' x) uses is.1

    in_node : Each InNode (node_parts p' f')
    in_node = equation_parts_hold p' InNode f' (λ x lt. ⊎_elim (λ low. old_right x low) (λ high. new_right x high lt) (cases_lt x w)) f'.equations normal.equations

    -- its calls
    inputs_stay : (g : ℕ) → (node_at p' g).inputs ≡ (node_at p g).inputs
    inputs_stay g = (normals g).inputs

    calls_fit : Each (OfCall (AtBase p' (IsFitCall p' (sites p' f')))) (node_parts p' f')
    calls_fit =
        parts_fit p' (node_parts p' f')
        (sites_fit p New p' inputs_stay output_stays (sites p f) (sites p' f') normal.calls
        (source_fits p (Known f) (IsCalled (sites p f)) (node_parts p f) arguments named.uses))

    pub normal_arguments : Each (HasArguments p') (node_parts p' f')
    normal_arguments = each_implies (OfCall (AtBase p' (IsFitCall p' (sites p' f')))) (HasArguments p') (fit_has_arguments p' (sites p' f')) (node_parts p' f') calls_fit

    pub normal_named : IsNamed p' f'
    normal_named = record {
      inputs = let low = named.inputs in let same = normal.inputs in let size = normal.width in omega (arith, low, same, size);
      numbered = numbered_same p New 0 (sites p f) (sites p' f') normal.calls named.numbered;
      uses =
          each_implies (λ t. InNode t × OfCall (AtBase p' (IsFitCall p' (sites p' f'))) t) (Uses (Known f') (GivesOutput p' f')) (names_of (Known f') p' f') (node_parts p' f')
          (each_both InNode (OfCall (AtBase p' (IsFitCall p' (sites p' f')))) (node_parts p' f') in_node calls_fit);
      clocks =
          below_all (λ x. Each (Known f') (clock_variables (clock_of f' x))) u
          (λ x lt. each_left (Known f') (clock_variables (clock_of f' x)) (needs_right (definition_of f' x)) (all_need p p' f f' ts named normal x lt));
      definitions =
          below_all (λ x. DefinitionFits p' f' x (definition_of f' x)) u
          (λ x lt. fits_by p' f' same_output x (definition_of f' x) (defined_on_clock p' f' x on) (output_is p' f' f'.equations outputs x)
          (right_parts p' (OfCall (AtBase p' (IsFitCall p' (sites p' f')))) f' f'.equations x calls_fit));
      equations = normal.equations;
    }
