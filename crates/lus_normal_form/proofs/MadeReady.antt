-- The nodes that are made from those of a resolved program on clocks are ready, and define their variables.
use Rattle.std.proofs.Common.{◌≡◌, ◌∙◌, ap, sym, subst, ℕ, zero, ◌+◌, ◌<◌, ◌≤◌, nat_lt, Bool, true, false, List, [], ◌∷◌, length, arith}
use Rattle.std.proofs.lemmas.Bool.{le-ltb, lt-ltb}
use Rattle.lus_values.specs.Lists.{Each}
use Rattle.lus_program.specs.Programs.{Expression, literal, call, Equation, Node, Program, empty_node, node_at}
use Rattle.lus_streams.specs.Clocks.{Clock, Part, at, parts}
use Rattle.lus_streams.specs.Equations.{equation_clock, equation_parts, node_parts}
use Rattle.lus_streams.specs.Flags.{CallsHaveOutputs, HasOutput}
use Rattle.lus_streams.specs.OnClock.{IsOnClocks, LeftOnClock, ProgramOnClocks, RightOnClock}
use Rattle.lus_streams.proofs.Lists.{each_of_items, each_implies, each_item, each_left, each_right}
use Rattle.lus_program.specs.Kinds.{count}
use Rattle.lus_program.specs.Resolved.{targets_of, NodeResolved, Resolved}
use Rattle.lus_program.specs.Resolved.{IsDefined as IsCounted}
use Rattle.lus_streams.proofs.CallsResolved.{resolved_calls_have_outputs}
use Rattle.lus_normal_form.specs.NormalNodes.{IsNormalNode, IsWithin}
use Rattle.lus_normal_form.proofs.Equations.{each_within}
use Rattle.lus_normal_form.proofs.Faults.{first_part}
use Rattle.lus_normal_form.proofs.NormalOnClocks.{none_on_clocks, normal_is_on_clocks}
use Rattle.lus_normal_form.proofs.Simple.{normal_is_simple}
use Rattle.lus_normal_form.specs.Computed.{HasFormals}
use Rattle.lus_normal_form.specs.Nodes.{IsMadeFrom}
use Rattle.lus_normal_form.specs.Parts.{node_taken}
use Rattle.lus_normal_form.specs.Ready.{AreReady, DefinesLeft, HasArguments, IsDefined, IsReady, MadeNodesAreReady, RightHasFormals}
use Rattle.lus_normal_form.proofs.HaveFormals.{all_declared, call_arguments, left_formals}
use Rattle.lus_normal_form.proofs.LeftsDefined.{DefinesAll, all_defined, not_left, undefined}
use Rattle.lus_normal_form.proofs.MadeNodes.{all_named, made_are_normal, node_on, node_resolved, taken_total}
use Rattle.lus_normal_form.proofs.NormalNamed.{normal_arguments, normal_named}
use Rattle.lus_normal_form.proofs.OutputsKept.{LeftHasOutputs, normal_outputs, source_outputs}
use Rattle.lus_normal_form.proofs.TakenWithin.{taken_within}
use Rattle.lus_normal_form.proofs.Targets.{all_lefts, is_defined, targets_known, total}

-- a node whose variables are defined once each, but for inputs, defines them
module _ (p : Program) (f : Node) (known : Each (λ x. x < length f.variables) (targets_of f)) (counted : (x : ℕ) → x < length f.variables → IsCounted f x) where
  as_counted : (x : ℕ) → x < length f.variables → (b : Bool) → nat_lt x f.inputs ≡ b → count x (targets_of f) ≡ elim b [ true ↦ 0 | false ↦ 1 ]
  as_counted x lt b e = counted x lt ∙ ap (λ c. elim c [ true ↦ 0 | false ↦ 1 ]) e

  at_most_once : (x : ℕ) → x < length f.variables → count x (targets_of f) ≤ 1
  at_most_once x lt = choose (nat_lt x f.inputs) (as_counted x lt (nat_lt x f.inputs) (λ i. nat_lt x f.inputs))
    where
      choose : (b : Bool) → count x (targets_of f) ≡ elim b [ true ↦ 0 | false ↦ 1 ] → count x (targets_of f) ≤ 1
      choose true e = omega (arith, e)
      choose false e = omega (arith, e)

  left_defined : (q : Equation) → DefinesAll f f.equations q → DefinesLeft f q
  left_defined q h o x e = let all = h o x e in (all.0, all.2)

  node_defined : Each (LeftHasOutputs p) f.equations → f.inputs ≤ length f.variables → IsDefined p f
  node_defined outputs low = record {
    lefts = each_implies (DefinesAll f f.equations) (DefinesLeft f) left_defined f.equations (all_defined f f.equations at_most_once known);
    outputs = outputs;
    inputs = λ x lt. undefined f f.equations x (as_counted x (omega (arith, lt, low)) true (lt-ltb x f.inputs lt));
    every = λ x le lt none. let one = as_counted x lt false (le-ltb x f.inputs le) in let zero = not_left f f.equations x none in omega (arith, one, zero);
  }

-- the arguments of each right side stand for inputs
right_has_formals : (p : Program) (e : Expression) (k : Clock) → HasFormals p (at k e) → RightHasFormals p e
right_has_formals p (call g c args) k h = h
right_has_formals p (literal v) k h = tt
right_has_formals p e k h = tt

rights_have_formals : (p : Program) → ProgramOnClocks p → (f : Node) (qs : List Equation) → Each (λ q. 0 < length q.targets) qs → Each (λ q. LeftOnClock p f q 0 q.targets) qs
    → Each (λ q. RightOnClock p f (parts p q.right (equation_clock f q))) qs → Each (HasArguments p) (equation_parts p f qs) → Each (λ q. RightHasFormals p q.right) qs
rights_have_formals p on f [] some lefts rights has = tt
rights_have_formals p on f (q ∷ qs) some lefts rights has =
    let k = equation_clock f q in
    let own = each_left (HasArguments p) (parts p q.right k) (equation_parts p f qs) has in
    let all = left_formals p (all_declared p on) f q.right q.targets k some.0 lefts.0 rights.0 own in (
      right_has_formals p q.right k (first_part p (HasFormals p) q.right k all),
      rights_have_formals p on f qs some.1 lefts.1 rights.1 (each_right (HasArguments p) (parts p q.right k) (equation_parts p f qs) has),
    )

module _ (p p' : Program) (resolved : Resolved p) (on_clocks : ProgramOnClocks p) (made : (g : ℕ) → IsMadeFrom p (node_at p g) (node_at p' g)) where
  normal : (g : ℕ) → IsNormalNode p p' (node_at p g) (node_at p' g) (node_taken p (node_at p g))
  normal = made_are_normal p p' resolved on_clocks made

  resolved_at : (g : ℕ) → NodeResolved p (node_at p g)
  resolved_at = node_resolved p p' resolved on_clocks made

  formals : (g : ℕ) → (node_at p g).inputs + (node_at p g).outputs ≤ length (node_at p g).variables
  formals g = (resolved_at g).formals

  low : (g : ℕ) → (node_at p g).inputs ≤ length (node_at p g).variables
  low g = let fit = formals g in omega (arith, fit)

  on' : ProgramOnClocks p'
  on' = normal_is_on_clocks p p' (λ g. node_taken p (node_at p g)) resolved on_clocks normal

  on_at : (g : ℕ) → IsOnClocks p' (node_at p' g)
  on_at g = each_item (IsOnClocks p') empty_node p'.nodes (none_on_clocks p') on' g

  module _ (g : ℕ) where
    abbrev f : Node
    f = node_at p g

    abbrev f' : Node
    f' = node_at p' g

    taken_count : length (node_taken p f) ≡ total f.equations
    taken_count = taken_total p f f' (resolved_at g) (node_on p p' resolved on_clocks made g) (all_named p p' resolved on_clocks made g) (made g) f.equations

    size : length f'.variables ≡ length f.variables + total f.equations
    size = (normal g).width ∙ ap (λ n. length f.variables + n) taken_count

    counted : (x : ℕ) → x < length f'.variables → IsCounted f' x
    counted = is_defined f f' (made g).inputs (low g) (made g).equations size (resolved_at g).targets (resolved_at g).defined

    known : Each (λ x. x < length f'.variables) (targets_of f')
    known = targets_known f f' (made g).inputs (low g) (made g).equations size (resolved_at g).targets (resolved_at g).defined

    -- each part that is taken out is one of the node's
    taken_outputs : Each (HasOutput p) (node_taken p f)
    taken_outputs = each_implies (IsWithin p (node_parts p f)) (HasOutput p) of_part (node_taken p f) (taken_within p f)
      where
        all : Each (HasOutput p) (node_parts p f)
        all = (each_item (CallsHaveOutputs p) empty_node p.nodes (record { parts = tt; defined = tt }) (resolved_calls_have_outputs p resolved) g).parts

        of_part : (t : Part) → IsWithin p (node_parts p f) t → HasOutput p t
        of_part (at k a) inside = first_part p (HasOutput p) a k (each_within p (HasOutput p) (node_parts p f) k a inside all)

    outputs : Each (LeftHasOutputs p') f'.equations
    outputs =
        subst (Each (LeftHasOutputs p')) (sym (made g).equations)
        (normal_outputs p p' (λ h. (made h).outputs) f (length f.variables) f.equations (source_outputs p resolved.nodes f f.equations (resolved_at g).equations) taken_outputs)

    source_arguments : Each (HasArguments p) (node_parts p f)
    source_arguments = each_item (λ h. Each (HasArguments p) (node_parts p h)) empty_node p.nodes tt (call_arguments p resolved) g

    arguments : Each (HasArguments p') (node_parts p' f')
    arguments = normal_arguments p p' formals (λ h. node_taken p (node_at p h)) (all_named p p' resolved on_clocks made) normal g source_arguments (on_at g) outputs

    lefts : Each (λ q. 0 < length q.targets) f'.equations
    lefts = subst (Each (λ q. 0 < length q.targets)) (sym (made g).equations) (all_lefts (length f.variables) f.equations (resolved_at g).lefts)

    node_ready : IsReady p' f'
    node_ready = record {
      simple = normal_is_simple p p' f f' (node_taken p f) (normal g);
      callees = on';
      on_clocks = on_at g;
      named = normal_named p p' formals (λ h. node_taken p (node_at p h)) (all_named p p' resolved on_clocks made) normal g source_arguments (on_at g) outputs;
      arguments = arguments;
      formals = rights_have_formals p' on' f' f'.equations lefts (on_at g).lefts (on_at g).rights arguments;
    }

    defines : IsDefined p' f'
    defines = node_defined p' f' known counted outputs (let below = low g in let same = (made g).inputs in let all = size in omega (arith, below, same, all))

  are_ready : AreReady p'
  are_ready = record {
    each = each_of_items (λ f. IsReady p' f × IsDefined p' f) empty_node p'.nodes (λ g lt. (node_ready g, defines g));
    numbered = λ g. (node_ready g, defines g);
  }

pub made_nodes_are_ready : MadeNodesAreReady
made_nodes_are_ready p p' resolved on_clocks made = are_ready p p' resolved on_clocks made
