-- The nodes that the code makes of those of a resolved program have equations that fit.
use Rattle.std.proofs.Common.{arith, ◌≡◌, ◌∙◌, refl, sym, ap, ap₂, subst, ℕ, zero, suc, ◌+◌, ◌≤◌, Bool, true, false, cond, List, [], ◌∷◌, ◌++◌, length, map, take, drop, Option, Some, None, append_assoc, length-drop, length-append, IsTrue}
use Rattle.std.proofs.lemmas.List.{take-append-le, drop-append-le}
use Rattle.std.proofs.lemmas.Simd.{map-map}
use Rattle.std.specs.Prelude.{option_map, slice_get}
use Rattle.lus_values.specs.Lists.{item, Each}
use Rattle.lus_values.specs.declared.test.Test.{Test}
use Rattle.lus_program.specs.declared.types.Kind.{Kind}
use Rattle.lus_program.specs.declared.node.Equation.{Equation as StoredEquation}
use Rattle.lus_program.specs.declared.node.Node.{Node as StoredNode}
use Rattle.lus_program.specs.Programs.{Expression, literal, variable, operate, pre, arrow, when, merge, call, Operands, none, more, calls, Variable, Node, Program}
use Rattle.lus_program.specs.View.{expression_of, equations_from, node_of, program_seen}
use Rattle.lus_program.specs.Resolved.{kind_of_variable, kind_in, EquationFits, NodeResolved}
use Rattle.lus_program.proofs.Alike.{taken_and_given, equations_alike}
use Rattle.lus_program.proofs.Numbering.{given-numbered}
use Rattle.lus_program.proofs.Options.{map_gives}
use Rattle.lus_streams.specs.OnClock.{test_of}
use Rattle.lus_streams.proofs.Lists.{each_implies}
use Rattle.lus_normal_form.specs.Forms.{Position, Inside, Operand, is_taken, right_out, operands_out, out}
use Rattle.lus_normal_form.proofs.Counted.{map_append}
use Rattle.lus_normal.specs.Forms.{Taken, right_takes, operands_takes, takes}
use Rattle.lus_normal.specs.Laws.{equations_take, IsMadeOf, AreMadeOf}
use Rattle.lus_normal.specs.View.{equations_seen}
use Rattle.lus_typed_streams.proofs.StreamsTyped.{any_literals, inputs_typed}
use Rattle.lus_typed_streams.proofs.Worlds.{values_have_types}
use Rattle.lus_typed_streams.proofs.LiteralParts.{declared_literals}
use Rattle.lus_typed_streams.specs.Types.{any_number, declares, has_shape}
use Rattle.lus_typed_normal.specs.Laws.{NormalEquationsFit, NormalValuesHaveTypes, NormalValuesHaveDeclaredTypes, NormalStreamsHaveDeclaredTypes}
use Rattle.lus_typed_normal.proofs.Literals.{normal_literals_are_declared}
use Rattle.lus_typed_normal.proofs.Forms.{equations_out, AreNew, normal_fit}

-- ---- what the code takes out

module _ (p : Program) (f : Node) where
  abbrev operands_in : List Taken → List Expression
  operands_in ts = map (λ t. t.operand) ts

  abbrev Same : Expression → Option Test → Type 0
  Same e o = operands_in (right_takes p f e o) ≡ right_out e

  one : (here : Position) (e : Expression) (o : Option Test) → Same e o → operands_in (takes p f here e o) ≡ out here e
  one here e o h = choose (is_taken here e)
    where
      choose : (b : Bool) → operands_in (cond b (record { test = o; operand = e } ∷ right_takes p f e o) (right_takes p f e o)) ≡ cond b (e ∷ right_out e) (right_out e)
      choose true = ap (λ l. e ∷ l) h
      choose false = h

  first : (here : Position) (e : Expression) (o : Option Test) (ts : List Taken) (es : List Expression) → Same e o → operands_in ts ≡ es → operands_in (takes p f here e o ++ ts) ≡ out here e ++ es
  first here e o ts es h l = map_append (λ (t : Taken). t.operand) (takes p f here e o) ts ∙ ap₂ ◌++◌ (one here e o h) l

  mutual
    takes_out : (e : Expression) (o : Option Test) → Same e o
    takes_out (literal v) o = refl
    takes_out (variable x) o = refl
    takes_out (operate n es) o = all_takes_out Inside es _ 0
    takes_out (pre a) o = one Operand a o (takes_out a o)
    takes_out (arrow a b) o = first Inside a o (takes p f Inside b o) (out Inside b) (takes_out a o) (one Inside b o (takes_out b o))
    takes_out (when t a) o = one Operand a (test_of f t.variable) (takes_out a (test_of f t.variable))
    takes_out (merge x bs) o = all_takes_out Inside bs _ 0
    takes_out (call g c args) o = all_takes_out Operand args _ 0

    all_takes_out : (here : Position) (es : Operands) (os : ℕ → Option Test) (m : ℕ) → operands_in (operands_takes p f here es os m) ≡ operands_out here es
    all_takes_out here none os m = refl
    all_takes_out here (more e es) os m = first here e (os m) (operands_takes p f here es os (suc m)) (operands_out here es) (takes_out e (os m)) (all_takes_out here es os (suc m))

  equations_take_out : (qs : List StoredEquation) → operands_in (equations_take p f qs) ≡ equations_out (equations_seen qs)
  equations_take_out [] = refl
  equations_take_out (q ∷ qs) =
      let e = expression_of q.right in
      let o = test_of f (item 0 q.targets.items 0) in
      map_append (λ (t : Taken). t.operand) (right_takes p f e o) (equations_take p f qs) ∙ ap₂ ◌++◌ (takes_out e o) (equations_take_out qs)

-- ---- variables

get_left : (vs more_vs : List Variable) (x : ℕ) (v : Variable) → slice_get vs x ≡ Some v → slice_get (vs ++ more_vs) x ≡ Some v
get_left [] more_vs x v e = cc
get_left (w ∷ vs) more_vs zero v e = e
get_left (w ∷ vs) more_vs (suc x) v e = get_left vs more_vs x v e

get_seam : (vs : List Variable) (v : Variable) (more_vs : List Variable) → slice_get (vs ++ v ∷ more_vs) (length vs) ≡ Some v
get_seam [] v more_vs = refl
get_seam (w ∷ vs) v more_vs = get_seam vs v more_vs

module _ (p : Program) (f f' : Node) (added : List Variable) (variables : f'.variables ≡ f.variables ++ added) where
  abbrev kind_at : List Variable → ℕ → Option Kind
  kind_at vs x = option_map (λ v. v.kind) (slice_get vs x)

  still_known : (x : ℕ) (k : Kind) → kind_of_variable p f x ≡ Some k → kind_of_variable p f' x ≡ Some k
  still_known x k h =
      let found = map_gives (λ v. v.kind) (slice_get f.variables x) k h in
      ap (λ vs. kind_at vs x) variables ∙ ap (option_map (λ v. v.kind)) (get_left f.variables added x found.0 found.1) ∙ ap Some found.2

  new_from : (before rest : List Variable) (es : List Expression) → f'.variables ≡ before ++ rest → map (λ v. Some v.kind) rest ≡ map (kind_in p f) es → AreNew p f f' still_known (length before) es
  new_from before rest [] is e = tt
  new_from before [] (x ∷ es) is e = cc
  new_from before (v ∷ rest) (x ∷ es) is e =
      let own : Some v.kind ≡ kind_in p f x = ap (λ ks. item None ks 0) e in
      let longer : length (before ++ v ∷ []) ≡ suc (length before) = omega (arith, length-append before (v ∷ [])) in (
        ap (λ vs. kind_at vs (length before)) is ∙ ap (option_map (λ w. w.kind)) (get_seam before v rest) ∙ own,
        subst (λ n. AreNew p f f' still_known n es) longer (new_from (before ++ v ∷ []) rest es (is ∙ sym (append_assoc before (v ∷ []) rest)) (ap (drop 1) e)),
      )

-- ---- nodes

without_numbers : (p : Program) (f : Node) (n : ℕ) (qs : List StoredEquation) → Each (EquationFits p f) (equations_from n qs) → Each (EquationFits p f) (equations_seen qs)
without_numbers p f n [] h = tt
without_numbers p f n (q ∷ qs) h = (ap (option_map (map Some)) (sym (given-numbered p f (expression_of q.right) n)) ∙ h.0, without_numbers p f (n + calls (expression_of q.right)) qs h.1)

with_numbers : (p : Program) (f : Node) (n : ℕ) (qs : List StoredEquation) → Each (EquationFits p f) (equations_seen qs) → Each (EquationFits p f) (equations_from n qs)
with_numbers p f n [] h = tt
with_numbers p f n (q ∷ qs) h = (ap (option_map (map Some)) (given-numbered p f (expression_of q.right) n) ∙ h.0, with_numbers p f (n + calls (expression_of q.right)) qs h.1)

made_fits : (p : Program) (f f' : StoredNode) → NodeResolved p (node_of f) → IsMadeOf p f f' → Each (EquationFits p (node_of f')) (node_of f').equations
made_fits p f f' resolved made =
    let source = node_of f in
    let target = node_of f' in
    let qs = f.equations.items in
    let adds = made.variables in
    let kinds = adds.kinds ∙ sym (map-map (kind_in p source) (λ (t : Taken). t.operand) (equations_take p source qs)) ∙ ap (map (kind_in p source)) (equations_take_out p source qs) in
    let new = new_from p source target adds.added adds.variables source.variables adds.added (equations_out (equations_seen qs)) adds.variables kinds in
    with_numbers p target 0 f'.equations.items
    (subst (Each (EquationFits p target)) (sym made.equations)
    (normal_fit p source target (still_known p source target adds.added adds.variables) (length source.variables) (equations_seen qs) (without_numbers p source 0 qs resolved.equations) new))

same_taken_and_given : (p : Program) (f f' : StoredNode) → NodeResolved p (node_of f) → IsMadeOf p f f' → taken_and_given (node_of f) ≡ taken_and_given (node_of f')
same_taken_and_given p f f' resolved made =
    let vs = (node_of f).variables in
    let added = made.variables.added in
    let formals = resolved.formals in
    let longer = made.variables.variables in
    let within : f.inputs ≤ length vs = omega (arith, formals) in
    let outputs_within : f.outputs ≤ length (drop f.inputs vs) = omega (arith, formals, length-drop f.inputs vs) in
    let inputs : map (λ (v : Variable). v.kind) (take f'.inputs (node_of f').variables) ≡ map (λ v. v.kind) (take f.inputs vs) =
    (λ i. map (λ v. v.kind) (take (made.inputs i) (longer i))) ∙ ap (map (λ v. v.kind)) (take-append-le f.inputs vs added within) in
    let outputs : map (λ (v : Variable). v.kind) (take f'.outputs (drop f'.inputs (node_of f').variables)) ≡ map (λ v. v.kind) (take f.outputs (drop f.inputs vs)) =
    (λ i. map (λ v. v.kind) (take (made.outputs i) (drop (made.inputs i) (longer i))))
    ∙ ap (λ l. map (λ v. v.kind) (take f.outputs l)) (drop-append-le f.inputs vs added within)
    ∙ ap (map (λ v. v.kind)) (take-append-le f.outputs (drop f.inputs vs) added outputs_within) in
    λ i. (sym inputs i, sym outputs i)

-- ---- programs

all_alike : (p : Program) (fs fs' : List StoredNode) → Each (NodeResolved p) (map node_of fs) → AreMadeOf p fs fs' → map taken_and_given (map node_of fs) ≡ map taken_and_given (map node_of fs')
all_alike p [] fs' h made = ap (λ l. map taken_and_given (map node_of l)) (sym made)
all_alike p (f ∷ fs) fs' h made =
    ap₂ ◌∷◌ (same_taken_and_given p f made.0 h.0 made.3) (all_alike p fs made.1 h.1 made.4) ∙ ap (λ l. map taken_and_given (map node_of l)) (sym made.2)

all_fit : (p : Program) (fs fs' : List StoredNode) → Each (NodeResolved p) (map node_of fs) → AreMadeOf p fs fs' → Each (λ g. Each (EquationFits p g) g.equations) (map node_of fs')
all_fit p [] fs' h made = subst (λ l. Each (λ g. Each (EquationFits p g) g.equations) (map node_of l)) (sym made) tt
all_fit p (f ∷ fs) fs' h made =
    subst (λ l. Each (λ g. Each (EquationFits p g) g.equations) (map node_of l)) (sym made.2) (made_fits p f made.0 h.0 made.3, all_fit p fs made.1 h.1 made.4)

pub normal_equations_fit : NormalEquationsFit
normal_equations_fit p p' h =
    let q = program_seen p in
    let q' = program_seen p' in
    each_implies (λ g. Each (EquationFits q g) g.equations) (λ g. Each (EquationFits q' g) g.equations)
    (λ g fits. subst (λ P. Each P g.equations) (equations_alike q q' g g (record { types = sym h.types; nodes = all_alike q p.nodes.items p'.nodes.items h.resolved.nodes h.made; variables = refl })) fits)
    q'.nodes
    (all_fit q p.nodes.items p'.nodes.items h.resolved.nodes h.made)

pub normal_values_have_types : NormalValuesHaveTypes
normal_values_have_types p p' h causal = values_have_types (program_seen p') any_number (normal_equations_fit p p' h) (any_literals (program_seen p')) causal

pub normal_values_have_declared_types : NormalValuesHaveDeclaredTypes
normal_values_have_declared_types p p' h literals causal =
    let q' = program_seen p' in
    values_have_types q' (declares q') (normal_equations_fit p p' h) (declared_literals q' (normal_literals_are_declared p p' h literals)) causal

pub normal_streams_have_declared_types : NormalStreamsHaveDeclaredTypes
normal_streams_have_declared_types p p' h literals causal f lineage w s shapes =
    let q' = program_seen p' in
    normal_values_have_declared_types p p' h literals causal f w s.satisfied
    (inputs_typed q' (declares q') (λ t c e. e) f w (subst (Each (λ r. IsTrue (has_shape q' f r))) (sym s.rows) shapes))
