-- Each right side of a normal form that is no call gives one variable, and its nodes keep to the state cells of the source.
use Rattle.std.proofs.Common.{◌≡◌, ℕ, suc, ◌+◌, ◌≤◌, List, [], ◌∷◌, ◌++◌, length, map, Some, sym, ap, subst, arith}
use Rattle.std.specs.Prelude.{option_map}
use Rattle.lus_values.specs.Lists.{Each}
use Rattle.lus_program.specs.declared.types.Kind.{Kind}
use Rattle.lus_program.specs.declared.node.Equation.{Equation as StoredEquation}
use Rattle.lus_program.specs.declared.node.Node.{Node as StoredNode}
use Rattle.lus_program.specs.declared.node.Program.{Program as StoredProgram}
use Rattle.lus_program.specs.Programs.{Expression, call, calls, numbered, Equation, Node, Program, node_at, empty_node}
use Rattle.lus_program.specs.View.{expression_of, equations_from, node_of, program_seen}
use Rattle.lus_streams.proofs.Lists.{each_item}
use Rattle.lus_program.specs.Resolved.{EquationFits, NodeResolved, Resolved, kind_in, kinds_given_in}
use Rattle.lus_program.proofs.Options.{map_gives}
use Rattle.lus_program.proofs.TypedParts.{fits_given}
use Rattle.lus_normal_form.specs.Forms.{added_equations, normal_equations, right_count, right_form, right_out}
use Rattle.lus_normal_form.specs.Parts.{node_taken}
use Rattle.lus_normal.specs.Laws.{AreMadeOf, IsMadeOf, IsNormalProgram}
use Rattle.lus_normal.specs.View.{equations_seen}
use Rattle.lus_turns.specs.Turned.{HasOneLeft, HaveOneLeft}
use Rattle.lus_cells.specs.Cells.{AreStateCells, HaveLeaves}
use Rattle.lus_code.specs.Made.{NodesKeepTo}
use Rattle.lus_code.proofs.KeptRows.{normal_keeps, source_keeps}

-- ---- left sides

abbrev OneLeft : Equation → Type 0
OneLeft q = HasOneLeft q.right (length q.targets)

one_kind : (ks : List Kind) (k : Kind) → k ∷ [] ≡ ks → length ks ≤ 1
one_kind ks k e = let size = ap length e in omega (arith, size)

module _ (p : Program) (f : Node) where
  given_one : (e : Expression) (ks : List Kind) → option_map (λ k. k ∷ []) (kind_in p f e) ≡ Some ks → length ks ≤ 1
  given_one e ks h = let given = map_gives (λ k. k ∷ []) (kind_in p f e) ks h in one_kind ks given.0 given.2

  right_one : (e : Expression) (ks : List Kind) → kinds_given_in p f e ≡ Some ks → HasOneLeft e (length ks)
  right_one (call g c es) ks h = tt
  right_one e ks h = given_one e ks h

  fitting_one : (qs : List Equation) → Each (EquationFits p f) qs → Each OneLeft qs
  fitting_one [] h = tt
  fitting_one (q ∷ qs) h = (
    (let r = fits_given p f q h.0 in subst (HasOneLeft q.right) r.size (right_one q.right r.kinds r.given)),
    fitting_one qs h.1,
  )

-- numbers of calls don't matter
without_numbers : (n : ℕ) (e : Expression) (m : ℕ) → HasOneLeft (numbered n e) m → HasOneLeft e m
without_numbers n (call g c es) m h = tt
without_numbers n e m h = h

with_numbers : (n : ℕ) (e : Expression) (m : ℕ) → HasOneLeft e m → HasOneLeft (numbered n e) m
with_numbers n (call g c es) m h = tt
with_numbers n e m h = h

seen_one : (n : ℕ) (qs : List StoredEquation) → Each OneLeft (equations_from n qs) → Each OneLeft (equations_seen qs)
seen_one n [] h = tt
seen_one n (q ∷ qs) h = (without_numbers n (expression_of q.right) (length q.targets.items) h.0, seen_one (n + calls (expression_of q.right)) qs h.1)

stored_one : (n : ℕ) (qs : List StoredEquation) → Each OneLeft (equations_seen qs) → Each OneLeft (equations_from n qs)
stored_one n [] h = tt
stored_one n (q ∷ qs) h = (with_numbers n (expression_of q.right) (length q.targets.items) h.0, stored_one (n + calls (expression_of q.right)) qs h.1)

-- a right side in normal form is a call where its source is
form_one : (n : ℕ) (e : Expression) (m : ℕ) → HasOneLeft e m → HasOneLeft (right_form n e) m
form_one n (call g c es) m h = tt
form_one n e m h = h

new_one : (e : Expression) → HasOneLeft e 1
new_one (call g c es) = tt
new_one e = omega arith

added_one : (n : ℕ) (es : List Expression) → Each OneLeft (added_equations n es)
added_one n [] = tt
added_one n (e ∷ es) = (form_one (suc n) e 1 (new_one e), added_one (suc n) es)

each_both : {X : Type 0} (P : X → Type 0) (xs ys : List X) → Each P xs → Each P ys → Each P (xs ++ ys)
each_both P [] ys h k = k
each_both P (x ∷ xs) ys h k = (h.0, each_both P xs ys h.1 k)

normal_one : (n : ℕ) (qs : List Equation) → Each OneLeft qs → Each OneLeft (normal_equations n qs)
normal_one n [] h = tt
normal_one n (q ∷ qs) h = (
  form_one n q.right (length q.targets) h.0,
  each_both OneLeft (added_equations n (right_out q.right)) (normal_equations (n + right_count q.right) qs) (added_one n (right_out q.right)) (normal_one (n + right_count q.right) qs h.1),
)

made_one : (p : Program) (f f' : StoredNode) → NodeResolved p (node_of f) → IsMadeOf p f f' → HaveOneLeft (node_of f')
made_one p f f' resolved made =
    let source = seen_one 0 f.equations.items (fitting_one p (node_of f) (node_of f).equations resolved.equations) in
    let normal = normal_one (length (node_of f).variables) (equations_seen f.equations.items) source in
    stored_one 0 f'.equations.items (subst (Each OneLeft) (sym made.equations) normal)

all_one : (p : Program) (fs fs' : List StoredNode) → Each (NodeResolved p) (map node_of fs) → AreMadeOf p fs fs' → Each HaveOneLeft (map node_of fs')
all_one p [] fs' resolved made = subst (λ hs. Each HaveOneLeft (map node_of hs)) (sym made) tt
all_one p (f ∷ fs) fs' resolved made =
    subst (λ hs. Each HaveOneLeft (map node_of hs)) (sym made.2) (made_one p f made.0 resolved.0 made.3, all_one p fs made.1 resolved.1 made.4)

-- right sides of a normal form that are no calls give one variable
pub lefts_one : (p p' : StoredProgram) → Resolved (program_seen p) → AreMadeOf (program_seen p) p.nodes.items p'.nodes.items → (g : ℕ) → HaveOneLeft (node_at (program_seen p') g)
lefts_one p p' resolved made g = each_item HaveOneLeft empty_node (map node_of p'.nodes.items) tt (all_one (program_seen p) p.nodes.items p'.nodes.items resolved.nodes made) g

-- ---- state cells

-- the nodes of a normal form keep to the state cells of the source
pub kept_to : (p p' : StoredProgram) → IsNormalProgram (program_seen p) (program_seen p') → (cells : List ℕ) → Resolved (program_seen p) → HaveLeaves (program_seen p) → AreStateCells (program_seen p) cells
    → NodesKeepTo cells (program_seen p')
kept_to p p' normal cells resolved leaves counted =
    normal_keeps (program_seen p) (program_seen p') (λ g. node_taken (program_seen p) (node_at (program_seen p) g)) normal cells (source_keeps (program_seen p) cells resolved leaves counted)
