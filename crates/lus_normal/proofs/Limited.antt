-- The new variables of the normal form of a program within the limits, of few parts, have numbers.
use Rattle.std.proofs.Common.{arith, ◌≡◌, sym, subst, ℕ, zero, suc, ◌+◌, ◌<◌, ◌≤◌, List, [], ◌∷◌, length, map, sum_by, refl}
use Rattle.std.proofs.lemmas.List.Sums.{sum_by-cons}
use Rattle.lus_values.specs.Lists.{item, Each}
use Rattle.lus_syntax.specs.Limits.{most_parts, most_variables}
use Rattle.lus_program.specs.declared.node.Equation.{Equation as StoredEquation}
use Rattle.lus_program.specs.declared.node.Node.{Node as StoredNode}
use Rattle.lus_program.specs.declared.node.Program.{Program as StoredProgram}
use Rattle.lus_program.specs.Parts.{node_parts}
use Rattle.lus_program.specs.Programs.{calls}
use Rattle.lus_program.specs.View.{expression_of, equations_from, node_of, program_seen}
use Rattle.lus_program.specs.Resolved.{NodeResolved, Resolved}
use Rattle.lus_program.specs.Sound.{IsLimited}
use Rattle.lus_normal_form.specs.Forms.{equations_count}
use Rattle.lus_normal_form.proofs.NewAreFew.{new_are_few}
use Rattle.lus_normal_form.proofs.Numbers.{right_count_numbered}
use Rattle.lus_normal.specs.Parts.{HasFewParts}
use Rattle.lus_normal.specs.View.{equations_seen}
use Rattle.lus_normal.specs.Walk.{CanBeMade}
use Rattle.lus_normal.proofs.Declarable.{taken_are_declarable}

counts_seen : (n : ℕ) (qs : List StoredEquation) → equations_count (equations_from n qs) ≡ equations_count (equations_seen qs)
counts_seen n [] = refl
counts_seen n (q ∷ qs) = λ i. right_count_numbered n (expression_of q.right) i + counts_seen (n + calls (expression_of q.right)) qs i

-- what holds of each thing that is seen holds of the one at a place
pub each_seen_at : {X Y : Type 0} (see : X → Y) (P : Y → Type 0) (xs : List X) (i : ℕ) (x : X)
    → x ≡ item x xs i → Each P (map see xs) → i < length xs → P (see x)
each_seen_at {X = X} see P xs i x is all lt = subst (λ y. P (see y)) (sym is) (at_place xs i all lt)
  where
    at_place : (ys : List X) (i : ℕ) → Each P (map see ys) → i < length ys → P (see (item x ys i))
    at_place [] i h lt = absurd (omega arith)
    at_place (y ∷ ys) zero h lt = h.0
    at_place (y ∷ ys) (suc i) h lt = at_place ys i h.1 (omega (arith, lt))

-- what is no more in all is no more in each
pub each_within_sum : {X : Type 0} (f : X → ℕ) (xs : List X) (most : ℕ) → sum_by f xs ≤ most → Each (λ x. f x ≤ most) xs
each_within_sum f [] most h = tt
each_within_sum f (x ∷ xs) most h = let sum = sum_by-cons f x xs in (omega (arith, sum, h), each_within_sum f xs most (omega (arith, sum, h)))

-- the node at a place can be made
pub made_here : (p : StoredProgram) → Resolved (program_seen p) → IsLimited (program_seen p) → HasFewParts (program_seen p)
    → (i : ℕ) (f : StoredNode) → i < length p.nodes.items → f ≡ item f p.nodes.items i → CanBeMade (program_seen p) f
made_here p resolved limited few i f lt is =
    let q = program_seen p in
    let fs = p.nodes.items in
    let fits = each_seen_at node_of (NodeResolved q) fs i f is resolved.nodes lt in
    let narrow = each_seen_at node_of (λ g. length g.variables ≤ most_variables) fs i f is limited.variables lt in
    let parts_few = each_within_sum node_parts q.nodes most_parts few in
    let parts = each_seen_at node_of (λ g. node_parts g ≤ most_parts) fs i f is parts_few lt in
    let new = new_are_few (node_of f) in
    let seen = counts_seen 0 f.equations.items in
    record {
      room = omega (arith, narrow, parts, new, seen);
      declarable = taken_are_declarable q resolved limited (node_of f) f.equations.items refl fits narrow;
    }
