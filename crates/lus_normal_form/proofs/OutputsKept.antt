-- A call in normal form has no more variables on its left than its node has outputs, as in the source.
use Rattle.std.proofs.Common.{◌≡◌, subst, ℕ, zero, suc, ◌+◌, ◌<◌, List, [], ◌∷◌, length, Option, Some, None, refl, arith}
use Rattle.lus_values.specs.Lists.{Each}
use Rattle.lus_program.specs.Programs.{Expression, literal, call, Equation, Node, Program, node_at}
use Rattle.lus_streams.specs.Clocks.{Clock, Part, at}
use Rattle.lus_streams.specs.Equations.{given_by, place_in, equation_clock, definition_in}
use Rattle.lus_streams.specs.Flags.{HasOutput, OutputIs}
use Rattle.lus_streams.proofs.Lists.{each_append, each_left, each_right}
use Rattle.lus_streams.proofs.Definitions.{place_within}
use Rattle.lus_program.specs.Resolved.{EquationFits, NodeResolved}
use Rattle.lus_streams.proofs.CallsResolved.{output_within}
use Rattle.lus_program.proofs.TypedParts.{fits_given}
use Rattle.lus_normal_form.specs.Forms.{right_count, right_form, right_out, added_equations, normal_equations}
use Rattle.lus_normal_form.specs.Parts.{right_taken, equations_taken}
use Rattle.lus_normal_form.specs.Ready.{HasOutputs}
use Rattle.lus_normal_form.proofs.Counted.{parts_of, taken_out}

-- an equation's call has outputs for its left side
abbrev pub LeftHasOutputs : Program → Equation → Type 0
LeftHasOutputs p q = HasOutputs p q.right (length q.targets)

-- outputs one by one
has_outputs : (p : Program) (e : Expression) (n : ℕ) (xs : List ℕ) (k : Clock) → ((i : ℕ) → i < n → OutputIs p (Some (given_by e i xs k))) → HasOutputs p e n
has_outputs p (call g c args) zero xs k h = omega arith
has_outputs p (call g c args) (suc n) xs k h = let last = h n (omega arith) in omega (arith, last)
has_outputs p (literal v) n xs k h = tt
has_outputs p e n xs k h = tt

output_of : (p : Program) (e : Expression) (n i : ℕ) (xs : List ℕ) (k : Clock) → HasOutputs p e n → i < n → OutputIs p (Some (given_by e i xs k))
output_of p (call g c args) n i xs k h lt = omega (arith, h, lt)
output_of p (literal v) n i xs k h lt = tt
output_of p e n i xs k h lt = tt

-- the source
pub source_outputs : (p : Program) (nodes : Each (NodeResolved p) p.nodes) (f : Node) (qs : List Equation) → Each (EquationFits p f) qs → Each (LeftHasOutputs p) qs
source_outputs p nodes f [] fits = tt
source_outputs p nodes f (q ∷ qs) fits =
    let r = fits_given p f q fits.0 in
    let k = equation_clock f q in (
      has_outputs p q.right (length q.targets) q.targets k (λ i lt. output_within p nodes f q.right i r.kinds q.targets k r.given (let size = r.size in omega (arith, size, lt))),
      source_outputs p nodes f qs fits.1,
    )

-- what is taken out
part_outputs : (p : Program) (ts : List Part) → Each (HasOutput p) ts → Each (λ e. HasOutputs p e 1) (parts_of ts)
part_outputs p [] h = tt
part_outputs p (at k (call g c args) ∷ ts) h = (let some = h.0 in omega (arith, some), part_outputs p ts h.1)
part_outputs p (at k (literal v) ∷ ts) h = (tt, part_outputs p ts h.1)
part_outputs p (at k e ∷ ts) h = (tt, part_outputs p ts h.1)

-- the normal form, where nodes keep their outputs
module _ (p p' : Program) (outputs : (g : ℕ) → (node_at p' g).outputs ≡ (node_at p g).outputs) where
  form_outputs : (e : Expression) (n size : ℕ) → HasOutputs p e size → HasOutputs p' (right_form n e) size
  form_outputs (call g c args) n size h = let same = outputs g in omega (arith, h, same)
  form_outputs (literal v) n size h = tt
  form_outputs e n size h = tt

  added_outputs : (n : ℕ) (es : List Expression) → Each (λ e. HasOutputs p e 1) es → Each (LeftHasOutputs p') (added_equations n es)
  added_outputs n [] h = tt
  added_outputs n (e ∷ es) h = (form_outputs e (suc n) 1 h.0, added_outputs (suc n) es h.1)

  pub normal_outputs : (f : Node) (n : ℕ) (qs : List Equation) → Each (LeftHasOutputs p) qs → Each (HasOutput p) (equations_taken p f qs) → Each (LeftHasOutputs p') (normal_equations n qs)
  normal_outputs f n [] h out = tt
  normal_outputs f n (q ∷ qs) h out =
      let k = equation_clock f q in
      let m = n + right_count q.right in
      let us = right_taken p q.right k in
      let own = part_outputs p us (each_left (HasOutput p) us (equations_taken p f qs) out) in
      let new = subst (Each (λ e. HasOutputs p e 1)) (taken_out p q.right k) own in
      let rest = normal_outputs f m qs h.1 (each_right (HasOutput p) us (equations_taken p f qs) out) in (
        form_outputs q.right n (length q.targets) h.0,
        each_append (LeftHasOutputs p') (added_equations n (right_out q.right)) (normal_equations m qs) (added_outputs n (right_out q.right) new) rest,
      )

-- and so a variable is an output that its call has
pub output_is : (p : Program) (f : Node) (qs : List Equation) → Each (LeftHasOutputs p) qs → (x : ℕ) → OutputIs p (definition_in f qs x)
output_is p f [] h x = tt
output_is p f (q ∷ qs) h x = choose (place_in x q.targets 0) refl (output_is p f qs h.1 x)
  where
    choose : (o : Option ℕ) → place_in x q.targets 0 ≡ o → OutputIs p (definition_in f qs x)
        → OutputIs p (elim o [ None ↦ definition_in f qs x | Some n ↦ Some (given_by q.right n q.targets (equation_clock f q)) ])
    choose None e later = later
    choose (Some i) e later = output_of p q.right (length q.targets) i q.targets (equation_clock f q) h.0 (let lt = place_within x q.targets 0 i e in omega (arith, lt))
