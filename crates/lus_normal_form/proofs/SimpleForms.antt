-- The normal forms that are computed have no call but at their head, whatever their source.
use Rattle.std.proofs.Common.{◌≡◌, ◌∙◌, ap, ℕ, suc, ◌+◌, List, ◌∷◌, ◌++◌, drop, refl, append_assoc}
use Rattle.lus_program.specs.Programs.{Expression, literal, variable, operate, pre, arrow, when, merge, call, Operands, none, more, Program, node_at}
use Rattle.lus_streams.specs.Clocks.{Clock, Part, formal_clock, base_of, branch_clock, parts, all_parts}
use Rattle.lus_streams.specs.Equations.{sites_in}
use Rattle.lus_normal_form.specs.NormalForm.{IsAtom, AreAtoms, IsSimple, AreSimple, IsSimpleRight}
use Rattle.lus_normal_form.specs.Forms.{Inside, Operand, size, listed, right_form, operands_form, form}
use Rattle.lus_normal_form.proofs.Sites.{head}

operand_atom : (e : Expression) (n : ℕ) → IsAtom (form Operand n e)
operand_atom (literal v) n = tt
operand_atom (variable x) n = tt
operand_atom e n = tt

mutual
  inner_simple : (e : Expression) (n : ℕ) → IsSimple (form Inside n e)
  inner_simple (literal v) n = tt
  inner_simple (variable x) n = tt
  inner_simple (operate o es) n = inners_simple es n
  inner_simple (pre a) n = operand_atom a n
  inner_simple (arrow a b) n = (inner_simple a n, inner_simple b (n + size Inside a))
  inner_simple (when t a) n = operand_atom a n
  inner_simple (merge x bs) n = inners_simple bs n
  inner_simple (call g c args) n = tt

  inners_simple : (es : Operands) (n : ℕ) → AreSimple (listed (operands_form Inside n es))
  inners_simple none n = tt
  inners_simple (more e es) n = (inner_simple e n, inners_simple es (n + size Inside e))

arguments_atoms : (es : Operands) (n : ℕ) → AreAtoms (listed (operands_form Operand n es))
arguments_atoms none n = tt
arguments_atoms (more e es) n = (operand_atom e n, arguments_atoms es (n + size Operand e))

pub form_simple : (e : Expression) (n : ℕ) → IsSimpleRight (right_form n e)
form_simple (call g c args) n = arguments_atoms args n
form_simple (literal v) n = tt
form_simple (variable x) n = tt
form_simple (operate o es) n = inner_simple (operate o es) n
form_simple e n = inner_simple e n

-- no calls stand there
module _ (p : Program) where
  abbrev None : List Part → Type 0
  None es = (rest : List Part) → sites_in p (es ++ rest) ≡ sites_in p rest

  both_none : (xs ys : List Part) → None xs → None ys → None (xs ++ ys)
  both_none xs ys a b rest = ap (sites_in p) (append_assoc xs ys rest) ∙ a (ys ++ rest) ∙ b rest

  atom_none : (e : Expression) (k : Clock) → IsAtom e → None (parts p e k)
  atom_none (literal v) k h rest = refl
  atom_none (variable x) k h rest = refl
  atom_none _ k h rest = absurd h

  mutual
    pub simple_none : (e : Expression) (k : Clock) → IsSimple e → None (parts p e k)
    simple_none (literal v) k h rest = refl
    simple_none (variable x) k h rest = refl
    simple_none (operate o es) k h rest = all_none es (λ m. k) 0 h rest
    simple_none (pre a) k h rest = atom_none a k h rest
    simple_none (arrow a b) k h rest = both_none (parts p a k) (parts p b k) (simple_none a k h.0) (simple_none b k h.1) rest
    simple_none (when t a) k h rest = atom_none a (drop 1 k) h rest
    simple_none (merge x bs) k h rest = all_none bs (branch_clock x k) 0 h rest
    simple_none (call g c args) k h rest = absurd h

    all_none : (es : Operands) (ks : ℕ → Clock) (m : ℕ) → AreSimple es → None (all_parts p es ks m)
    all_none none ks m h rest = refl
    all_none (more e es) ks m h rest = both_none (parts p e (ks m)) (all_parts p es ks (suc m)) (simple_none e (ks m) h.0) (all_none es ks (suc m) h.1) rest

  pub atoms_none : (es : Operands) (ks : ℕ → Clock) (m : ℕ) → AreAtoms es → None (all_parts p es ks m)
  atoms_none none ks m h rest = refl
  atoms_none (more e es) ks m h rest = both_none (parts p e (ks m)) (all_parts p es ks (suc m)) (atom_none e (ks m) h.0) (atoms_none es ks (suc m) h.1) rest

  pub right_head : (e : Expression) (k : Clock) (rest : List Part) → IsSimpleRight e → sites_in p (parts p e k ++ rest) ≡ head p e k ++ sites_in p rest
  right_head (call g c args) k rest h =
      let base = base_of (node_at p g) k in
      ap (λ l. record { node = g; number = c; args = args; base = base } ∷ l) (atoms_none args (formal_clock (node_at p g) args base) 0 h rest)
  right_head (literal v) k rest h = simple_none (literal v) k h rest
  right_head e k rest h = simple_none e k h rest
