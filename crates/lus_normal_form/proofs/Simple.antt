-- The shape of a normal form: operands are literals or variables, and calls are whole right sides.
use Rattle.std.proofs.Common.{ℕ, suc, ◌<◌, List, [], ◌∷◌, length, drop, Option, Some, None, sym, subst, ⊎_elim}
use Rattle.std.proofs.lemmas.Bool.{cases_lt}
use Rattle.lus_values.specs.Lists.{item}
use Rattle.lus_program.specs.Programs.{Expression, literal, variable, operate, pre, arrow, when, merge, call, Operands, none, more, Equation, Node, Program, node_at}
use Rattle.lus_streams.specs.Clocks.{Clock, Part, formal_clock, base_of, branch_clock}
use Rattle.lus_streams.specs.Equations.{Definition, given_by, definition_of}
use Rattle.lus_streams.proofs.Lists.{each_implies, below_at}
use Rattle.lus_normal_form.specs.Forms.{Position, Inside, Operand, is_taken}
use Rattle.lus_normal_form.specs.NormalForm.{StandsFor, Stands, IsRight, AreNormal, IsAtom, AreAtoms, IsSimple, AreSimple, IsSimpleRight}
use Rattle.lus_normal_form.specs.Named.{Known, DefinesFirst}
use Rattle.lus_normal_form.specs.NormalNodes.{IsDefinition, DefinesNew, IsNormalNode}
use Rattle.lus_normal_form.specs.Laws.{NormalIsSimple}
use Rattle.lus_normal_form.proofs.NewParts.{new_fact, new_at}

simple_right : (e : Expression) → IsSimple e → IsSimpleRight e
simple_right (call g c args) h = absurd h
simple_right _ h = h

-- what defines a variable
abbrev SimplyDefined : Option Definition → Type 0
SimplyDefined None = Unit {0}
SimplyDefined (Some (given_by e n xs k)) = IsSimpleRight e

module _ (p : Program) (New : ℕ → Clock → Expression → Type 0) where
  abbrev Normal : Position → Expression → Expression → Clock → Type 0
  Normal here e e' k = Stands p New (is_taken here e) e e' k (IsRight p New e e' k)

  operand_atom : (a a' : Expression) (k : Clock) → Normal Operand a a' k → IsAtom a'
  operand_atom (literal v) a' k h = subst IsAtom (sym h) tt
  operand_atom (variable x) a' k h = subst IsAtom (sym h) tt
  operand_atom a a' k h = subst IsAtom (sym h.1) tt

  mutual
    pub inner_simple : (e e' : Expression) (k : Clock) → Normal Inside e e' k → IsSimple e'
    inner_simple (literal v) e' k h = subst IsSimple (sym h) tt
    inner_simple (variable x) e' k h = subst IsSimple (sym h) tt
    inner_simple (operate o es) e' k h = subst IsSimple (sym h.1) (inners_simple es h.0 (λ m. k) 0 h.2)
    inner_simple (pre a) e' k h = subst IsSimple (sym h.1) (operand_atom a h.0 k h.2)
    inner_simple (arrow a b) e' k h = subst IsSimple (sym h.2) (inner_simple a h.0 k h.3, inner_simple b h.1 k h.4)
    inner_simple (when t a) e' k h = subst IsSimple (sym h.1) (operand_atom a h.0 (drop 1 k) h.2)
    inner_simple (merge x bs) e' k h = subst IsSimple (sym h.1) (inners_simple bs h.0 (branch_clock x k) 0 h.2)
    inner_simple (call g c args) e' k h = subst IsSimple (sym h.1) tt

    inners_simple : (es es' : Operands) (ks : ℕ → Clock) (m : ℕ) → AreNormal p New Inside es es' ks m → AreSimple es'
    inners_simple none es' ks m h = subst AreSimple (sym h) tt
    inners_simple (more e es) es' ks m h = subst AreSimple (sym h.2) (inner_simple e h.0 (ks m) h.3, inners_simple es h.1 ks (suc m) h.4)

  operands_atoms : (es es' : Operands) (ks : ℕ → Clock) (m : ℕ) → AreNormal p New Operand es es' ks m → AreAtoms es'
  operands_atoms none es' ks m h = subst AreAtoms (sym h) tt
  operands_atoms (more e es) es' ks m h = subst AreAtoms (sym h.2) (operand_atom e h.0 (ks m) h.3, operands_atoms es h.1 ks (suc m) h.4)

  right_simple : (e e' : Expression) (k : Clock) → IsRight p New e e' k → IsSimpleRight e'
  right_simple (call g c args) e' k h = subst IsSimpleRight (sym h.1) (operands_atoms args h.0 (formal_clock (node_at p g) args (base_of (node_at p g) k)) 0 h.2.1)
  right_simple (literal v) e' k h = simple_right e' (inner_simple (literal v) e' k h)
  right_simple e e' k h = simple_right e' (inner_simple e e' k h)

  definition_simple : (d d' : Option Definition) → IsDefinition p New d d' → SimplyDefined d'
  definition_simple None d' h = subst SimplyDefined (sym h) tt
  definition_simple (Some (given_by e n xs k)) d' h = subst SimplyDefined (sym h.1) (right_simple e h.0 k h.2)

module _ (p p' : Program) (f f' : Node) (new_parts : List Part) (normal : IsNormalNode p p' f f' new_parts) where
  abbrev New : ℕ → Clock → Expression → Type 0
  New = StandsFor (length f.variables) new_parts

  variable_simple : (x : ℕ) → Known f' x → SimplyDefined (definition_of f' x)
  variable_simple x lt =
      ⊎_elim
      (λ old. definition_simple p New (definition_of f x) (definition_of f' x) (below_at (λ y. IsDefinition p New (definition_of f y) (definition_of f' y)) (length f.variables) normal.definitions x old))
      (λ ge.
      let found = new_at (length f.variables) new_parts x ge (subst (λ n. x < n) normal.width lt) in
      let defined = (new_fact (DefinesNew p f' New) (length f.variables) new_parts normal.new_definitions x found.0 found.1 found.2).1 in
      definition_simple p New (Some (given_by found.1 0 (x ∷ []) found.0)) (definition_of f' x) defined)
      (cases_lt x (length f.variables))

  equation_simple : (q : Equation) → DefinesFirst f' q → IsSimpleRight q.right
  equation_simple q h = subst SimplyDefined h.1 (variable_simple (item 0 q.targets 0) h.0)

pub normal_is_simple : NormalIsSimple
normal_is_simple p p' f f' new_parts normal = each_implies (DefinesFirst f') (λ q. IsSimpleRight q.right) (equation_simple p p' f f' new_parts normal) f'.equations normal.equations
