-- The variables that the normal form of a right side names are the node's, at each of its parts.
use Rattle.std.proofs.Common.{sym, subst, ℕ, suc, ◌<◌, Bool, true, false, List, ◌++◌, drop, Option, Some, None}
use Rattle.lus_values.specs.Lists.{Each}
use Rattle.lus_values.specs.declared.test.Test.{Test}
use Rattle.lus_program.specs.Programs.{Expression, literal, variable, operate, pre, arrow, when, merge, call, Operands, none, more, Node, Program, node_at}
use Rattle.lus_streams.specs.Clocks.{Clock, Part, formal_clock, base_of, branch_clock, parts, all_parts}
use Rattle.lus_streams.specs.Equations.{Definition, given_by}
use Rattle.lus_streams.specs.Order.{clock_variables}
use Rattle.lus_streams.proofs.Lists.{each_append, each_implies, each_left, each_map_drop, each_right}
use Rattle.lus_streams.proofs.Definitions.{RightParts}
use Rattle.lus_normal_form.specs.Forms.{Position, Inside, Operand, is_taken}
use Rattle.lus_normal_form.specs.NormalForm.{Stands, IsRight, AreNormal}
use Rattle.lus_normal_form.specs.NormalNodes.{IsDefinition}
use Rattle.lus_normal_form.specs.Named.{GivesOutput, Known, Uses}
use Rattle.lus_normal_form.proofs.Faults.{first_part}
use Rattle.lus_normal_form.proofs.Variables.{formal_variables}
use Rattle.lus_normal_form.proofs.NeedsKnown.{all_needs}

-- any call
abbrev pub AnyCall : (g c n : ℕ) → Type 0
AnyCall g c n = Unit {0}

-- f is a node of p, u the number of the variables of its normal form in p'
module _ (p p' : Program) (f : Node) (u : ℕ) (New : ℕ → Clock → Expression → Type 0) (old : (x : ℕ) → Known f x → x < u) (new : (y : ℕ) (k : Clock) (a : Expression) → New y k a → y < u) where
  abbrev V : ℕ → Type 0
  V y = y < u

  abbrev U : Part → Type 0
  U = Uses (Known f) (GivesOutput p f)

  abbrev pub Named : Part → Type 0
  Named = Uses V AnyCall

  abbrev On : Clock → Type 0
  On k = Each V (clock_variables k)

  abbrev left_of : (xs ys : List Part) → Each U (xs ++ ys) → Each U xs
  left_of = each_left U

  abbrev right_of : (xs ys : List Part) → Each U (xs ++ ys) → Each U ys
  right_of = each_right U

  dropped : (n : ℕ) (k : Clock) → On k → On (drop n k)
  dropped n k on = each_map_drop V (λ (t : Test). t.variable) n k on

  -- on clock k' in the normal form
  one : (b : Bool) (a a' : Expression) (k k' : Clock) → On k' → (IsRight p New a a' k → Each Named (parts p' a' k')) → Stands p New b a a' k (IsRight p New a a' k) → Each Named (parts p' a' k')
  one true a a' k k' on rest is = subst (λ z. Each Named (parts p' z k')) (sym is.1) ((on, new is.0 k a is.2), tt)
  one false a a' k k' on rest is = rest is

  mutual
    right_named : (e e' : Expression) (k k' : Clock) → Each U (parts p e k) → IsRight p New e e' k → On k' → Each Named (parts p' e' k')
    right_named (literal v) e' k k' h is on = subst (λ z. Each Named (parts p' z k')) (sym is) ((on, tt), tt)
    right_named (variable x) e' k k' h is on = subst (λ z. Each Named (parts p' z k')) (sym is) ((on, old x h.0.1), tt)
    right_named (operate o es) e' k k' h is on = subst (λ z. Each Named (parts p' z k')) (sym is.1) ((on, tt), all_named Inside es is.0 (λ m. k) (λ m. k') 0 h.1 is.2 (λ m. on))
    right_named (pre a) e' k k' h is on = subst (λ z. Each Named (parts p' z k')) (sym is.1) ((on, tt), one (is_taken Operand a) a is.0 k k' on (λ r. right_named a is.0 k k' h.1 r on) is.2)
    right_named (arrow a b) e' k k' h is on =
        subst (λ z. Each Named (parts p' z k')) (sym is.2) (
          (on, tt),
          each_append Named (parts p' is.0 k') (parts p' is.1 k')
              (one (is_taken Inside a) a is.0 k k' on (λ r. right_named a is.0 k k' (left_of (parts p a k) (parts p b k) h.1) r on) is.3)
              (one (is_taken Inside b) b is.1 k k' on (λ r. right_named b is.1 k k' (right_of (parts p a k) (parts p b k) h.1) r on) is.4),
        )
    right_named (when t a) e' k k' h is on =
        let below = dropped 1 k' on in
        subst (λ z. Each Named (parts p' z k')) (sym is.1)
        ((on, old t.variable h.0.1), one (is_taken Operand a) a is.0 (drop 1 k) (drop 1 k') below (λ r. right_named a is.0 (drop 1 k) (drop 1 k') h.1 r below) is.2)
    right_named (merge x bs) e' k k' h is on =
        let known = old x h.0.1 in
        subst (λ z. Each Named (parts p' z k')) (sym is.1) ((on, known), all_named Inside bs is.0 (branch_clock x k) (branch_clock x k') 0 h.1 is.2 (λ m. (known, on)))
    right_named (call g c args) e' k k' h is on =
        let ks = formal_clock (node_at p g) args (base_of (node_at p g) k) in
        let base' = base_of (node_at p' g) k' in
        -- the clocks of arguments test variables of all of them
        let known = all_needs p f u New old new Operand args is.0 ks 0 h.1 is.2.1 in
        subst (λ z. Each Named (parts p' z k')) (sym is.1)
        ((on, tt), all_named Operand args is.0 ks (formal_clock (node_at p' g) is.0 base') 0 h.1 is.2.1 (λ m. formal_variables V (node_at p' g) is.0 base' m known (dropped _ k' on)))

    all_named : (here : Position) (es es' : Operands) (ks ks' : ℕ → Clock) (m : ℕ) → Each U (all_parts p es ks m) → AreNormal p New here es es' ks m → ((n : ℕ) → On (ks' n)) → Each Named (all_parts p' es' ks' m)
    all_named here none es' ks ks' m h is on = subst (λ z. Each Named (all_parts p' z ks' m)) (sym is) tt
    all_named here (more e es) es' ks ks' m h is on =
        let rest = all_parts p es ks (suc m) in
        subst (λ z. Each Named (all_parts p' z ks' m)) (sym is.2) (each_append Named (parts p' is.0 (ks' m)) (all_parts p' is.1 ks' (suc m))
        (one (is_taken here e) e is.0 (ks m) (ks' m) (on m) (λ r. right_named e is.0 (ks m) (ks' m) (left_of (parts p e (ks m)) rest h) r (on m)) is.3)
        (all_named here es is.1 ks ks' (suc m) (right_of (parts p e (ks m)) rest h) is.4 on))

  -- a clock of a part of the source tests known variables
  on_of : (e : Expression) (k : Clock) → Each U (parts p e k) → On k
  on_of e k h = each_implies (Known f) V old (clock_variables k) (first_part p U e k h).0

  pub definition_named : (d d' : Option Definition) → RightParts p U d → IsDefinition p New d d' → RightParts p' Named d'
  definition_named None d' h is = subst (RightParts p' Named) (sym is) tt
  definition_named (Some (given_by e n xs k)) d' h is = subst (RightParts p' Named) (sym is.1) (right_named e is.0 k k h is.2 (on_of e k h))
