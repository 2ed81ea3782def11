-- The normal form of an expression has its values.
use Rattle.std.proofs.Common.{◌≡◌, ℕ, suc, true, false, Bool, ◌&&◌, List, [], ◌∷◌, drop, Option, Some, refl, sym, ap, ap₂, ◌∙◌, subst, IsTrue}
use Rattle.lus_values.specs.Values.{Value}
use Rattle.lus_program.specs.Programs.{Expression, literal, variable, operate, pre, arrow, when, merge, call, Operands, none, more, Program}
use Rattle.lus_values.specs.Lists.{Each}
use Rattle.lus_values.specs.Operators.{apply}
use Rattle.lus_values.specs.Entries.{is_constructor, with_operand, with_operands}
use Rattle.lus_streams.specs.Clocks.{Clock, Part, branch_clock, parts, all_parts}
use Rattle.lus_streams.specs.Equations.{given_by}
use Rattle.lus_streams.specs.Streams.{Instant, World, is_present, entry, holds, is_on, at_last, output, value, values, branch, definition_value}
use Rattle.lus_streams.specs.Order.{clock_variables}
use Rattle.lus_normal_form.specs.Forms.{Inside, Operand, is_taken}
use Rattle.lus_normal_form.specs.NormalForm.{Stands, IsRight, AreNormal}
use Rattle.lus_normal_form.specs.Named.{Uses}
use Rattle.lus_streams.proofs.Lists.{each_left, each_right}
use Rattle.lus_streams.proofs.NilFree.{and_right}

-- where a clock is present it is without its newest test
on_drop : (k : Clock) (i : Instant) → IsTrue (is_on k i) → IsTrue (is_on (drop 1 k) i)
on_drop [] i h = h
on_drop (t ∷ k) i h = and_right (holds t.variable t.constructor i) (is_on k i) h

-- V: the variables that the source has; C: its calls, with their outputs; New y k a: y is the new variable for a on k
module _ (p p' : Program) (V : ℕ → Type 0) (C : (g c n : ℕ) → Type 0) (New : ℕ → Clock → Expression → Type 0) where
  -- an instant and the normal form's; a new variable holds its expression's value, which may be shown from its right side
  pub record Keeps (i i' : Instant) (w w' : World) : Type 0 where
    pub base : is_present i ≡ is_present i'
    pub entries : (x : ℕ) → V x → entry i x ≡ entry i' x
    pub outputs : (g c n : ℕ) → C g c n → output p g c n i ≡ output p' g c n i'
    pub new : (y : ℕ) (k : Clock) (a : Expression) → New y k a → IsTrue (is_on k i)
        → ((e' : Expression) (xs : List ℕ) → IsRight p New a e' k → value p a k i w ≡ definition_value p' (Some (given_by e' 0 xs k)) i' w')
        → value p a k i w ≡ entry i' y

  -- so at each instant of two pasts
  abbrev pub KeepsOver : World → World → Type 0
  KeepsOver [] [] = Unit {0}
  KeepsOver [] (i' ∷ w') = ⊥
  KeepsOver (i ∷ w) [] = ⊥
  KeepsOver (i ∷ w) (i' ∷ w') = Keeps i i' w w' × KeepsOver w w'

  abbrev Used : Part → Type 0
  Used = Uses V C

  -- a clock of the source's variables is present at both instants or at neither
  pub on_keeps : (k : Clock) (i i' : Instant) (w w' : World) → Each V (clock_variables k) → Keeps i i' w w' → is_on k i ≡ is_on k i'
  on_keeps [] i i' w w' h l = l.base
  on_keeps (t ∷ k) i i' w w' h l = ap₂ ◌&&◌ (ap (is_constructor t.constructor) (l.entries t.variable h.0)) (on_keeps k i i' w w' h.1 l)

  abbrev either : Bool → Option Value → Option Value → Option Value
  either b x d = elim b [ true ↦ x | false ↦ d ]

  -- the last instant of a clock is one in both pasts
  one_on : (b : Bool) (x y d e : Option Value) → (b ≡ true → x ≡ y) → d ≡ e → either b x d ≡ either b y e
  one_on true x y d e f g = f refl
  one_on false x y d e f g = g

  at_last_keeps : (k : Clock) (w w' : World) (d d' : Option Value) (f f' : Instant → World → Option Value) → Each V (clock_variables k) → KeepsOver w w' → d ≡ d'
      → ((i i' : Instant) (b b' : World) → Keeps i i' b b' → KeepsOver b b' → IsTrue (is_on k i) → f i b ≡ f' i' b') → at_last k w d f ≡ at_last k w' d' f'
  at_last_keeps k [] [] d d' f f' h l e g = e
  at_last_keeps k [] (i' ∷ w') d d' f f' h l e g = absurd l
  at_last_keeps k (i ∷ w) [] d d' f f' h l e g = absurd l
  at_last_keeps k (i ∷ w) (i' ∷ w') d d' f f' h l e g =
      one_on (is_on k i) (f i w) (f' i' w') _ _ (λ t. g i i' w w' l.0 l.1 t) (at_last_keeps k w w' d d' f f' h l.1 e g)
      ∙ ap (λ b. either b (f' i' w') (at_last k w' d' f')) (on_keeps k i i' w w' h l.0)

  -- output 0 of an expression is its value
  pub first_value : (e : Expression) (xs : List ℕ) (k : Clock) (i : Instant) (w : World) → definition_value p' (Some (given_by e 0 xs k)) i w ≡ value p' e k i w
  first_value (call g c args) xs k i w = refl
  first_value _ xs k i w = refl

  -- each output of what is no call is its value
  abbrev IsPlain : Expression → Type 0
  IsPlain (call g c args) = ⊥
  IsPlain _ = Unit {0}

  abbrev GivesValue : Expression → ℕ → List ℕ → Clock → Instant → World → Type 0
  GivesValue e n xs k i w = definition_value p' (Some (given_by e n xs k)) i w ≡ value p' e k i w

  pub plain_value : (e e' : Expression) (n : ℕ) (xs : List ℕ) (k : Clock) (i' : Instant) (w' : World) → IsPlain e → IsRight p New e e' k → GivesValue e' n xs k i' w'
  plain_value (call g c args) e' n xs k i' w' h is = absurd h
  plain_value (literal v) e' n xs k i' w' h is = subst (λ z. GivesValue z n xs k i' w') (sym is) refl
  plain_value (variable x) e' n xs k i' w' h is = subst (λ z. GivesValue z n xs k i' w') (sym is) refl
  plain_value (arrow a b) e' n xs k i' w' h is = subst (λ z. GivesValue z n xs k i' w') (sym is.2) refl
  plain_value e e' n xs k i' w' h is = subst (λ z. GivesValue z n xs k i' w') (sym is.1) refl

  abbrev Same : Expression → Expression → Clock → Instant → Instant → World → World → Type 0
  Same e e' k i i' w w' = value p e k i w ≡ value p' e' k i' w'

  -- what stands for an expression has its value, where its form has
  pub one : (b : Bool) (a a' : Expression) (k : Clock) → Stands p New b a a' k (IsRight p New a a' k) → (i i' : Instant) (w w' : World) → Keeps i i' w w' → IsTrue (is_on k i)
      → ((e' : Expression) → IsRight p New a e' k → Same a e' k i i' w w') → Same a a' k i i' w w'
  one true a a' k is i i' w w' l t same = l.new is.0 k a is.2 t (λ e' xs r. same e' r ∙ sym (first_value e' xs k i' w')) ∙ ap (λ z. value p' z k i' w') (sym is.1)
  one false a a' k is i i' w w' l t same = same a' is

  mutual
    pub right_value : (e e' : Expression) (k : Clock) → IsRight p New e e' k → Each Used (parts p e k) → (i i' : Instant) (w w' : World) → Keeps i i' w w' → KeepsOver w w' → IsTrue (is_on k i) → Same e e' k i i' w w'
    right_value (literal v) e' k is u i i' w w' l over t = ap (λ z. value p' z k i' w') (sym is)
    right_value (variable x) e' k is u i i' w w' l over t = l.entries x u.0.1 ∙ ap (λ z. value p' z k i' w') (sym is)
    right_value (operate o es) e' k is u i i' w w' l over t = ap (with_operands (apply o)) (normal_values es is.0 k 0 is.2 u.1 i i' w w' l over t) ∙ ap (λ z. value p' z k i' w') (sym is.1)
    right_value (pre a) e' k is u i i' w w' l over t =
        at_last_keeps k w w' _ _ _ _ u.0.0 over refl
        (λ j j' b b' lj lb tj. one (is_taken Operand a) a is.0 k is.2 j j' b b' lj tj (λ r n. right_value a r k n u.1 j j' b b' lj lb tj))
        ∙ ap (λ z. value p' z k i' w') (sym is.1)
    right_value (arrow a b) e' k is u i i' w w' l over t =
        let first = one (is_taken Inside a) a is.0 k is.3 i i' w w' l t (λ r n. right_value a r k n (each_left Used (parts p a k) (parts p b k) u.1) i i' w w' l over t) in
        let later = one (is_taken Inside b) b is.1 k is.4 i i' w w' l t (λ r n. right_value b r k n (each_right Used (parts p a k) (parts p b k) u.1) i i' w w' l over t) in
        at_last_keeps k w w' _ _ _ _ u.0.0 over first (λ _ _ _ _ _ _ _. later) ∙ ap (λ z. value p' z k i' w') (sym is.2)
    right_value (when c a) e' k is u i i' w w' l over t =
        let on_rest = on_drop k i t in
        one (is_taken Operand a) a is.0 (drop 1 k) is.2 i i' w w' l on_rest (λ r n. right_value a r (drop 1 k) n u.1 i i' w w' l over on_rest) ∙ ap (λ z. value p' z k i' w') (sym is.1)
    right_value (merge x bs) e' k is u i i' w w' l over t = normal_branch bs is.0 x 0 k is.2 u.0.1 u.1 i i' w w' l over t ∙ ap (λ z. value p' z k i' w') (sym is.1)
    right_value (call g c args) e' k is u i i' w w' l over t = l.outputs g c 0 u.0.1 ∙ ap (λ z. value p' z k i' w') (sym is.1)

    normal_values : (es es' : Operands) (k : Clock) (m : ℕ) → AreNormal p New Inside es es' (λ m. k) m → Each Used (all_parts p es (λ m. k) m) → (i i' : Instant) (w w' : World) → Keeps i i' w w' → KeepsOver w w' → IsTrue (is_on k i)
        → values p es k i w ≡ values p' es' k i' w'
    normal_values none es' k m is u i i' w w' l over t = ap (λ z. values p' z k i' w') (sym is)
    normal_values (more e es) es' k m is u i i' w w' l over t =
        let rest = all_parts p es (λ m. k) (suc m) in
        ap₂ with_operand
        (one (is_taken Inside e) e is.0 k is.3 i i' w w' l t (λ r n. right_value e r k n (each_left Used (parts p e k) rest u) i i' w w' l over t))
        (normal_values es is.1 k (suc m) is.4 (each_right Used (parts p e k) rest u) i i' w w' l over t)
        ∙ ap (λ z. values p' z k i' w') (sym is.2)

    normal_branch : (es es' : Operands) (x c : ℕ) (k : Clock) → AreNormal p New Inside es es' (branch_clock x k) c → V x → Each Used (all_parts p es (branch_clock x k) c)
        → (i i' : Instant) (w w' : World) → Keeps i i' w w' → KeepsOver w w' → IsTrue (is_on k i) → branch p es x c k i w ≡ branch p' es' x c k i' w'
    normal_branch none es' x c k is vx u i i' w w' l over t = ap (λ z. branch p' z x c k i' w') (sym is)
    normal_branch (more e es) es' x c k is vx u i i' w w' l over t =
        let k' = branch_clock x k c in
        let rest = all_parts p es (branch_clock x k) (suc c) in
        let here = λ (t' : IsTrue (is_on k' i)). one (is_taken Inside e) e is.0 k' is.3 i i' w w' l t' (λ r n. right_value e r k' n (each_left Used (parts p e k') rest u) i i' w w' l over t') in
        let others = normal_branch es is.1 x (suc c) k is.4 vx (each_right Used (parts p e k') rest u) i i' w w' l over t in
        one_on (holds x c i) _ _ _ _ (λ h. here (ap₂ ◌&&◌ h t)) others
        ∙ ap (λ b. either b (value p' is.0 k' i' w') (branch p' is.1 x (suc c) k i' w')) (ap (is_constructor c) (l.entries x vx))
        ∙ ap (λ z. branch p' z x c k i' w') (sym is.2)
