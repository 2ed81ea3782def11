-- A value depends on the variables in use alone: two worlds, also of two programs, that agree on these give one value.
use Rattle.std.proofs.Common.{◌≡◌, ℕ, suc, true, false, ◌&&◌, [], ◌∷◌, drop, Option, refl, ap, ap₂}
use Rattle.lus_values.specs.Values.{Value}
use Rattle.lus_program.specs.Programs.{Expression, literal, variable, operate, pre, arrow, when, merge, call, Operands, none, more, Program}
use Rattle.lus_values.specs.Lists.{Each}
use Rattle.lus_values.specs.Operators.{apply}
use Rattle.lus_values.specs.Entries.{is_constructor, with_operand, with_operands}
use Rattle.lus_streams.specs.Clocks.{Clock, Part, at, branch_clock, parts, all_parts}
use Rattle.lus_streams.specs.Streams.{Instant, World, is_present, entry, is_on, at_last, output, value, values, branch}
use Rattle.lus_streams.specs.Order.{clock_variables}
use Rattle.lus_streams.proofs.Lists.{each_left, each_right}

module _ (p p' : Program) (V : ℕ → Type 0) (C : (g c : ℕ) → Type 0) where
  pub record Like (i i' : Instant) : Type 0 where
    pub base : is_present i ≡ is_present i'
    pub entries : (x : ℕ) → V x → entry i x ≡ entry i' x
    pub outputs : (g c n : ℕ) → C g c → output p g c n i ≡ output p' g c n i'

  abbrev pub LikeOver : World → World → Type 0
  LikeOver [] [] = Unit {0}
  LikeOver [] (i' ∷ w') = ⊥
  LikeOver (i ∷ w) [] = ⊥
  LikeOver (i ∷ w) (i' ∷ w') = Like i i' × LikeOver w w'

  abbrev Names : Expression → Type 0
  Names (variable x) = V x
  Names (merge x bs) = V x
  Names (call g c args) = C g c
  Names _ = Unit {0}

  -- the variables of a part and of its clock are in use, and its call
  abbrev pub Uses : Part → Type 0
  Uses (at k e) = Each V (clock_variables k) × Names e

  on_like : (k : Clock) (i i' : Instant) → Each V (clock_variables k) → Like i i' → is_on k i ≡ is_on k i'
  on_like [] i i' h l = l.base
  on_like (t ∷ k) i i' h l = ap₂ ◌&&◌ (ap (is_constructor t.constructor) (l.entries t.variable h.0)) (on_like k i i' h.1 l)

  at_last_like : (k : Clock) (w w' : World) (d d' : Option Value) (f f' : Instant → World → Option Value) → Each V (clock_variables k) → LikeOver w w' → d ≡ d'
      → ((i i' : Instant) (b b' : World) → Like i i' → LikeOver b b' → f i b ≡ f' i' b') → at_last k w d f ≡ at_last k w' d' f'
  at_last_like k [] [] d d' f f' h l e g = e
  at_last_like k [] (i' ∷ w') d d' f f' h l e g = absurd l
  at_last_like k (i ∷ w) [] d d' f f' h l e g = absurd l
  at_last_like k (i ∷ w) (i' ∷ w') d d' f f' h l e g =
      let o = on_like k i i' h l.0 in
      let here = g i i' w w' l.0 l.1 in
      let rest = at_last_like k w w' d d' f f' h l.1 e g in
      λ j. elim (o j) [ true ↦ here j | false ↦ rest j ]

  mutual
    pub value_like : (e : Expression) (k : Clock) → Each Uses (parts p e k) → (i i' : Instant) (w w' : World) → Like i i' → LikeOver w w' → value p e k i w ≡ value p' e k i' w'
    value_like (literal v) k u i i' w w' l lw = refl
    value_like (variable x) k u i i' w w' l lw = l.entries x u.0.1
    value_like (operate o es) k u i i' w w' l lw = ap (with_operands (apply o)) (values_like es k 0 u.1 i i' w w' l lw)
    value_like (pre a) k u i i' w w' l lw = at_last_like k w w' _ _ _ _ u.0.0 lw refl (value_like a k u.1)
    value_like (arrow a b) k u i i' w w' l lw =
        let b' = value_like b k (each_right Uses (parts p a k) (parts p b k) u.1) i i' w w' l lw in
        at_last_like k w w' _ _ _ _ u.0.0 lw (value_like a k (each_left Uses (parts p a k) (parts p b k) u.1) i i' w w' l lw) (λ _ _ _ _ _ _. b')
    value_like (when t a) k u i i' w w' l lw = value_like a (drop 1 k) u.1 i i' w w' l lw
    value_like (merge x bs) k u i i' w w' l lw = branch_like bs x 0 k u.0.1 u.1 i i' w w' l lw
    value_like (call g c args) k u i i' w w' l lw = l.outputs g c 0 u.0.1

    values_like : (es : Operands) (k : Clock) (m : ℕ) → Each Uses (all_parts p es (λ n. k) m) → (i i' : Instant) (w w' : World) → Like i i' → LikeOver w w' → values p es k i w ≡ values p' es k i' w'
    values_like none k m u i i' w w' l lw = refl
    values_like (more e es) k m u i i' w w' l lw =
        let rest = all_parts p es (λ n. k) (suc m) in
        ap₂ with_operand (value_like e k (each_left Uses (parts p e k) rest u) i i' w w' l lw) (values_like es k (suc m) (each_right Uses (parts p e k) rest u) i i' w w' l lw)

    branch_like : (es : Operands) (x c : ℕ) (k : Clock) → V x → Each Uses (all_parts p es (branch_clock x k) c) → (i i' : Instant) (w w' : World) → Like i i' → LikeOver w w' → branch p es x c k i w ≡ branch p' es x c k i' w'
    branch_like none x c k vx u i i' w w' l lw = refl
    branch_like (more e es) x c k vx u i i' w w' l lw =
        let k' = branch_clock x k c in
        let rest = all_parts p es (branch_clock x k) (suc c) in
        let here = value_like e k' (each_left Uses (parts p e k') rest u) i i' w w' l lw in
        let others = branch_like es x (suc c) k vx (each_right Uses (parts p e k') rest u) i i' w w' l lw in
        let o = l.entries x vx in
        λ j. elim (is_constructor c (o j)) [ true ↦ here j | false ↦ others j ]
