-- The normal form of an expression has a value wherever it has, part by part, both ways.
use Rattle.std.proofs.Common.{◌≡◌, ℕ, suc, ◌<◌, drop, IsSome, refl, sym, ◌∙◌, subst, IsTrue, Bool, true, false}
use Rattle.lus_program.specs.Programs.{Expression, literal, variable, operate, pre, arrow, when, merge, call, Operands, none, more, Program, node_at}
use Rattle.lus_values.specs.Lists.{Each}
use Rattle.lus_streams.specs.Clocks.{Clock, clock_of, Part, at, formal_clock, base_of, branch_clock, parts, all_parts}
use Rattle.lus_streams.specs.Streams.{Instant, World, is_on, value, HasValue}
use Rattle.lus_normal_form.specs.Forms.{Position, Inside, Operand, is_taken}
use Rattle.lus_normal_form.specs.NormalForm.{Stands, IsRight, AreNormal}
use Rattle.lus_normal_form.specs.Named.{Uses}
use Rattle.lus_streams.proofs.Lists.{each_left, each_right, each_append}
use Rattle.lus_normal_form.proofs.Formals.{SameClocks, clocks_stay, formals_same}
use Rattle.lus_normal_form.proofs.Values.{Keeps, KeepsOver, on_keeps, one, right_value}

-- a part stands first among its sub-expressions
pub first_part : (p : Program) (P : Part → Type 0) (a : Expression) (k : Clock) → Each P (parts p a k) → P (at k a)
first_part p P (literal v) k h = h.0
first_part p P a k h = h.0

module _ (p p' : Program) (V : ℕ → Type 0) (C : (g c n : ℕ) → Type 0) (New : ℕ → Clock → Expression → Type 0)
    (bases : (g c : ℕ) → C g c 0 → (k : Clock) → base_of (node_at p' g) k ≡ base_of (node_at p g) k)
    (formals : (g m : ℕ) → m < (node_at p g).inputs → clock_of (node_at p' g) m ≡ clock_of (node_at p g) m)
    (i i' : Instant) (w w' : World) (l : Keeps p p' V C New i i' w w') (over : KeepsOver p p' V C New w w') where
  abbrev Used : Part → Type 0
  Used = Uses V C

  abbrev Valued : Part → Type 0
  Valued e = HasValue p e i w

  abbrev NormalValued : Part → Type 0
  NormalValued e = HasValue p' e i' w'

  abbrev After : Clock → Expression → Type 0
  After k e = Each NormalValued (parts p' e k)

  pub clock_same : (a : Expression) (k : Clock) → Each Used (parts p a k) → is_on k i ≡ is_on k i'
  clock_same a k u = on_keeps p p' V C New k i i' w w' (first_part p Used a k u).0 l

  -- what stands for an expression has its value
  pub stands_same : (b : Bool) (a a' : Expression) (k : Clock) → Stands p New b a a' k (IsRight p New a a' k) → Each Used (parts p a k) → IsTrue (is_on k i) → value p a k i w ≡ value p' a' k i' w'
  stands_same b a a' k is u t = one p p' V C New b a a' k is i i' w w' l t (λ r n. right_value p p' V C New a r k n u i i' w w' l over t)

  head_to : (b : Bool) (a a' : Expression) (k : Clock) → Stands p New b a a' k (IsRight p New a a' k) → Each Used (parts p a k) → Each Valued (parts p a k) → NormalValued (at k a')
  head_to b a a' k is u h t = let here : IsTrue (is_on k i) = clock_same a k u ∙ t in subst IsSome (stands_same b a a' k is u here) (first_part p Valued a k h here)

  head_from : (a a' : Expression) (k : Clock) → IsRight p New a a' k → Each Used (parts p a k) → NormalValued (at k a') → Valued (at k a)
  head_from a a' k is u h t = subst IsSome (sym (stands_same false a a' k is u t)) (h (sym (clock_same a k u) ∙ t))

  -- a new variable is one part
  one_to : (b : Bool) (a a' : Expression) (k : Clock) → Stands p New b a a' k (IsRight p New a a' k) → Each Used (parts p a k) → Each Valued (parts p a k) → (IsRight p New a a' k → After k a') → After k a'
  one_to true a a' k is u h rest = subst (After k) (sym is.1) (head_to true a (variable is.0) k (is.0, refl, is.2) u h, tt)
  one_to false a a' k is u h rest = rest is

  mutual
    pub right_to : (e e' : Expression) (k : Clock) → Each Used (parts p e k) → Each Valued (parts p e k) → IsRight p New e e' k → After k e'
    right_to (literal v) e' k u h is = subst (After k) (sym is) ((λ t. refl), tt)
    right_to (variable x) e' k u h is = subst (After k) (sym is) (head_to false (variable x) (variable x) k refl u h, tt)
    right_to (operate o es) e' k u h is =
        subst (After k) (sym is.1) (head_to false (operate o es) (operate o is.0) k (is.0, refl, is.2) u h, all_to Inside es is.0 (λ m. k) (λ m. k) 0 (clocks_stay es (λ m. k) 0) is.2 u.1 h.1)
    right_to (pre a) e' k u h is = subst (After k) (sym is.1) (head_to false (pre a) (pre is.0) k (is.0, refl, is.2) u h, one_to (is_taken Operand a) a is.0 k is.2 u.1 h.1 (right_to a is.0 k u.1 h.1))
    right_to (arrow a b) e' k u h is =
        let ua = each_left Used (parts p a k) (parts p b k) u.1 in
        let ub = each_right Used (parts p a k) (parts p b k) u.1 in
        let ha = each_left Valued (parts p a k) (parts p b k) h.1 in
        let hb = each_right Valued (parts p a k) (parts p b k) h.1 in
        subst (After k) (sym is.2) (
          head_to false (arrow a b) (arrow is.0 is.1) k (is.0, is.1, refl, is.3, is.4) u h,
          each_append NormalValued (parts p' is.0 k) (parts p' is.1 k) (one_to (is_taken Inside a) a is.0 k is.3 ua ha (right_to a is.0 k ua ha)) (one_to (is_taken Inside b) b is.1 k is.4 ub hb (right_to b is.1 k ub hb)),
        )
    right_to (when c a) e' k u h is =
        subst (After k) (sym is.1) (head_to false (when c a) (when c is.0) k (is.0, refl, is.2) u h, one_to (is_taken Operand a) a is.0 (drop 1 k) is.2 u.1 h.1 (right_to a is.0 (drop 1 k) u.1 h.1))
    right_to (merge x bs) e' k u h is =
        let ks = branch_clock x k in
        subst (After k) (sym is.1) (head_to false (merge x bs) (merge x is.0) k (is.0, refl, is.2) u h, all_to Inside bs is.0 ks ks 0 (clocks_stay bs ks 0) is.2 u.1 h.1)
    right_to (call g c args) e' k u h is =
        let base = base_of (node_at p g) k in
        let base' = base_of (node_at p' g) k in
        let same = formals_same p p' formals g args is.0 base base' (bases g c u.0.1 k) args 0 is.2.0 in
        subst (After k) (sym is.1) (
          head_to false (call g c args) (call g c is.0) k (is.0, refl, is.2) u h,
          all_to Operand args is.0 (formal_clock (node_at p g) args base) (formal_clock (node_at p' g) is.0 base') 0 same is.2.1 u.1 h.1,
        )

    all_to : (here : Position) (es es' : Operands) (ks ks' : ℕ → Clock) (m : ℕ) → SameClocks es ks ks' m → AreNormal p New here es es' ks m → Each Used (all_parts p es ks m) → Each Valued (all_parts p es ks m)
        → Each NormalValued (all_parts p' es' ks' m)
    all_to here none es' ks ks' m same is u h = subst (λ z. Each NormalValued (all_parts p' z ks' m)) (sym is) tt
    all_to here (more e es) es' ks ks' m same is u h =
        let own = parts p e (ks m) in
        let rest = all_parts p es ks (suc m) in
        let ue = each_left Used own rest u in
        let he = each_left Valued own rest h in
        subst (λ z. Each NormalValued (all_parts p' z ks' m)) (sym is.2)
        (each_append NormalValued (parts p' is.0 (ks' m)) (all_parts p' is.1 ks' (suc m))
        (subst (λ k. After k is.0) (sym same.0) (one_to (is_taken here e) e is.0 (ks m) is.3 ue he (right_to e is.0 (ks m) ue he)))
        (all_to here es is.1 ks ks' (suc m) same.1 is.4 (each_right Used own rest u) (each_right Valued own rest h)))

  -- the other way, where the right side of each new variable has values
  module _ (new_valued : (y : ℕ) (k : Clock) (a : Expression) → New y k a → (e' : Expression) × IsRight p New a e' k × After k e') where
    abbrev Back : Expression → Clock → Type 0
    Back a k = (e' : Expression) → IsRight p New a e' k → After k e' → Each Valued (parts p a k)

    -- from the right side of a new variable, where it has one
    one_from : (b : Bool) (a a' : Expression) (k : Clock) → Stands p New b a a' k (IsRight p New a a' k) → Back a k → After k a' → Each Valued (parts p a k)
    one_from true a a' k is back h = let f = new_valued is.0 k a is.2 in back f.0 f.1 f.2
    one_from false a a' k is back h = back a' is h

    mutual
      pub right_from : (e : Expression) (k : Clock) → Each Used (parts p e k) → Back e k
      right_from (literal v) k u e' is h = ((λ t. refl), tt)
      right_from (variable x) k u e' is h = (head_from (variable x) (variable x) k refl u (subst (After k) is h).0, tt)
      right_from (operate o es) k u e' is h =
          let after = subst (After k) is.1 h in
          (head_from (operate o es) (operate o is.0) k (is.0, refl, is.2) u after.0, all_from Inside es is.0 (λ m. k) (λ m. k) 0 (clocks_stay es (λ m. k) 0) is.2 u.1 after.1)
      right_from (pre a) k u e' is h =
          let after = subst (After k) is.1 h in (head_from (pre a) (pre is.0) k (is.0, refl, is.2) u after.0, one_from (is_taken Operand a) a is.0 k is.2 (right_from a k u.1) after.1)
      right_from (arrow a b) k u e' is h =
          let after = subst (After k) is.2 h in
          let of_a = right_from a k (each_left Used (parts p a k) (parts p b k) u.1) in
          let of_b = right_from b k (each_right Used (parts p a k) (parts p b k) u.1) in (
            head_from (arrow a b) (arrow is.0 is.1) k (is.0, is.1, refl, is.3, is.4) u after.0,
            each_append Valued (parts p a k) (parts p b k)
                (one_from (is_taken Inside a) a is.0 k is.3 of_a (each_left NormalValued (parts p' is.0 k) (parts p' is.1 k) after.1))
                (one_from (is_taken Inside b) b is.1 k is.4 of_b (each_right NormalValued (parts p' is.0 k) (parts p' is.1 k) after.1)),
          )
      right_from (when c a) k u e' is h =
          let after = subst (After k) is.1 h in
          (head_from (when c a) (when c is.0) k (is.0, refl, is.2) u after.0, one_from (is_taken Operand a) a is.0 (drop 1 k) is.2 (right_from a (drop 1 k) u.1) after.1)
      right_from (merge x bs) k u e' is h =
          let ks = branch_clock x k in
          let after = subst (After k) is.1 h in
          (head_from (merge x bs) (merge x is.0) k (is.0, refl, is.2) u after.0, all_from Inside bs is.0 ks ks 0 (clocks_stay bs ks 0) is.2 u.1 after.1)
      right_from (call g c args) k u e' is h =
          let base = base_of (node_at p g) k in
          let base' = base_of (node_at p' g) k in
          let same = formals_same p p' formals g args is.0 base base' (bases g c u.0.1 k) args 0 is.2.0 in
          let after = subst (After k) is.1 h in (
            head_from (call g c args) (call g c is.0) k (is.0, refl, is.2) u after.0,
            all_from Operand args is.0 (formal_clock (node_at p g) args base) (formal_clock (node_at p' g) is.0 base') 0 same is.2.1 u.1 after.1,
          )

      all_from : (here : Position) (es es' : Operands) (ks ks' : ℕ → Clock) (m : ℕ) → SameClocks es ks ks' m → AreNormal p New here es es' ks m → Each Used (all_parts p es ks m)
          → Each NormalValued (all_parts p' es' ks' m) → Each Valued (all_parts p es ks m)
      all_from here none es' ks ks' m same is u h = tt
      all_from here (more e es) es' ks ks' m same is u h =
          let own = parts p e (ks m) in
          let rest = all_parts p es ks (suc m) in
          let after = subst (λ z. Each NormalValued (all_parts p' z ks' m)) is.2 h in
          let own_after = each_left NormalValued (parts p' is.0 (ks' m)) (all_parts p' is.1 ks' (suc m)) after in
          each_append Valued own rest
          (one_from (is_taken here e) e is.0 (ks m) is.3 (right_from e (ks m) (each_left Used own rest u)) (subst (λ k. After k is.0) same.0 own_after))
          (all_from here es is.1 ks ks' (suc m) same.1 is.4 (each_right Used own rest u) (each_right NormalValued (parts p' is.0 (ks' m)) (all_parts p' is.1 ks' (suc m)) after))
