-- An order of a node gives one of its normal form: a new variable stands right before its user, one under `pre` last.
use Rattle.std.proofs.Common.{◌≡◌, ℕ, zero, suc, ◌+◌, ◌<◌, ◌≤◌, nat_eq, true, false, Bool, ◌||◌, List, [], ◌∷◌, ◌++◌, length, drop, Option, Some, None, refl, sym, ap, subst, IsTrue, arith, ⊎_elim, eq-or-lt_of_le}
use Rattle.std.proofs.lemmas.Bool.{cases_lt, eq-eqb}
use Rattle.lus_values.specs.Lists.{Each}
use Rattle.lus_values.proofs.Lists.{below_all}
use Rattle.lus_program.specs.Programs.{Expression, literal, variable, operate, pre, arrow, when, merge, call, Operands, none, more, Node, Program, node_at}
use Rattle.lus_streams.specs.Clocks.{renamed_clock, Clock, clock_of, Part, formal_clock, base_of, branch_clock}
use Rattle.lus_streams.specs.Equations.{Definition, given_by, definition_of}
use Rattle.lus_streams.specs.OnClock.{actuals, DefinedOnClock, IsOnClocks}
use Rattle.lus_streams.specs.Order.{needs, needs_all, clock_variables, needs_right, needed, is_in, HasNeedsFirst, HasOrder}
use Rattle.lus_streams.proofs.Definitions.{RightParts, right_parts, defined_on_clock}
use Rattle.lus_streams.proofs.Lists.{each_left, each_right, each_append, each_both, each_implies, each_map_right, each_map_drop, each_in, below_at}
use Rattle.lus_normal_form.specs.Forms.{Position, Inside, Operand, is_taken}
use Rattle.lus_normal_form.specs.NormalForm.{StandsFor, Stands, IsRight, AreNormal}
use Rattle.lus_normal_form.specs.Named.{Uses, Known, GivesOutput, AreNamed}
use Rattle.lus_normal_form.specs.NormalNodes.{IsDefinition, IsNormalOf}
use Rattle.lus_normal_form.specs.Laws.{NormalHasOrder}
use Rattle.lus_normal_form.proofs.Variables.{formal_variables, needs_known}
use Rattle.lus_normal_form.proofs.NewParts.{new_at}
use Rattle.lus_normal_form.proofs.Faults.{first_part}
use Rattle.lus_normal_form.proofs.Equations.{new_uses, new_defined, new_clock, old_defined, old_clock}

in_first : (x : ℕ) (xs : List ℕ) → IsTrue (is_in (x ∷ xs) x)
in_first x xs = ap (λ b. b || is_in xs x) (eq-eqb x x refl)

in_later : (y : ℕ) (xs : List ℕ) (x : ℕ) → IsTrue (is_in xs x) → IsTrue (is_in (y ∷ xs) x)
in_later y xs x h = or_second (nat_eq x y) (is_in xs x) h
  where
    or_second : (b c : Bool) → c ≡ true → (b || c) ≡ true
    or_second true c h = refl
    or_second false c h = h

module _ (p p' : Program) (new_parts : ℕ → List Part) (named : AreNamed p) (normal : IsNormalOf p p' new_parts) (f : ℕ) where
  abbrev node : Node
  node = node_at p f

  abbrev node' : Node
  node' = node_at p' f

  abbrev New : ℕ → Clock → Expression → Type 0
  New = StandsFor (length node.variables) (new_parts f)

  abbrev Used : Part → Type 0
  Used = Uses (Known node) (GivesOutput p node)

  abbrev In : List ℕ → ℕ → Type 0
  In done x = IsTrue (is_in done x)

  -- an order that goes on from one and has these variables too
  pub record Grown (done xs : List ℕ) : Type 0 where
    pub all : List ℕ
    pub first : HasNeedsFirst node' all
    pub begun : (x : ℕ) → In done x → In all x
    pub has : Each (In all) xs

  still : (done : List ℕ) (xs : List ℕ) (ys : List ℕ) (g : Grown done xs) → Each (In done) ys → Each (In g.all) ys
  still done xs ys g h = each_implies (In done) (In g.all) g.begun ys h

  same : (done xs : List ℕ) → HasNeedsFirst node' done → Each (In done) xs → Grown done xs
  same done xs h has = record { all = done; first = h; begun = λ x i. i; has = has }

  one_more : (done xs : List ℕ) (y : ℕ) (g : Grown done xs) → Each (In g.all) (needed node' y) → Grown done (y ∷ [])
  one_more done xs y g h = record { all = y ∷ g.all; first = (h, g.first); begun = λ x i. in_later y g.all x (g.begun x i); has = (in_first y g.all, tt) }

  both : (done xs ys : List ℕ) (g : Grown done xs) → Grown g.all ys → Grown done (xs ++ ys)
  both done xs ys g k = record { all = k.all; first = k.first; begun = λ x i. k.begun x (g.begun x i); has = each_append (In k.all) xs ys (still g.all ys xs k g.has) k.has }

  add_new : (y : ℕ) (k : Clock) (a : Expression) → New y k a → (done : List ℕ) → Each (In done) (clock_variables k) → ((e' : Expression) → IsRight p New a e' k → Grown done (needs e')) → Grown done (y ∷ [])
  add_new y k a s done hk grow =
      let d = new_defined p p' new_parts named normal f y k a s in
      let g = grow d.0 d.2 in
      one_more done (needs d.0) y g
      (each_append (In g.all) (clock_variables (clock_of node' y)) (needs_right (definition_of node' y))
      (subst (λ z. Each (In g.all) (clock_variables z)) (sym (new_clock p p' new_parts named normal f y k a s)) (still done (needs d.0) (clock_variables k) g hk))
      (subst (λ z. Each (In g.all) (needs_right z)) (sym d.1) g.has))

  abbrev Grows : Expression → Clock → List ℕ → Type 0
  Grows a k done = (e' : Expression) → IsRight p New a e' k → Grown done (needs e')

  one : (b : Bool) (a a' : Expression) (k : Clock) → Stands p New b a a' k (IsRight p New a a' k) → (done : List ℕ) → Each (In done) (clock_variables k) → Grows a k done → Grown done (needs a')
  one true a a' k is done hk grow = subst (λ z. Grown done (needs z)) (sym is.1) (add_new is.0 k a is.2 done hk grow)
  one false a a' k is done hk grow = grow a' is

  with_first : (done : List ℕ) (x : ℕ) (xs : List ℕ) → In done x → Grown done xs → Grown done (x ∷ xs)
  with_first done x xs h g = record { all = g.all; first = g.first; begun = g.begun; has = (g.begun x h, g.has) }

  mutual
    right_grown : (e e' : Expression) (k : Clock) → IsRight p New e e' k → (done : List ℕ) → HasNeedsFirst node' done → Each (In done) (needs e) → Each (In done) (clock_variables k) → Grown done (needs e')
    right_grown (literal v) e' k is done h hn hk = subst (λ z. Grown done (needs z)) (sym is) (same done [] h tt)
    right_grown (variable x) e' k is done h hn hk = subst (λ z. Grown done (needs z)) (sym is) (same done (x ∷ []) h hn)
    right_grown (operate o es) e' k is done h hn hk = subst (λ z. Grown done (needs z)) (sym is.1) (operands_grown Inside es is.0 (λ m. k) 0 is.2 done h hn (λ m. hk))
    right_grown (pre a) e' k is done h hn hk = subst (λ z. Grown done (needs z)) (sym is.1) (same done [] h tt)
    right_grown (arrow a b) e' k is done h hn hk =
        let first = one (is_taken Inside a) a is.0 k is.3 done hk (λ r n. right_grown a r k n done h (each_left (In done) (needs a) (needs b) hn) hk) in
        let inner = still done (needs is.0) (clock_variables k) first hk in
        let later = one (is_taken Inside b) b is.1 k is.4 first.all inner (λ r n. right_grown b r k n first.all first.first (still done (needs is.0) (needs b) first (each_right (In done) (needs a) (needs b) hn)) inner) in
        subst (λ z. Grown done (needs z)) (sym is.2) (both done (needs is.0) (needs is.1) first later)
    right_grown (when t a) e' k is done h hn hk =
        let inner = each_map_drop (In done) (λ t. t.variable) 1 k hk in
        subst (λ z. Grown done (needs z)) (sym is.1)
        (with_first done t.variable (needs is.0) hn.0 (one (is_taken Operand a) a is.0 (drop 1 k) is.2 done inner (λ r n. right_grown a r (drop 1 k) n done h hn.1 inner)))
    right_grown (merge x bs) e' k is done h hn hk =
        subst (λ z. Grown done (needs z)) (sym is.1) (with_first done x (needs_all is.0) hn.0 (operands_grown Inside bs is.0 (branch_clock x k) 0 is.2 done h hn.1 (λ m. (hn.0, hk))))
    right_grown (call g c args) e' k is done h hn hk =
        let base = base_of (node_at p g) k in
        let hb = each_map_drop (In done) (λ t. t.variable) _ k hk in
        subst (λ z. Grown done (needs z)) (sym is.1)
        (operands_grown Operand args is.0 (formal_clock (node_at p g) args base) 0 is.2.1 done h hn (λ m. formal_variables (In done) (node_at p g) args base m hn hb))

    operands_grown : (here : Position) (es es' : Operands) (ks : ℕ → Clock) (m : ℕ) → AreNormal p New here es es' ks m → (done : List ℕ) → HasNeedsFirst node' done → Each (In done) (needs_all es)
        → ((n : ℕ) → Each (In done) (clock_variables (ks n))) → Grown done (needs_all es')
    operands_grown here none es' ks m is done h hn hks = subst (λ z. Grown done (needs_all z)) (sym is) (same done [] h tt)
    operands_grown here (more e es) es' ks m is done h hn hks =
        let k = ks m in
        let first = one (is_taken here e) e is.0 k is.3 done (hks m) (λ r n. right_grown e r k n done h (each_left (In done) (needs e) (needs_all es) hn) (hks m)) in
        let later = operands_grown here es is.1 ks (suc m) is.4 first.all first.first (still done (needs is.0) (needs_all es) first (each_right (In done) (needs e) (needs_all es) hn)) (λ n. still done (needs is.0) (clock_variables (ks n)) first (hks n)) in
        subst (λ z. Grown done (needs_all z)) (sym is.2) (both done (needs is.0) (needs_all is.1) first later)

  -- an old variable after what it needs
  definition_grown : (x : ℕ) (d d' : Option Definition) → IsDefinition p New d d' → DefinedOnClock p node x d → (done : List ℕ) → HasNeedsFirst node' done → Each (In done) (clock_variables (clock_of node x)) → Each (In done) (needs_right d) → Grown done (needs_right d')
  definition_grown x None d' is on done h hk hn = subst (λ z. Grown done (needs_right z)) (sym is) (same done [] h tt)
  definition_grown x (Some (given_by (call g c args) n xs k)) d' is on done h hk hn =
      let base = base_of (node_at p g) k in
      let front = renamed_clock (actuals args xs) (clock_of (node_at p g) ((node_at p g).inputs + n)) in
      let hb = each_map_right (In done) (λ t. t.variable) front base (subst (λ j. Each (In done) (clock_variables j)) on.0 hk) in
      subst (λ z. Grown done (needs_right z)) (sym is.1)
      (subst (λ z. Grown done (needs z)) (sym is.2.1) (operands_grown Operand args is.2.0 (formal_clock (node_at p g) args base) 0 is.2.2.1 done h hn (λ m. formal_variables (In done) (node_at p g) args base m hn hb)))
  definition_grown x (Some (given_by e n xs k)) d' is on done h hk hn =
      subst (λ z. Grown done (needs_right z)) (sym is.1) (right_grown e is.0 k is.2 done h hn (subst (λ j. Each (In done) (clock_variables j)) on hk))

  module _ (clocks : IsOnClocks p node) where
    -- an old variable that f has
    old_grown : (x : ℕ) → x < length node.variables → (done : List ℕ) → HasNeedsFirst node' done → Each (In done) (needed node x) → Grown done (x ∷ [])
    old_grown x lt done h hn =
        let vs = clock_variables (clock_of node x) in
        let hk = each_left (In done) vs (needs_right (definition_of node x)) hn in
        let g = definition_grown x (definition_of node x) (definition_of node' x) (old_defined p p' new_parts named normal f x lt) (defined_on_clock p node x clocks) done h hk (each_right (In done) vs (needs_right (definition_of node x)) hn) in
        one_more done (needs_right (definition_of node' x)) x g
        (each_append (In g.all) (clock_variables (clock_of node' x)) (needs_right (definition_of node' x))
        (subst (λ z. Each (In g.all) (clock_variables z)) (sym (old_clock p p' new_parts named normal f x lt)) (still done (needs_right (definition_of node' x)) vs g hk))
        g.has)

    -- an order of the normal form has the known variables of these
    pub record OldGrown (order : List ℕ) : Type 0 where
      pub all : List ℕ
      pub first : HasNeedsFirst node' all
      pub has : Each (λ x. Known node x → In all x) order

    definition_known : (d : Option Definition) → RightParts p Used d → Each (Known node) (needs_right d)
    definition_known None u = tt
    definition_known (Some (given_by e n xs k)) u = needs_known p (Known node) (GivesOutput p node) e k u

    needed_known : (x : ℕ) → Known node x → Each (Known node) (needed node x)
    needed_known x lt =
        each_append (Known node) (clock_variables (clock_of node x)) (needs_right (definition_of node x))
        (below_at (λ y. Each (Known node) (clock_variables (clock_of node y))) (length node.variables) (named f).clocks x lt)
        (definition_known (definition_of node x) (right_parts p Used node node.equations x (named f).uses))

    -- the old variables in their order, each after the new ones that it needs
    old_added : (x : ℕ) (earlier : List ℕ) → Each (In earlier) (needed node x) → OldGrown earlier → Known node x → OldGrown (x ∷ earlier)
    old_added x earlier h g lt =
        let known = each_both (In earlier) (Known node) (needed node x) h (needed_known x lt) in
        let before = each_implies (λ y. In earlier y × Known node y) (In g.all) (λ y i. each_in (λ z. Known node z → In g.all z) earlier g.has y i.0 i.1) (needed node x) known in
        let r = old_grown x lt g.all g.first before in
        record { all = r.all; first = r.first; has = ((λ _. r.has.0), each_implies (λ y. Known node y → In g.all y) (λ y. Known node y → In r.all y) (λ y i kn. r.begun y (i kn)) earlier g.has) }

    olds_grown : (order : List ℕ) → HasNeedsFirst node order → OldGrown order
    olds_grown [] h = record { all = []; first = tt; has = tt }
    olds_grown (x ∷ earlier) h =
        let g = olds_grown earlier h.1 in
        ⊎_elim (old_added x earlier h.0 g)
        (λ ge. record { all = g.all; first = g.first; has = ((λ lt. let wrong : ⊥ = omega (arith, ge, lt) in absurd wrong), g.has) })
        (cases_lt x (length node.variables))

    -- then each new variable, once all old ones stand
    new_grown : (y : ℕ) (k : Clock) (a : Expression) → New y k a → (done : List ℕ) → HasNeedsFirst node' done → ((x : ℕ) → Known node x → In done x) → Grown done (y ∷ [])
    new_grown y k a s done h olds =
        let u = new_uses p p' new_parts named normal f y k a s in
        let hk = each_implies (Known node) (In done) olds (clock_variables k) (first_part p Used a k u).0 in
        add_new y k a s done hk (λ r n. right_grown a r k n done h (each_implies (Known node) (In done) olds (needs a) (needs_known p (Known node) (GivesOutput p node) a k u)) hk)

    -- the variables from n on, the first count of them
    all_grown : (count : ℕ) → length node.variables + count ≤ length node'.variables → (done : List ℕ) → HasNeedsFirst node' done → ((x : ℕ) → Known node x → In done x)
        → (all : List ℕ) × HasNeedsFirst node' all × ((x : ℕ) → x < length node.variables + count → In all x)
    all_grown zero le done h olds = (done, h, λ x lt. olds x (omega (arith, lt)))
    all_grown (suc count) le done h olds =
        let r = all_grown count (omega (arith, le)) done h olds in
        let y = length node.variables + count in
        let found = new_at (length node.variables) (new_parts f) y (omega arith) (omega (arith, le, (normal f).width)) in
        let g = new_grown y found.0 found.1 found.2 r.0 r.1 (λ x known. r.2 x (omega (arith, known))) in
        (g.all, g.first, λ x lt. last_or g.all x y (λ l. g.begun x (r.2 x l)) g.has.0 (omega (arith, lt)))
      where
        last_or : (all : List ℕ) (x y : ℕ) → (x < y → In all x) → In all y → x ≤ y → In all x
        last_or all x y h k le = ⊎_elim (λ e. subst (In all) (sym e) k) h (eq-or-lt_of_le le)

    new_order : HasOrder node → HasOrder node'
    new_order o =
        let g = olds_grown o.0 o.1.first in
        let olds = λ (x : ℕ) (lt : Known node x). each_in (λ y. Known node y → In g.all y) o.0 g.has x (below_at (λ y. IsTrue (is_in o.0 y)) (length node.variables) o.1.all x lt) lt in
        let r = all_grown (length (new_parts f)) (omega (arith, (normal f).width)) g.all g.first olds in
        (r.0, record { first = r.1; all = below_all _ (length node'.variables) (λ x lt. r.2 x (omega (arith, lt, (normal f).width))) })

pub normal_has_order : NormalHasOrder
normal_has_order p p' new_parts named normal f clocks o = new_order p p' new_parts named normal f clocks o
