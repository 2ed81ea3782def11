-- On clocks, the clock of each part is a test after the clock of the test's variable: so a variable declared with that
-- test is on it.
use Rattle.std.proofs.Common.{◌≡◌, ℕ, zero, suc, ◌+◌, ◌≤◌, List, [], ◌∷◌, ◌++◌, length, drop, Option, Some, None, refl, sym, ap, ◌∙◌, subst, arith, ⊎_elim, suc-ne-zero, le_of_suc-le-suc, not-suc-le-zero}
use Rattle.std.proofs.lemmas.Bool.{cases_lt}
use Rattle.lus_values.specs.declared.test.Test.{Test}
use Rattle.lus_program.specs.Programs.{Expression, literal, variable, operate, pre, arrow, when, merge, call, Operands, none, more, Equation, Node, Program, no_variable, empty_node, node_at}
use Rattle.lus_values.specs.Lists.{item, Each, Below}
use Rattle.lus_streams.specs.Clocks.{Clock, chain, clock_of, Part, operand, renamed_clock, renamed_test, formal_clock, base_of, branch_clock, parts, all_parts}
use Rattle.lus_streams.specs.Equations.{equation_clock, equation_parts, node_parts}
use Rattle.lus_streams.specs.OnClock.{IsDeclared, test_of, PartOnClock, RightOnClock, IsOnClocks}
use Rattle.lus_streams.proofs.Lists.{each_left, each_right, each_append, each_implies, each_item, below_at, item_past}
use Rattle.lus_normal_form.specs.Laws.{IsChain, IsOnChain, OneTestSuffices}

-- what is left of a chain is one
pub chain_drop : (f : Node) (n : ℕ) (k : Clock) → IsChain f k → IsChain f (drop n k)
chain_drop f zero k h = h
chain_drop f (suc n) [] h = tt
chain_drop f (suc n) (t ∷ k) h = chain_drop f n k h.1

module _ (f : Node) (declared : Below (length f.variables) (λ x. IsDeclared f x (test_of f x))) where
  pub untested : (x : ℕ) → (item no_variable f.variables x).test ≡ None → clock_of f x ≡ []
  untested x e = no_chain (length f.variables)
    where
      no_chain : (n : ℕ) → chain n f.variables x ≡ []
      no_chain zero = refl
      no_chain (suc n) = ap (λ o. elim o [ None ↦ [] | Some t ↦ t ∷ chain n f.variables t.variable ]) e

  -- by the length of the clock
  from_test : (n x : ℕ) (o : Option Test) → test_of f x ≡ o → IsDeclared f x o → length (clock_of f x) ≤ n → ((y : ℕ) (m : ℕ) → suc m ≡ n → length (clock_of f y) ≤ m → IsChain f (clock_of f y)) → IsChain f (clock_of f x)
  from_test n x None e d le shorter = subst (IsChain f) (sym (untested x e)) tt
  from_test zero x (Some t) e d le shorter = elim (not-suc-le-zero (subst (λ k. length k ≤ 0) d.0 le)) [ ]
  from_test (suc n) x (Some t) e d le shorter = subst (IsChain f) (sym d.0) (refl, shorter t.variable n refl (le_of_suc-le-suc (subst (λ k. length k ≤ suc n) d.0 le)))

  within : (x n : ℕ) → length (clock_of f x) ≤ n → ((y : ℕ) (m : ℕ) → suc m ≡ n → length (clock_of f y) ≤ m → IsChain f (clock_of f y)) → IsChain f (clock_of f x)
  within x n le shorter =
      ⊎_elim
      (λ lt. from_test n x (test_of f x) refl (below_at (λ x. IsDeclared f x (test_of f x)) (length f.variables) declared x lt) le shorter)
      (λ ge. from_test n x None (ap (λ v. v.test) (item_past no_variable f.variables x ge)) tt le shorter)
      (cases_lt x (length f.variables))

  bounded : (n x : ℕ) → length (clock_of f x) ≤ n → IsChain f (clock_of f x)
  bounded zero x le = within x zero le (λ y m e l. absurd (suc-ne-zero m e))
  bounded (suc n) x le = within x (suc n) le (λ y m e l. bounded n y (let down : m ≡ n = omega (arith, e) in subst (λ z. length (clock_of f y) ≤ z) down l))

  pub clock_is_chain : (x : ℕ) → IsChain f (clock_of f x)
  clock_is_chain x = bounded (length (clock_of f x)) x (omega arith)

-- a formal's clock, renamed after the arguments, is a chain behind the base
module _ (f : Node) where
  one_renamed_is_chain : (e : Expression) (c : ℕ) (k base : Clock) → IsChain f (k ++ base) → ((x : ℕ) → e ≡ variable x → clock_of f x ≡ k ++ base) → IsChain f (renamed_test e c k ++ base)
  one_renamed_is_chain (variable x) c k base h on = (on x refl, h)
  one_renamed_is_chain _ c k base h on = h

  pub renamed_is_chain : (g : Node) (args : Operands) (base kg : Clock) → IsChain g kg → IsChain f base → ((m x : ℕ) → operand args m ≡ variable x → clock_of f x ≡ formal_clock g args base m) → IsChain f (renamed_clock args kg ++ base)
  renamed_is_chain g args base [] tests h on = h
  renamed_is_chain g args base (t ∷ kg) tests h on =
      one_renamed_is_chain (operand args t.variable) t.constructor (renamed_clock args kg) base (renamed_is_chain g args base kg tests.1 h on)
      (λ x e. on t.variable x e ∙ ap (λ z. renamed_clock args z ++ base) tests.0)

module _ (p : Program) (f : Node) where
  -- a named argument is on its formal's clock
  argument_clock : (es : Operands) (ks : ℕ → Clock) (m n x : ℕ) → Each (PartOnClock p f) (all_parts p es ks m) → operand es n ≡ variable x → clock_of f x ≡ ks (m + n)
  argument_clock none ks m n x h e = cc
  argument_clock (more e es) ks m zero x h eq =
      let on = subst (λ z. Each (PartOnClock p f) (parts p z (ks m))) eq (each_left (PartOnClock p f) (parts p e (ks m)) (all_parts p es ks (suc m)) h) in
      let here : m + 0 ≡ m = omega arith in
      on.0 ∙ ap ks (sym here)
  argument_clock (more e es) ks m (suc n) x h eq =
      let next : suc m + n ≡ m + suc n = omega arith in
      argument_clock es ks (suc m) n x (each_right (PartOnClock p f) (parts p e (ks m)) (all_parts p es ks (suc m)) h) eq ∙ ap ks next

  pub call_clock : (g : Node) (args : Operands) (base : Clock) → Each (PartOnClock p f) (all_parts p args (formal_clock g args base) 0) → (m x : ℕ) → operand args m ≡ variable x → clock_of f x ≡ formal_clock g args base m
  call_clock g args base h m x e = let place : 0 + m ≡ m = omega arith in argument_clock args (formal_clock g args base) 0 m x h e ∙ ap (formal_clock g args base) place

  module _ (formals : (g m : ℕ) → IsChain (node_at p g) (clock_of (node_at p g) m)) where
    abbrev OnChain : Part → Type 0
    OnChain = IsOnChain f

    abbrev OnClock : Part → Type 0
    OnClock = PartOnClock p f

    formals_on_chains : (g : ℕ) (args : Operands) (k : Clock) → IsChain f k → Each OnClock (all_parts p args (formal_clock (node_at p g) args (base_of (node_at p g) k)) 0)
        → (m : ℕ) → IsChain f (formal_clock (node_at p g) args (base_of (node_at p g) k) m)
    formals_on_chains g args k h o m =
        let base = base_of (node_at p g) k in
        renamed_is_chain f (node_at p g) args base (clock_of (node_at p g) m) (formals g m) (chain_drop f _ k h) (call_clock (node_at p g) args base o)

    mutual
      pub parts_on_chains : (e : Expression) (k : Clock) → IsChain f k → Each OnClock (parts p e k) → Each OnChain (parts p e k)
      parts_on_chains (literal v) k h o = (h, tt)
      parts_on_chains (variable x) k h o = (h, tt)
      parts_on_chains (operate op es) k h o = (h, all_on_chains es (λ m. k) 0 (λ m. h) o.1)
      parts_on_chains (pre a) k h o = (h, parts_on_chains a k h o.1)
      parts_on_chains (arrow a b) k h o = (h, each_append OnChain (parts p a k) (parts p b k) (parts_on_chains a k h (each_left OnClock (parts p a k) (parts p b k) o.1)) (parts_on_chains b k h (each_right OnClock (parts p a k) (parts p b k) o.1)))
      parts_on_chains (when t a) k h o = (h, parts_on_chains a (drop 1 k) (chain_drop f 1 k h) o.1)
      parts_on_chains (merge x bs) k h o = (h, all_on_chains bs (branch_clock x k) 0 (λ m. (o.0, h)) o.1)
      parts_on_chains (call g c args) k h o = (h, all_on_chains args (formal_clock (node_at p g) args (base_of (node_at p g) k)) 0 (formals_on_chains g args k h o.1) o.1)

      all_on_chains : (es : Operands) (ks : ℕ → Clock) (m : ℕ) → ((n : ℕ) → IsChain f (ks n)) → Each OnClock (all_parts p es ks m) → Each OnChain (all_parts p es ks m)
      all_on_chains none ks m h o = tt
      all_on_chains (more e es) ks m h o =
          let rest = all_parts p es ks (suc m) in
          each_append OnChain (parts p e (ks m)) rest (parts_on_chains e (ks m) (h m) (each_left OnClock (parts p e (ks m)) rest o)) (all_on_chains es ks (suc m) h (each_right OnClock (parts p e (ks m)) rest o))

    -- whole right sides
    right_on_chains : (e : Expression) (k : Clock) → IsChain f k → RightOnClock p f (parts p e k) → Each OnChain (parts p e k)
    right_on_chains (call g c args) k h o = (h, all_on_chains args (formal_clock (node_at p g) args (base_of (node_at p g) k)) 0 (formals_on_chains g args k h o) o)
    right_on_chains e k h o = parts_on_chains e k h o

    equations_on_chains : (own : (x : ℕ) → IsChain f (clock_of f x)) (qs : List Equation) → Each (λ q. RightOnClock p f (parts p q.right (equation_clock f q))) qs → Each OnChain (equation_parts p f qs)
    equations_on_chains own [] h = tt
    equations_on_chains own (q ∷ qs) h =
        each_append OnChain (parts p q.right (equation_clock f q)) (equation_parts p f qs) (right_on_chains q.right (equation_clock f q) (own (item 0 q.targets 0)) h.0) (equations_on_chains own qs h.1)

pub one_test_suffices : OneTestSuffices
one_test_suffices p h =
    let on_clocks : (g : ℕ) → IsOnClocks p (node_at p g) = each_item (IsOnClocks p) empty_node p.nodes (record { declared = tt; lefts = tt; rights = tt }) h in
    each_implies (IsOnClocks p) (λ f. Each (IsOnChain f) (node_parts p f))
    (λ f o. equations_on_chains p f (λ g. clock_is_chain (node_at p g) (on_clocks g).declared) (clock_is_chain f o.declared) f.equations o.rights)
    p.nodes h
