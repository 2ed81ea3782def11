-- Where no variable is defined twice, an equation is what defines its first variable.
use Rattle.std.proofs.Common.{◌≡◌, refl, ap, ◌∙◌, ℕ, suc, ◌<◌, ◌≤◌, nat_eq, nat_lt, Bool, true, false, cond, List, [], ◌∷◌, length, Some, None, if◌then◌else◌, suc-ne-zero, arith}
use Rattle.std.proofs.lemmas.Bool.{eq-eqb}
use Rattle.lus_values.specs.Lists.{item, Each, Below}
use Rattle.lus_program.specs.Programs.{Equation, Node}
use Rattle.lus_streams.specs.Equations.{given_by, place_in, equation_clock, definition_in}
use Rattle.lus_streams.proofs.Lists.{each_left, each_right, each_implies, each_both, below_at}
use Rattle.lus_program.specs.Kinds.{count}
use Rattle.lus_program.specs.Resolved.{targets_of, IsDefined}
use Rattle.lus_normal_form.specs.Named.{Known, DefinesFirst}
use Rattle.lus_normal_form.proofs.Targets.{count_append, targets_in}

-- what isn't counted has no place
no_place : (x n : ℕ) (xs : List ℕ) (b : Bool) → (count x xs ≡ 0 → place_in x xs (suc n) ≡ None) → cond b (suc (count x xs)) (count x xs) ≡ 0 → (if b then Some n else place_in x xs (suc n)) ≡ None
no_place x n xs true rest e = absurd (suc-ne-zero (count x xs) e)
no_place x n xs false rest e = rest e

pub uncounted : (x : ℕ) (xs : List ℕ) (n : ℕ) → count x xs ≡ 0 → place_in x xs n ≡ None
uncounted x [] n h = refl
uncounted x (y ∷ xs) n h = no_place x n xs (nat_eq x y) (uncounted x xs (suc n)) h

abbrev first_of : Equation → ℕ
first_of q = item 0 q.targets 0

-- the first variable on a left side
first_place : (xs : List ℕ) → 0 < length xs → place_in (item 0 xs 0) xs 0 ≡ Some 0
first_place [] h = let wrong : ⊥ = omega (arith, h) in absurd wrong
first_place (x ∷ xs) h = ap (λ b. if b then Some 0 else place_in x xs 1) (eq-eqb x x refl)

first_counted : (xs : List ℕ) → 0 < length xs → 0 < count (item 0 xs 0) xs
first_counted [] h = let wrong : ⊥ = omega (arith, h) in absurd wrong
first_counted (x ∷ xs) h = let one : cond (nat_eq x x) (suc (count x xs)) (count x xs) ≡ suc (count x xs) = ap (λ b. cond b (suc (count x xs)) (count x xs)) (eq-eqb x x refl) in omega (arith, one)

firsts_counted : (qs : List Equation) → Each (λ q. 0 < length q.targets) qs → Each (λ q. 0 < count (first_of q) (targets_in qs)) qs
firsts_counted [] h = tt
firsts_counted (q ∷ qs) h = (
  let here = first_counted q.targets h.0 in let sum = count_append (first_of q) q.targets (targets_in qs) in omega (arith, here, sum),
  each_implies (λ r. 0 < count (first_of r) (targets_in qs)) (λ r. 0 < count (first_of r) (targets_in (q ∷ qs)))
      (λ r there. let sum = count_append (first_of r) q.targets (targets_in qs) in omega (arith, there, sum))
      qs (firsts_counted qs h.1),
)

module _ (f : Node) where
  abbrev IsFirst : List Equation → Equation → Type 0
  IsFirst qs q = definition_in f qs (first_of q) ≡ Some (given_by q.right 0 q.targets (equation_clock f q))

  -- equations before which a variable isn't defined leave its definition
  pub not_before : (q : Equation) (qs : List Equation) (x : ℕ) → count x q.targets ≡ 0 → definition_in f (q ∷ qs) x ≡ definition_in f qs x
  not_before q qs x h = ap (λ o. elim o [ None ↦ definition_in f qs x | Some n ↦ Some (given_by q.right n q.targets (equation_clock f q)) ]) (uncounted x q.targets 0 h)

  here_first : (q : Equation) (qs : List Equation) → 0 < length q.targets → IsFirst (q ∷ qs) q
  here_first q qs h = ap (λ o. elim o [ None ↦ definition_in f qs (first_of q) | Some n ↦ Some (given_by q.right n q.targets (equation_clock f q)) ]) (first_place q.targets h)

  firsts_defined : (qs : List Equation) → Each (λ q. 0 < length q.targets) qs → ((x : ℕ) → Known f x → count x (targets_in qs) ≤ 1) → Each (λ q. Known f (first_of q)) qs → Each (IsFirst qs) qs
  firsts_defined [] lefts once known = tt
  firsts_defined (q ∷ qs) lefts once known = (
    here_first q qs lefts.0,
    each_implies (λ r. (IsFirst qs r × (0 < count (first_of r) (targets_in qs))) × Known f (first_of r)) (IsFirst (q ∷ qs))
        (λ r h.
        let sum = count_append (first_of r) q.targets (targets_in qs) in
        let apart : count (first_of r) q.targets ≡ 0 = omega (arith, once (first_of r) h.1, sum, h.0.1) in
        not_before q qs (first_of r) apart ∙ h.0.0)
        qs
        (each_both (λ r. IsFirst qs r × (0 < count (first_of r) (targets_in qs))) (λ r. Known f (first_of r)) qs
        (each_both (IsFirst qs) (λ r. 0 < count (first_of r) (targets_in qs)) qs
        (firsts_defined qs lefts.1 (λ x lt. let sum = count_append x q.targets (targets_in qs) in omega (arith, once x lt, sum)) known.1)
        (firsts_counted qs lefts.1))
        known.1),
  )

  first_known : (xs : List ℕ) → 0 < length xs → Each (Known f) xs → Known f (item 0 xs 0)
  first_known [] some h = let wrong : ⊥ = omega (arith, some) in absurd wrong
  first_known (x ∷ xs) some h = h.0

  firsts_known : (qs : List Equation) → Each (λ q. 0 < length q.targets) qs → Each (Known f) (targets_in qs) → Each (λ q. Known f (first_of q)) qs
  firsts_known [] lefts h = tt
  firsts_known (q ∷ qs) lefts h = (
    first_known q.targets lefts.0 (each_left (Known f) q.targets (targets_in qs) h),
    firsts_known qs lefts.1 (each_right (Known f) q.targets (targets_in qs) h),
  )

  at_most_once : (x : ℕ) (b : Bool) → nat_lt x f.inputs ≡ b → count x (targets_of f) ≡ elim b [ true ↦ 0 | false ↦ 1 ] → count x (targets_of f) ≤ 1
  at_most_once x true e h = omega (arith, h)
  at_most_once x false e h = omega (arith, h)

  pub equations_define : Each (λ q. 0 < length q.targets) f.equations → Each (Known f) (targets_of f) → Below (length f.variables) (IsDefined f) → Each (DefinesFirst f) f.equations
  equations_define lefts targets defined =
      let known = firsts_known f.equations lefts targets in
      each_both (λ q. Known f (first_of q)) (IsFirst f.equations) f.equations known
      (firsts_defined f.equations lefts (λ x lt. at_most_once x (nat_lt x f.inputs) refl (below_at (IsDefined f) (length f.variables) defined x lt)) known)
