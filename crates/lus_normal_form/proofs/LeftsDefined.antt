-- Where no variable is defined twice, an equation defines each variable on its left, as the output of its place; and a variable is
-- defined where it stands on the left of an equation.
use Rattle.std.proofs.Common.{◌≡◌, ◌∙◌, ap, sym, refl, ℕ, zero, suc, ◌+◌, ◌<◌, ◌≤◌, nat_eq, Bool, true, false, cond, List, [], ◌∷◌, length, Option, Some, None, if◌then◌else◌, arith}
use Rattle.std.proofs.lemmas.Bool.{eq-eqb}
use Rattle.std.specs.Prelude.{slice_get}
use Rattle.lus_values.specs.Lists.{Each}
use Rattle.lus_program.specs.Programs.{Equation, Node}
use Rattle.lus_streams.specs.Equations.{Definition, given_by, place_in, equation_clock, definition_in}
use Rattle.lus_streams.proofs.Lists.{each_found, each_implies, each_left, each_right}
use Rattle.lus_program.specs.Kinds.{count}
use Rattle.lus_normal_form.proofs.Targets.{count_append, targets_in}
use Rattle.lus_normal_form.proofs.FirstsDefined.{not_before}

-- what stands in a list is counted, and has a place where it is counted once
counted : (xs : List ℕ) (o x : ℕ) → slice_get xs o ≡ Some x → 0 < count x xs
counted [] o x e = cc
counted (y ∷ xs) zero x e =
    let same : y ≡ x = cc in
    let one : count x (y ∷ xs) ≡ suc (count x xs) = ap (λ b. cond b (suc (count x xs)) (count x xs)) (eq-eqb x y (sym same)) in
    omega (arith, one)
counted (y ∷ xs) (suc o) x e = at_least (nat_eq x y) (counted xs o x e)
  where
    at_least : (b : Bool) → 0 < count x xs → 0 < cond b (suc (count x xs)) (count x xs)
    at_least true h = omega arith
    at_least false h = h

abbrev PlaceOr : Bool → ℕ → Option ℕ → Option ℕ
PlaceOr b n later = if b then Some n else later

placed : (xs : List ℕ) (o x n m : ℕ) → slice_get xs o ≡ Some x → count x xs ≤ 1 → n + o ≡ m → place_in x xs n ≡ Some m
placed [] o x n m e once sum = cc
placed (y ∷ xs) zero x n m e once sum =
    let same : x ≡ y = cc in
    let here : n ≡ m = omega (arith, sum) in
    ap (λ b. PlaceOr b n (place_in x xs (suc n))) (eq-eqb x y same) ∙ ap Some here
placed (y ∷ xs) (suc o) x n m e once sum =
    later (nat_eq x y) once (λ less. placed xs o x (suc n) m e less (omega (arith, sum)))
  where
    later : (b : Bool) → cond b (suc (count x xs)) (count x xs) ≤ 1 → (count x xs ≤ 1 → place_in x xs (suc n) ≡ Some m) → PlaceOr b n (place_in x xs (suc n)) ≡ Some m
    later true once rest = let some = counted xs o x e in let wrong : ⊥ = omega (arith, some, once) in absurd wrong
    later false once rest = rest once

-- what has no place isn't counted
unplaced : (x : ℕ) (xs : List ℕ) (n : ℕ) → place_in x xs n ≡ None → count x xs ≡ 0
unplaced x [] n h = refl
unplaced x (y ∷ xs) n h = choose (nat_eq x y) (unplaced x xs (suc n)) h
  where
    choose : (b : Bool) → (place_in x xs (suc n) ≡ None → count x xs ≡ 0) → PlaceOr b n (place_in x xs (suc n)) ≡ None → cond b (suc (count x xs)) (count x xs) ≡ 0
    choose true rest e = cc
    choose false rest e = rest e

module _ (f : Node) where
  abbrev Given : Equation → Option Definition → Option ℕ → Option Definition
  Given q later o = elim o [ None ↦ later | Some n ↦ Some (given_by q.right n q.targets (equation_clock f q)) ]

  -- what stands on no left side has no definition
  pub undefined : (qs : List Equation) (x : ℕ) → count x (targets_in qs) ≡ 0 → definition_in f qs x ≡ None
  undefined [] x h = refl
  undefined (q ∷ qs) x h =
      let sum = count_append x q.targets (targets_in qs) in
      not_before f q qs x (omega (arith, sum, h)) ∙ undefined qs x (omega (arith, sum, h))

  -- and what has none stands on no left side
  pub not_left : (qs : List Equation) (x : ℕ) → definition_in f qs x ≡ None → count x (targets_in qs) ≡ 0
  not_left [] x h = refl
  not_left (q ∷ qs) x h = choose (place_in x q.targets 0) refl (not_left qs x) h
    where
      choose : (o : Option ℕ) → place_in x q.targets 0 ≡ o → (definition_in f qs x ≡ None → count x (targets_in qs) ≡ 0) → Given q (definition_in f qs x) o ≡ None → count x (targets_in (q ∷ qs)) ≡ 0
      choose None e later none =
          let sum = count_append x q.targets (targets_in qs) in
          let own = unplaced x q.targets 0 e in
          let rest = later none in
          omega (arith, sum, own, rest)
      choose (Some n) e later none = cc

  -- among these equations, q defines what stands on its left
  abbrev pub DefinesAll : List Equation → Equation → Type 0
  DefinesAll qs q =
      (o x : ℕ) → slice_get q.targets o ≡ Some x
      → (x < length f.variables) × (0 < count x (targets_in qs)) × (definition_in f qs x ≡ Some (given_by q.right o q.targets (equation_clock f q)))

  pub all_defined : (qs : List Equation) → ((x : ℕ) → x < length f.variables → count x (targets_in qs) ≤ 1) → Each (λ x. x < length f.variables) (targets_in qs) → Each (DefinesAll qs) qs
  all_defined [] once known = tt
  all_defined (q ∷ qs) once known = (here, each_implies (DefinesAll qs) (DefinesAll (q ∷ qs)) later qs (all_defined qs fewer (each_right (λ x. x < length f.variables) q.targets (targets_in qs) known)))
    where
      fewer : (x : ℕ) → x < length f.variables → count x (targets_in qs) ≤ 1
      fewer x lt = let sum = count_append x q.targets (targets_in qs) in let all = once x lt in omega (arith, all, sum)

      here : DefinesAll (q ∷ qs) q
      here o x e =
          let lt : x < length f.variables = each_found (λ y. y < length f.variables) q.targets o x (each_left (λ x. x < length f.variables) q.targets (targets_in qs) known) e in
          let sum = count_append x q.targets (targets_in qs) in
          let some = counted q.targets o x e in
          let all = once x lt in
          (lt, omega (arith, sum, some), ap (Given q (definition_in f qs x)) (placed q.targets o x 0 o e (omega (arith, sum, all)) (omega arith)))

      later : (r : Equation) → DefinesAll qs r → DefinesAll (q ∷ qs) r
      later r h o x e =
          let own = h o x e in
          let some = own.1 in
          let all = once x own.0 in
          let sum = count_append x q.targets (targets_in qs) in
          (own.0, omega (arith, sum, some), not_before f q qs x (omega (arith, sum, some, all)) ∙ own.2)
