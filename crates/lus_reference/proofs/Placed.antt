-- What stands at the place of what defines a variable, and the places that are found one after another.
use Rattle.std.proofs.Common.{◌≡◌, ℕ, zero, suc, ◌+◌, ◌<◌, ◌≤◌, nat_eq, Bool, true, false, List, [], ◌∷◌, ◌++◌, drop, length, Option, Some, None, if◌then◌else◌, refl, sym, ap, ◌∙◌, subst, arith, slice_get, slice_set}
use Rattle.std.proofs.Math.Seq.{drop-append_seam}
use Rattle.std.proofs.lemmas.Bool.Decides.{nat_tests}
use Rattle.lus_values.specs.Lists.{item}
use Rattle.lus_program.specs.Parts.{parts as count}
use Rattle.lus_program.specs.Programs.{calls, numbered, Node, Program}
use Rattle.lus_program.specs.View.{expression_of, equations_from}
use Rattle.lus_program.specs.declared.node.Equation.{Equation as StoredEquation}
use Rattle.lus_streams.specs.Clocks.{Part, clock_of, parts as parts_in}
use Rattle.lus_streams.specs.Equations.{given_by, place_in, definition_in, equation_parts}
use Rattle.lus_reference.specs.declared.places.Place.{Place}
use Rattle.lus_reference.specs.Placed.{placed_in, blank, set_first, set_targets}
use Rattle.lus_reference.proofs.Drops.{dropped}
use Rattle.lus_reference.proofs.Made.{counted}

abbrev placed_at : (i m n t : ℕ) → Place
placed_at i m n t = record { equation = i; parts = m; calls = n; target = t }

-- the equation at the place of what defines variable x among these equations
pub record IsAtPlace (f : Node) (qs : List StoredEquation) (x i m n : ℕ) (k : Place) : Type 0 where
  pub index : ℕ
  pub behind_parts : ℕ
  pub equation : StoredEquation
  pub there : slice_get qs index ≡ Some equation
  pub at_equation : k.equation ≡ i + index
  pub at_parts : k.parts ≡ m + behind_parts
  pub parts : (p : Program) → (rest : List Part)
      × (drop behind_parts (equation_parts p f (equations_from n qs)) ≡ parts_in p (numbered k.calls (expression_of equation.right)) (clock_of f (item 0 equation.targets.items 0)) ++ rest)
  pub definition : definition_in f (equations_from n qs) x ≡ Some (given_by (numbered k.calls (expression_of equation.right)) k.target equation.targets.items (clock_of f (item 0 equation.targets.items 0)))

module _ (f : Node) where
  -- what the equations define, by whether the first does
  definition_by : (q : StoredEquation) (qs : List StoredEquation) (x n : ℕ) (o : Option ℕ) → place_in x q.targets.items 0 ≡ o
      → definition_in f (equations_from n (q ∷ qs)) x
      ≡ elim o [ None ↦ definition_in f (equations_from (n + calls (expression_of q.right)) qs) x | Some t ↦ Some (given_by (numbered n (expression_of q.right)) t q.targets.items (clock_of f (item 0 q.targets.items 0))) ]
  definition_by q qs x n o e =
      ap (λ o. elim o [ None ↦ definition_in f (equations_from (n + calls (expression_of q.right)) qs) x | Some t ↦ Some (given_by (numbered n (expression_of q.right)) t q.targets.items (clock_of f (item 0 q.targets.items 0))) ]) e

  placed_by : (q : StoredEquation) (qs : List StoredEquation) (x i m n : ℕ) (o : Option ℕ) → place_in x q.targets.items 0 ≡ o
      → placed_in (q ∷ qs) x i m n ≡ elim o [ Some t ↦ Some (placed_at i m n t) | None ↦ placed_in qs x (suc i) (m + count (expression_of q.right)) (n + calls (expression_of q.right)) ]
  placed_by q qs x i m n o e = ap (λ o. elim o [ Some t ↦ Some (placed_at i m n t) | None ↦ placed_in qs x (suc i) (m + count (expression_of q.right)) (n + calls (expression_of q.right)) ]) e

  at_first : (q : StoredEquation) (qs : List StoredEquation) (x i m n t : ℕ) → place_in x q.targets.items 0 ≡ Some t → IsAtPlace f (q ∷ qs) x i m n (placed_at i m n t)
  at_first q qs x i m n t e = record {
    index = 0;
    behind_parts = 0;
    equation = q;
    there = refl;
    at_equation = omega arith;
    at_parts = omega arith;
    parts = λ p. (equation_parts p f (equations_from (n + calls (expression_of q.right)) qs), refl);
    definition = definition_by q qs x n (Some t) e;
  }

  further : (q : StoredEquation) (qs : List StoredEquation) (x i m n : ℕ) (k : Place) → place_in x q.targets.items 0 ≡ None
      → IsAtPlace f qs x (suc i) (m + count (expression_of q.right)) (n + calls (expression_of q.right)) k → IsAtPlace f (q ∷ qs) x i m n k
  further q qs x i m n k e r =
      let e' = expression_of q.right in
      let at_equation = r.at_equation in
      let at_parts = r.at_parts in
      record {
        index = suc r.index;
        behind_parts = count e' + r.behind_parts;
        equation = r.equation;
        there = r.there;
        at_equation = omega (arith, at_equation);
        at_parts = omega (arith, at_parts);
        parts = λ p.
            let first = parts_in p (numbered n e') (clock_of f (item 0 q.targets.items 0)) in
            let later = equation_parts p f (equations_from (n + calls e') qs) in
            let behind : drop (count e') (first ++ later) ≡ later = ap (λ m. drop m (first ++ later)) (sym (counted p e' n (clock_of f (item 0 q.targets.items 0)))) ∙ drop-append_seam first later in
            ((r.parts p).0, dropped (count e') r.behind_parts (first ++ later) ∙ ap (drop r.behind_parts) behind ∙ (r.parts p).1);
        definition = definition_by q qs x n None e ∙ r.definition;
      }

  -- what is at the place of what defines a variable
  placed_first : (q : StoredEquation) (qs : List StoredEquation) (x i m n : ℕ) (k : Place) (o : Option ℕ)
      → (placed_in qs x (suc i) (m + count (expression_of q.right)) (n + calls (expression_of q.right)) ≡ Some k → IsAtPlace f qs x (suc i) (m + count (expression_of q.right)) (n + calls (expression_of q.right)) k)
      → place_in x q.targets.items 0 ≡ o → placed_in (q ∷ qs) x i m n ≡ Some k → IsAtPlace f (q ∷ qs) x i m n k
  placed_first q qs x i m n k (Some t) later e h =
      let is : Some (placed_at i m n t) ≡ Some k = sym (placed_by q qs x i m n (Some t) e) ∙ h in
      let same : placed_at i m n t ≡ k = cc in
      subst (IsAtPlace f (q ∷ qs) x i m n) same (at_first q qs x i m n t e)
  placed_first q qs x i m n k None later e h = further q qs x i m n k e (later (sym (placed_by q qs x i m n None e) ∙ h))

  pub placed : (qs : List StoredEquation) (x i m n : ℕ) (k : Place) → placed_in qs x i m n ≡ Some k → IsAtPlace f qs x i m n k
  placed [] x i m n k h = absurd (cc)
  placed (q ∷ qs) x i m n k h =
      placed_first q qs x i m n k (place_in x q.targets.items 0) (placed qs x (suc i) (m + count (expression_of q.right)) (n + calls (expression_of q.right)) k) refl h

  -- nothing defines a variable without a place
  abbrev DefinesNone : List StoredEquation → (x n : ℕ) → Type 0
  DefinesNone qs x n = definition_in f (equations_from n qs) x ≡ None

  none_first : (q : StoredEquation) (qs : List StoredEquation) (x i m n : ℕ) (o : Option ℕ)
      → (placed_in qs x (suc i) (m + count (expression_of q.right)) (n + calls (expression_of q.right)) ≡ None → DefinesNone qs x (n + calls (expression_of q.right)))
      → place_in x q.targets.items 0 ≡ o → placed_in (q ∷ qs) x i m n ≡ None → DefinesNone (q ∷ qs) x n
  none_first q qs x i m n (Some t) later e h = let is : Some (placed_at i m n t) ≡ None = sym (placed_by q qs x i m n (Some t) e) ∙ h in absurd (cc)
  none_first q qs x i m n None later e h =
      definition_by q qs x n None e ∙ later (sym (placed_by q qs x i m n None e) ∙ h)

  pub not_placed : (qs : List StoredEquation) (x i m n : ℕ) → placed_in qs x i m n ≡ None → DefinesNone qs x n
  not_placed [] x i m n h = refl
  not_placed (q ∷ qs) x i m n h = none_first q qs x i m n (place_in x q.targets.items 0) (not_placed qs x (suc i) (m + count (expression_of q.right)) (n + calls (expression_of q.right))) refl h

-- the first of two places
abbrev or_else : Option Place → Option Place → Option Place
or_else None o = o
or_else (Some k) o = Some k

or_none : (o : Option Place) → or_else o None ≡ o
or_none None = refl
or_none (Some k) = refl

or_both : (a b c : Option Place) → or_else (or_else a b) c ≡ or_else a (or_else b c)
or_both None b c = refl
or_both (Some k) b c = refl

-- those of the equations that are left
abbrev pub set_equations : List (Option Place) → List StoredEquation → (i m n : ℕ) → List (Option Place)
set_equations os [] i m n = os
set_equations os (q ∷ qs) i m n = set_equations (set_targets os q.targets.items i m n 0) qs (suc i) (m + count (expression_of q.right)) (n + calls (expression_of q.right))

first_length : (os : List (Option Place)) (x : ℕ) (k : Place) → length (set_first os x k) ≡ length os
first_length [] x k = refl
first_length (None ∷ os) zero k = refl
first_length (Some l ∷ os) zero k = refl
first_length (None ∷ os) (suc x) k = ap suc (first_length os x k)
first_length (Some l ∷ os) (suc x) k = ap suc (first_length os x k)

targets_length : (ys : List ℕ) (os : List (Option Place)) (i m n t : ℕ) → length (set_targets os ys i m n t) ≡ length os
targets_length [] os i m n t = refl
targets_length (y ∷ ys) os i m n t = targets_length ys (set_first os y (placed_at i m n t)) i m n (suc t) ∙ first_length os y (placed_at i m n t)

equations_length : (qs : List StoredEquation) (os : List (Option Place)) (i m n : ℕ) → length (set_equations os qs i m n) ≡ length os
equations_length [] os i m n = refl
equations_length (q ∷ qs) os i m n =
    equations_length qs (set_targets os q.targets.items i m n 0) (suc i) (m + count (expression_of q.right)) (n + calls (expression_of q.right)) ∙ targets_length q.targets.items os i m n 0

first_item : (os : List (Option Place)) (x y : ℕ) (k : Place) → x < length os → item None (set_first os y k) x ≡ or_else (item None os x) (if nat_eq x y then Some k else None)
first_item [] x y k lt = let wrong : ⊥ = omega (arith, lt) in absurd wrong
first_item (None ∷ os) zero zero k lt = refl
first_item (Some l ∷ os) zero zero k lt = refl
first_item (None ∷ os) zero (suc y) k lt = let other : nat_eq 0 (suc y) ≡ false = grind (arith, nat_tests) in ap (λ b. if b then Some k else None) (sym other)
first_item (Some l ∷ os) zero (suc y) k lt = refl
first_item (None ∷ os) (suc x) zero k lt = let other : nat_eq (suc x) 0 ≡ false = grind (arith, nat_tests) in sym (or_none (item None os x)) ∙ ap (λ b. or_else (item None os x) (if b then Some k else None)) (sym other)
first_item (Some l ∷ os) (suc x) zero k lt = let other : nat_eq (suc x) 0 ≡ false = grind (arith, nat_tests) in sym (or_none (item None os x)) ∙ ap (λ b. or_else (item None os x) (if b then Some k else None)) (sym other)
first_item (None ∷ os) (suc x) (suc y) k lt = let same : nat_eq x y ≡ nat_eq (suc x) (suc y) = grind (arith, nat_tests) in first_item os x y k (omega (arith, lt)) ∙ ap (λ b. or_else (item None os x) (if b then Some k else None)) same
first_item (Some l ∷ os) (suc x) (suc y) k lt = let same : nat_eq x y ≡ nat_eq (suc x) (suc y) = grind (arith, nat_tests) in first_item os x y k (omega (arith, lt)) ∙ ap (λ b. or_else (item None os x) (if b then Some k else None)) same

abbrev placed_on : (i m n : ℕ) → Option ℕ → Option Place
placed_on i m n None = None
placed_on i m n (Some t) = Some (placed_at i m n t)

on_first : (b : Bool) (i m n t : ℕ) (o : Option ℕ) → or_else (if b then Some (placed_at i m n t) else None) (placed_on i m n o) ≡ placed_on i m n (if b then Some t else o)
on_first true i m n t o = refl
on_first false i m n t o = refl

targets_item : (ys : List ℕ) (os : List (Option Place)) (x i m n t : ℕ) → x < length os → item None (set_targets os ys i m n t) x ≡ or_else (item None os x) (placed_on i m n (place_in x ys t))
targets_item [] os x i m n t lt = sym (or_none (item None os x))
targets_item (y ∷ ys) os x i m n t lt =
    let k = placed_at i m n t in
    let later = placed_on i m n (place_in x ys (suc t)) in
    let within : x < length (set_first os y k) = omega (arith, lt, first_length os y k) in
    targets_item ys (set_first os y k) x i m n (suc t) within
    ∙ ap (λ o. or_else o later) (first_item os x y k lt)
    ∙ or_both (item None os x) (if nat_eq x y then Some k else None) later
    ∙ ap (or_else (item None os x)) (on_first (nat_eq x y) i m n t (place_in x ys (suc t)))

on_equation : (o : Option ℕ) (i m n : ℕ) (later : Option Place) → or_else (placed_on i m n o) later ≡ elim o [ Some t ↦ Some (placed_at i m n t) | None ↦ later ]
on_equation None i m n later = refl
on_equation (Some t) i m n later = refl

equations_item : (qs : List StoredEquation) (os : List (Option Place)) (x i m n : ℕ) → x < length os → item None (set_equations os qs i m n) x ≡ or_else (item None os x) (placed_in qs x i m n)
equations_item [] os x i m n lt = sym (or_none (item None os x))
equations_item (q ∷ qs) os x i m n lt =
    let xs = q.targets.items in
    let e = expression_of q.right in
    let own = set_targets os xs i m n 0 in
    let later = placed_in qs x (suc i) (m + count e) (n + calls e) in
    let within : x < length own = omega (arith, lt, targets_length xs os i m n 0) in
    equations_item qs own x (suc i) (m + count e) (n + calls e) within
    ∙ ap (λ o. or_else o later) (targets_item xs os x i m n 0 lt)
    ∙ or_both (item None os x) (placed_on i m n (place_in x xs 0)) later
    ∙ ap (or_else (item None os x)) (on_equation (place_in x xs 0) i m n later)

blank_length : (n : ℕ) → length (blank n) ≡ n
blank_length zero = refl
blank_length (suc n) = ap suc (blank_length n)

pub blank_more : (n : ℕ) → blank n ++ None ∷ [] ≡ blank (suc n)
blank_more zero = refl
blank_more (suc n) = ap (λ l. None ∷ l) (blank_more n)

blank_item : (n x : ℕ) → item None (blank n) x ≡ None
blank_item zero x = refl
blank_item (suc n) zero = refl
blank_item (suc n) (suc x) = blank_item n x

-- all of them, from none
pub all_length : (n : ℕ) (qs : List StoredEquation) → length (set_equations (blank n) qs 0 0 0) ≡ n
all_length n qs = equations_length qs (blank n) 0 0 0 ∙ blank_length n

pub all_items : (n : ℕ) (qs : List StoredEquation) (x : ℕ) → x < n → item None (set_equations (blank n) qs 0 0 0) x ≡ placed_in qs x 0 0 0
all_items n qs x lt = equations_item qs (blank n) x 0 0 0 (omega (arith, lt, blank_length n)) ∙ ap (λ o. or_else o (placed_in qs x 0 0 0)) (blank_item n x)

-- one place, where none is yet, where one is, and past the last
pub first_set : (os : List (Option Place)) (x : ℕ) (k : Place) → slice_get os x ≡ Some None → slice_set os x (Some k) ≡ set_first os x k
first_set [] x k h = refl
first_set (None ∷ os) zero k h = refl
first_set (Some l ∷ os) zero k h = absurd (cc)
first_set (None ∷ os) (suc x) k h = ap (λ l. None ∷ l) (first_set os x k h)
first_set (Some l ∷ os) (suc x) k h = ap (λ r. Some l ∷ r) (first_set os x k h)

pub first_stays : (os : List (Option Place)) (x : ℕ) (k l : Place) → slice_get os x ≡ Some (Some l) → os ≡ set_first os x k
first_stays [] x k l h = refl
first_stays (None ∷ os) zero k l h = absurd (cc)
first_stays (Some j ∷ os) zero k l h = refl
first_stays (None ∷ os) (suc x) k l h = ap (λ r. None ∷ r) (first_stays os x k l h)
first_stays (Some j ∷ os) (suc x) k l h = ap (λ r. Some j ∷ r) (first_stays os x k l h)

pub none_past : (os : List (Option Place)) (x : ℕ) (k : Place) → length os ≤ x → os ≡ set_first os x k
none_past [] x k le = refl
none_past (o ∷ os) zero k le = let wrong : ⊥ = omega (arith, le) in absurd wrong
none_past (None ∷ os) (suc x) k le = ap (λ r. None ∷ r) (none_past os x k (omega (arith, le)))
none_past (Some j ∷ os) (suc x) k le = ap (λ r. Some j ∷ r) (none_past os x k (omega (arith, le)))

there_within : {X : Type 0} (xs : List X) (n : ℕ) (x : X) → slice_get xs n ≡ Some x → n < length xs
there_within [] n x h = absurd (cc)
there_within (y ∷ xs) zero x h = omega arith
there_within (y ∷ xs) (suc n) x h = let lt = there_within xs n x h in omega (arith, lt)

-- the equation at a place, what it gives, and what it defines
module _ (f : Node) (qs : List StoredEquation) (x : ℕ) (k : Place) (h : placed_in qs x 0 0 0 ≡ Some k) where
  abbrev own : IsAtPlace f qs x 0 0 0 k
  own = placed f qs x 0 0 0 k h

  stands : slice_get qs k.equation ≡ Some own.equation
  stands = let e = own.at_equation in let first : k.equation ≡ own.index = omega (arith, e) in ap (slice_get qs) first ∙ own.there

  pub equation_within : length qs ≤ k.equation → ⊥
  equation_within le = let lt = there_within qs k.equation own.equation stands in omega (arith, lt, le)

  module _ (q : StoredEquation) (there : slice_get qs k.equation ≡ Some q) where
    is_own : q ≡ own.equation
    is_own = let same : Some q ≡ Some own.equation = sym there ∙ stands in cc

    pub parts_there : (p : Program) → (rest : List Part)
        × (drop k.parts (equation_parts p f (equations_from 0 qs)) ≡ parts_in p (numbered k.calls (expression_of q.right)) (clock_of f (item 0 q.targets.items 0)) ++ rest)
    parts_there p =
        let a = own.at_parts in
        let m : k.parts ≡ own.behind_parts = omega (arith, a) in
        let there = own.parts p in (
          there.0,
          ap (λ i. drop i (equation_parts p f (equations_from 0 qs))) m
              ∙ there.1
              ∙ ap (λ (r : StoredEquation). parts_in p (numbered k.calls (expression_of r.right)) (clock_of f (item 0 r.targets.items 0)) ++ there.0) (sym is_own),
        )

    pub definition_at : definition_in f (equations_from 0 qs) x ≡ Some (given_by (numbered k.calls (expression_of q.right)) k.target q.targets.items (clock_of f (item 0 q.targets.items 0)))
    definition_at = own.definition ∙ (λ j. Some (given_by (numbered k.calls (expression_of (sym is_own j).right)) k.target (sym is_own j).targets.items (clock_of f (item 0 (sym is_own j).targets.items 0))))
