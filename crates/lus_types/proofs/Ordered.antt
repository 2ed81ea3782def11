-- Operands put in the order of the numbers beside them, where each number below theirs stands once: what all count together stays.
use Rattle.std.proofs.Common.{arith, ◌≡◌, ◌∙◌, refl, ℕ, zero, suc, ◌+◌, nat_eq, nat_le, Bool, true, false, cond, List, [], ◌∷◌, length}
use Rattle.std.proofs.lemmas.Bool.{eqb-true}
use Rattle.std.proofs.lemmas.Bool.Decides.{nat_tests}
use Rattle.lus_values.proofs.Equalities.{and_left, and_right}
use Rattle.lus_program.specs.Programs.{Expression, Operands, none, more}
use Rattle.lus_program.specs.Kinds.{count}
use Rattle.lus_source.specs.Labels.{each_counted, each_once}
use Rattle.lus_source.specs.Meaning.{beside, in_order_from, in_order}

abbrev pub operand_count : Operands → ℕ
operand_count none = 0
operand_count (more e es) = suc (operand_count es)

-- a number at or above c is c or above it
here_or_beyond : (c n x : ℕ) → cond (nat_le c n) x 0 ≡ cond (nat_eq c n) x 0 + cond (nat_le (suc c) n) x 0
here_or_beyond c n x = grind (arith, nat_tests)

module _ (f : Expression → ℕ) where
  -- of all operands, of those beside c, and of those beside the numbers from c on
  abbrev pub total : Operands → ℕ
  total none = 0
  total (more e es) = f e + total es

  abbrev at : ℕ → List ℕ → Operands → ℕ
  at c (n ∷ ns) (more e es) = cond (nat_eq c n) (f e) 0 + at c ns es
  at c ns es = 0

  abbrev above : ℕ → List ℕ → Operands → ℕ
  above c (n ∷ ns) (more e es) = cond (nat_le c n) (f e) 0 + above c ns es
  above c ns es = 0

  above_all : (ns : List ℕ) (es : Operands) → operand_count es ≡ length ns → above 0 ns es ≡ total es
  above_all [] none long = refl
  above_all [] (more e es) long = absurd (omega (arith, long))
  above_all (n ∷ ns) none long = absurd (omega (arith, long))
  above_all (n ∷ ns) (more e es) long = let rest = above_all ns es (omega (arith, long)) in grind (arith, nat_tests)

  above_apart : (c : ℕ) (ns : List ℕ) (es : Operands) → above c ns es ≡ at c ns es + above (suc c) ns es
  above_apart c (n ∷ ns) (more e es) = omega (arith, here_or_beyond c n (f e), above_apart c ns es)
  above_apart c [] es = refl
  above_apart c (n ∷ ns) none = refl

  at_none : (c : ℕ) (ns : List ℕ) (es : Operands) → count c ns ≡ 0 → at c ns es ≡ 0
  at_none c (n ∷ ns) (more e es) once = let rest = at_none c ns es in grind (arith, nat_tests)
  at_none c [] es once = refl
  at_none c (n ∷ ns) none once = refl

  beside_or : (b : Bool) (e d : Expression) (m x : ℕ) → (m ≡ 0 → x ≡ 0) → (m ≡ 1 → x ≡ f d) → cond b (suc m) m ≡ 1
      → cond b (f e) 0 + x ≡ f (cond b e d)
  beside_or true e d m x absent present once = omega (arith, absent (omega (arith, once)))
  beside_or false e d m x absent present once = omega (arith, present once)

  beside_one : (c : ℕ) (ns : List ℕ) (es : Operands) → operand_count es ≡ length ns → count c ns ≡ 1 → at c ns es ≡ f (beside c ns es)
  beside_one c [] es long once = absurd (omega (arith, once))
  beside_one c (n ∷ ns) none long once = absurd (omega (arith, long))
  beside_one c (n ∷ ns) (more e es) long once =
      beside_or (nat_eq c n) e (beside c ns es) (count c ns) (at c ns es) (at_none c ns es) (beside_one c ns es (omega (arith, long))) once

  counted : (c n : ℕ) (ns : List ℕ) (es : Operands) → operand_count es ≡ length ns → each_counted c n ns ≡ true
      → above c ns es ≡ total (in_order_from c n ns es) + above (c + n) ns es
  counted c zero ns es long each = let same : c + 0 ≡ c = omega arith in rw same (omega arith)
  counted c (suc n) ns es long each =
      let one = eqb-true (count c ns) 1 (and_left (nat_eq (count c ns) 1) (each_counted (suc c) n ns) each) in
      let rest = counted (suc c) n ns es long (and_right (nat_eq (count c ns) 1) (each_counted (suc c) n ns) each) in
      let same : suc c + n ≡ c + suc n = omega arith in
      omega (arith, above_apart c ns es, beside_one c ns es long one, rw same at rest)

none_above : (f : Expression → ℕ) (c : ℕ) (ns : List ℕ) (es : Operands) → above (λ e. 1) c ns es ≡ 0 → above f c ns es ≡ 0
none_above f c (n ∷ ns) (more e es) empty = let rest = none_above f c ns es in grind (arith, nat_tests)
none_above f c [] es empty = refl
none_above f c (n ∷ ns) none empty = refl

total_one : (es : Operands) → total (λ e. 1) es ≡ operand_count es
total_one none = refl
total_one (more e es) = omega (arith, total_one es)

ordered_count : (c n : ℕ) (ns : List ℕ) (es : Operands) → operand_count (in_order_from c n ns es) ≡ n
ordered_count c zero ns es = refl
ordered_count c (suc n) ns es = omega (arith, ordered_count (suc c) n ns es)

pub total_ordered : (f : Expression → ℕ) (n : ℕ) (ns : List ℕ) (es : Operands) → operand_count es ≡ length ns → each_once n ns ≡ true
    → total f (in_order n ns es) ≡ total f es
total_ordered f n ns es long once =
    let each = and_left (each_counted 0 n ns) (nat_eq (length ns) n) once in
    let size = eqb-true (length ns) n (and_right (each_counted 0 n ns) (nat_eq (length ns) n) once) in
    let counts = counted (λ e. 1) 0 n ns es long each in
    let all = above_all (λ e. 1) ns es long in
    let sizes : total (λ e. 1) (in_order n ns es) ≡ n = total_one (in_order n ns es) ∙ ordered_count 0 n ns es in
    let beyond : above (λ e. 1) (0 + n) ns es ≡ 0 = omega (arith, counts, all, total_one es, sizes, long, size) in
    omega (arith, counted f 0 n ns es long each, above_all f ns es long, none_above f (0 + n) ns es beyond)
