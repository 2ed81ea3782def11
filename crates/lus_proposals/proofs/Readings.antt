-- Parentheses round a part of an expression that its operators hold together leave its reading as it is.
use Rattle.std.specs.Prelude.{◌≡◌, ℕ, ◌≤◌, true, ◌||◌, ◌&&◌, ◌==◌, nat_lt, List, [], ◌∷◌, ◌++◌, map, Option, Some, None, option_map}
use Rattle.std.proofs.lemmas.Bool.{and_parts, eqb-true, ltb-true, or_cases}
use Rattle.std.proofs.Common.{◌∙◌, ap, inl, inr, arith}
use Rattle.lus_proposals.specs.declared.binding.Operator.{Operator}
use Rattle.lus_proposals.specs.Binding.{groups, groups_left, groups_right, holds_before, holds_behind, is_held_before, is_held_behind}
use Rattle.lus_proposals.specs.Readings.{Tree, Joined, strengths, TakesLast, TakesFirst, TakeLast, TakeFirst, IsReading, Context, Whole, Left, Right, plug, before_place, behind_place, joining, AreBytes, KeepsReading}

-- ---- lists

last_front : (m : ℕ) (xs ys : List ℕ) → TakeLast m (xs ++ ys) → TakeLast m xs
last_front m [] ys h = tt
last_front m (x ∷ xs) ys h = (h.0, last_front m xs ys h.1)

last_rear : (m : ℕ) (xs ys : List ℕ) → TakeLast m (xs ++ ys) → TakeLast m ys
last_rear m [] ys h = h
last_rear m (x ∷ xs) ys h = last_rear m xs ys h.1

last_both : (m : ℕ) (xs ys : List ℕ) → TakeLast m xs → TakeLast m ys → TakeLast m (xs ++ ys)
last_both m [] ys h k = k
last_both m (x ∷ xs) ys h k = (h.0, last_both m xs ys h.1 k)

first_front : (m : ℕ) (xs ys : List ℕ) → TakeFirst m (xs ++ ys) → TakeFirst m xs
first_front m [] ys h = tt
first_front m (x ∷ xs) ys h = (h.0, first_front m xs ys h.1)

first_rear : (m : ℕ) (xs ys : List ℕ) → TakeFirst m (xs ++ ys) → TakeFirst m ys
first_rear m [] ys h = h
first_rear m (x ∷ xs) ys h = first_rear m xs ys h.1

first_both : (m : ℕ) (xs ys : List ℕ) → TakeFirst m xs → TakeFirst m ys → TakeFirst m (xs ++ ys)
first_both m [] ys h k = k
first_both m (x ∷ xs) ys h k = (h.0, first_both m xs ys h.1 k)

-- what takes its operand before one that does before another does before that
last_step : (m n o : ℕ) → TakesLast m n → TakesLast n o → TakesLast m o
last_step m n o h k =
    elim h [
      | inl a ↦ elim k [ inl b ↦ inl (omega (arith, a, b)) | inr b ↦ inl (omega (arith, a, b.0)) ]
      | inr a ↦ elim k [ inl b ↦ inl (omega (arith, a.0, b)) | inr b ↦ inr (b.0 ∙ a.0, b.1) ]
    ]

first_step : (m n o : ℕ) → TakesFirst m n → TakesFirst n o → TakesFirst m o
first_step m n o h k =
    elim h [
      | inl a ↦ elim k [ inl b ↦ inl (omega (arith, a, b)) | inr b ↦ inl (omega (arith, a, b.0)) ]
      | inr a ↦ elim k [ inl b ↦ inl (omega (arith, a.0, b)) | inr b ↦ inr (b.0 ∙ a.0, b.1) ]
    ]

last_all : (m n : ℕ) (os : List ℕ) → TakesLast m n → TakeLast n os → TakeLast m os
last_all m n [] h k = tt
last_all m n (o ∷ os) h k = (last_step m n o h k.0, last_all m n os h k.1)

first_all : (m n : ℕ) (os : List ℕ) → TakesFirst m n → TakeFirst n os → TakeFirst m os
first_all m n [] h k = tt
first_all m n (o ∷ os) h k = (first_step m n o h k.0, first_all m n os h k.1)

-- ---- against an operator, if there is one

abbrev LastOf : Option ℕ → List ℕ → Type 0
LastOf None os = Unit {0}
LastOf (Some m) os = TakeLast m os

abbrev FirstOf : Option ℕ → List ℕ → Type 0
FirstOf None os = Unit {0}
FirstOf (Some m) os = TakeFirst m os

last_of_front : (m : Option ℕ) (xs ys : List ℕ) → LastOf m (xs ++ ys) → LastOf m xs
last_of_front None xs ys h = tt
last_of_front (Some m) xs ys h = last_front m xs ys h

last_of_rear : (m : Option ℕ) (xs ys : List ℕ) → LastOf m (xs ++ ys) → LastOf m ys
last_of_rear None xs ys h = tt
last_of_rear (Some m) xs ys h = last_rear m xs ys h

first_of_front : (m : Option ℕ) (xs ys : List ℕ) → FirstOf m (xs ++ ys) → FirstOf m xs
first_of_front None xs ys h = tt
first_of_front (Some m) xs ys h = first_front m xs ys h

first_of_rear : (m : Option ℕ) (xs ys : List ℕ) → FirstOf m (xs ++ ys) → FirstOf m ys
first_of_rear None xs ys h = tt
first_of_rear (Some m) xs ys h = first_rear m xs ys h

-- a left operand, whose operators hold against the one behind it, with that and its right operand
last_of_left : (m : Option ℕ) (n : ℕ) (ss us : List ℕ) → TakeLast n ss → LastOf m (n ∷ us) → LastOf m (ss ++ n ∷ us)
last_of_left None n ss us h k = tt
last_of_left (Some m) n ss us h k = last_both m ss (n ∷ us) (last_all m n ss k.0 h) k

first_of_left : (m : Option ℕ) (n : ℕ) (ss us : List ℕ) → FirstOf m ss → FirstOf m (n ∷ us) → FirstOf m (ss ++ n ∷ us)
first_of_left None n ss us h k = tt
first_of_left (Some m) n ss us h k = first_both m ss (n ∷ us) h k

-- a right operand, whose operators hold against the one before it, behind that and its left operand
first_of_right : (m : Option ℕ) (n : ℕ) (us ts ss : List ℕ) → FirstOf m (us ++ n ∷ ts) → TakeFirst n ss → FirstOf m (us ++ n ∷ ss)
first_of_right None n us ts ss h k = tt
first_of_right (Some m) n us ts ss h k =
    let rear : TakeFirst m (n ∷ ts) = first_rear m us (n ∷ ts) h in
    first_both m us (n ∷ ss) (first_front m us (n ∷ ts) h) (rear.0, first_all m n ss rear.0 k)

last_of_right : (m : Option ℕ) (n : ℕ) (us ts ss : List ℕ) → LastOf m (us ++ n ∷ ts) → LastOf m ss → LastOf m (us ++ n ∷ ss)
last_of_right None n us ts ss h k = tt
last_of_right (Some m) n us ts ss h k =
    let rear : TakeLast m (n ∷ ts) = last_rear m us (n ∷ ts) h in
    last_both m us (n ∷ ss) (last_front m us (n ∷ ts) h) (rear.0, k)

-- ---- trees

-- what is in a reading is one, and its operators hold against those beside it
inner : (c : Context) (t : Tree) → IsReading (plug c t)
    → IsReading t × FirstOf (before_place c) (strengths t) × LastOf (behind_place c) (strengths t)
inner Whole t h = (h, tt, tt)
inner (Left n u c) t h =
    let (read, first, last) = inner c (Joined n t u) h in
    (read.0, first_of_front (before_place c) (strengths t) (n ∷ strengths u) first, read.2)
inner (Right n u c) t h =
    let (read, first, last) = inner c (Joined n u t) h in
    (read.1, read.3, last_of_rear (behind_place c) (n ∷ []) (strengths t) (last_of_rear (behind_place c) (strengths u) (n ∷ strengths t) last))

-- a reading in the place of another, whose operators hold against those beside it
regroup : (c : Context) (t s : Tree) → IsReading (plug c t) → IsReading s → FirstOf (before_place c) (strengths s)
    → LastOf (behind_place c) (strengths s) → IsReading (plug c s)
regroup Whole t s h k first last = k
regroup (Left n u c) t s h k first last =
    let (read, before, behind) = inner c (Joined n t u) h in
    regroup c (Joined n t u) (Joined n s u) h (k, read.1, last, read.3)
    (first_of_left (before_place c) n (strengths s) (strengths u) first
    (first_of_rear (before_place c) (strengths t) (n ∷ strengths u) before))
    (last_of_left (behind_place c) n (strengths s) (strengths u) last
    (last_of_rear (behind_place c) (strengths t) (n ∷ strengths u) behind))
regroup (Right n u c) t s h k first last =
    let (read, before, behind) = inner c (Joined n u t) h in
    regroup c (Joined n u t) (Joined n u s) h (read.0, k, read.2, first)
    (first_of_right (before_place c) n (strengths u) (strengths t) (strengths s) before first)
    (last_of_right (behind_place c) n (strengths u) (strengths t) (strengths s) behind last)

-- ---- what the code finds out

first_one : (m o : ℕ) → o ≤ 255 → (nat_lt 255 o || nat_lt m o || o == m && groups_right o) ≡ true → TakesFirst m o
first_one m o h e =
    elim (or_cases (nat_lt 255 o || nat_lt m o) (o == m && groups_right o) e) [
      | inl a ↦ elim (or_cases (nat_lt 255 o) (nat_lt m o) a) [ inl b ↦ inl (omega (arith, h, ltb-true 255 o b)) | inr b ↦ inl (ltb-true m o b) ]
      | inr a ↦ let (same, right) = and_parts (o == m) (groups_right o) a in inr (eqb-true o m same, right)
    ]

first_list : (m : ℕ) (os : List ℕ) → AreBytes os → holds_before m 255 (map joining os) ≡ true → TakeFirst m os
first_list m [] h e = tt
first_list m (o ∷ os) h e =
    let (one, others) = and_parts (nat_lt 255 o || nat_lt m o || o == m && groups_right o) (holds_before m 255 (map joining os)) e in
    (first_one m o h.0 one, first_list m os h.1 others)

last_one : (m o : ℕ) → (nat_lt m o || o == m && groups_left o) ≡ true → TakesLast m o
last_one m o e =
    elim (or_cases (nat_lt m o) (o == m && groups_left o) e) [
      | inl a ↦ inl (ltb-true m o a)
      | inr a ↦ let (same, left) = and_parts (o == m) (groups_left o) a in inr (eqb-true o m same, left)
    ]

last_list : (m : ℕ) (os : List ℕ) → holds_behind m (map joining os) ≡ true → TakeLast m os
last_list m [] e = tt
last_list m (o ∷ os) e =
    let (one, others) = and_parts (nat_lt m o || o == m && groups_left o) (holds_behind m (map joining os)) e in
    (last_one m o one, last_list m os others)

first_held : (m : Option ℕ) (os : List ℕ) → AreBytes os → is_held_before (option_map joining m) (map joining os) ≡ true → FirstOf m os
first_held None os h e = tt
first_held (Some m) os h e = first_list m os h e

last_held : (m : Option ℕ) (os : List ℕ) → is_held_behind (option_map joining m) (map joining os) ≡ true → LastOf m os
last_held None os e = tt
last_held (Some m) os e = last_list m os e

pub keeps_reading : (before : Option Operator) (inside : List Operator) (behind : Option Operator) → groups before inside behind ≡ true
    → KeepsReading before inside behind
keeps_reading before inside behind e c s t bytes hi hb he whole part =
    let (first, last) = and_parts (is_held_before before inside) (is_held_behind behind inside) e in
    regroup c t s whole part
    (first_held (before_place c) (strengths s) bytes
    (ap (λ b. is_held_before b (map joining (strengths s))) hb ∙ ap (λ i. is_held_before before i) hi ∙ first))
    (last_held (behind_place c) (strengths s)
    (ap (λ b. is_held_behind b (map joining (strengths s))) he ∙ ap (λ i. is_held_behind behind i) hi ∙ last))
