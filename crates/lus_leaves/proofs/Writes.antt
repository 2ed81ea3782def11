-- Leaves that are written, one behind another.
use Rattle.std.proofs.Common.{◌≡◌, ◌≤◌, ◌<◌, ◌+◌, ℕ, suc, min, List, [], ◌∷◌, ◌++◌, length, set, refl, sym, ap, ◌∙◌, ◌⊎◌, inl, inr, arith}
use Rattle.std.proofs.lemmas.Bool.{cases_lt}
use Rattle.std.proofs.lemmas.List.{length-set, length-append, set_past}
use Rattle.lus_leaves.specs.declared.leaf.Leaf.{Leaf}
use Rattle.lus_leaves.specs.Writing.{most, over, set_all, IsWritten}

set_all-append : (xs : List Leaf) (at : ℕ) (us ws : List Leaf) → set_all xs at (us ++ ws) ≡ set_all (set_all xs at us) (at + length us) ws
set_all-append xs at [] ws = ap (λ (n : ℕ). set_all xs n ws) (omega arith)
set_all-append xs at (u ∷ us) ws = set_all-append (set xs at u) (suc at) us ws ∙ ap (λ (n : ℕ). set_all (set_all (set xs at u) (suc at) us) n ws) (omega arith)

length-set_all : (xs : List Leaf) (at : ℕ) (us : List Leaf) → length (set_all xs at us) ≡ length xs
length-set_all xs at [] = refl
length-set_all xs at (u ∷ us) = length-set_all (set xs at u) (suc at) us ∙ length-set xs at u

set_all-past : (xs : List Leaf) (at : ℕ) (us : List Leaf) → length xs ≤ at → set_all xs at us ≡ xs
set_all-past xs at [] h = refl
set_all-past xs at (u ∷ us) h =
    let same : set xs at u ≡ xs = set_past xs at u h in
    let longer : length (set xs at u) ≤ suc at = omega (arith, length-set xs at u) in
    set_all-past (set xs at u) (suc at) us longer ∙ same

-- a place that is as large as a number can be is behind the array
set_all-place : (xs : List Leaf) (at next : ℕ) (us : List Leaf) → length xs ≤ most → next ≡ min at most → set_all xs next us ≡ set_all xs at us
set_all-place xs at next us h e = by (cases_lt most at)
  where
    by : (most < at) ⊎ (at ≤ most) → set_all xs next us ≡ set_all xs at us
    by (inl g) = set_all-past xs next us (omega (arith, h, e, g)) ∙ sym (set_all-past xs at us (omega (arith, h, g)))
    by (inr l) =
        let same : next ≡ at = omega (arith, e, l) in
        ap (λ (n : ℕ). set_all xs n us) same

pub written-none : (xs : List Leaf) (at : ℕ) → at ≤ most → IsWritten xs at [] xs at
written-none xs at h = record { written = λ fits. refl; next_is = omega (arith, h) }

pub written-more : (xs : List Leaf) (at : ℕ) (us ys : List Leaf) (next : ℕ) (ws zs : List Leaf) (last : ℕ) → IsWritten xs at us ys next → IsWritten ys next ws zs last → IsWritten xs at (us ++ ws) zs last
written-more xs at us ys next ws zs last p q = record {
  written = λ fits.
      let same : ys ≡ set_all xs at us = p.written fits in
      let lengths : length ys ≡ length xs = ap length same ∙ length-set_all xs at us in
      let short : length ys ≤ most = omega (arith, lengths, fits) in
      q.written short ∙ set_all-place ys (at + length us) next ws short p.next_is ∙ ap (λ (l : List Leaf). set_all l (at + length us) ws) same ∙ sym (set_all-append xs at us ws);
  next_is = omega (arith, p.next_is, q.next_is, length-append us ws);
}

set_all-behind : (x : Leaf) (xs : List Leaf) (at : ℕ) (us : List Leaf) → set_all (x ∷ xs) (suc at) us ≡ x ∷ set_all xs at us
set_all-behind x xs at [] = refl
set_all-behind x xs at (u ∷ us) = set_all-behind x (set xs at u) (suc at) us

set_all-over : (xs us : List Leaf) → set_all xs 0 us ≡ over xs us
set_all-over [] [] = refl
set_all-over [] (u ∷ us) = set_all-past [] 0 (u ∷ us) (omega arith)
set_all-over (x ∷ xs) [] = refl
set_all-over (x ∷ xs) (u ∷ us) = set_all-behind u xs 0 us ∙ ap (λ (l : List Leaf). u ∷ l) (set_all-over xs us)

pub written-over : (xs us ys : List Leaf) (next : ℕ) → length xs ≤ most → IsWritten xs 0 us ys next → ys ≡ over xs us
written-over xs us ys next h p = p.written h ∙ set_all-over xs us

pub written-count : (xs us ys : List Leaf) (next : ℕ) → IsWritten xs 0 us ys next → next ≡ min (length us) most
written-count xs us ys next p = omega (arith, p.next_is)

pub written-length : (xs : List Leaf) (at : ℕ) (us ys : List Leaf) (next : ℕ) → length xs ≤ most → IsWritten xs at us ys next → length ys ≡ length xs
written-length xs at us ys next h p = ap length (p.written h) ∙ length-set_all xs at us
