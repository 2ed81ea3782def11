-- The numbers of seats.
use Rattle.std.proofs.Common.{◌++◌, ◌≡◌, ◌==◌, false, ℕ, zero, suc, ◌+◌, ◌<◌, ◌≤◌, List, [], ◌∷◌, map, length, cond, refl, ap, sym, ◌∙◌, ⊎_elim, arith, eq-eqb, ne_eqb}
use Rattle.std.specs.List.{count_by, All, range_with_len}
use Rattle.std.proofs.lemmas.Bool.{cases_lt}
use Rattle.std.proofs.lemmas.List.Sums.{sum_by-cons}
use Rattle.std.proofs.lemmas.List.FromFn.{map-range_with_len_more}
use Rattle.std.proofs.lemmas.List.Elements.{All-nil, All-cons, All-head, All-tail}
use Rattle.lus_shared.specs.declared.locked.LockedSeat.{LockedSeat}
use Rattle.lus_shared.specs.Knowledge.{Instance, Standing}
use Rattle.lus_shared.specs.Views.{fresh_standing, fresh_seats}

pub none_of_others : (n k : ℕ) (seats : List LockedSeat) → All (λ (s : LockedSeat). s.number < n) seats → n ≤ k → count_by (λ (s : LockedSeat). s.number == k) seats ≡ 0
none_of_others n k [] a l = refl
none_of_others n k (s ∷ ss) a l =
    let below = All-head (λ (t : LockedSeat). t.number < n) s ss a in
    let rest = none_of_others n k ss (All-tail (λ (t : LockedSeat). t.number < n) s ss a) l in
    let apart : (s.number == k) ≡ false = ne_eqb s.number k (λ e. absurd (omega arith)) in
    let one : cond {A = ℕ} (s.number == k) 1 0 ≡ 0 = ap (λ b. cond {A = ℕ} b 1 0) apart in
    omega (arith, sum_by-cons (λ (t : LockedSeat). cond (t.number == k) 1 0) s ss)

-- where no seat has a number from n on, each has one below
pub all_below : (n : ℕ) (seats : List LockedSeat) → ((k : ℕ) → n ≤ k → count_by (λ (s : LockedSeat). s.number == k) seats ≡ 0) → All (λ (s : LockedSeat). s.number < n) seats
all_below n [] none = All-nil (λ (s : LockedSeat). s.number < n)
all_below n (s ∷ ss) none =
    let counts : (k : ℕ) → count_by (λ (t : LockedSeat). t.number == k) (s ∷ ss) ≡ cond {A = ℕ} (s.number == k) 1 0 + count_by (λ (t : LockedSeat). t.number == k) ss =
    λ k. sum_by-cons (λ (t : LockedSeat). cond (t.number == k) 1 0) s ss in
    let rest : (k : ℕ) → n ≤ k → count_by (λ (t : LockedSeat). t.number == k) ss ≡ 0 = λ k l. let a = counts k in let b = none k l in omega arith in
    let here : cond {A = ℕ} (s.number == s.number) 1 0 ≡ 1 = rw (eq-eqb s.number s.number refl) refl in
    let below : s.number < n = ⊎_elim (λ (l : s.number < n). l) (λ (far : n ≤ s.number). let a = counts s.number in let b = none s.number far in absurd (omega (arith, a, b, here))) (cases_lt s.number n) in
    All-cons (λ (t : LockedSeat). t.number < n) s ss below (all_below n ss rest)

pub fresh_numbers : (i : Instance) (k n : ℕ) → map (λ (s : Standing). s.number) (fresh_seats i k n) ≡ range_with_len k n
fresh_numbers i k zero = refl
fresh_numbers i k (suc n) = ap (λ ns. k ∷ ns) (fresh_numbers i (suc k) n ∙ ap (λ m. range_with_len m n) (omega arith))

pub fresh_none : (i : Instance) (k n : ℕ) → All (λ (s : Standing). length s.mine ≡ 0) (fresh_seats i k n)
fresh_none i k zero = All-nil (λ (s : Standing). length s.mine ≡ 0)
fresh_none i k (suc n) = All-cons (λ (s : Standing). length s.mine ≡ 0) (fresh_standing i k) (fresh_seats i (suc k) n) refl (fresh_none i (suc k) n)

pub numbers_more : (a n : ℕ) → range_with_len a (n + 1) ≡ range_with_len a n ++ (a + n) ∷ []
numbers_more a n = sym (map_same (range_with_len a (n + 1))) ∙ (map-range_with_len_more (λ k. k) a n (a + n) refl ∙ ap (λ ns. ns ++ (a + n) ∷ []) (map_same (range_with_len a n)))
  where
    map_same : (ns : List ℕ) → map (λ k. k) ns ≡ ns
    map_same [] = refl
    map_same (m ∷ ms) = ap (λ ks. m ∷ ks) (map_same ms)

pub numbers_next : (n : ℕ) → range_with_len 0 (n + 1) ≡ range_with_len 0 n ++ n ∷ []
numbers_next n = numbers_more 0 n ∙ ap (λ k. range_with_len 0 n ++ k ∷ []) (omega arith)
