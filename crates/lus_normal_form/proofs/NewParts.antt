-- Which new variable stands for which part.
use Rattle.std.proofs.Common.{ℕ, suc, ◌+◌, ◌<◌, ◌≤◌, List, [], ◌∷◌, ◌++◌, length, refl, sym, subst, arith, ⊎_elim, eq-or-lt_of_le}
use Rattle.std.proofs.Math.Logic.{inl, inr}
use Rattle.lus_values.specs.Lists.{Each}
use Rattle.lus_program.specs.Programs.{Expression}
use Rattle.lus_streams.specs.Clocks.{Clock, Part, at}
use Rattle.lus_normal_form.specs.NormalForm.{StandsFor}
use Rattle.lus_normal_form.specs.NormalNodes.{EachFrom}

-- what holds of each part and its variable
pub new_fact : (P : ℕ → Part → Type 0) (n : ℕ) (es : List Part) → EachFrom P n es → (y : ℕ) (k : Clock) (a : Expression) → StandsFor n es y k a → P y (at k a)
new_fact P n [] h y k a s = absurd s
new_fact P n (e ∷ es) h y k a s = ⊎_elim (λ m. subst (λ z. P z (at k a)) (sym m.0) (subst (P n) m.1 h.0)) (λ m. new_fact P (suc n) es h.1 y k a m) s

-- what holds of each part
pub new_part : (P : Part → Type 0) (n : ℕ) (es : List Part) → Each P es → (y : ℕ) (k : Clock) (a : Expression) → StandsFor n es y k a → P (at k a)
new_part P n [] h y k a s = absurd s
new_part P n (e ∷ es) h y k a s = ⊎_elim (λ m. subst P m.1 h.0) (λ m. new_part P (suc n) es h.1 y k a m) s

-- the variables that stand for parts
pub new_at : (n : ℕ) (es : List Part) (x : ℕ) → n ≤ x → x < n + length es → (k : Clock) × (a : Expression) × StandsFor n es x k a
new_at n [] x le lt = let wrong : ⊥ = omega (arith, le, lt) in absurd wrong
new_at n (at k a ∷ es) x le lt =
    ⊎_elim
    (λ e. (k, a, inl (sym e, refl)))
    (λ l. let m = new_at (suc n) es x l (omega (arith, lt)) in (m.0, m.1, inr m.2))
    (eq-or-lt_of_le le)

pub stands_from_place : (n : ℕ) (es : List Part) (y : ℕ) (k : Clock) (a : Expression) → StandsFor n es y k a → n ≤ y
stands_from_place n [] y k a s = absurd s
stands_from_place n (e ∷ es) y k a s = ⊎_elim (λ m. let e = m.0 in omega (arith, e)) (λ m. let l = stands_from_place (suc n) es y k a m in omega (arith, l)) s

pub stands_before : (n : ℕ) (es : List Part) (y : ℕ) (k : Clock) (a : Expression) → StandsFor n es y k a → y < n + length es
stands_before n [] y k a s = absurd s
stands_before n (e ∷ es) y k a s = ⊎_elim (λ m. let e = m.0 in omega (arith, e)) (λ m. let l = stands_before (suc n) es y k a m in omega (arith, l)) s

-- more parts leave the variables of the others
pub stands_later : (n : ℕ) (xs ys : List Part) (y : ℕ) (k : Clock) (a : Expression) → StandsFor n xs y k a → StandsFor n (xs ++ ys) y k a
stands_later n [] ys y k a s = absurd s
stands_later n (x ∷ xs) ys y k a s = ⊎_elim (λ m. inl m) (λ m. inr (stands_later (suc n) xs ys y k a m)) s
