-- What lookups in a call's lists give.
use Rattle.std.proofs.Common.{◌≡◌, ℕ, zero, suc, ◌-◌, ◌<◌, ◌≤◌, List, [], ◌∷◌, map, length, take, slice_get, refl, ap, ◌∙◌, arith, le_of_suc-le-suc, not-suc-le-zero}
use Rattle.lus_values.specs.Lists.{item}
use Rattle.lus_program.specs.declared.expr.Expr.{Expr}
use Rattle.lus_program.specs.View.{expression_of, operands_of}
use Rattle.lus_streams.specs.OnClock.{variables, actuals}
use Rattle.lus_clocks.specs.Fitting.{name_of, names_in}

names_of_variables : (xs : List ℕ) (i : ℕ) → names_in (variables xs) i ≡ slice_get xs i
names_of_variables [] i = refl
names_of_variables (x ∷ xs) zero = refl
names_of_variables (x ∷ xs) (suc i) = names_of_variables xs i

pub names_of_argument : (d : Expr) (es : List Expr) (xs : List ℕ) (i : ℕ) → i < length es → names_in (actuals (operands_of es) xs) i ≡ name_of (expression_of (item d es i))
names_of_argument d [] xs i lt = elim (not-suc-le-zero lt) [ ]
names_of_argument d (e ∷ es) xs zero lt = refl
names_of_argument d (e ∷ es) xs (suc i) lt = names_of_argument d es xs i (le_of_suc-le-suc lt)

pub names_of_target : (es : List Expr) (xs : List ℕ) (i : ℕ) → length es ≤ i → names_in (actuals (operands_of es) xs) i ≡ slice_get xs (i - length es)
names_of_target [] xs i le = names_of_variables xs i ∙ ap (slice_get xs) (omega arith)
names_of_target (e ∷ es) xs zero le = elim (not-suc-le-zero le) [ ]
names_of_target (e ∷ es) xs (suc i) le = names_of_target es xs i (le_of_suc-le-suc le) ∙ ap (slice_get xs) (omega arith)

pub map-take : {X Y : Type 0} (f : X → Y) (n : ℕ) (xs : List X) → map f (take n xs) ≡ take n (map f xs)
map-take f zero xs = refl
map-take f (suc n) [] = refl
map-take f (suc n) (x ∷ xs) = ap (λ ys. f x ∷ ys) (map-take f n xs)
