-- Induction along a causal order.
use Rattle.std.proofs.Common.{ℕ, ◌<◌, ◌≤◌, List, [], ◌∷◌, length, IsTrue, ⊎_elim}
use Rattle.std.proofs.lemmas.Bool.{cases_lt}
use Rattle.lus_program.specs.Programs.{Node}
use Rattle.lus_values.specs.Lists.{Each}
use Rattle.lus_streams.specs.Order.{needed, is_in, HasNeedsFirst, HasOrder}
use Rattle.lus_streams.proofs.Lists.{each_in, below_at}

module _ (f : Node) (P : ℕ → Type 0) (step : (x : ℕ) → Each P (needed f x) → P x) where
  earlier_hold : (earlier ys : List ℕ) → Each P earlier → Each (λ y. IsTrue (is_in earlier y)) ys → Each P ys
  earlier_hold earlier [] h k = tt
  earlier_hold earlier (y ∷ ys) h k = (each_in P earlier h y k.0, earlier_hold earlier ys h k.1)

  order_holds : (order : List ℕ) → HasNeedsFirst f order → Each P order
  order_holds [] h = tt
  order_holds (x ∷ earlier) h = let before = order_holds earlier h.1 in (step x (earlier_hold earlier (needed f x) before h.0), before)

  -- what holds of each variable where it holds of those that it needs
  pub by_order : HasOrder f → ((x : ℕ) → length f.variables ≤ x → P x) → (x : ℕ) → P x
  by_order o past x = ⊎_elim (λ lt. each_in P o.0 (order_holds o.0 o.1.first) x (below_at (λ y. IsTrue (is_in o.0 y)) (length f.variables) o.1.all x lt)) (past x) (cases_lt x (length f.variables))

-- where each of some variables needs one of them, none of them is in an order
pub no_cycle : (f : Node) (P : ℕ → Type 0) → ((x : ℕ) → P x → (y : ℕ) × P y × IsTrue (is_in (needed f x) y)) → (o : HasOrder f) → (x : ℕ) → x < length f.variables → P x → ⊥
no_cycle f P next o x lt =
    each_in (λ y. P y → ⊥) o.0
    (order_holds f (λ y. P y → ⊥) (λ y hs py. let c = next y py in each_in (λ z. P z → ⊥) (needed f y) hs c.0 c.2 c.1) o.0 o.1.first)
    x (below_at (λ y. IsTrue (is_in o.0 y)) (length f.variables) o.1.all x lt)
