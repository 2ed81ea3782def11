-- What things have by what the things have that they use.
use Rattle.std.specs.Prelude.{◌≡◌, ◌<◌, ◌≤◌, ℕ, zero, suc, List, length, Contains}
use Rattle.lus_values.specs.Lists.{item}
use Rattle.lus_graph.specs.Ways.{Uses, used}

-- What a thing has by what the things have that it uses, followed n times, and d past that. Where nothing leads back to
-- itself, following as often as there are things is enough.
abbrev pub within : {X : Type 0} → ℕ → X → ((ℕ → X) → ℕ → X) → ℕ → X
within zero d step x = d
within (suc n) d step x = step (within n d step) x

-- what a thing has comes from what the things have that it uses
abbrev pub IsLocal : {X : Type 0} → Uses → ((ℕ → X) → ℕ → X) → Type 0
IsLocal {X} uses step = (at at' : ℕ → X) (x : ℕ) → ((y : ℕ) → Contains (used uses x) y → at y ≡ at' y) → step at x ≡ step at' x

-- each thing has what the step gives it, and what is used beside the things has e
pub record Solves {X : Type 0} (uses : Uses) (e : X) (step : (ℕ → X) → ℕ → X) (at : ℕ → X) : Type 0 where
  pub each : (x : ℕ) → x < length uses → at x ≡ step at x
  pub past : (x y : ℕ) → Contains (used uses x) y → length uses ≤ y → at y ≡ e

-- a table has for each of these things what it has where the step is followed, and that fits
pub record IsFilled {X : Type 0} (uses : Uses) (e : X) (step : (ℕ → X) → ℕ → X) (Fits : X → Type 0) (things : List ℕ) (table : List X) : Type 0 where
  pub size : length table ≡ length uses
  pub right : (at : ℕ → X) → Solves uses e step at → (x : ℕ) → Contains things x → item e table x ≡ at x
  pub fit : (x : ℕ) → Contains things x → Fits (item e table x)
