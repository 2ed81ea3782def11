-- Numbers against a limit.
use Rattle.std.specs.Prelude.{◌≡◌, ◌+◌, ◌<◌, ◌≤◌, ℕ, Option, MatchOption}

-- n where it is within the limit, else nothing
abbrev pub IsLimited : ℕ → ℕ → Option ℕ → Type 0
IsLimited most n r = MatchOption r (n ≤ most → ⊥) (λ m. (m ≡ n) × (m ≤ most))

-- what is left of the limit behind n, or nothing where n is past it
abbrev pub AreLeft : ℕ → ℕ → Option ℕ → Type 0
AreLeft most n r = MatchOption r (most < n) (λ left. left + n ≡ most)
