-- Things that use each other, each named by its place: ways along uses, orders that have uses first, and cycles.
use Rattle.std.specs.Prelude.{◌≡◌, ◌≢◌, ℕ, suc, ◌<◌, ◌≤◌, List, [], ◌∷◌, ◌++◌, length, Contains}
use Rattle.lus_values.specs.Lists.{item}

-- what each thing uses, in the order of the things; a use of a place past the end is a use of nothing
abbrev pub Uses : Type 0
Uses = List (List ℕ)

abbrev pub used : Uses → ℕ → List ℕ
used uses x = item [] uses x

-- a way of one use or more
pub data Leads (uses : Uses) : ℕ → ℕ → Type 0 where
  step : {x y : ℕ} → Contains (used uses x) y → Leads uses x y
  then : {x y z : ℕ} → Contains (used uses x) y → Leads uses y z → Leads uses x z

-- nothing leads back to itself
abbrev pub HasNoWayBack : Uses → Type 0
HasNoWayBack uses = (x : ℕ) → Leads uses x x → ⊥

-- things in an order: none stands twice, and each after the things that it uses
pub data IsOrdered (uses : Uses) : List ℕ → Type 0 where
  empty : IsOrdered uses []
  next : {before : List ℕ} {x : ℕ} → IsOrdered uses before → (Contains before x → ⊥) → ((y : ℕ) → y < length uses → Contains (used uses x) y → Contains before y) → IsOrdered uses (before ++ x ∷ [])

-- an order of all things
pub record IsOrder (uses : Uses) (order : List ℕ) : Type 0 where
  pub ordered : IsOrdered uses order
  pub size : length order ≤ length uses
  pub within : (x : ℕ) → Contains order x → x < length uses
  pub whole : (x : ℕ) → x < length uses → Contains order x

-- each thing uses the next
abbrev pub IsWay : Uses → List ℕ → Type 0
IsWay uses xs = (k : ℕ) → suc k < length xs → Contains (used uses (item 0 xs k)) (item 0 xs (suc k))

-- no thing stands twice
abbrev pub IsDistinct : List ℕ → Type 0
IsDistinct xs = (j k : ℕ) → j < k → k < length xs → item 0 xs j ≢ item 0 xs k

-- each thing uses the next, the last the first, none stands twice, and the least is the first
pub record IsCycle (uses : Uses) (cycle : List ℕ) : Type 0 where
  pub some : 0 < length cycle
  pub way : IsWay uses cycle
  pub closes : (last : ℕ) → suc last ≡ length cycle → Contains (used uses (item 0 cycle last)) (item 0 cycle 0)
  pub distinct : IsDistinct cycle
  pub least : (k : ℕ) → k < length cycle → item 0 cycle 0 ≤ item 0 cycle k
