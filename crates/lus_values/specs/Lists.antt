-- Words on lists that definitions of every layer use.
use Rattle.std.specs.Prelude.{ℕ, zero, suc, List, [], ◌∷◌, slice_index_or}

-- the item at a place, or d past the end
abbrev pub item : {X : Type 0} → X → List X → ℕ → X
item d xs n = slice_index_or xs n d

-- P holds of each item
abbrev pub Each : {X : Type 0} → (X → Type 0) → List X → Type 0
Each P [] = Unit {0}
Each P (x ∷ xs) = P x × Each P xs

-- P holds of each number below n
abbrev pub Below : ℕ → (ℕ → Type 0) → Type 0
Below zero P = Unit {0}
Below (suc n) P = P n × Below n P
