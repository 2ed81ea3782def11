-- What is left of an array that leaves are written into.
use Rattle.std.specs.Prelude.{◌≡◌, ◌≤◌, ◌+◌, ◌++◌, ℕ, suc, List, [], ◌∷◌, length, take, drop, set, min}
use Rattle.lus_leaves.specs.declared.leaf.Leaf.{Leaf}

-- the most that a number of 64 bits can be
abbrev pub most : ℕ
most = 18446744073709551615

-- the new items, as far as there is room, and behind them what was there
abbrev pub over : {A : Type 0} → List A → List A → List A
over olds news = take (length olds) news ++ drop (length news) olds

-- the same from a place on
abbrev pub set_all : List Leaf → ℕ → List Leaf → List Leaf
set_all xs at [] = xs
set_all xs at (n ∷ ns) = set_all (set xs at n) (suc at) ns

pub record IsWritten (olds : List Leaf) (at : ℕ) (ls news : List Leaf) (next : ℕ) : Type 0 where
  pub written : length olds ≤ most → news ≡ set_all olds at ls
  pub next_is : next ≡ min (at + length ls) most
