-- What is read from leaves.
use Rattle.std.specs.Prelude.{◌≡◌, ◌<◌, ◌++◌, ℕ, pos, List, [], ◌∷◌, length, drop, map, All, Vec, Option, MatchOption}
use Rattle.std.specs.Global.{Global}
use Rattle.lus_values.specs.Values.{Value, Fields, Row, fields_of}
use Rattle.lus_values.specs.View.{value_of, entry_of}
use Rattle.lus_values.specs.declared.value.Value.{Value as StoredValue}
use Rattle.lus_leaves.specs.declared.leaf.Leaf.{Leaf}
use Rattle.lus_leaves.specs.declared.reading.Found.{Found}
use Rattle.lus_leaves.specs.declared.reading.Found.TheVariants.{At, Wrong as NotFound}
use Rattle.lus_leaves.specs.declared.reading.Single.{Single}
use Rattle.lus_leaves.specs.declared.reading.Single.TheVariants.{Entry, Head, Wrong}
use Rattle.lus_leaves.specs.Leaves.{leaf, count, entry_leaves, fields_leaves, rows_leaves}
use Rattle.lus_leaves.specs.Fits.{EntryFits, FieldsFit}

abbrev pub IsSingle : Leaf → Single → Type 0
IsSingle l (Entry e) = l ∷ [] ≡ entry_leaves (entry_of e)
IsSingle l (Head n) = l ≡ leaf 4 0 (pos n)
IsSingle l Wrong = Unit {0}

abbrev pub SingleFits : Single → Type 0
SingleFits (Entry e) = (depth : ℕ) → EntryFits depth (entry_of e)
SingleFits (Head n) = n < 4294967296
SingleFits Wrong = Unit {0}

-- the entry's leaves stand at the place, and the next place is behind them
abbrev pub IsFound : List Leaf → ℕ → Found → Type 0
IsFound ls at (At e next) = drop at ls ≡ entry_leaves (entry_of e) ++ drop next ls
IsFound ls at NotFound = Unit {0}

abbrev pub FoundFits : ℕ → Found → Type 0
FoundFits depth (At e next) = EntryFits depth (entry_of e)
FoundFits depth NotFound = Unit {0}

-- an entry that fits and the leaves behind it, which stand at the place, are what was found
abbrev pub Finds : List Leaf → Option Value → List Leaf → Found → Type 0
Finds ls e rest (At found next) = (entry_of found ≡ e) × (drop next ls ≡ rest)
Finds ls e rest NotFound = ⊥

abbrev pub IsOnly : ℕ → List Leaf → ℕ → Found → Type 0
IsOnly depth ls at found = (e : Option Value) (rest : List Leaf) → EntryFits depth e → drop at ls ≡ entry_leaves e ++ rest → Finds ls e rest found

-- the same of so many fields
abbrev pub AreOnly : ℕ → List Leaf → (at n : ℕ) → Option (Vec StoredValue Global × ℕ) → Type 0
AreOnly depth ls at n found =
    (fs : Fields) (rest : List Leaf) → count fs ≡ n → FieldsFit depth fs → drop at ls ≡ fields_leaves fs ++ rest
    → MatchOption found ⊥ (λ f. (fields_of (map value_of f.0.items) ≡ fs) × (drop f.1 ls ≡ rest))

-- so many values' leaves stand at the place, and the next place is behind them
pub record AreFields (ls : List Leaf) (at count : ℕ) (vs : List StoredValue) (next : ℕ) : Type 0 where
  pub leaves : drop at ls ≡ fields_leaves (fields_of (map value_of vs)) ++ drop next ls
  pub count_is : length vs ≡ count

-- so many rows, all of one length, are these leaves
pub record AreRows (ls : List Leaf) (count : ℕ) (rows : List Row) : Type 0 where
  pub leaves : rows_leaves rows ≡ ls
  pub count_is : length rows ≡ count
  pub even : (width : ℕ) × All (λ (r : Row). length r ≡ width) rows
