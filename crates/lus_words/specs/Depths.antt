-- How deep structures stand in one another.
use Rattle.std.specs.Prelude.{◌≤◌, ℕ, suc, max, List, map, Option}
use Rattle.std.specs.Option.{MatchOption}
use Rattle.lus_program.specs.declared.types.Kind.{Kind}
use Rattle.lus_program.specs.Programs.{Program}
use Rattle.lus_words.specs.Layouts.{Layout, word, parts, Layouts, done, next, layouts_of, IsLayout, AreLayouts}
use Rattle.lus_words.specs.View.{layout_of}
use Rattle.lus_words.specs.declared.layout.Layout.{Layout as StoredLayout}

abbrev mutual
  pub depth : Layout → ℕ
  depth (word k) = 0
  depth (parts ls) = suc (depths ls)

  pub depths : Layouts → ℕ
  depths done = 0
  depths (next l ls) = max (depth l) (depths ls)

-- the layout of a type, or nothing where it is deeper
abbrev pub IsLaidOut : Program → Kind → (deep : ℕ) → Option StoredLayout → Type 0
IsLaidOut p k deep found = MatchOption found ((l : Layout) → IsLayout p k l → depth l ≤ deep → ⊥) (λ l. IsLayout p k (layout_of l))

-- those of several types
abbrev pub AreLaidOut : Program → List Kind → (deep : ℕ) → Option (List StoredLayout) → Type 0
AreLaidOut p ks deep found = MatchOption found ((ls : Layouts) → AreLayouts p ks ls → depths ls ≤ deep → ⊥) (λ ls. AreLayouts p ks (layouts_of (map layout_of ls)))
