-- The parts of a text, each followed by those in it.
use Rattle.std.specs.Prelude.{◌≡◌, List, [], ◌∷◌, ◌++◌}
use Rattle.lus_program.specs.Programs.{Program}
use Rattle.lus_streams.specs.Clocks.{Part, at, parts}

module _ (p : Program) where
  -- the first of these parts is followed by those in it
  abbrev pub IsFollowed : Part → List Part → Type 0
  IsFollowed (at k e) es = (rest : List Part) × (es ≡ parts p e k ++ rest)

  -- and so is each behind it
  abbrev pub AreNested : List Part → Type 0
  AreNested [] = Unit {0}
  AreNested (e ∷ es) = IsFollowed e (e ∷ es) × AreNested es
