-- Which values a layout can hold: in one word one that is no structure, in several nil or a structure of as many fields, each of
-- which fits.
use Rattle.std.specs.Prelude.{Option, Some, None}
use Rattle.lus_values.specs.Values.{Value, struct, nil, Fields, end, field}
use Rattle.lus_words.specs.Layouts.{Layout, word, parts, Layouts, done, next}

-- no structure
abbrev pub IsWord : Value → Type 0
IsWord (struct fs) = ⊥
IsWord v = Unit {0}

abbrev mutual
  pub Fits : Layout → Value → Type 0
  Fits (word k) v = IsWord v
  Fits (parts ls) (struct fs) = AllFit ls fs
  Fits (parts ls) nil = Unit {0}
  Fits (parts ls) v = ⊥

  pub AllFit : Layouts → Fields → Type 0
  AllFit done end = Unit {0}
  AllFit (next l ls) (field v fs) = Fits l v × AllFit ls fs
  AllFit ls fs = ⊥

abbrev pub EntryFits : Layout → Option Value → Type 0
EntryFits l None = Unit {0}
EntryFits l (Some v) = Fits l v
