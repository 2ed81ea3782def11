-- The words of values, and values from words. A word is an entry that is no structure.
use Rattle.std.specs.Prelude.{◌+◌, ◌++◌, Bool, true, false, ◌&&◌, List, [], ◌∷◌, drop, replicate, Option, Some, None, unwrap_or, if◌then◌else◌}
use Rattle.lus_values.specs.Equality.{same}
use Rattle.lus_values.specs.Lists.{item}
use Rattle.lus_values.specs.Operators.{is_nil}
use Rattle.lus_values.specs.Values.{Value, struct, nil, Fields, end, field, Row}
use Rattle.lus_words.specs.Layouts.{Layout, word, parts, Layouts, done, next, size, sizes}

-- the words of a value: nil in each place where it is nil, or no value of this layout
abbrev mutual
  pub words : Layout → Value → Row
  words (word k) v = Some v ∷ []
  words (parts ls) (struct fs) = all_words ls fs
  words (parts ls) v = replicate (sizes ls) (Some nil)

  pub all_words : Layouts → Fields → Row
  all_words done fs = []
  all_words (next l ls) end = replicate (size l + sizes ls) (Some nil)
  all_words (next l ls) (field v fs) = words l v ++ all_words ls fs

-- the words of an entry: an absent one is absent in each place
abbrev pub encode : Layout → Option Value → Row
encode l None = replicate (size l) None
encode l (Some v) = words l v

-- the value that the first words are, where each has one
abbrev mutual
  pub read : Layout → Row → Value
  read (word k) r = unwrap_or (item None r 0) nil
  read (parts ls) r = struct (all_read ls r)

  pub all_read : Layouts → Row → Fields
  all_read done r = end
  all_read (next l ls) r = field (read l r) (all_read ls (drop (size l) r))

-- the entry that the first words are: the first of them tells whether it is absent or nil
abbrev pub decode : Layout → Row → Option Value
decode l r = elim (item None r 0) [ None ↦ None | Some v ↦ if is_nil v then Some nil else Some (read l r) ]

-- the words of several values, one behind another
abbrev pub joined : Layouts → List Value → Row
joined (next l ls) (v ∷ vs) = words l v ++ joined ls vs
joined ls vs = []

-- whether words are the same, each with a value
abbrev pub same_entry : Option Value → Option Value → Bool
same_entry (Some v) (Some w) = same v w
same_entry v w = false

abbrev pub same_words : Row → Row → Bool
same_words [] [] = true
same_words (v ∷ r) (w ∷ t) = same_entry v w && same_words r t
same_words r t = false
