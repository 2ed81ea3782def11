-- Names of constructors, by the number of their type among the type declarations and by their own in it.
use Rattle.std.specs.Prelude.{ℕ, suc, List, [], ◌∷◌, Option, Some, None, Vec, String, map, slice_get, string_bytes, if◌then◌else◌}
use Rattle.std.specs.Global.{Global}
use Rattle.std.specs.Option.{option_and_then, option_map, option_or}
use Rattle.std.specs.Str.{bytes_eq}

-- the bytes of a text
abbrev pub Text : Type 0
Text = List ℕ

-- each type's constructors, in declared order; a type that is no enumeration has none
abbrev pub Names : Type 0
Names = List (List Text)

-- the names that lie in strings
abbrev pub names_in : List (Vec (String Global) Global) → Names
names_in types = map (λ names. map string_bytes names.items) types

-- the name of a constructor
abbrev pub name_of : Names → ℕ → ℕ → Option Text
name_of names type constructor = option_and_then (λ constructors. slice_get constructors constructor) (slice_get names type)

-- where a text first stands among those from c on
abbrev pub place_from : ℕ → List Text → Text → Option ℕ
place_from c [] text = None
place_from c (n ∷ ns) text = if bytes_eq text n then Some c else place_from (suc c) ns text

abbrev pub numbers_from : ℕ → Names → Text → Option (ℕ × ℕ)
numbers_from t [] text = None
numbers_from t (ns ∷ names) text = option_or (option_map (λ c. (t, c)) (place_from 0 ns text)) (numbers_from (suc t) names text)

-- the numbers of the type and of the constructor that has the name, the first if several have
abbrev pub numbers_of : Names → Text → Option (ℕ × ℕ)
numbers_of = numbers_from 0

-- what one name alone tells of a text: its numbers, where the text is the name
abbrev pub numbers_by : Text → ℕ × ℕ → Text → Option (ℕ × ℕ)
numbers_by name numbers text = if bytes_eq text name then Some numbers else None
