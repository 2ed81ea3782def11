-- The names of a cycle, as plain texts.
use Rattle.std.specs.Prelude.{ℕ, List, [], Option, Some, None, map, String, string_bytes}
use Rattle.std.specs.Global.{Vec, Global}

abbrev pub names_of : Option (Vec (String Global)) → List (List ℕ)
names_of None = []
names_of (Some names) = map string_bytes names.items
