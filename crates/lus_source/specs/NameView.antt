-- The tables of names that the code holds, as lists of names.
use Rattle.std.specs.Prelude.{Bool, true, false, not, List, [], map, string_bytes, String}
use Rattle.std.specs.Global.{Global}
use Rattle.lus_syntax.specs.Lexemes.{Text}
use Rattle.lus_source.specs.declared.names.Names.{Names}
use Rattle.lus_source.specs.Named.{Known}
use Rattle.lus_source.specs.declared.places.Spaces.{Spaces}

abbrev pub texts : List (String Global) → List Text
texts keys = map string_bytes keys

abbrev pub known_seen : Names → Known
known_seen n = record {
  variables = texts n.variables.keys;
  constants = texts n.constants.keys;
  constructors = texts n.constructors.keys;
  types = texts n.types.keys;
  nodes = texts n.nodes.keys;
}

-- the names of a source; no variables
abbrev pub spaces_seen : Spaces → Known
spaces_seen s = record { variables = []; constants = s.constants; constructors = s.constructors; types = s.types; nodes = s.nodes }

-- one of two holds, not both
abbrev pub differs : Bool → Bool → Bool
differs true b = not b
differs false b = b
