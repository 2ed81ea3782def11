-- A program without its names. What it computes has none of them, since every name in it is a place.
use Rattle.std.specs.Prelude.{[], map}
use Rattle.lus_syntax.specs.Lexemes.{Text}
use Rattle.lus_program.specs.Programs.{Declared, alias, enumeration, structure, Field, Node, Program, Variable}

abbrev pub nameless_constructor : Text → Text
nameless_constructor name = []

abbrev pub nameless_variable : Variable → Variable
nameless_variable v = record v { name = [] }

abbrev pub nameless_field : Field → Field
nameless_field f = record f { name = [] }

abbrev pub nameless_type : Declared → Declared
nameless_type (alias k) = alias k
nameless_type (enumeration names) = enumeration (map nameless_constructor names)
nameless_type (structure fs) = structure (map nameless_field fs)

abbrev pub nameless_node : Node → Node
nameless_node n = record n { name = []; variables = map nameless_variable n.variables }

abbrev pub nameless : Program → Program
nameless p = record { types = map nameless_type p.types; nodes = map nameless_node p.nodes }
