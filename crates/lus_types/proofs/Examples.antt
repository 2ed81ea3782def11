-- Trees that no tokens spell: their programs lack what is promised, so they are not well formed.
use Rattle.std.proofs.Common.{◌≡◌, ℕ, refl, List, [], ◌∷◌, None, false}
use Rattle.lus_syntax.specs.declared.token.Place.{Place}
use Rattle.lus_syntax.specs.declared.token.Span.{Span}
use Rattle.lus_syntax.specs.declared.tree.NodeKind.TheVariants as node_kinds
use Rattle.lus_syntax.specs.Trees as tree
use Rattle.lus_values.specs.Values.{nil}
use Rattle.lus_program.specs.Programs.{literal}
use Rattle.lus_source.specs.Named.{has_left}
use Rattle.lus_source.specs.Tables.{scope}
use Rattle.lus_source.specs.Meaning.{meant, node_meant, program_of}
use Rattle.lus_program.specs.Resolved.{kinds_given_in}

abbrev start : Place
start = record { byte = 0; line = 1; column = 1 }

abbrev here : Span
here = record { start = start; length = 1 }

-- a name of one letter
abbrev n : ℕ → tree.Named
n c = tree.named (c ∷ []) here

abbrev node : ℕ → List tree.Group → List tree.Equation → tree.Node
node c outputs qs = record { kind = node_kinds.Node; name = n c; inputs = []; outputs = outputs; locals = []; equations = qs }

-- type a = int; node f() returns (y: int); let y = a {}; tel: a structure of no type of structures, so it means nil

abbrev hollow : tree.Equation
hollow = record { left = n 121 ∷ []; right = tree.Structure (n 97) tree.End }

abbrev f : tree.Node
f = node 102 (record { names = n 121 ∷ []; type_name = tree.IntName here; test = None } ∷ []) (hollow ∷ [])

abbrev aliased : tree.Tree
aliased = record { types = record { name = n 97; definition = tree.Alias (tree.IntName here) } ∷ []; constants = []; nodes = f ∷ [] }

hollow_means_nil : meant (scope aliased f) hollow.right ≡ literal nil
hollow_means_nil = refl

hollow_is_untyped : kinds_given_in (program_of aliased) (node_meant aliased f) (meant (scope aliased f) hollow.right) ≡ None
hollow_is_untyped = refl

-- = g();: a call of a node without outputs, and nothing on its left

abbrev bare : tree.Equation
bare = record { left = []; right = tree.Call (n 103) tree.End }

bare_has_no_left : has_left bare ≡ false
bare_has_no_left = refl
