-- A node with other names is the same without them, and one that copies another variable isn't.
use Rattle.std.proofs.Common.{rules, ◌≡◌, ◌≢◌, [], ◌∷◌, None, codes, refl}
use Rattle.lus_syntax.specs.Lexemes.{Text}
use Rattle.lus_syntax.specs.declared.tree.NodeKind.TheVariants as node_kinds
use Rattle.lus_program.specs.declared.types.Kind.TheVariants as kinds
use Rattle.lus_program.specs.Programs.{Expression, Program, Variable, variable}
use Rattle.lus_same.specs.Nameless.{nameless}

abbrev number : Text → Variable
number x = record { name = x; kind = kinds.Int; test = None }

-- node f(x: int) returns (y: int); let y = right; tel
abbrev copying : Text → Text → Text → Expression → Program
copying f x y right = record {
  types = [];
  nodes = record {
    kind = node_kinds.Node;
    name = f;
    inputs = 1;
    outputs = 1;
    variables = number x ∷ number y ∷ [];
    equations = record { targets = 1 ∷ []; right = right } ∷ [];
  } ∷ [];
}

renamed : nameless (copying (codes "f") (codes "x") (codes "y") (variable 0)) ≡ nameless (copying (codes "g") (codes "z") (codes "y") (variable 0))
renamed = refl

captured : nameless (copying (codes "f") (codes "x") (codes "y") (variable 0)) ≢ nameless (copying (codes "f") (codes "y") (codes "y") (variable 1))
captured = search rules
