-- What the names in a node's text stand for: tables, each in the order of the declarations.
use Rattle.std.specs.Prelude.{ℕ, List, [], ◌∷◌, Option, Some, None, cond}
use Rattle.std.specs.Str.{bytes_eq}
use Rattle.lus_syntax.specs.declared.tree.NodeKind.{NodeKind}
use Rattle.lus_syntax.specs.Lexemes.{Text}
use Rattle.lus_values.specs.Values.{Value}
use Rattle.lus_program.specs.declared.types.Kind.{Kind}
use Rattle.lus_program.specs.Programs.{Declared}
use Rattle.lus_source.specs.declared.entries.Placed.{Placed}
use Rattle.lus_source.specs.declared.entries.Constructor.{Constructor}

-- what a call needs of a node: its place, and the types of its inputs and outputs
pub record Signature : Type 0 where
  pub place : ℕ
  pub kind : NodeKind
  pub inputs : List Kind
  pub outputs : List Kind

-- the variables of a node, and the constants, constructors, types and nodes of its source; `declared` says what each
-- type's declaration declares
pub record Scope : Type 0 where
  pub variables : List (Text × Placed)
  pub constants : List (Text × Value)
  pub constructors : List (Text × Constructor)
  pub types : List (Text × Kind)
  pub declared : List Declared
  pub nodes : List (Text × Signature)

-- the entry of a name
abbrev pub entry : {X : Type 0} → List (Text × X) → Text → Option X
entry [] n = None
entry (x ∷ xs) n = cond (bytes_eq n x.0) (Some x.1) (entry xs n)
