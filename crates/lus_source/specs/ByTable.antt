-- What a source's names stand for, as the code finds it.
use Rattle.std.specs.Prelude.{List, Some, None}
use Rattle.std.specs.List.{zip}
use Rattle.lus_syntax.specs.Lexemes.{Text}
use Rattle.lus_syntax.specs.Trees.{TypeName, BoolName, IntName, DeclaredName}
use Rattle.lus_program.specs.declared.types.Kind.{Kind}
use Rattle.lus_program.specs.declared.types.Kind.TheVariants as kinds
use Rattle.lus_source.specs.Scopes.{entry}

-- the type that a name means, by a table of types; bool for an unknown one
abbrev pub kind_in : List (Text × Kind) → TypeName → Kind
kind_in types (BoolName s) = kinds.Bool
kind_in types (IntName s) = kinds.Int
kind_in types (DeclaredName n) = elim (entry types n.text) [ Some k ↦ k | None ↦ kinds.Bool ]

-- so where the declared types have these names and are these
abbrev pub kind_told : List Text → List Kind → TypeName → Kind
kind_told names ks = kind_in (zip names ks)
