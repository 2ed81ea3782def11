-- The columns of variables in a table: one for a variable that is no structure, and one for each field of one that is.
use Rattle.std.specs.Prelude.{◌++◌, ℕ, zero, suc, List, [], ◌∷◌, flat_map, Option, Some, None, codes}
use Rattle.lus_syntax.specs.Limits.{most_nesting}
use Rattle.lus_values.specs.Names.{Text}
use Rattle.lus_program.specs.declared.types.Kind.{Kind}
use Rattle.lus_program.specs.Programs.{Field, Program, Variable}
use Rattle.lus_scripts.specs.Scripts.{fields_at}

-- the name of a field's column: `input.field`
abbrev pub field_column : Text → Text → Text
field_column column name = column ++ codes "." ++ name

-- itself, or what its fields have
abbrev pub columns_by : (Kind → Text → List Text) → Text → Option (List Field) → List Text
columns_by inner column None = column ∷ []
columns_by inner column (Some fields) = flat_map (λ f. inner f.kind (field_column column f.name)) fields

-- the columns of a variable of a type, whose structures nest at most this many levels
abbrev pub columns_at : ℕ → Program → Kind → Text → List Text
columns_at zero p kind column = columns_by (λ k c. []) column (fields_at p (Some kind))
columns_at (suc levels) p kind column = columns_by (columns_at levels p) column (fields_at p (Some kind))

unfoldable pub columns_of : Program → Variable → List Text
columns_of p v = columns_at most_nesting p v.kind v.name

-- the columns of variables, in their order
abbrev pub all_columns : Program → List Variable → List Text
all_columns p vs = flat_map (columns_of p) vs
