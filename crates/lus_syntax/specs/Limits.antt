-- The limits of the language, each named once. All are this project's choice; the manual sets none.
use Rattle.std.specs.Prelude.{ℕ}

-- the most bytes of a source
abbrev pub most_bytes : ℕ
most_bytes = 1048576

-- how deep an expression may be
abbrev pub most_depth : ℕ
most_depth = 100

-- the most types, constants and nodes of a source, each
abbrev pub most_declarations : ℕ
most_declarations = 1000

-- the most variables of a node
abbrev pub most_variables : ℕ
most_variables = 1000

-- the most constructors of an enumeration
abbrev pub most_constructors : ℕ
most_constructors = 256

-- the most fields of a structure
abbrev pub most_fields : ℕ
most_fields = 64

-- the most leaves of a type
abbrev pub most_leaves : ℕ
most_leaves = 1024

-- how deep structures may nest
abbrev pub most_nesting : ℕ
most_nesting = 64

-- how deep calls may nest
abbrev pub most_calls_deep : ℕ
most_calls_deep = 64

-- the most state cells of a node
abbrev pub most_cells : ℕ
most_cells = 100000

-- the most parts of a program, which no source within its limit of bytes passes
abbrev pub most_parts : ℕ
most_parts = 1048576
