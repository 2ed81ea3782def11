-- The limits of scripts, which this program sets, each named once. Their bytes are as many at most as those of a source.
use Rattle.std.specs.Prelude.{ℕ}

-- the most instances
abbrev pub most_instances : ℕ
most_instances = 256

-- the most callers
abbrev pub most_callers : ℕ
most_callers = 64

-- the most calls of a caller
abbrev pub most_calls : ℕ
most_calls = 10000

-- the most bytes of a name
abbrev pub most_name_bytes : ℕ
most_name_bytes = 64
