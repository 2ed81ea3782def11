-- Programs of which a normal form can be made, a condition of this compiler: their parts, of which each may get a variable of its own,
-- can be numbered.
use Rattle.std.specs.Prelude.{◌≤◌}
use Rattle.lus_syntax.specs.Limits.{most_parts}
use Rattle.lus_program.specs.Programs.{Program}
use Rattle.lus_program.specs.Parts.{program_parts}

-- there are no more parts than can be numbered
abbrev pub HasFewParts : Program → Type 0
HasFewParts p = program_parts p ≤ most_parts
