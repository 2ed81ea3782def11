-- The head line of a table: the names of its columns.
use Rattle.std.specs.Prelude.{◌≡◌, ◌⊎◌, ◌<◌, List, length, Option, Some, None, option_and_then, if◌then◌else◌}
use Rattle.lus_values.specs.Names.{Text}
use Rattle.lus_devices.specs.Devices.{Bytes}
use Rattle.lus_lines.specs.Lines.{IsLast, IsNext, most_line_bytes}
use Rattle.lus_scripts.specs.Forms.{each}
use Rattle.lus_scripts.specs.Scripts.{all_distinct, stands_in}
use Rattle.lus_records.specs.Records.{cells_of}

-- the name, where it is that of a column
abbrev pub known : List Text → Text → Option Text
known columns name = if stands_in columns name then Some name else None

-- the names, where none stands twice
abbrev pub distinct : List Text → Option (List Text)
distinct names = if all_distinct names then Some names else None

-- the names, where they are a head: each is that of a column, and none stands twice
abbrev pub head_of : (columns names : List Text) → Option (List Text)
head_of columns names = option_and_then distinct (each (known columns) names)

-- the head that a line is
abbrev pub head_in : List Text → Text → Option (List Text)
head_in columns line = option_and_then (head_of columns) (cells_of line)

-- the first line was read as a head; or it is none, is too long, or has no line feed
abbrev pub HasReadHead : List Text → Option Bytes → Option Bytes → Option (List Text) → Type 0
HasReadHead columns left later (Some head) = (line : Bytes) × IsNext line left later × (head_in columns line ≡ Some head)
HasReadHead columns left later None =
    ((line : Bytes) × IsNext line left later × ((most_line_bytes < length line) ⊎ (head_in columns line ≡ None)))
    ⊎ ((tail : Bytes) × IsLast tail left later)
