-- Records of comma-separated values (RFC 4180) as steps of a node: the cells of a line, and the inputs that they have under a head.
use Rattle.std.specs.Prelude.{◌==◌, ℕ, zero, suc, Bool, true, false, List, [], ◌∷◌, length, slice_get}
use Rattle.std.specs.Prelude.{Option, Some, None, is_some, option_map, option_and_then, unwrap_or, if◌then◌else◌}
use Rattle.std.specs.List.{list_all}
use Rattle.csv.specs.Machine.{Read, next_record}
use Rattle.csv.specs.Reading.{default_config, strip_bom}
use Rattle.csv.specs.declared.parser.State.TheVariants.{StartRecord}
use Rattle.lus_syntax.specs.Limits.{most_nesting}
use Rattle.lus_values.specs.Names.{Text, Names}
use Rattle.lus_values.specs.Values.{Value, struct, fields_of, Row}
use Rattle.lus_program.specs.declared.types.Kind.{Kind}
use Rattle.lus_program.specs.Programs.{Field, Program, Variable}
use Rattle.lus_requests.specs.declared.request.Request.{Request}
use Rattle.lus_requests.specs.declared.request.Request.TheVariants.{Step}
use Rattle.lus_play.specs.Plays.{ended}
use Rattle.lus_asked.specs.Reading.{word_value}
use Rattle.lus_scripts.specs.Forms.{each}
use Rattle.lus_scripts.specs.Scripts.{fields_at, place_of}
use Rattle.lus_records.specs.Columns.{columns_of, field_column}

-- ---- the cells of a line

-- whether no record begins where another ends
abbrev pub ends_there : Option Read → Bool
ends_there None = true
ends_there (Some p) = false

abbrev pub cells_by : Option Read → Option (List Text)
cells_by None = Some []
cells_by (Some p) = if ends_there (next_record default_config p.1 [] [] p.2) then Some p.0 else None

-- the cells of the one record of a line with its line feed, none where it is blank; a line with several records has no cells
abbrev pub cells_of : Text → Option (List Text)
cells_of line = cells_by (next_record default_config StartRecord [] [] (strip_bom (ended line)))

-- ---- values

-- the cell under a name: an empty one, where the head lacks the name
abbrev pub cell_in : (head cells : List Text) → Text → Text
cell_in head cells name = unwrap_or (option_and_then (slice_get cells) (place_of head name)) []

abbrev pub is_empty : Text → Bool
is_empty [] = true
is_empty (b ∷ bs) = false

-- a structure of its fields' values, or the value of the one cell
abbrev pub value_by : (Kind → Text → Option Value) → Text → Option Value → Option (List Field) → Option Value
value_by inner column plain None = plain
value_by inner column plain (Some fields) =
    option_map (λ vs. struct (fields_of vs)) (each (λ f. inner f.kind (field_column column f.name)) fields)

-- the value of a type in a column or in those of its fields, where structures nest at most this many levels: words of journals
abbrev pub value_at : ℕ → Program → Names → (Text → Text) → Kind → Text → Option Value
value_at zero p names cell kind column = if is_some (fields_at p (Some kind)) then None else word_value names (cell column)
value_at (suc levels) p names cell kind column =
    value_by (value_at levels p names cell) column (word_value names (cell column)) (fields_at p (Some kind))

unfoldable pub value_in : Program → Names → (Text → Text) → Variable → Option Value
value_in p names cell v = value_at most_nesting p names cell v.kind v.name

-- an input is absent where all its cells are empty
abbrev pub is_blank : Program → (Text → Text) → Variable → Bool
is_blank p cell v = list_all (λ c. is_empty (cell c)) (columns_of p v)

abbrev pub item_in : Program → Names → (Text → Text) → Variable → Option (Option Value)
item_in p names cell v = if is_blank p cell v then Some None else option_map Some (value_in p names cell v)

-- ---- steps

-- the inputs of a node in a record under a head: as many cells as names, and each input absent or with a value
abbrev pub row_of : Program → Names → List Variable → (head cells : List Text) → Option Row
row_of p names inputs head cells = if length cells == length head then each (item_in p names (cell_in head cells)) inputs else None

-- the step that a line is under a head
abbrev pub step_in : Program → Names → List Variable → List Text → Text → Option Request
step_in p names inputs head line = option_and_then (λ cells. option_map Step (row_of p names inputs head cells)) (cells_of line)
