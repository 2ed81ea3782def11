-- What is found of a table: that each output is the one that is expected, or the first that isn't.
use Rattle.std.specs.Prelude.{◌+◌, ◌||◌, ℕ, Bool, true, List, [], ◌∷◌, map, slice_get, Option, Some, None, codes, unwrap_or, if◌then◌else◌}
use Rattle.std.specs.Str.{bytes_eq}
use Rattle.lus_values.specs.Names.{Names, Text}
use Rattle.lus_program.specs.Programs.{Program, Variable}
use Rattle.lus_program.specs.View.{program_seen, variable_of}
use Rattle.lus_requests.specs.declared.request.Reply.{Reply}
use Rattle.lus_requests.specs.declared.request.Reply.TheVariants as replies
use Rattle.lus_records.specs.Outputs.{row_cells}
use Rattle.lus_records.specs.Records.{is_empty}
use Rattle.lus_test.specs.declared.finding.Finding.{Finding}
use Rattle.lus_test.specs.declared.finding.Finding.TheVariants.{Passed, Refused, Differs}
use Rattle.lus_test.specs.declared.finding.Outputs.{Outputs}

-- a cell as a word of journals, in which `-` stands for what is absent
abbrev pub word_of : Text → Text
word_of [] = codes "-"
word_of (b ∷ bs) = b ∷ bs

-- the words of the outputs' columns in a reply; a refusal has none
abbrev pub told_in : Program → Names → List Variable → Reply → Option (List Text)
told_in p names outputs (replies.Outputs row) = Some (map word_of (row_cells p names outputs row))
told_in p names outputs (replies.Rows rows) = None
told_in p names outputs replies.Done = None
told_in p names outputs (replies.Refused why) = None

-- the cell at a place, and an empty one behind the last
abbrev pub cell_at : List Text → ℕ → Text
cell_at cells n = unwrap_or (slice_get cells n) []

-- the row at a place, and one without cells behind the last
abbrev pub row_at : List (List Text) → ℕ → List Text
row_at rows n = unwrap_or (slice_get rows n) []

-- A cell under the output's column at this place asks for nothing where it is empty, and else for the word that is told there. Under an
-- input it asks for nothing.
abbrev pub is_met : List Text → Option ℕ → Text → Bool
is_met told None cell = true
is_met told (Some place) cell = is_empty cell || bytes_eq (cell_at told place) cell

-- the first cell from a place on that isn't met
abbrev pub unmet_from : ℕ → List Text → List (Option ℕ) → List Text → Option ℕ
unmet_from n told [] cells = None
unmet_from n told (place ∷ places) cells =
    if is_met told place (cell_at cells n) then unmet_from (n + 1) told places cells else Some n

abbrev pub outcome_of : ℕ → Option ℕ → Finding
outcome_of row None = Passed
outcome_of row (Some cell) = Differs row cell

-- of a row whose outputs are told, or that is refused
abbrev pub row_finding : ℕ → List (Option ℕ) → List Text → Option (List Text) → Finding
row_finding row places cells None = Refused row
row_finding row places cells (Some told) = outcome_of row (unmet_from 0 told places cells)

abbrev pub first_finding : Finding → Finding → Finding
first_finding Passed later = later
first_finding (Refused row) later = Refused row
first_finding (Differs row cell) later = Differs row cell

-- of the rows from a place on, to which these are the replies
abbrev pub finding_from : ℕ → (Reply → Option (List Text)) → List (Option ℕ) → List (List Text) → List Reply → Finding
finding_from row told places rows [] = Passed
finding_from row told places rows (r ∷ rs) =
    first_finding (row_finding row places (row_at rows row) (told r)) (finding_from (row + 1) told places rows rs)

-- what the code has of outputs, as plain data
abbrev pub told_by : Outputs → Reply → Option (List Text)
told_by o = told_in (program_seen o.program.now) o.names.now (map variable_of o.variables.now)
