-- Tables whose outputs are filled in.
use Rattle.std.specs.Prelude.{◌+◌, ◌++◌, ℕ, List, [], ◌∷◌, Option, Some, None, unwrap_or}
use Rattle.lus_values.specs.Names.{Text}
use Rattle.lus_requests.specs.declared.request.Reply.{Reply}
use Rattle.lus_records.specs.Outputs.{record_text}
use Rattle.lus_test.specs.Findings.{cell_at, row_at}

abbrev pub told_or_none : Option (List Text) → List Text
told_or_none told = unwrap_or told []

-- what is told under an output, and the cell itself under an input
abbrev pub filled_cell : List Text → Option ℕ → Text → Text
filled_cell told None cell = cell
filled_cell told (Some place) cell = cell_at told place

-- the cells from a place on
abbrev pub filled_from : ℕ → List Text → List (Option ℕ) → List Text → List Text
filled_from n told [] cells = []
filled_from n told (place ∷ places) cells = filled_cell told place (cell_at cells n) ∷ filled_from (n + 1) told places cells

-- the records of the rows from a place on, to which these are the replies
abbrev pub rows_from : ℕ → (Reply → Option (List Text)) → List (Option ℕ) → List (List Text) → List Reply → Text
rows_from row told places rows [] = []
rows_from row told places rows (r ∷ rs) =
    record_text (filled_from 0 (told_or_none (told r)) places (row_at rows row)) ++ rows_from (row + 1) told places rows rs
