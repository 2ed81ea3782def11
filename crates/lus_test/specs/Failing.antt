-- The table of a run in which a claim fails, up to the row in which it does.
use Rattle.std.specs.Prelude.{◌≡◌, ◌+◌, ◌++◌, ◌==◌, ℕ, List, [], ◌∷◌, Option, Some, codes, nat_le, if◌then◌else◌}
use Rattle.lus_values.specs.Names.{Text}
use Rattle.lus_devices.specs.Devices.{Bytes, with_text}
use Rattle.lus_records.specs.Outputs.{record_text}
use Rattle.lus_program.specs.Programs.{Program}
use Rattle.lus_requests.specs.declared.request.Request.{Request}
use Rattle.lus_requests.specs.declared.request.Reply.{Reply}
use Rattle.lus_scripts.specs.Scripts.{place_of}
use Rattle.lus_test.specs.Claims.{IsTrial}
use Rattle.lus_test.specs.Tables.{output_columns}

-- what is expected of the claim in a row: that it is true in the last one, and nothing before
abbrev pub expected : ℕ → ℕ → Text
expected last n = if n == last then codes "true" else []

-- the record of a row, if it isn't behind the last
abbrev pub failing_row : ℕ → ℕ → List Text → Text
failing_row last n cells = if nat_le n last then record_text (cells ++ expected last n ∷ []) else []

abbrev pub failing_rows : ℕ → ℕ → List (List Text) → Text
failing_rows last n [] = []
failing_rows last n (cells ∷ rows) = failing_row last n cells ++ failing_rows last (n + 1) rows

-- the names of the inputs' columns and of the claim, and the rows
abbrev pub failing_table : List Text → Text → ℕ → List (List Text) → Text
failing_table names claim last rows = record_text (names ++ claim ∷ []) ++ failing_rows last 0 rows

-- Of a node of the program the table of a run is written in which the claim fails: it is false in the last row of the table, or that is refused.
pub record WritesFailing (p : Program) (claim : Text) (old new : Option Bytes) : Type 0 where
  pub node : ℕ
  pub place : ℕ
  pub named : Some place ≡ place_of (output_columns p node) claim
  pub names : List Text
  pub rows : List (List Text)
  pub steps : List Request
  pub replies : List Reply
  pub last : ℕ
  pub trial : IsTrial p node names place rows steps replies (Some last)
  pub written : new ≡ with_text old (failing_table names claim last rows)
