-- The outputs of a node as records of comma-separated values (RFC 4180).
use Rattle.std.specs.Prelude.{◌++◌, ◌+◌, ℕ, List, [], ◌∷◌, map, slice_get, Option, Some, None, option_and_then}
use Rattle.csv.specs.Writing.{default_writer, row_text}
use Rattle.lus_values.specs.Names.{Text, Names}
use Rattle.lus_values.specs.Text.{text_of}
use Rattle.lus_values.specs.Values.{Value, bool, int, enum, struct, nil, Fields, end, field, Row}
use Rattle.lus_program.specs.Programs.{Program, Variable}
use Rattle.lus_requests.specs.declared.request.Reply.{Reply}
use Rattle.lus_requests.specs.declared.request.Reply.TheVariants.{Outputs, Rows, Done, Refused}
use Rattle.lus_records.specs.Columns.{all_columns, columns_of}

-- the cells of a value: of a structure those of its fields, and else its word in journals
abbrev mutual
  pub value_cells : Names → Value → List Text
  value_cells names (bool b) = text_of names (bool b) ∷ []
  value_cells names (int z) = text_of names (int z) ∷ []
  value_cells names (enum t c) = text_of names (enum t c) ∷ []
  value_cells names (struct fs) = fields_cells names fs
  value_cells names nil = text_of names nil ∷ []

  pub fields_cells : Names → Fields → List Text
  fields_cells names end = []
  fields_cells names (field v fs) = value_cells names v ++ fields_cells names fs

-- an empty cell for each column
abbrev pub blank_cells : Program → Variable → List Text
blank_cells p v = map (λ c. []) (columns_of p v)

-- an absent output has empty cells
abbrev pub item_cells : Program → Names → Variable → Option Value → List Text
item_cells p names v None = blank_cells p v
item_cells p names v (Some x) = value_cells names x

-- the item at a place; behind the end of a row all is absent
abbrev pub item_at : Row → ℕ → Option Value
item_at row place = option_and_then (λ item. item) (slice_get row place)

-- the cells of outputs whose items stand from this place on
abbrev pub cells_from : Program → Names → ℕ → List Variable → Row → List Text
cells_from p names place [] row = []
cells_from p names place (v ∷ vs) row = item_cells p names v (item_at row place) ++ cells_from p names (place + 1) vs row

abbrev pub row_cells : Program → Names → List Variable → Row → List Text
row_cells p names outputs row = cells_from p names 0 outputs row

-- the outputs of a step that is accepted; any other reply has none
abbrev pub outputs_in : Reply → Row
outputs_in (Outputs row) = row
outputs_in (Rows rows) = []
outputs_in Done = []
outputs_in (Refused why) = []

-- a record's text, and its line feed
abbrev pub record_text : List Text → Text
record_text cells = row_text default_writer cells

-- the record of a reply
abbrev pub reply_record : Program → Names → List Variable → Reply → Text
reply_record p names outputs reply = record_text (row_cells p names outputs (outputs_in reply))

-- the names of the outputs' columns
abbrev pub outputs_head : Program → List Variable → Text
outputs_head p outputs = record_text (all_columns p outputs)
