-- Replies as objects of JSON. Names are of the source, so none needs an escape.
use Rattle.std.specs.Prelude.{◌+◌, ℕ, List, [], ◌∷◌, ◌++◌, codes, Option, Some, None, option_map, slice_get, unwrap_or}
use Rattle.std.specs.List.{join_by}
use Rattle.lus_values.specs.Names.{Text, Names}
use Rattle.lus_values.specs.Text.{text_of}
use Rattle.lus_values.specs.Values.{Value, bool, int, enum, struct, nil, Fields, end, field, Row}
use Rattle.lus_program.specs.Programs.{Declared, alias, enumeration, structure, Field, Program, Variable}
use Rattle.lus_program.specs.declared.types.Kind.{Kind}
use Rattle.lus_program.specs.declared.types.Kind.TheVariants.{Bool, Int, Enum, Struct}
use Rattle.lus_requests.specs.declared.request.Request.{Request}
use Rattle.lus_requests.specs.declared.request.Request.TheVariants.{Step, Reset, Save, Restore, Burst}
use Rattle.lus_requests.specs.declared.request.Why.{Why}
use Rattle.lus_requests.specs.declared.request.Why.TheVariants.{Shape, Presence, Fault, NoSave}
use Rattle.lus_requests.specs.declared.request.Reply.{Reply}
use Rattle.lus_requests.specs.declared.request.Reply.TheVariants.{Outputs, Rows, Done, Refused}

-- what precedes a member's value in an object
abbrev pub key : Text → Text
key name = codes "\"" ++ name ++ codes "\":"

-- texts with commas between them
abbrev pub listed : List Text → Text
listed texts = join_by (λ t. t) (codes ",") texts

-- ---- values

abbrev pub fields_in : Option Declared → List Field
fields_in (Some (structure fs)) = fs
fields_in (Some (alias k)) = []
fields_in (Some (enumeration cs)) = []
fields_in None = []

-- the fields of a structure type; another type has none
abbrev pub fields_at : Program → Option Kind → List Field
fields_at p (Some (Struct t)) = fields_in (slice_get p.types t)
fields_at p (Some (Enum t)) = []
fields_at p (Some Bool) = []
fields_at p (Some Int) = []
fields_at p None = []

-- the name of the field at a place: a question mark where there is none
abbrev pub name_at : List Field → ℕ → Text
name_at fields place = unwrap_or (option_map (λ f. f.name) (slice_get fields place)) (codes "?")

abbrev pub kind_at : List Field → ℕ → Option Kind
kind_at fields place = option_map (λ f. f.kind) (slice_get fields place)

-- a number and a truth value as in journals, the name of a constructor as a string, and a structure as an object of its fields
abbrev mutual
  pub value_json : Program → Names → Option Kind → Value → Text
  value_json p names kind (bool b) = text_of names (bool b)
  value_json p names kind (int z) = text_of names (int z)
  value_json p names kind (enum t c) = codes "\"" ++ text_of names (enum t c) ++ codes "\""
  value_json p names kind (struct fs) = codes "{" ++ listed (fields_json p names (fields_at p kind) 0 fs) ++ codes "}"
  value_json p names kind nil = codes "null"

  -- members of an object: fields from this place on, by their names
  pub fields_json : Program → Names → List Field → ℕ → Fields → List Text
  fields_json p names declared place end = []
  fields_json p names declared place (field v fs) =
      (key (name_at declared place) ++ value_json p names (kind_at declared place) v) ∷ fields_json p names declared (place + 1) fs

-- ---- rows

abbrev pub output_name : List Variable → ℕ → Text
output_name outputs place = unwrap_or (option_map (λ v. v.name) (slice_get outputs place)) (codes "?")

abbrev pub output_kind : List Variable → ℕ → Option Kind
output_kind outputs place = option_map (λ v. v.kind) (slice_get outputs place)

-- members of an object: the present items from this place on, by the names of their outputs
abbrev pub items_json : Program → Names → List Variable → ℕ → Row → List Text
items_json p names outputs place [] = []
items_json p names outputs place (None ∷ row) = items_json p names outputs (place + 1) row
items_json p names outputs place (Some v ∷ row) =
    (key (output_name outputs place) ++ value_json p names (output_kind outputs place) v) ∷ items_json p names outputs (place + 1) row

-- an object of the outputs that are present
abbrev pub row_json : Program → Names → List Variable → Row → Text
row_json p names outputs row = codes "{" ++ listed (items_json p names outputs 0 row) ++ codes "}"

-- rows with commas between them
abbrev pub listed_rows_json : Program → Names → List Variable → List Row → Text
listed_rows_json p names outputs rows = join_by (row_json p names outputs) (codes ",") rows

-- ---- replies

-- the word of a request in journals
abbrev pub word_of : Request → Text
word_of (Step inputs) = codes "step"
word_of Reset = codes "reset"
word_of (Save slot) = codes "save"
word_of (Restore slot) = codes "restore"
word_of (Burst rows) = codes "burst"

-- the word of a refusal in journals
abbrev pub why_word : Why → Text
why_word Shape = codes "shape"
why_word Presence = codes "presence"
why_word Fault = codes "fault"
why_word NoSave = codes "nosave"

-- the reply to a request to a node with these outputs
abbrev pub reply_json : Program → Names → List Variable → Request → Reply → Text
reply_json p names outputs request (Outputs row) = codes "{\"outputs\":" ++ row_json p names outputs row ++ codes "}"
reply_json p names outputs request (Rows rows) = codes "{\"burst\":[" ++ listed_rows_json p names outputs rows ++ codes "]}"
reply_json p names outputs request Done = codes "{\"done\":\"" ++ word_of request ++ codes "\"}"
reply_json p names outputs request (Refused why) = codes "{\"refused\":\"" ++ why_word why ++ codes "\"}"
