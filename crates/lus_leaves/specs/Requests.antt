-- Requests, replies and entries as numbers.
use Rattle.std.specs.Prelude.{◌≡◌, ◌≤◌, ℕ, List, [], length, min}
use Rattle.lus_requests.specs.declared.request.Request.{Request}
use Rattle.lus_requests.specs.declared.request.Request.TheVariants.{Step, Reset, Save, Restore, Burst}
use Rattle.lus_requests.specs.declared.request.Reply.{Reply}
use Rattle.lus_requests.specs.declared.request.Reply.TheVariants.{Outputs, Rows, Done, Refused}
use Rattle.lus_requests.specs.declared.request.Why.{Why}
use Rattle.lus_requests.specs.declared.request.Why.TheVariants.{Shape, Presence, Fault, NoSave}
use Rattle.lus_requests.specs.declared.request.Entry.{Entry}
use Rattle.lus_leaves.specs.declared.leaf.Leaf.{Leaf}
use Rattle.lus_leaves.specs.declared.requests.Answer.{Answer}
use Rattle.lus_leaves.specs.declared.requests.EntryOut.{EntryOut}
use Rattle.lus_leaves.specs.Leaves.{row_leaves, rows_leaves}
use Rattle.lus_leaves.specs.Fits.{RowFits, RowsFit}
use Rattle.lus_leaves.specs.Reading.{AreRows}
use Rattle.lus_leaves.specs.Writing.{most, over}

-- the request that C's numbers spell
abbrev pub Spells : (kind slot : ℕ) → List Leaf → Request → Type 0
Spells kind slot inputs (Step row) = (kind ≡ 1) × (row_leaves row ≡ inputs)
Spells kind slot inputs Reset = kind ≡ 2
Spells kind slot inputs (Save n) = (kind ≡ 3) × (n ≡ slot)
Spells kind slot inputs (Restore n) = (kind ≡ 4) × (n ≡ slot)
Spells kind slot inputs (Burst rows) = (kind ≡ 5) × AreRows inputs slot rows

-- what numbers can be read as: its rows fit, and a burst has at most 65,535 of them
abbrev pub RequestFits : Request → Type 0
RequestFits (Step row) = RowFits row
RequestFits (Burst rows) = RowsFit rows × (length rows ≤ 65535)
RequestFits _ = Unit {0}

-- the numbers that spell a request
abbrev pub request_code : Request → ℕ
request_code (Step row) = 1
request_code Reset = 2
request_code (Save n) = 3
request_code (Restore n) = 4
request_code (Burst rows) = 5

-- the slot, or how many rows a burst has
abbrev pub slot_of : Request → ℕ
slot_of (Save n) = n
slot_of (Restore n) = n
slot_of (Burst rows) = length rows
slot_of _ = 0

abbrev pub request_leaves : Request → List Leaf
request_leaves (Step row) = row_leaves row
request_leaves (Burst rows) = rows_leaves rows
request_leaves _ = []

-- the numbers that spell a reply
abbrev pub reply_code : Reply → ℕ
reply_code (Outputs row) = 1
reply_code Done = 2
reply_code (Refused why) = 3
reply_code (Rows rows) = 4

abbrev pub why_code : Why → ℕ
why_code Shape = 1
why_code Presence = 2
why_code Fault = 3
why_code NoSave = 4

abbrev pub refusal_code : Reply → ℕ
refusal_code (Refused why) = why_code why
refusal_code _ = 0

abbrev pub reply_leaves : Reply → List Leaf
reply_leaves (Outputs row) = row_leaves row
reply_leaves (Rows rows) = rows_leaves rows
reply_leaves _ = []

-- C is told the reply: its leaves stand in the array, as far as that has room
pub record IsTold (reply : Reply) (answer : Answer) (olds news : List Leaf) : Type 0 where
  pub kind : answer.kind ≡ reply_code reply
  pub why : answer.why ≡ refusal_code reply
  pub count : answer.count ≡ min (length (reply_leaves reply)) most
  pub outputs : news ≡ over olds (reply_leaves reply)

-- C is told the request
pub record IsAsked (request : Request) (out : EntryOut) (olds news : List Leaf) : Type 0 where
  pub kind : out.request ≡ request_code request
  pub slot : out.slot ≡ slot_of request
  pub count : out.inputs ≡ min (length (request_leaves request)) most
  pub inputs : news ≡ over olds (request_leaves request)

-- C is told the entry: whose it is, its request and its reply
pub record EntryIsTold (entry : Entry) (out : EntryOut) (old_inputs new_inputs old_outputs new_outputs : List Leaf) : Type 0 where
  pub caller : out.caller ≡ entry.caller
  pub request : IsAsked entry.request out old_inputs new_inputs
  pub reply : IsTold entry.reply (record { kind = out.reply; why = out.why; count = out.outputs }) old_outputs new_outputs
