-- The columns of a history's table: one for each accepted instant, and one for each burst, reset, save and restore between them.
use Rattle.std.specs.Prelude.{◌+◌, ◌++◌, ℕ, List, [], ◌∷◌, length, nat_lt, replicate, slice_index, slice_set}
use Rattle.std.specs.Prelude.{Option, Some, None, if◌then◌else◌}
use Rattle.lus_values.specs.Values.{Row}
use Rattle.lus_requests.specs.declared.request.Request.{Request}
use Rattle.lus_requests.specs.declared.request.Request.TheVariants as requests
use Rattle.lus_requests.specs.declared.request.Reply.{Reply}
use Rattle.lus_requests.specs.declared.request.Reply.TheVariants as replies
use Rattle.lus_diagrams.specs.declared.lineage.Head.{Head}
use Rattle.lus_diagrams.specs.declared.lineage.Head.TheVariants.{Instant, Burst, Reset, Save, Restore}
use Rattle.lus_diagrams.specs.declared.lineage.Lineage.{Lineage}

-- an entry, with the cells of each instant that it accepted
pub record Noted : Type 0 where
  pub request : Request
  pub reply : Reply
  pub rows : List Row

abbrev pub noted : Request → Reply → List Row → Noted
noted request reply rows = record { request = request; reply = reply; rows = rows }

-- ---- the cells that an entry itself gives: of each accepted instant the inputs, and behind them the outputs

abbrev pub paired : List Row → List Row → List Row
paired [] os = []
paired (i ∷ is) [] = []
paired (i ∷ is) (o ∷ os) = (i ++ o) ∷ paired is os

abbrev pub given_rows : Request → Reply → List Row
given_rows (requests.Step i) (replies.Outputs o) = (i ++ o) ∷ []
given_rows (requests.Burst is) (replies.Rows os) = paired is os
given_rows _ _ = []

-- ---- events

-- the event of an entry that accepted so many instants
abbrev pub event_between : ℕ → Request → Reply → Option Head
event_between n (requests.Burst is) (replies.Rows os) = Some (Burst n)
event_between n requests.Reset replies.Done = Some Reset
event_between n (requests.Save s) replies.Done = Some (Save s)
event_between n (requests.Restore s) replies.Done = Some (Restore s)
event_between n _ _ = None

abbrev pub event_of : Noted → Option Head
event_of e = event_between (length e.rows) e.request e.reply

-- how many instants the lineage has behind an event: a reset begins anew, a restore goes back to its save; there are eight slots
abbrev pub lineage_behind : Lineage → Option Head → Lineage
lineage_behind l (Some Reset) = record l { count = 0 }
lineage_behind l (Some (Save s)) = if nat_lt s 8 then record l { saved = slice_set l.saved s l.count } else l
lineage_behind l (Some (Restore s)) = if nat_lt s 8 then record l { count = slice_index l.saved s } else l
lineage_behind l _ = l

abbrev pub lineage_after : Lineage → Noted → Lineage
lineage_after l e = lineage_behind (record l { count = l.count + length e.rows }) (event_of e)

abbrev pub newborn : Lineage
newborn = record { count = 0; saved = replicate 8 0 }

-- the lineage behind a history
abbrev pub lineage_from : Lineage → List Noted → Lineage
lineage_from l [] = l
lineage_from l (e ∷ es) = lineage_from (lineage_after l e) es

-- ---- columns

pub record Column : Type 0 where
  pub head : Head
  pub cells : Row

-- an event has no cells
abbrev pub marked : Option Head → List Column
marked None = []
marked (Some h) = record { head = h; cells = [] } ∷ []

-- accepted instants, of which the first has the number behind this one
abbrev pub instants : ℕ → List Row → List Column
instants n [] = []
instants n (r ∷ rs) = record { head = Instant (n + 1); cells = r } ∷ instants (n + 1) rs

-- an entry's event, and behind it its instants
abbrev pub entry_columns : Lineage → Noted → List Column
entry_columns l e = marked (event_of e) ++ instants l.count e.rows

abbrev pub columns_from : Lineage → List Noted → List Column
columns_from l [] = []
columns_from l (e ∷ es) = entry_columns l e ++ columns_from (lineage_after l e) es

-- the columns of all entries, in their order
abbrev pub columns_of : List Noted → List Column
columns_of es = columns_from newborn es
