-- The last entry of a log that is replayed, where it is recalled.
use Rattle.std.specs.Prelude.{◌≡◌, ◌++◌, List, [], ◌∷◌, Option, Some, None, string_bytes, ⊤}
use Rattle.lus_requests.specs.declared.request.Entry.{Entry}
use Rattle.lus_replay.specs.Replays.{entry_said}
use Rattle.lus_hosting.specs.Logs.{Logged}
use Rattle.lus_hosting.specs.declared.named_entry.NamedEntry.{NamedEntry}

-- what is recalled is the last entry of a history
abbrev pub IsLast : Option Entry → List Entry → Type 0
IsLast None h = ⊤
IsLast (Some e) h = (past : List Entry) × (h ≡ past ++ e ∷ [])

-- what is recalled is this entry of a log, but for its caller
abbrev pub IsEntryOf : Option NamedEntry → Logged → Type 0
IsEntryOf None l = ⊤
IsEntryOf (Some t) l = (string_bytes t.instance ≡ l.instance) × (t.entry ≡ entry_said l.said)
