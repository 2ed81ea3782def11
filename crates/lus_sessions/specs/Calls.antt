-- Lines of JSON as calls of a node, and its replies as objects of JSON.
use Rattle.std.specs.Prelude.{◌≡◌, ◌++◌, ℕ, List, Option, Some, None, IsUtf8, codes, slice_get}
use Rattle.lus_values.specs.Names.{Names, Text}
use Rattle.lus_program.specs.Programs.{Program, Variable}
use Rattle.lus_requests.specs.declared.request.Request.{Request}
use Rattle.lus_requests.specs.declared.request.Entry.{Entry}
use Rattle.lus_replies.specs.Replies.{reply_json}
use Rattle.lus_scripts.specs.Requests.{request_in}
use Rattle.lus_devices.specs.Devices.{Bytes}

-- the request to a node that a line is, if it is one
abbrev pub IsCallTo : Program → Names → ℕ → Bytes → Option Request → Type 0
IsCallTo p names f line (Some r) = IsUtf8 line × (request_in p names (slice_get p.nodes f) line ≡ Some r)
IsCallTo p names f line None = IsUtf8 line → request_in p names (slice_get p.nodes f) line ≡ None

-- the reply of an entry
abbrev pub reply_line : Program → Names → List Variable → Entry → Text
reply_line p names outputs e = reply_json p names outputs e.request e.reply ++ codes "\n"
