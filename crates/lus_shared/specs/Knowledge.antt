-- What is known of a shared machine, and what a seat knows.
use Rattle.std.specs.Prelude.{◌==◌, ℕ, Bool, List, map}
use Rattle.std.specs.List.{filter}
use Rattle.atomic_table.specs.Seated.{TableId}
use Rattle.lus_program.specs.Programs.{Program}
use Rattle.lus_requests.specs.declared.request.Request.{Request}
use Rattle.lus_requests.specs.declared.request.Reply.{Reply}
use Rattle.lus_requests.specs.declared.request.Entry.{Entry}
use Rattle.lus_machine.specs.Machines.{Told, IsLegal}

-- a request with its reply
pub record Call : Type 0 where
  pub request : Request
  pub reply : Reply

abbrev pub call_of : Entry → Call
call_of e = record { request = e.request; reply = e.reply }

-- the requests and replies of one caller's entries, in order
abbrev pub kept : List Entry → ℕ → List Call
kept h number = map call_of (filter (λ e. e.caller == number) h)

-- the machine that was given to `open`, and how many seats were made
pub record Origin : Type 0 where
  pub program : Program
  pub node : ℕ
  pub callers : ℕ

-- the origin of a node that this machine is given to, with so many seats
abbrev pub origin_with : Told → ℕ → Origin
origin_with machine callers = record { program = machine.program; node = machine.node; callers = callers }

-- the machine of this origin, after these entries
abbrev pub machine_at : Origin → List Entry → Told
machine_at o h = record { program = o.program; node = o.node; history = h }

-- the entries are a history of the origin's node in its program, which is accepted
abbrev pub IsLegalHistory : Origin → List Entry → Type 0
IsLegalHistory o h = IsLegal (machine_at o h)

-- what one seat knows: the entries that it has seen, and its own calls
pub record Facts : Type 0 where
  pub origin : Origin
  pub number : ℕ
  pub seen : List Entry
  pub mine : List Call

-- a view at the table: the facts of each seat that is joined in it, and whether it has taken the machine
pub record Sight : Type 0 where
  pub taker : Bool
  pub seats : List Facts

-- which node it is
pub record Instance : Type 0 where
  pub table : TableId
  pub origin : Origin

-- what a contract sees of a seat
pub record Standing : Type 0 where
  pub instance : Instance
  pub number : ℕ
  pub seen : List Entry
  pub mine : List Call

-- what a contract sees of a seat that has the machine to itself: it is the taker
pub record Holding : Type 0 where
  pub standing : Standing
  pub taker : Bool
