-- An instance whose entries are handed out: its history, and the last entry while it is kept.
use Rattle.std.specs.Prelude.{◌≡◌, ◌+◌, ◌++◌, ℕ, List, [], ◌∷◌, length, Option, Some, None, ⊤}
use Rattle.std.specs.Option.{option_map}
use Rattle.lus_program.specs.Programs.{Program}
use Rattle.lus_requests.specs.declared.request.Request.{Request}
use Rattle.lus_requests.specs.declared.request.Reply.{Reply}
use Rattle.lus_requests.specs.declared.request.Entry.{Entry}
use Rattle.lus_values.specs.Names.{Text}
use Rattle.lus_live_instance.specs.Lives.{IsLive}
use Rattle.lus_machine.specs.Constructors.{names_of}
use Rattle.lus_machine.specs.Machines.{Told, IsLawful}
use Rattle.lus_play.specs.Plays.{entry_of}
use Rattle.lus_replay.specs.Replays.{AsksNothing, IsRight, IsWrong, line_of}
use Rattle.lus_replay.specs.declared.line.Verdict.{Verdict}
use Rattle.lus_replay.specs.declared.line.Verdict.TheVariants as verdicts

-- an instance of a program's node with the entries of all its calls, and the last of them where it is kept
pub record Live : Type 0 where
  pub instance : Told
  pub last : Option Entry

-- the most entries that are counted
abbrev pub most_counted : ℕ
most_counted = 18446744073709551615

-- the history ends in this entry
abbrev pub EndsIn : Option Entry → List Entry → Type 0
EndsIn None history = ⊤
EndsIn (Some e) history = (before : List Entry) × (history ≡ before ++ e ∷ [])

-- an instance of the program, whose entries are counted
pub record Keeps (p : Program) (count : ℕ) (m : Told) (last : Option Entry) : Type 0 where
  pub program : m.program ≡ p
  pub lawful : IsLawful m
  pub counted : count ≡ length m.history
  pub ends : EndsIn last m.history

-- the same instance with one more entry
abbrev pub and_entry : Told → Entry → Told
and_entry m e = record m { history = m.history ++ e ∷ [] }

-- the request was answered, and its entry is kept
abbrev pub Enters : Live → Live → Request → Reply → Type 0
Enters l l' request reply = l' ≡ record { instance = and_entry l.instance (entry_of request reply); last = Some (entry_of request reply) }

-- the line of the last entry in the journal, where it is kept and its caller has this name
abbrev pub last_line : Text → Live → Option Text
last_line caller l = option_map (line_of (names_of l.instance.program) caller (length l.instance.history)) l.last

-- the line is that of the entry which is new in the history
pub record IsNext (line : Text) (m m' : Told) : Type 0 where
  pub of : IsLive m.program m.node m'
  pub right : IsRight (names_of m.program) (length m.history + 1) line m.history m'.history

-- the line asks a request of this instance, which answers it otherwise: so it would go on, and the right line is another
pub record IsOther (line : Text) (m : Told) : Type 0 where
  pub next : Told
  pub of : IsLive m.program m.node next
  pub right : Text
  pub wrong : IsWrong (names_of m.program) (length m.history + 1) line right m.history next.history

-- the line is no next entry's
abbrev pub IsNone : Text → Told → Type 0
IsNone line m = AsksNothing (names_of m.program) (length m.history + 1) line

-- what a line is behind the history of an instance, which goes on so if the line is right
abbrev pub IsTried : Verdict → Text → Told → Told → Type 0
IsTried verdicts.Right line m m' = IsNext line m m'
IsTried verdicts.Wrong line m m' = IsOther line m
IsTried verdicts.NoEntry line m m' = IsNone line m

-- the line became an entry where it is the right next one, and otherwise all is as it was
abbrev pub IsReplayed : Verdict → Text → Live → Live → Type 0
IsReplayed verdicts.Right line l l' = IsNext line l.instance l'.instance × (l'.last ≡ None)
IsReplayed verdicts.Wrong line l l' = IsOther line l.instance × (l' ≡ l)
IsReplayed verdicts.NoEntry line l l' = IsNone line l.instance × (l' ≡ l)
