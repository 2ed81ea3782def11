-- Where a run goes on in a log, and the log that comes of it.
use Rattle.std.specs.Prelude.{◌≡◌, ◌+◌, ◌<◌, ◌++◌, ℕ, List, [], length, Option, Some, None}
use Rattle.std.specs.List.{All}
use Rattle.lus_values.specs.Names.{Names, Text}
use Rattle.lus_program.specs.Programs.{Program}
use Rattle.lus_devices.specs.Devices.{Bytes, with_front}
use Rattle.lus_lines.specs.Lines.{IsLast}
use Rattle.lus_live_instance.specs.MachineSpecs.Constructors.{names_of}
use Rattle.lus_hosting.specs.Audits.{IsLogLine, LogLine, entries_in, log_text}
use Rattle.lus_hosting.specs.Hosts.{Keeps}
use Rattle.lus_hosting.specs.Logs.{Logged}
use Rattle.lus_hosting.specs.declared.recovering.Recovered.{Recovered}

-- behind so many lines there is nothing, or what a crash left of the next
abbrev pub IsCut : Option ℕ → ℕ → Bytes → Type 0
IsCut None lines tail = tail ≡ []
IsCut (Some n) lines tail = (n ≡ lines + 1) × (0 < length tail)

-- whole lines of a log with these entries were read, which the instances have, and behind them the end was met
pub record HasRecovered (p : Program) (f : ℕ) (left : Option Bytes) (log : List Logged) (r : Recovered) : Type 0 where
  pub lines : List LogLine
  pub tail : Bytes
  pub mid : Option Bytes
  pub end : Option Bytes
  pub words : All IsLogLine lines
  pub read : left ≡ with_front (log_text (names_of p) lines) mid
  pub last : IsLast tail mid end
  pub bytes : r.bytes ≡ length (log_text (names_of p) lines)
  pub cut : IsCut r.cut (length lines) tail
  pub entries : log ≡ entries_in lines
  pub keeps : Keeps p f log r.instances

abbrev pub IsRecovered : Program → ℕ → Option Bytes → Recovered → Type 0
IsRecovered p f left r = (log : List Logged) × HasRecovered p f left log r

-- lines of a log and this text behind them are the text of a log of these entries
pub record IsJoined (names : Names) (lines : List LogLine) (log : List Logged) (text : Text) : Type 0 where
  pub more : List LogLine
  pub text_is : log_text names lines ++ text ≡ log_text names (lines ++ more)
  pub entries_are : entries_in (lines ++ more) ≡ log
