-- Which bytes are scripts of a program, and why others are refused.
use Rattle.std.specs.Prelude.{◌≡◌, ◌<◌, ◌≤◌, Some, Ok, Err, None, length, IsUtf8}
use Rattle.serde_json.specs.Data.{Data}
use Rattle.serde_json.specs.Read.{read}
use Rattle.lus_program.specs.Programs.{Program}
use Rattle.lus_syntax.specs.Limits.{most_bytes}
use Rattle.lus_callers.specs.MachineSpecs.Constructors.{names_of}
use Rattle.lus_devices.specs.Devices.{Bytes}
use Rattle.lus_scripts.specs.Scripts.{Scripts, scripts_of}
use Rattle.lus_scripts.specs.declared.refusal.ScriptRefusal.{ScriptRefusal}
use Rattle.lus_scripts.specs.declared.refusal.ScriptRefusal.TheVariants as refusals

-- the bytes are these scripts of the program
pub record AreScripts (p : Program) (bytes : Bytes) (s : Scripts) : Type 0 where
  pub size : length bytes ≤ most_bytes
  pub utf8 : IsUtf8 bytes
  pub json : Data
  pub reads : read bytes ≡ Some json
  pub means : scripts_of p (names_of p) json ≡ Ok s

-- bytes are refused as scripts of a program: too many, no JSON, or JSON that is no scripts of it
pub data ScriptsRefused (p : Program) (bytes : Bytes) : ScriptRefusal → Type 0 where
  are_too_long : most_bytes < length bytes → ScriptsRefused p bytes refusals.Limit
  are_no_json : length bytes ≤ most_bytes → (IsUtf8 bytes → read bytes ≡ None) → ScriptsRefused p bytes refusals.Json
  are_refused : {e : ScriptRefusal} → length bytes ≤ most_bytes → IsUtf8 bytes → (d : Data) → read bytes ≡ Some d
      → scripts_of p (names_of p) d ≡ Err e → ScriptsRefused p bytes e

-- the bytes are refused rightly, or memory was wanting
abbrev pub AreRefused : Program → Bytes → ScriptRefusal → Type 0
AreRefused p bytes refusals.Memory = Unit {0}
AreRefused p bytes e = ScriptsRefused p bytes e
