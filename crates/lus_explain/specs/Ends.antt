-- How the command ends: what is said of the files or written for them, or which fault ended it.
use Rattle.std.specs.Prelude.{◌≡◌, ◌⊎◌, ℕ, Option, Some, None, Result, string_bytes}
use Rattle.lus_syntax.specs.Lexemes.{Text}
use Rattle.lus_devices.specs.Devices.{WritesBeginning, with_text}
use Rattle.lus_devices.specs.Folders.{Known, WithFile}
use Rattle.lus_reports.specs.CliSpecs.Changes.{Change, HasFailed, IsSound, IsUntouched}
use Rattle.lus_reports.specs.CliSpecs.Ends.{Ends, IsLost, IsReadingFault, SaysEnds, WithFiles}
use Rattle.lus_reports.specs.CliSpecs.Faults.{IsToldBy, Told}
use Rattle.lus_reports.specs.CliSpecs.declared.fault.Fault.{Fault}
use Rattle.lus_reports.specs.CliSpecs.declared.fault.Fault.TheVariants as faults
use Rattle.lus_explain.specs.CommandLine.{Asked, explain, script}
use Rattle.lus_explain.specs.Judged.{IsJudged}
use Rattle.lus_explain.specs.Skeletons.{IsAnswer}
use Rattle.lus_explain.specs.declared.judging.Verdict.{Verdict}
use Rattle.lus_explain.specs.declared.words.Form.{Form}
use Rattle.lus_explain.specs.declared.script.Script.{Script}
use Rattle.lus_explain.specs.declared.script.Script.TheVariants as answers

-- how the files of these names are judged, where their bytes are known
abbrev pub AreJudgedOf : (Text → Known) → Form → Text → Option Text → ℕ → Type 0
AreJudgedOf known form program None status = WithFile (known program) (λ text. IsJudged form text status None)
AreJudgedOf known form program (Some scripts) status =
    WithFiles (known program) (known scripts) (λ text bytes. IsJudged form text status (Some bytes))

-- one of them can't be opened, or a read of it failed
abbrev pub AreLost : (Known → Type 0) → (Text → Known) → Text → Option Text → Type 0
AreLost read_fails known program None = IsLost read_fails (known program)
AreLost read_fails known program (Some scripts) = IsLost read_fails (known program) ⊎ IsLost read_fails (known scripts)

-- something is written, and the status is that of the verdict; where a file is lost or memory is out, nothing is
abbrev pub ExplainEnds : (Known → Type 0) → (Text → Known) → Form → Text → Option Text → Result ℕ Fault → Change → Type 0
ExplainEnds read_fails known form program scripts =
    SaysEnds (λ status text. AreJudgedOf known form program scripts status) (IsReadingFault (AreLost read_fails known program scripts))

-- scripts for a node of the program of this name, or why there are none, where its bytes are known
abbrev pub IsAnswerFor : (Text → Known) → Text → Text → Script → Type 0
IsAnswerFor known node program s = WithFile (known program) (λ bytes. IsAnswer bytes node s)

-- a text is written whole, or up to where the output failed, which is told
pub data EndsWriting (text : Text) (output told : Change) (status : ℕ) : Type 0 where
  is_whole : output.new ≡ with_text output.old text → IsSound output → IsUntouched told → status ≡ 0 → EndsWriting text output told status
  is_cut : WritesBeginning output.old output.new text → HasFailed output → IsToldBy status faults.Output told → EndsWriting text output told status

-- scripts are written; or nothing is, and it is told why there are none, or that the file is lost or memory is out
pub data ScriptEnds (read_fails : Known → Type 0) (known : Text → Known) (node program : Text) (output told : Change) (status : ℕ) : Type 0 where
  is_written : (text : _) → IsAnswerFor known node program (answers.Written text) → EndsWriting (string_bytes text) output told status
      → ScriptEnds read_fails known node program output told status
  is_refused : (v : Verdict) → IsAnswerFor known node program (answers.Refused v) → IsUntouched output → status ≡ v.status
      → Told (string_bytes v.text) told → ScriptEnds read_fails known node program output told status
  is_lost : (f : Fault) → IsReadingFault (IsLost read_fails (known program)) f → IsUntouched output → IsToldBy status f told
      → ScriptEnds read_fails known node program output told status

-- how the command ends, by what the words ask for; where they ask for nothing, that is told, or that memory is out
abbrev pub CommandEnds : (Known → Type 0) → (Text → Known) → Change → Change → ℕ → Option Asked → Type 0
CommandEnds read_fails known output told status (Some (explain form program scripts)) =
    Ends (λ s. s) (ExplainEnds read_fails known form program) (Some scripts) output told status
CommandEnds read_fails known output told status (Some (script node program)) = ScriptEnds read_fails known node program output told status
CommandEnds read_fails known output told status None =
    IsUntouched output × (IsToldBy status faults.Words told ⊎ IsToldBy status faults.Memory told)
