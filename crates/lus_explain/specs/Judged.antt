-- How a program and scripts for it are judged, and the status that tells it.
use Rattle.std.specs.Prelude.{◌≡◌, ◌≢◌, ◌⊎◌, ℕ, true, Option, Some, None}
use Rattle.lus_syntax.specs.Lexemes.{Text}
use Rattle.lus_syntax.specs.declared.refusal.Refusal.{Refusal}
use Rattle.lus_program.specs.Programs.{Program}
use Rattle.lus_scripts.specs.Scripts.{Scripts}
use Rattle.lus_scripts.specs.declared.refusal.ScriptRefusal.{ScriptRefusal}
use Rattle.lus_scripts.specs.declared.refusal.ScriptRefusal.TheVariants as refusals
use Rattle.lus_reports.specs.CliSpecs.MachineSpecs.Acceptance.{Accepted}
use Rattle.lus_reports.specs.CliSpecs.HostSpecs.ScriptRefusals.{AreRefused, AreScripts}
use Rattle.lus_reports.specs.Diagnoses.{IsRefused}
use Rattle.lus_explain.specs.declared.words.Form.{Form}

-- where all is accepted the status is 0, or 1 where warnings are denied and there is one
abbrev pub IsPassed : Form → ℕ → Type 0
IsPassed form status = (status ≡ 0) ⊎ ((form.denies ≡ true) × (status ≡ 1))

-- scripts of a program are accepted, or refused
pub data AreJudged (form : Form) (p : Program) (scripts : Text) (status : ℕ) : Type 0 where
  are_scripts : (s : Scripts) → AreScripts p scripts s → IsPassed form status → AreJudged form p scripts status
  are_refused : (e : ScriptRefusal) → e ≢ refusals.Memory → AreRefused p scripts e → status ≡ 2 → AreJudged form p scripts status

-- a program is refused; or it is accepted, and the scripts are judged, if there are any
pub data IsJudged (form : Form) (program : Text) (status : ℕ) : Option Text → Type 0 where
  is_refused : {scripts : Option Text} (r : Refusal) → IsRefused program r → status ≡ 1 → IsJudged form program status scripts
  is_accepted : (p : Program) → Accepted program p → IsPassed form status → IsJudged form program status None
  are_judged : {scripts : Text} (p : Program) → Accepted program p → AreJudged form p scripts status
      → IsJudged form program status (Some scripts)
