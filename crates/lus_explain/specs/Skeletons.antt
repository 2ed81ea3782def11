-- Scripts to begin from, for a node of a program, and why there are none.
use Rattle.std.specs.Prelude.{◌≡◌, ◌≢◌, true, None, is_some, string_bytes}
use Rattle.lus_syntax.specs.Lexemes.{Text}
use Rattle.lus_syntax.specs.declared.refusal.Refusal.{Refusal}
use Rattle.lus_program.specs.Programs.{Program}
use Rattle.lus_scripts.specs.Scripts.{Scripts}
use Rattle.lus_scripts.specs.declared.refusal.ScriptRefusal.{ScriptRefusal}
use Rattle.lus_scripts.specs.declared.refusal.ScriptRefusal.TheVariants as refusals
use Rattle.lus_reports.specs.CliSpecs.MachineSpecs.Acceptance.{Accepted}
use Rattle.lus_reports.specs.CliSpecs.MachineSpecs.Formals.{node_named}
use Rattle.lus_reports.specs.CliSpecs.HostSpecs.ScriptRefusals.{AreRefused, AreScripts}
use Rattle.lus_reports.specs.Diagnoses.{IsRefused}
use Rattle.lus_explain.specs.declared.judging.Verdict.{Verdict}
use Rattle.lus_explain.specs.declared.script.Script.{Script}
use Rattle.lus_explain.specs.declared.script.Script.TheVariants as answers

-- the text is scripts of the program
pub record IsSkeleton (p : Program) (text : Text) : Type 0 where
  pub scripts : Scripts
  pub reads : AreScripts p text scripts

-- a skeleton is refused as scripts, as one that is too long is
pub record IsNoScript (p : Program) (v : Verdict) : Type 0 where
  pub text : Text
  pub refusal : ScriptRefusal
  pub other : refusal ≢ refusals.Memory
  pub refused : AreRefused p text refusal
  pub status : v.status ≡ 2

-- a skeleton is written where it is scripts of the program
abbrev pub TriesScript : Program → Script → Type 0
TriesScript p (answers.Written text) = IsSkeleton p (string_bytes text)
TriesScript p (answers.Refused v) = IsNoScript p v

-- there are scripts for a node that the program has, and none for a name that no node has
pub data IsScriptOf (p : Program) (node : Text) : Script → Type 0 where
  is_tried : {s : Script} → is_some (node_named p node) ≡ true → TriesScript p s → IsScriptOf p node s
  is_unknown : (v : Verdict) → node_named p node ≡ None → v.status ≡ 2 → IsScriptOf p node (answers.Refused v)

-- scripts for a node of the program that the bytes are the text of, or why the program is refused
pub data IsAnswer (program node : Text) : Script → Type 0 where
  is_of : {s : Script} (p : Program) → Accepted program p → IsScriptOf p node s → IsAnswer program node s
  is_refused : (v : Verdict) (r : Refusal) → IsRefused program r → v.status ≡ 1 → IsAnswer program node (answers.Refused v)
