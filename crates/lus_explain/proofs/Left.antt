-- How bytes that were read up to one more than there may be are judged, those left are.
use Rattle.std.proofs.Common.{◌≡◌, subst, ℕ, ◌+◌, ◌≤◌, length, take, arith, Option, Some, None}
use Rattle.lus_syntax.specs.Limits.{most_bytes}
use Rattle.lus_syntax.specs.declared.refusal.Refusal.{Refusal}
use Rattle.lus_syntax.specs.Lexemes.{Text}
use Rattle.lus_program.specs.Programs.{Program}
use Rattle.lus_devices.specs.Devices.{Bytes}
use Rattle.lus_devices.specs.Folders.{Known, WithFile}
use Rattle.lus_reports.specs.CliSpecs.MachineSpecs.Acceptance.{Accepted}
use Rattle.lus_reports.specs.CliSpecs.Ends.{WithFiles}
use Rattle.lus_reports.proofs.CliProofs.HostProofs.Sources.{accepted_left, refused_left}
use Rattle.lus_reports.proofs.CliProofs.HostProofs.ScriptErrors.{error_left, scripts_left}
use Rattle.lus_reports.specs.Diagnoses.{IsRefused}
use Rattle.lus_explain.specs.Judged.{AreJudged, IsJudged, are_judged, are_refused, are_scripts, is_accepted, is_refused}
use Rattle.lus_explain.specs.declared.words.Form.{Form}
use Rattle.lus_explain.specs.Skeletons as skeletons
use Rattle.lus_explain.specs.Skeletons.{IsAnswer, is_of}
use Rattle.lus_explain.specs.declared.script.Script.{Script}

module _ (m n : ℕ) (is : m ≡ most_bytes) (next : n ≡ m + 1) (bytes left : Bytes) (read : bytes ≡ take n left) where
  refused_so : (r : Refusal) → IsRefused bytes r → IsRefused left r
  refused_so r (other, refused) = (other, refused_left m n is next bytes left r read refused)

  accepted_so : (p : Program) → Accepted bytes p → Accepted left p
  accepted_so p a = let short : length bytes ≤ m = subst (λ k. length bytes ≤ k) is_back a.size in accepted_left m n next bytes left p read short a
    where
      is_back : most_bytes ≡ m
      is_back = omega arith

  scripts_so : (form : Form) (p : Program) (status : ℕ) → AreJudged form p bytes status → AreJudged form p left status
  scripts_so form p status (are_scripts s a passed) = are_scripts s (scripts_left m n is next p bytes left read s a) passed
  scripts_so form p status (are_refused e other r told) = are_refused e other (error_left m n is next p bytes left read e r) told

  pub judged_left : (form : Form) (status : ℕ) {scripts : Option Text} → IsJudged form bytes status scripts → IsJudged form left status scripts
  judged_left form status (is_refused r refused told) = is_refused r (refused_so r refused) told
  judged_left form status (is_accepted p a passed) = is_accepted p (accepted_so p a) passed
  judged_left form status (are_judged p a judged) = are_judged p (accepted_so p a) judged

  pub scripts_judged_left : (form : Form) (program : Text) (status : ℕ) → IsJudged form program status (Some bytes)
      → IsJudged form program status (Some left)
  scripts_judged_left form program status (is_refused r refused told) = is_refused r refused told
  scripts_judged_left form program status (are_judged p a judged) = are_judged p a (scripts_so form p status judged)

  pub answer_left : (node : Text) {s : Script} → IsAnswer bytes node s → IsAnswer left node s
  answer_left node (is_of p a script) = is_of p (accepted_so p a) script
  answer_left node (skeletons.is_refused v r refused told) = skeletons.is_refused v r (refused_so r refused) told

-- what follows of a file's bytes
pub file_then : (known : Known) (P Q : Bytes → Type 0) → ((bytes : Bytes) → P bytes → Q bytes) → WithFile known P → WithFile known Q
file_then None P Q f p = tt
file_then (Some None) P Q f p = absurd p
file_then (Some (Some bytes)) P Q f p = f bytes p

pub files_then : (program scripts : Known) (P Q : Bytes → Type 0) (R : Bytes → Bytes → Type 0) → ((text bytes : Bytes) → P text → Q bytes → R text bytes)
    → WithFile program P → WithFile scripts Q → WithFiles program scripts R
files_then program scripts P Q R f p q =
    file_then program P (λ text. WithFile scripts (λ bytes. R text bytes)) (λ text h. file_then scripts Q (λ bytes. R text bytes) (λ bytes k. f text bytes h k) q) p
