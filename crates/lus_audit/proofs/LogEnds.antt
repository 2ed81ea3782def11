-- How an audit of a log ends, by what was found of its lines and seen of them.
use Rattle.std.proofs.Common.{◌≡◌, ◌++◌, ℕ, Bool, true, false, inr, refl, subst, sym, List, [], ◌∷◌, Option, Some, None, append-nil}
use Rattle.indexmap.specs.IndexMap.{get_by_text}
use Rattle.lus_values.specs.Names.{Text}
use Rattle.lus_program.specs.Programs.{Program}
use Rattle.lus_devices.specs.Devices.{Bytes}
use Rattle.lus_devices.specs.Folders.{Holds, Known, WithFile}
use Rattle.lus_cli.specs.declared.fault.Fault.{Fault}
use Rattle.lus_cli.specs.declared.fault.Fault.TheVariants as faults
use Rattle.lus_windows.specs.declared.reasons.Explainer.{Explainer}
use Rattle.lus_hosting.specs.LawfulSpecs.Errors.{BlamesIf}
use Rattle.lus_hosting.specs.LawfulSpecs.declared.error.AuditError.{AuditError}
use Rattle.lus_hosting.specs.LawfulSpecs.declared.error.AuditError.TheVariants as errors
use Rattle.lus_hosting.specs.Audits.{HasAuditedLog, IsNoLog, LogEntry, LogLine}
use Rattle.lus_audit.specs.Ends.{IsOfFile, audit_fault}
use Rattle.lus_audit.specs.LogReasons.{AreLogReasons, ExplainsFrom, Follows, TellsLog}
use Rattle.lus_audit.specs.Logs.{IsLogFound, IsLogReported, LogAuditFails, LogIsLost}
use Rattle.lus_audit.specs.declared.log_reasons.Explanations.{Explanations}
use Rattle.lus_audit.proofs.EndLemmas.{file_so}
use Rattle.lus_audit.proofs.LogLaws.{follows_none}

-- what holds of a file's bytes by two facts of them
pub file_both : (known : Known) (P Q R : Bytes → Type 0) → ((bytes : Bytes) → P bytes → Q bytes → R bytes) → WithFile known P → WithFile known Q → WithFile known R
file_both None P Q R from one other = tt
file_both (Some None) P Q R from one other = absurd one
file_both (Some (Some bytes)) P Q R from one other = from bytes one other

module _ (p : Program) (f : ℕ) where
  -- what was seen of lines is more
  seen_as : (S T : List LogLine → Type 0) (is_lawful : Bool) (left : Option Bytes) (found : Text) → ((lines : List LogLine) → S lines → T lines)
      → HasAuditedLog p f S is_lawful left found → HasAuditedLog p f T is_lawful left found
  seen_as S T true left found from l = record {
    lines = l.lines;
    end = l.end;
    words = l.words;
    read = l.read;
    over = l.over;
    lawful = l.lawful;
    seen = from l.lines l.seen;
    reported = l.reported;
  }
  seen_as S T false left found from w = record {
    before = w.before;
    line = w.line;
    right = w.right;
    later = w.later;
    words = w.words;
    read = w.read;
    asked = w.asked;
    lawful = w.lawful;
    differs = w.differs;
    seen = from (w.before ++ LogEntry w.right ∷ []) w.seen;
    reported = w.reported;
  }

  -- what is found with what was seen is found with more
  pub found_as : (S T : List LogLine → Type 0) (is_lawful : Bool) (text : Text) (bytes : Bytes) → ((lines : List LogLine) → S lines → T lines)
      → IsLogFound p f S is_lawful text bytes → IsLogFound p f T is_lawful text bytes
  found_as S T is_lawful text bytes from found = (seen_as S T is_lawful (Some bytes) text from found.0, found.1)

  -- lines of a log were seen
  lines_seen : (S : List LogLine → Type 0) (is_lawful : Bool) (left : Option Bytes) (found : Text) → HasAuditedLog p f S is_lawful left found
      → (lines : List LogLine) × S lines
  lines_seen S true left found l = (l.lines, l.seen)
  lines_seen S false left found w = (w.before ++ LogEntry w.right ∷ [], w.seen)

  -- no reasons are reported where none are asked
  pub reported_plain : (S : List LogLine → Type 0) (is_lawful : Bool) (text : Text) (bytes : Bytes) → IsLogFound p f S is_lawful text bytes
      → IsLogReported p f false is_lawful text bytes
  reported_plain S is_lawful text bytes found = record {
    found = text;
    reasons = [];
    is = found_as S (AreLogReasons false p f []) is_lawful text bytes (λ lines seen. refl) found;
    reported = sym (append-nil text);
  }

  -- those of the lines that were seen are
  pub reported_with : (S : List LogLine → Type 0) (is_lawful again : Bool) (text reasons report : Text) (bytes : Bytes)
      → IsLogFound p f S is_lawful text bytes → ((lines : List LogLine) → S lines → TellsLog p f lines reasons) → again ≡ is_lawful
      → report ≡ text ++ reasons → IsLogReported p f true again report bytes
  reported_with S is_lawful again text reasons report bytes found tells same is = record {
    found = text;
    reasons = reasons;
    is = subst (λ b. IsLogFound p f (AreLogReasons true p f reasons) b text bytes) (sym same)
        (found_as S (AreLogReasons true p f reasons) is_lawful text bytes tells found);
    reported = is;
  }

  -- what is kept of the instances that were named is of such without entries
  pub named_follow : (named : Text → Option Explainer) (x : Explanations) (is_lawful : Bool) (text : Text) (bytes : Bytes)
      → ((name : Text) → named name ≡ None) → IsLogFound p f (ExplainsFrom p f named x) is_lawful text bytes → Follows p f [] (get_by_text x.unfollowed)
  named_follow named x is_lawful text bytes none found =
      let seen = lines_seen (ExplainsFrom p f named x) is_lawful (Some bytes) text found.0 in
      (seen.1 (follows_none p f [] named none)).unfollowed

-- a fault of an audit is one of the log
pub log_lost : (p : Program) (log : Known) (e : AuditError) (left ahead : Option Bytes) → Holds log left → ahead ≡ left → BlamesIf (IsNoLog p ahead) e
    → LogIsLost p log (audit_fault e)
log_lost p log (errors.Line n) left ahead holds same blames = file_so (IsNoLog p) log left ahead holds same (blames n refl)
log_lost p log errors.Read left ahead holds same blames = tt
log_lost p log errors.Memory left ahead holds same blames = tt

-- and ends the command
pub lost_fails : (read_fails : Known → Type 0) (file log : Known) (name : Text) (p : Program) (f : Fault) → IsOfFile file p → LogIsLost p log f
    → LogAuditFails read_fails file log name f
lost_fails read_fails file log name p faults.File accepted lost = inr (p, accepted)
lost_fails read_fails file log name p (faults.Journal n) accepted lost = (p, accepted, lost)
lost_fails read_fails file log name p faults.Memory accepted lost = tt
lost_fails read_fails file log name p (faults.Program e) accepted lost = absurd lost
lost_fails read_fails file log name p (faults.Signal n) accepted lost = absurd lost
lost_fails read_fails file log name p (faults.Scripts e) accepted lost = absurd lost
lost_fails read_fails file log name p faults.Words accepted lost = absurd lost
lost_fails read_fails file log name p faults.Output accepted lost = absurd lost
lost_fails read_fails file log name p faults.Start accepted lost = absurd lost
