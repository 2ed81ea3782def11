-- What a log has, and what comes behind it, is one log.
use Rattle.std.proofs.Common.{◌≡◌, ◌∙◌, ◌++◌, ℕ, ap, sym, subst, List, [], ◌∷◌, Option, append_assoc, append-nil}
use Rattle.lus_values.specs.Names.{Text}
use Rattle.lus_program.specs.Programs.{Program}
use Rattle.lus_devices.specs.Devices.{Bytes}
use Rattle.lus_live_instance.specs.MachineSpecs.Constructors.{names_of}
use Rattle.lus_hosting.specs.Audits.{LogEntry, LogLine, entries_in, log_text}
use Rattle.lus_hosting.specs.Logs.{Logged, logged_line}
use Rattle.lus_hosting.specs.Recoveries.{IsJoined}
use Rattle.lus_hosting.specs.Spellings.{Spelling, log_spelling}
use Rattle.lus_hosting.specs.Turns.{Called, Denied, IsTurn, Noted, Replayed, Turn, Turns, added_by, calls, entry_at, more, none}
use Rattle.lus_hosting.proofs.AuditLaws.{behind_more, text_more}

module _ (p : Program) (f : ℕ) (caller : Option Text) (s : Spelling) (lines : List LogLine) where
  -- one more entry
  entry_joined : (log : List Logged) (kept : Bytes) (l : Logged) → IsJoined (names_of p) lines log kept
      → IsJoined (names_of p) lines (log ++ l ∷ []) (kept ++ logged_line (names_of p) log l)
  entry_joined log kept l joined =
      let names = names_of p in
      let all = lines ++ joined.more in
      let same : lines ++ (joined.more ++ LogEntry l ∷ []) ≡ all ++ LogEntry l ∷ [] = sym (append_assoc lines joined.more (LogEntry l ∷ [])) in
      record {
        more = joined.more ++ LogEntry l ∷ [];
        text_is = sym (append_assoc (log_text names lines) kept (logged_line names log l))
            ∙ ap (λ t. t ++ logged_line names log l) joined.text_is
            ∙ ap (λ d. log_text names all ++ logged_line names d l) (sym joined.entries_are)
            ∙ sym (text_more names [] all (LogEntry l))
            ∙ ap (log_text names) (sym same);
        entries_are = ap entries_in same ∙ behind_more [] all (LogEntry l) ∙ ap (λ d. d ++ l ∷ []) joined.entries_are;
      }

  turn_joined : (log : List Logged) (kept : Bytes) (t : Turn) → IsTurn (calls caller) p f log t → IsJoined (names_of p) lines log kept
      → IsJoined (names_of p) lines (log ++ added_by t) (kept ++ entry_at (log_spelling (names_of p)) log t)
  turn_joined log kept (Called line l) is joined = entry_joined log kept l joined
  turn_joined log kept (Replayed l) is joined = let never = is.so in absurd never.0
  turn_joined log kept (Noted line) is joined = let never = is.so in absurd never.0
  turn_joined log kept (Denied line d) is joined =
      subst (λ ls. IsJoined (names_of p) lines ls (kept ++ [])) (sym (append-nil log))
      (subst (IsJoined (names_of p) lines log) (sym (append-nil kept)) joined)

  turns_joined : (log : List Logged) (denied : ℕ) (read kept written : Bytes)
      → Turns (calls caller) p f (log_spelling (names_of p)) s (entries_in lines) log denied read kept written → IsJoined (names_of p) lines log kept
  turns_joined _ _ _ _ _ none =
      let nothing : log_text (names_of p) lines ++ [] ≡ log_text (names_of p) (lines ++ []) =
      append-nil (log_text (names_of p) lines) ∙ ap (log_text (names_of p)) (sym (append-nil lines)) in
      record { more = []; text_is = nothing; entries_are = ap entries_in (append-nil lines) }
  turns_joined _ _ _ _ _ (more log denied read kept written t turns is) =
      turn_joined log kept t is (turns_joined log denied read kept written turns)

pub are_joined : (p : Program) (f : ℕ) (caller : Option Bytes) (s : Spelling) (lines : List LogLine) (log : List Logged) (denied : ℕ) (read kept written : Bytes)
    → Turns (calls caller) p f (log_spelling (names_of p)) s (entries_in lines) log denied read kept written → IsJoined (names_of p) lines log kept
are_joined p f caller s lines log denied read kept written turns = turns_joined p f caller s lines log denied read kept written turns
