-- The lines of a log that were read so far, and how many bytes they have.
use Rattle.std.proofs.Common.{◌≡◌, ◌∙◌, ◌+◌, ◌++◌, ℕ, refl, ap, sym, subst, List, [], ◌∷◌, length, Option, Some, None, length-append, arith}
use Rattle.indexmap.specs.IndexMap.{get_by_text}
use Rattle.lus_values.specs.Names.{Text}
use Rattle.lus_program.specs.Programs.{Program}
use Rattle.lus_devices.specs.Devices.{Bytes}
use Rattle.lus_lines.specs.Lines.{IsLast}
use Rattle.lus_live_instance.specs.MachineSpecs.Constructors.{names_of}
use Rattle.lus_hosting.specs.Audits.{FindsLine, LogEntry, LogLine, LogNote, entries_in, line_in, log_text}
use Rattle.lus_hosting.specs.Hosts.{Keeps}
use Rattle.lus_hosting.specs.Logs.{Logged}
use Rattle.lus_hosting.specs.Recoveries.{IsCut, IsRecovered}
use Rattle.lus_hosting.specs.declared.auditing.Found.{Found}
use Rattle.lus_hosting.specs.declared.auditing.Found.TheVariants as founds
use Rattle.lus_hosting.specs.declared.instances.Instances.{Instances}
use Rattle.lus_hosting.specs.declared.recovering.Recovered.{Recovered}
use Rattle.lus_hosting.proofs.AuditLaws.{Audited, audited_noted, audited_right, audited_start, finds_as, read_words, text_more, with_line}

module _ (p : Program) (f : ℕ) (left : Option Bytes) where
  pub record ReadSoFar (mid : Option Bytes) (instances : Instances) (turn bytes : ℕ) : Type 0 where
    pub entries : ℕ
    pub audited : Audited p f left mid instances turn entries
    pub bytes_are : bytes ≡ length (log_text (names_of p) audited.lines)

  pub read_start : (instances : Instances) → ((name : Text) → get_by_text instances.by_name name ≡ None) → ReadSoFar left instances 0 0
  unfolding audited_start
  read_start instances new = record { entries = 0; audited = audited_start p f left instances new; bytes_are = refl }

  module _ (mid : Option Bytes) (instances : Instances) (turn bytes : ℕ) (so_far : ReadSoFar mid instances turn bytes) where
    abbrev log : List Logged
    log = entries_in so_far.audited.lines

    -- so many bytes are those of a line more
    longer : (i : LogLine) (line : Text) (sum : ℕ) → line ≡ line_in (names_of p) log i → sum ≡ bytes + length line
        → sum ≡ length (log_text (names_of p) (so_far.audited.lines ++ i ∷ []))
    longer i line sum is counted =
        let lines = so_far.audited.lines in
        let was = so_far.bytes_are in
        let size = ap length is in
        let long = length-append (log_text (names_of p) lines) (line_in (names_of p) log i) in
        let all = ap length (text_more (names_of p) [] lines i) in
        omega (arith, was, size, long, all, counted)

    module _ (kind : Found) (later : Option Bytes) (line right : Text) (new : Instances)
        (finds : FindsLine kind p f log mid later line right new) where
      found_as : (other : Found) → kind ≡ other → FindsLine other p f log mid later line right new
      found_as other is = finds_as p f left mid instances turn so_far.entries so_far.audited kind later line right new finds other is

      pub read_right : kind ≡ founds.Right → (sum : ℕ) → sum ≡ bytes + length line → ReadSoFar later new (turn + 1) sum
      unfolding found_as audited_right with_line
      read_right is sum counted =
          let found = found_as founds.Right is in
          let here = found.is in
          record {
            entries = so_far.entries + 1;
            audited = audited_right p f left mid instances turn so_far.entries so_far.audited kind later line right new finds is (so_far.entries + 1) refl;
            bytes_are = longer (LogEntry here.0) line sum here.1 counted;
          }

      pub read_noted : kind ≡ founds.Noted → (sum : ℕ) → sum ≡ bytes + length line → ReadSoFar later new (turn + 1) sum
      unfolding found_as audited_noted with_line
      read_noted is sum counted =
          let found = found_as founds.Noted is in
          let here = found.is in
          record {
            entries = so_far.entries;
            audited = audited_noted p f left mid instances turn so_far.entries so_far.audited kind later line right new finds is so_far.entries refl;
            bytes_are = longer (LogNote here.0) line sum here.1 counted;
          }

      -- the end was met behind these bytes
      recovered_with : (tail : Bytes) (r : Recovered) → IsLast tail mid later → IsCut r.cut (length so_far.audited.lines) tail → r.bytes ≡ bytes
          → Keeps p f log r.instances → IsRecovered p f left r
      recovered_with tail r last cut counted keeps = (
        log,
        record {
          lines = so_far.audited.lines;
          tail = tail;
          mid = mid;
          end = later;
          words = read_words (names_of p) [] so_far.audited.lines so_far.audited.told;
          read = so_far.audited.read;
          last = last;
          bytes = counted ∙ so_far.bytes_are;
          cut = cut;
          entries = refl;
          keeps = keeps;
        },
      )

      pub recovered_over : kind ≡ founds.Over → (r : Recovered) → r.cut ≡ None → r.bytes ≡ bytes → r.instances ≡ new → IsRecovered p f left r
      recovered_over is r cut counted same =
          let found = found_as founds.Over is in
          recovered_with [] r found.0 (subst (λ o. IsCut o (length so_far.audited.lines) []) (sym cut) refl) counted
          (subst (Keeps p f log) (sym same) found.1)

      pub recovered_cut : kind ≡ founds.Cut → (r : Recovered) → r.cut ≡ Some (turn + 1) → r.bytes ≡ bytes → r.instances ≡ new → IsRecovered p f left r
      recovered_cut is r cut counted same =
          let found = found_as founds.Cut is in
          recovered_with line r found.1
          (subst (λ o. IsCut o (length so_far.audited.lines) line) (sym cut) (ap (λ n. n + 1) so_far.audited.count, found.2)) counted
          (subst (Keeps p f log) (sym same) found.3)
