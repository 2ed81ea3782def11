-- The lines of a log that were read so far, and seen.
use Rattle.std.proofs.Common.{◌≡◌, ◌+◌, ◌++◌, ℕ, ap, subst, List, [], ◌∷◌, length, Option, None}
use Rattle.indexmap.specs.IndexMap.{get_by_text}
use Rattle.lus_values.specs.Names.{Text}
use Rattle.lus_program.specs.Programs.{Program}
use Rattle.lus_devices.specs.Devices.{Bytes}
use Rattle.lus_hosting.specs.Audits.{FindsLine, IsLineLeft, LogEntry, LogLine, LogNote, Observes, SeesMore, entries_in}
use Rattle.lus_hosting.specs.declared.auditing.Found.{Found}
use Rattle.lus_hosting.specs.declared.auditing.Found.TheVariants as founds
use Rattle.lus_hosting.specs.declared.instances.Instances.{Instances}
use Rattle.lus_hosting.specs.declared.named_entry.NamedEntry.{NamedEntry}
use Rattle.lus_hosting.proofs.AuditLaws.{Audited, audited_noted, audited_right, audited_start, finds_as, with_line}

-- what is seen is seen by an observer that had seen nothing at first
begun_more : (Begun New : List LogLine → Type 0) (kind : Found) (last : Option NamedEntry) (lines : List LogLine) → (Begun [] → SeesMore kind last New lines)
    → SeesMore kind last (Observes Begun New) lines
begun_more Begun New founds.Right last lines sees = λ l is begun. sees begun l is
begun_more Begun New founds.Noted last lines sees = λ t begun. sees begun t
begun_more Begun New founds.Wrong last lines sees = λ l is begun. sees begun l is
begun_more Begun New founds.NoLine last lines sees = λ begun. sees begun
begun_more Begun New founds.Cut last lines sees = λ begun. sees begun
begun_more Begun New founds.Over last lines sees = λ begun. sees begun

module _ (p : Program) (f : ℕ) (left : Option Bytes) where
  pub record Observed (Seen : List LogLine → Type 0) (mid : Option Bytes) (instances : Instances) (turn entries : ℕ) : Type 0 where
    pub audited : Audited p f left mid instances turn entries
    pub seen : Seen audited.lines

  pub observed_start : (Seen : List LogLine → Type 0) → Seen [] → (instances : Instances)
      → ((name : Text) → get_by_text instances.by_name name ≡ None) → Observed Seen left instances 0 0
  unfolding audited_start
  observed_start Seen seen instances new = record { audited = audited_start p f left instances new; seen = seen }

  module _ (Begun Old New : List LogLine → Type 0) (mid : Option Bytes) (instances : Instances) (turn entries : ℕ)
      (so_far : Observed (Observes Begun Old) mid instances turn entries) (kind : Found) (later : Option Bytes) (line right : Text) (new : Instances)
      (finds : FindsLine kind p f (entries_in so_far.audited.lines) mid later line right new)
      (sees : (lines : List LogLine) → turn + 1 ≡ length lines + 1 → Old lines → SeesMore kind new.last New lines) where
    pub seen_as : (other : Found) → kind ≡ other → SeesMore other new.last (Observes Begun New) so_far.audited.lines
    seen_as other is =
        subst (λ k. SeesMore k new.last (Observes Begun New) so_far.audited.lines) is
        (begun_more Begun New kind new.last so_far.audited.lines
        (λ begun. sees so_far.audited.lines (ap (λ n. n + 1) so_far.audited.count) (so_far.seen begun)))

    pub observed_right : kind ≡ founds.Right → (more : ℕ) → more ≡ entries + 1 → Observed (Observes Begun New) later new (turn + 1) more
    unfolding audited_right with_line
    observed_right is more counted =
        let left_is : IsLineLeft founds.Right p f (entries_in so_far.audited.lines) mid later line right new =
        finds_as p f left mid instances turn entries so_far.audited kind later line right new finds founds.Right is in
        let here = left_is.is in
        record {
          audited = audited_right p f left mid instances turn entries so_far.audited kind later line right new finds is more counted;
          seen = seen_as founds.Right is here.0 here.5;
        }

    pub observed_noted : kind ≡ founds.Noted → (more : ℕ) → more ≡ entries → Observed (Observes Begun New) later new (turn + 1) more
    unfolding audited_noted with_line
    observed_noted is more counted =
        let left_is : IsLineLeft founds.Noted p f (entries_in so_far.audited.lines) mid later line right new =
        finds_as p f left mid instances turn entries so_far.audited kind later line right new finds founds.Noted is in
        let here = left_is.is in
        record {
          audited = audited_noted p f left mid instances turn entries so_far.audited kind later line right new finds is more counted;
          seen = seen_as founds.Noted is here.0;
        }
