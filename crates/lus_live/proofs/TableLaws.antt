-- Tables that were told under a head, and what is written where there is none.
use Rattle.std.proofs.Common.{◌≡◌, ℕ, inl, inr, refl, sym, subst, List, Option, Some, None, Ok, Err, IfOk, OnErr}
use Rattle.lus_values.specs.Names.{Names, Text}
use Rattle.lus_program.specs.Programs.{Program, Variable, node_at}
use Rattle.lus_requests.specs.declared.request.Entry.{Entry}
use Rattle.lus_bursts.specs.Syncs.{Safety}
use Rattle.lus_cli.specs.Changes.{Change}
use Rattle.lus_devices.specs.Devices.{Bytes, WritesBeginning, with_text}
use Rattle.lus_live_instance.specs.Lives.{IsLive}
use Rattle.lus_live_instance.specs.MachineSpecs.Constructors.{names_of}
use Rattle.lus_live_instance.specs.MachineSpecs.Formals.{inputs_of, outputs_of}
use Rattle.lus_live_instance.specs.MachineSpecs.Machines.{Told}
use Rattle.lus_live_instance.proofs.LiveLaws.{lawful_of}
use Rattle.lus_play.specs.declared.playing.Score.{Score}
use Rattle.lus_records.specs.Outputs.{reply_record}
use Rattle.lus_records.specs.Records.{step_in}
use Rattle.lus_sessions.specs.Sessions.{HasDriven, HasDrivenSome, Parties, Scribe, journal_lines, no_journal}
use Rattle.lus_sessions.specs.declared.recovering.Start.{Start}
use Rattle.lus_live.specs.Ends.{Ran, Tells}
use Rattle.lus_live.specs.Runs.{Unasked}
use Rattle.lus_live.specs.Tables.{HasHead, HasToldTable, HasToldTableSome, IsStepUnder, head_says, headless, record_says}
use Rattle.lus_live.specs.declared.words.Form.{Form}
use Rattle.lus_live.specs.declared.words.Form.TheVariants.{Csv}
use Rattle.lus_live.proofs.RunLaws.{unasked, unasked_some}

-- the program, its names, and the inputs and outputs of the node as the code has them
module _ (p q : Program) (names : Names) (f : ℕ) (inputs outputs : List Variable) (head : List Text) (same : q ≡ p) (named : names ≡ names_of p)
    (given : inputs ≡ inputs_of (node_at p f)) (those : outputs ≡ outputs_of (node_at p f)) (m : Told) (live : IsLive p f m) (j : Scribe)
    (IsSafe : Safety) (start : Start) (left later end : Option Bytes) (h : List Entry) (l l' w begun w' : Option Bytes)
    (headed : HasHead p f left later (Some head)) (wrote : begun ≡ with_text w (head_says p f)) where
  abbrev All : Score → Program → Names → List Variable → List Variable → Type 0
  All score r ns is os =
      HasDriven (λ line o. o ≡ step_in r ns is head line) j (λ n e. reply_record r ns os e.reply) IsSafe start later end h m.history l l' begun w' score

  abbrev Part : Program → Names → List Variable → List Variable → Type 0
  Part r ns is os =
      HasDrivenSome (λ line o. o ≡ step_in r ns is head line) j (λ n e. reply_record r ns os e.reply) IsSafe start later h m.history l l' begun w'

  pub table_told : (score : Score) → All score q names inputs outputs → HasToldTable p f j IsSafe start left end h l l' w w' score
  table_told score d = inl (record {
    head = head;
    later = later;
    headed = headed;
    begun = begun;
    wrote = wrote;
    run = record {
      history = m.history;
      lawful = lawful_of p f m live;
      driven = subst (All score p (names_of p) (inputs_of (node_at p f))) those
          (subst (λ is. All score p (names_of p) is outputs) given
          (subst (λ ns. All score p ns inputs outputs) named (subst (λ r. All score r names inputs outputs) same d)));
    };
  })

  pub table_told_some : Part q names inputs outputs → HasToldTableSome p f j IsSafe start left h l l' w w'
  table_told_some d = inl (record {
    head = head;
    later = later;
    headed = headed;
    begun = begun;
    wrote = wrote;
    run = record {
      history = m.history;
      lawful = lawful_of p f m live;
      driven = subst (Part p (names_of p) (inputs_of (node_at p f))) those
          (subst (λ is. Part p (names_of p) is outputs) given
          (subst (λ ns. Part p ns inputs outputs) named (subst (λ r. Part r names inputs outputs) same d)));
    };
  })

-- a beginning of the head of the outputs is written
pub head_begun : (p : Program) (f : ℕ) (head : List Text) (j : Scribe) (IsSafe : Safety) (start : Start) (left later : Option Bytes) (h : List Entry)
    (l w w' : Option Bytes) → HasHead p f left later (Some head) → WritesBeginning w w' (head_says p f)
    → HasToldTableSome p f j IsSafe start left h l l w w'
head_begun p f head j IsSafe start left later h l w w' headed began =
    inr (inl (record { head = head; later = later; headed = headed; logged = refl; wrote = began }))

-- there is no head
pub headless_told : (p : Program) (f : ℕ) (j : Scribe) (IsSafe : Safety) (start : Start) (left end : Option Bytes) (h : List Entry) (l w : Option Bytes)
    → HasHead p f left end None → HasToldTable p f j IsSafe start left end h l l w w headless
headless_told p f j IsSafe start left end h l w headed = inr (record { headed = headed; logged = refl; wrote = refl; counted = refl })

-- ---- in the form that is asked for

module _ (p : Program) (f : ℕ) (who : Parties) (was_synced : Safety) (start : Start) (left end : Option Bytes) (h : List Entry) (log output : Change) where
  table_unasked : (j : Scribe) (IsSafe : Safety) (score : Score) → HasToldTable p f j IsSafe start left end h None None output.old output.new score
      → HasToldTable p f j Unasked start left end h None None output.old output.new score
  table_unasked j IsSafe score told =
      elim told [
        | inl t ↦ inl (record {
          head = t.head;
          later = t.later;
          headed = t.headed;
          begun = t.begun;
          wrote = t.wrote;
          run = record {
            history = t.run.history;
            lawful = t.run.lawful;
            driven = unasked (IsStepUnder p f t.head) j (record_says p f) IsSafe start t.later end h t.run.history None None t.begun output.new score t.run.driven;
          };
        })
        | inr none ↦ inr none
      ]

  table_unasked_some : (j : Scribe) (IsSafe : Safety) → HasToldTableSome p f j IsSafe start left h None None output.old output.new
      → HasToldTableSome p f j Unasked start left h None None output.old output.new
  table_unasked_some j IsSafe told =
      elim told [
        | inl t ↦ inl (record {
          head = t.head;
          later = t.later;
          headed = t.headed;
          begun = t.begun;
          wrote = t.wrote;
          run = record {
            history = t.run.history;
            lawful = t.run.lawful;
            driven = unasked_some (IsStepUnder p f t.head) j (record_says p f) IsSafe start t.later h t.run.history None None t.begun output.new t.run.driven;
          };
        })
        | inr none ↦ inr none
      ]

  table_plain : (j : Scribe) (IsSafe : Safety) (ran : Ran) → j ≡ no_journal
      → IfOk ran (λ score. HasToldTable p f j IsSafe start left end h None None output.old output.new score)
      → OnErr ran (HasToldTableSome p f j IsSafe start left h None None output.old output.new)
      → Tells Csv None was_synced p f who start left end h log output ran
  table_plain j IsSafe (Ok score) none all some =
      subst (λ k. HasToldTable p f k Unasked start left end h None None output.old output.new score) none (table_unasked j IsSafe score all)
  table_plain j IsSafe (Err e) none all some =
      subst (λ k. HasToldTableSome p f k Unasked start left h None None output.old output.new) none (table_unasked_some j IsSafe some)

  table_kept : (j : Scribe) (ran : Ran) (journal : Text) → j ≡ journal_lines (names_of p) who
      → IfOk ran (λ score. HasToldTable p f j was_synced start left end h log.old log.new output.old output.new score)
      → OnErr ran (HasToldTableSome p f j was_synced start left h log.old log.new output.old output.new)
      → Tells Csv (Some journal) was_synced p f who start left end h log output ran
  table_kept j (Ok score) journal lines all some =
      subst (λ k. HasToldTable p f k was_synced start left end h log.old log.new output.old output.new score) lines all
  table_kept j (Err e) journal lines all some =
      subst (λ k. HasToldTableSome p f k was_synced start left h log.old log.new output.old output.new) lines some

  told_as : (form given : Form) (file named : Option Text) (ran : Ran) → form ≡ given → file ≡ named
      → Tells given named was_synced p f who start left end h log output ran → Tells form file was_synced p f who start left end h log output ran
  told_as form given file named ran one two told =
      subst (λ k. Tells k file was_synced p f who start left end h log output ran) (sym one)
      (subst (λ k. Tells given k was_synced p f who start left end h log output ran) (sym two) told)

  pub csv_told : (j : Scribe) (IsSafe : Safety) (ran : Ran) (form : Form) (file : Option Text) → form ≡ Csv → file ≡ None → j ≡ no_journal
      → IfOk ran (λ score. HasToldTable p f j IsSafe start left end h None None output.old output.new score)
      → OnErr ran (HasToldTableSome p f j IsSafe start left h None None output.old output.new)
      → Tells form file was_synced p f who start left end h log output ran
  csv_told j IsSafe ran form file is none lines all some = told_as form Csv file None ran is none (table_plain j IsSafe ran lines all some)

  pub csv_kept : (j : Scribe) (ran : Ran) (form : Form) (file : Option Text) (journal : Text) → form ≡ Csv → file ≡ Some journal
      → j ≡ journal_lines (names_of p) who
      → IfOk ran (λ score. HasToldTable p f j was_synced start left end h log.old log.new output.old output.new score)
      → OnErr ran (HasToldTableSome p f j was_synced start left h log.old log.new output.old output.new)
      → Tells form file was_synced p f who start left end h log output ran
  csv_kept j ran form file journal is some lines all begun = told_as form Csv file (Some journal) ran is some (table_kept j ran journal lines all begun)
