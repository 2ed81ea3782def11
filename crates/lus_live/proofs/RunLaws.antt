-- What was driven on an instance that is live is its lawful history.
use Rattle.std.proofs.Common.{◌≡◌, ◌∙◌, ℕ, inr, ap, refl, sym, subst, List, [], ◌∷◌, Option, Some, None, Ok, Err, IfOk, OnErr}
use Rattle.lus_values.specs.Names.{Names, Text}
use Rattle.lus_program.specs.Programs.{Program, Variable, node_at}
use Rattle.lus_requests.specs.declared.request.Request.{Request}
use Rattle.lus_requests.specs.declared.request.Entry.{Entry}
use Rattle.lus_bursts.specs.Syncs.{Safety}
use Rattle.lus_devices.specs.Devices.{Bytes}
use Rattle.lus_devices.specs.Journals.{count_text, line_text}
use Rattle.lus_cli.specs.Changes.{Change}
use Rattle.lus_live_instance.specs.Lives.{IsLive}
use Rattle.lus_live_instance.specs.MachineSpecs.Constructors.{names_of}
use Rattle.lus_live_instance.specs.MachineSpecs.Formals.{outputs_of}
use Rattle.lus_live_instance.specs.MachineSpecs.Machines.{Told}
use Rattle.lus_live_instance.proofs.LiveLaws.{lawful_of}
use Rattle.lus_play.specs.declared.playing.Score.{Score}
use Rattle.lus_sessions.specs.Calls.{IsCallTo, reply_line}
use Rattle.lus_sessions.specs.Recoveries.{start_text}
use Rattle.lus_sessions.specs.Sessions.{HasDriven, HasDrivenSome, Parties, Scribe, journal_lines, no_journal, scribe_of}
use Rattle.lus_sessions.specs.declared.recovering.Start.{Start}
use Rattle.lus_live.specs.Ends.{Ran, Tells}
use Rattle.lus_live.specs.Runs.{HasRun, HasRunSome, Unasked, json_says, silence}
use Rattle.lus_live.specs.declared.words.Form.{Form}
use Rattle.lus_live.specs.declared.words.Form.TheVariants.{Journal, Json}

-- the journal of a caller, as the code has its names
pub lines_are : (ns known : Names) (name : Text) (cs : List Text) (who : Parties) → ns ≡ known → name ≡ who.node → cs ≡ who.caller ∷ []
    → scribe_of (start_text name) (line_text ns cs) count_text ≡ journal_lines known who
lines_are ns known name cs who named same callers =
    ap (λ k. scribe_of (start_text name) (line_text k cs) count_text) named
    ∙ ap (λ k. scribe_of (start_text k) (line_text known cs) count_text) same
    ∙ ap (λ k. scribe_of (start_text who.node) (line_text known k) count_text) callers

-- of a device that isn't the log of a file nothing is asked
pub unasked : (R : Bytes → Option Request → Type 0) (j : Scribe) (tells : ℕ → Entry → Bytes) (IsSafe : Safety) (start : Start) (left end : Option Bytes)
    (h h' : List Entry) (l l' w w' : Option Bytes) (score : Score) → HasDriven R j tells IsSafe start left end h h' l l' w w' score
    → HasDriven R j tells Unasked start left end h h' l l' w w' score
unasked R j tells IsSafe start left end h h' l l' w w' score d =
    let kept = d.kept in
    record {
      entries = d.entries;
      asks = d.asks;
      entered = d.entered;
      logged = d.logged;
      told = d.told;
      kept = record { told = kept.told; rest = kept.rest; all = kept.all; safe = inr tt; wrote = kept.wrote };
    }

pub unasked_some : (R : Bytes → Option Request → Type 0) (j : Scribe) (tells : ℕ → Entry → Bytes) (IsSafe : Safety) (start : Start) (left : Option Bytes)
    (h h' : List Entry) (l l' w w' : Option Bytes) → HasDrivenSome R j tells IsSafe start left h h' l l' w w'
    → HasDrivenSome R j tells Unasked start left h h' l l' w w'
unasked_some R j tells IsSafe start left h h' l l' w w' d = record {
  told = d.told;
  rest = d.rest;
  asks = d.asks;
  entered = d.entered;
  logged = d.logged;
  whole = d.whole;
  safe = inr tt;
  replied = d.replied;
}

abbrev Tellers : Type 0
Tellers = Program → Names → List Variable → ℕ → Entry → Bytes

-- objects of JSON
abbrev pub objects : Tellers
objects r ns os n e = reply_line r ns os e

abbrev pub nothing : Tellers
nothing r ns os n e = []

-- the program, its names and the outputs of the node as the code has them
module _ (p q : Program) (names : Names) (f : ℕ) (outputs : List Variable) (same : q ≡ p) (named : names ≡ names_of p)
    (those : outputs ≡ outputs_of (node_at p f)) (m : Told) (live : IsLive p f m) (start : Start) (left end : Option Bytes) (h : List Entry) where
  abbrev All : Tellers → Scribe → Safety → (l l' w w' : Option Bytes) → Score → Program → Names → List Variable → Type 0
  All tells j IsSafe l l' w w' score r ns os = HasDriven (IsCallTo r ns f) j (tells r ns os) IsSafe start left end h m.history l l' w w' score

  abbrev Some_ : Tellers → Scribe → Safety → (l l' w w' : Option Bytes) → Program → Names → List Variable → Type 0
  Some_ tells j IsSafe l l' w w' r ns os = HasDrivenSome (IsCallTo r ns f) j (tells r ns os) IsSafe start left h m.history l l' w w'

  module _ (tells : Tellers) (j : Scribe) (IsSafe : Safety) (l l' w w' : Option Bytes) where
    pub all_run : (score : Score) → All tells j IsSafe l l' w w' score q names outputs
        → HasRun p f (IsCallTo p (names_of p) f) j (tells p (names_of p) (outputs_of (node_at p f))) IsSafe start left end h l l' w w' score
    all_run score d = record {
      history = m.history;
      lawful = lawful_of p f m live;
      driven = subst (All tells j IsSafe l l' w w' score p (names_of p)) those
          (subst (λ ns. All tells j IsSafe l l' w w' score p ns outputs) named
          (subst (λ r. All tells j IsSafe l l' w w' score r names outputs) same d));
    }

    pub some_run : Some_ tells j IsSafe l l' w w' q names outputs
        → HasRunSome p f (IsCallTo p (names_of p) f) j (tells p (names_of p) (outputs_of (node_at p f))) IsSafe start left h l l' w w'
    some_run d = record {
      history = m.history;
      lawful = lawful_of p f m live;
      driven = subst (Some_ tells j IsSafe l l' w w' p (names_of p)) those
          (subst (λ ns. Some_ tells j IsSafe l l' w w' p ns outputs) named
          (subst (λ r. Some_ tells j IsSafe l l' w w' r names outputs) same d));
    }

  module _ (who : Parties) (was_synced : Safety) (log output : Change) where
    abbrev Told_ : Form → Option Text → Ran → Type 0
    Told_ form file ran = Tells form file was_synced p f who start left end h log output ran

    pub told_as : (form given : Form) (file named_file : Option Text) (ran : Ran) → form ≡ given → file ≡ named_file → Told_ given named_file ran → Told_ form file ran
    told_as form given file named_file ran one two told =
        subst (λ k. Told_ k file ran) (sym one) (subst (λ k. Told_ given k ran) (sym two) told)

    lines_told : (j : Scribe) (IsSafe : Safety) (ran : Ran) (file : Option Text) → j ≡ journal_lines (names_of p) who
        → IfOk ran (λ score. All nothing j IsSafe output.old output.new None None score q names outputs)
        → OnErr ran (Some_ nothing j IsSafe output.old output.new None None q names outputs) → Told_ Journal file ran
    lines_told j IsSafe (Ok score) file lines all some =
        subst (λ k. HasRun p f (IsCallTo p (names_of p) f) k silence Unasked start left end h output.old output.new None None score) lines
        (all_run nothing j Unasked output.old output.new None None score
        (unasked (IsCallTo q names f) j (nothing q names outputs) IsSafe start left end h m.history output.old output.new None None score all))
    lines_told j IsSafe (Err e) file lines all some =
        subst (λ k. HasRunSome p f (IsCallTo p (names_of p) f) k silence Unasked start left h output.old output.new None None) lines
        (some_run nothing j Unasked output.old output.new None None
        (unasked_some (IsCallTo q names f) j (nothing q names outputs) IsSafe start left h m.history output.old output.new None None some))

    objects_told : (j : Scribe) (IsSafe : Safety) (ran : Ran) → j ≡ no_journal
        → IfOk ran (λ score. All objects j IsSafe None None output.old output.new score q names outputs)
        → OnErr ran (Some_ objects j IsSafe None None output.old output.new q names outputs) → Told_ Json None ran
    objects_told j IsSafe (Ok score) lines all some =
        subst (λ k. HasRun p f (IsCallTo p (names_of p) f) k (json_says p f) Unasked start left end h None None output.old output.new score) lines
        (all_run objects j Unasked None None output.old output.new score
        (unasked (IsCallTo q names f) j (objects q names outputs) IsSafe start left end h m.history None None output.old output.new score all))
    objects_told j IsSafe (Err e) lines all some =
        subst (λ k. HasRunSome p f (IsCallTo p (names_of p) f) k (json_says p f) Unasked start left h None None output.old output.new) lines
        (some_run objects j Unasked None None output.old output.new
        (unasked_some (IsCallTo q names f) j (objects q names outputs) IsSafe start left h m.history None None output.old output.new some))

    objects_kept : (j : Scribe) (ran : Ran) (journal : Text) → j ≡ journal_lines (names_of p) who
        → IfOk ran (λ score. All objects j was_synced log.old log.new output.old output.new score q names outputs)
        → OnErr ran (Some_ objects j was_synced log.old log.new output.old output.new q names outputs) → Told_ Json (Some journal) ran
    objects_kept j (Ok score) journal lines all some =
        subst (λ k. HasRun p f (IsCallTo p (names_of p) f) k (json_says p f) was_synced start left end h log.old log.new output.old output.new score) lines
        (all_run objects j was_synced log.old log.new output.old output.new score all)
    objects_kept j (Err e) journal lines all some =
        subst (λ k. HasRunSome p f (IsCallTo p (names_of p) f) k (json_says p f) was_synced start left h log.old log.new output.old output.new) lines
        (some_run objects j was_synced log.old log.new output.old output.new some)

    module _ (j : Scribe) (IsSafe : Safety) (ran : Ran) where
      -- entries as lines of a journal
      pub journal_told : (form : Form) (file : Option Text) → form ≡ Journal → j ≡ journal_lines (names_of p) who
          → IfOk ran (λ score. All nothing j IsSafe output.old output.new None None score q names outputs)
          → OnErr ran (Some_ nothing j IsSafe output.old output.new None None q names outputs) → Told_ form file ran
      journal_told form file is lines all some = told_as form Journal file file ran is refl (lines_told j IsSafe ran file lines all some)

      -- replies as objects, without a journal
      pub json_told : (form : Form) (file : Option Text) → form ≡ Json → file ≡ None → j ≡ no_journal
          → IfOk ran (λ score. All objects j IsSafe None None output.old output.new score q names outputs)
          → OnErr ran (Some_ objects j IsSafe None None output.old output.new q names outputs) → Told_ form file ran
      json_told form file is none lines all some = told_as form Json file None ran is none (objects_told j IsSafe ran lines all some)

    -- replies as objects, once their entries are in a file's journal
    pub json_kept : (j : Scribe) (ran : Ran) (form : Form) (file : Option Text) (journal : Text) → form ≡ Json → file ≡ Some journal
        → j ≡ journal_lines (names_of p) who
        → IfOk ran (λ score. All objects j was_synced log.old log.new output.old output.new score q names outputs)
        → OnErr ran (Some_ objects j was_synced log.old log.new output.old output.new q names outputs) → Told_ form file ran
    json_kept j ran form file journal is some lines all begun = told_as form Json file (Some journal) ran is some (objects_kept j ran journal lines all begun)
