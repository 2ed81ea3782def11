-- Turns, one behind another.
use Rattle.std.proofs.Common.{◌≡◌, ◌∙◌, ◌+◌, ◌++◌, ◌≤◌, ◌<◌, ℕ, Bool, true, refl, ap, sym, subst, inl, inr, List, [], ◌∷◌, length, take, Option, Some, None, append_assoc, append-nil, length-append, arith}
use Rattle.indexmap.specs.IndexMap.{get_by_text}
use Rattle.lus_values.specs.Names.{Text}
use Rattle.lus_program.specs.Programs.{Program}
use Rattle.lus_devices.specs.Devices.{Bytes, WritesBeginning, with_front, with_text}
use Rattle.lus_bursts.specs.Syncs.{IsSafe, Settles, SettlesSome}
use Rattle.lus_devices.proofs.Laws.{reaches_began, reaches_stop, with_front-more, with_text-more, with_text-nothing}
use Rattle.lus_lines.specs.Lines.{IsLast}
use Rattle.lus_live_instance.specs.MachineSpecs.HistorySpecs.Histories.{History}
use Rattle.lus_play.specs.Plays.{HasWhole, with_tail}
use Rattle.lus_play.specs.declared.playing.Score.{Score}
use Rattle.lus_play.specs.declared.error.PlayError.{PlayError}
use Rattle.lus_play.specs.declared.error.PlayError.TheVariants as plays
use Rattle.lus_play.proofs.AheadLaws.{all_begun, all_whole}
use Rattle.lus_hosting.specs.Hosts.{HasTurn, HasTurnSome, IsKind, Keeps, TurnFails, WritesTurn}
use Rattle.lus_hosting.specs.Logs.{Logged, entries_of}
use Rattle.lus_hosting.specs.Spellings.{Spelling}
use Rattle.lus_hosting.specs.Turns.{AreSafe, AreTaken, Called, Denied, HasHosted, HasHostedSome, Noted, Reads, Replayed, StopsBy, Turn, Turns, added_by, answer_at, denied_by, entry_at, line_at, more, none, stop_of}
use Rattle.lus_hosting.specs.declared.error.HostError.{HostError}
use Rattle.lus_hosting.specs.declared.instances.Instances.{Instances}
use Rattle.lus_hosting.specs.declared.turns.Kind.{Kind}
use Rattle.lus_hosting.specs.declared.turns.Kind.TheVariants as kinds
use Rattle.lus_hosting.proofs.HostLaws.{all_lawful}

pub front_nothing : (left : Option Bytes) → left ≡ with_front [] left
front_nothing None = refl
front_nothing (Some bs) = refl

-- how many entries and denials a kind counts
abbrev pub entered_by : Kind → ℕ
entered_by kinds.Called = 1
entered_by kinds.Replayed = 1
entered_by kinds.Noted = 0
entered_by kinds.Denied = 0
entered_by kinds.Wrong = 0
entered_by kinds.NoEntry = 0
entered_by kinds.Unfinished = 0
entered_by kinds.Ended = 0

abbrev pub refused_by : Kind → ℕ
refused_by kinds.Called = 0
refused_by kinds.Replayed = 0
refused_by kinds.Noted = 0
refused_by kinds.Denied = 1
refused_by kinds.Wrong = 0
refused_by kinds.NoEntry = 0
refused_by kinds.Unfinished = 0
refused_by kinds.Ended = 0

abbrev Counts : Kind → Turn → Type 0
Counts k t = (length (added_by t) ≡ entered_by k) × (denied_by t ≡ refused_by k)

counts : (k : Kind) (t : Turn) → IsKind k t → Counts k t
counts k (Called line l) is = subst (λ j. Counts j (Called line l)) (sym is) (refl, refl)
counts k (Replayed l) is = subst (λ j. Counts j (Replayed l)) (sym is) (refl, refl)
counts k (Noted line) is = subst (λ j. Counts j (Noted line)) (sym is) (refl, refl)
counts k (Denied line d) is = subst (λ j. Counts j (Denied line d)) (sym is) (refl, refl)

tail_more : (tail : Bytes) (n : ℕ) → 0 < length tail → n + 1 ≡ with_tail tail n
tail_more [] n some = absurd (omega (arith, some))
tail_more (b ∷ bs) n some = refl

-- a beginning of what comes behind a text
more_begun : (w now next : Option Bytes) (text piece : Bytes) → now ≡ with_text w text → WritesBeginning now next piece → WritesBeginning w next (text ++ piece)
more_begun w now next text piece wrote began =
    reaches_began w now next (text ++ piece) piece [] (text, wrote, ap (λ t. text ++ t) (sym (append-nil piece))) began

-- a text that is whole stays so
whole_more : (l at on : Option Bytes) (text piece : Bytes) → on ≡ with_text at piece → HasWhole l at text → HasWhole l on text
whole_more l at on text piece grown whole =
    (whole.0 ++ piece, grown ∙ ap (λ o. with_text o piece) whole.1 ∙ with_text-more l (text ++ whole.0) piece ∙ ap (with_text l) (append_assoc text whole.0 piece))

-- and one that was synced stays so
safe_more : (L : Type 0) (syncs : L → L → Type 0) (taken : L → Option Bytes) (l at on : Option Bytes) (text piece : Bytes) → on ≡ with_text at piece
    → IsSafe L syncs taken l text at → IsSafe L syncs taken l text on
safe_more L syncs taken l at on text piece grown safe =
    elim safe [
      | inl empty ↦ inl empty
      | inr was ↦ inr (record {
        before = was.before;
        after = was.after;
        more = was.more ++ piece;
        synced = was.synced;
        whole = was.whole;
        since = grown ∙ ap (λ o. with_text o piece) was.since ∙ with_text-more (taken was.after) was.more piece;
      })
    ]

-- the bytes that there are
abbrev bytes_of : Option Bytes → Bytes
bytes_of None = []
bytes_of (Some bs) = bs

module _ (L : Type 0) (syncs : L → L → Type 0) (taken : L → Option Bytes) (is_synced : Bool) (reads : Reads) (p : Program) (f : ℕ) (j s : Spelling)
    (before : List Logged) (left l w : Option Bytes) where
  -- of these entries, lines and answers the first are answered, and the other answers are held
  pub record Answered (log : List Logged) (lines answers : Bytes) (at now : Option Bytes) (held : Bytes) : Type 0 where
    pub told : List Logged
    pub rest : List Logged
    pub denied : ℕ
    pub read : Bytes
    pub later : Bytes
    pub kept : Bytes
    pub written : Bytes
    pub turns : Turns reads p f j s before told denied read kept written
    pub log_is : log ≡ told ++ rest
    pub lines_are : lines ≡ read ++ later
    pub held_is : answers ≡ written ++ held
    pub whole : HasWhole l at kept
    pub wrote : now ≡ with_text w written
    pub safe : is_synced ≡ true → IsSafe L syncs taken l kept at

  -- these lines were read so far and entered, and answered but for what is held
  pub record SoFar (mid at now : Option Bytes) (held : Bytes) (instances : Instances) (entered refused turn : ℕ) : Type 0 where
    pub log : List Logged
    pub denied : ℕ
    pub read : Bytes
    pub kept : Bytes
    pub written : Bytes
    pub turns : Turns reads p f j s before log denied read kept written
    pub were : left ≡ with_front read mid
    pub logged : at ≡ with_text l kept
    pub answered : Answered log read written at now held
    pub keeps : Keeps p f log instances
    pub entered_is : length before + entered ≡ length log
    pub refused_is : refused ≡ denied
    pub few : entered + refused ≤ turn

  pub so_far_start : (instances : Instances) (held : Bytes) → held ≡ [] → Keeps p f before instances → SoFar left l w held instances 0 0 0
  so_far_start instances held none_held keeps = record {
    log = before;
    denied = 0;
    read = [];
    kept = [];
    written = [];
    turns = none;
    were = front_nothing left;
    logged = with_text-nothing l;
    answered = record {
      told = before;
      rest = [];
      denied = 0;
      read = [];
      later = [];
      kept = [];
      written = [];
      turns = none;
      log_is = sym (append-nil before);
      lines_are = refl;
      held_is = sym none_held;
      whole = all_whole l l [] (with_text-nothing l);
      wrote = with_text-nothing w;
      safe = λ is. inl refl;
    };
    keeps = keeps;
    entered_is = omega arith;
    refused_is = refl;
    few = omega arith;
  }

  -- more entries, lines and answers, of which none is written
  answered_more : (log further : List Logged) (lines line answers answer : Bytes) (at on now : Option Bytes) (held piece : Bytes) → on ≡ with_text at piece
      → Answered log lines answers at now held → Answered (log ++ further) (lines ++ line) (answers ++ answer) on now (held ++ answer)
  answered_more log further lines line answers answer at on now held piece grown a = record {
    told = a.told;
    rest = a.rest ++ further;
    denied = a.denied;
    read = a.read;
    later = a.later ++ line;
    kept = a.kept;
    written = a.written;
    turns = a.turns;
    log_is = ap (λ k. k ++ further) a.log_is ∙ append_assoc a.told a.rest further;
    lines_are = ap (λ k. k ++ line) a.lines_are ∙ append_assoc a.read a.later line;
    held_is = ap (λ k. k ++ answer) a.held_is ∙ append_assoc a.written held answer;
    whole = whole_more l at on a.kept piece grown a.whole;
    wrote = a.wrote;
    safe = λ is. safe_more L syncs taken l at on a.kept piece grown (a.safe is);
  }

  -- the same on a device that took nothing
  answered_on : (log : List Logged) (lines answers : Bytes) (at on now next : Option Bytes) (held held' : Bytes) → on ≡ at → next ≡ now → held' ≡ held
      → Answered log lines answers at now held → Answered log lines answers on next held'
  answered_on log lines answers at on now next held held' still same as_held a = record {
    told = a.told;
    rest = a.rest;
    denied = a.denied;
    read = a.read;
    later = a.later;
    kept = a.kept;
    written = a.written;
    turns = a.turns;
    log_is = a.log_is;
    lines_are = a.lines_are;
    held_is = a.held_is ∙ ap (λ k. a.written ++ k) (sym as_held);
    whole = subst (λ o. HasWhole l o a.kept) (sym still) a.whole;
    wrote = same ∙ a.wrote;
    safe = λ is. subst (λ o. IsSafe L syncs taken l a.kept o) (sym still) (a.safe is);
  }

  -- what a run comes to that stops: a beginning of all is written, and no answer before its entry is whole in the log, and synced
  pub record Stops (on next : Option Bytes) : Type 0 where
    pub some : HasHostedSome reads p f j s before left l on w next
    pub safe : is_synced ≡ true → AreSafe reads p f j s before (IsSafe L syncs taken) left l on w next

  -- what is answered is safe
  safe_of : (log : List Logged) (lines answers : Bytes) (mid at now : Option Bytes) (held : Bytes) → left ≡ with_front lines mid
      → Answered log lines answers at now held → is_synced ≡ true → AreSafe reads p f j s before (IsSafe L syncs taken) left l at w now
  safe_of log lines answers mid at now held were a is = record {
    told = a.told;
    denied = a.denied;
    read = a.read;
    later = with_front a.later mid;
    kept = a.kept;
    written = a.written;
    turns = a.turns;
    were = were ∙ ap (λ k. with_front k mid) a.lines_are ∙ sym (with_front-more mid a.read a.later);
    safe = a.safe is;
    replied = all_begun w now a.written a.wrote;
  }

  -- lines were taken, of whose entries a beginning is in the log, and the run stops
  stopped_with : (log : List Logged) (denied : ℕ) (read kept written : Bytes) (mid on now : Option Bytes) (held : Bytes)
      → Turns reads p f j s before log denied read kept written → left ≡ with_front read mid → ((name : Text) → History p f (entries_of name log))
      → WritesBeginning l on kept → Answered log read written on now held → Stops on now
  stopped_with log denied read kept written mid on now held turns were lawful began a = record {
    some = record {
      log = log;
      denied = denied;
      read = read;
      kept = kept;
      written = written;
      later = mid;
      turns = turns;
      were = were;
      lawful = lawful;
      logged = began;
      wrote = reaches_stop w now written held (a.written, a.wrote, a.held_is);
      ahead = record {
        told = a.told;
        rest = a.rest;
        denied = a.denied;
        read = a.read;
        later = a.later;
        kept = a.kept;
        written = a.written;
        turns = a.turns;
        log_is = a.log_is;
        lines_are = a.lines_are;
        whole = a.whole;
        replied = all_begun w now a.written a.wrote;
      };
    };
    safe = safe_of log read written mid on now held were a;
  }

  -- ---- lines that were taken so far

  module _ (mid at now : Option Bytes) (held : Bytes) (instances : Instances) (entered refused turn : ℕ)
      (so_far : SoFar mid at now held instances entered refused turn) where
    so_far_more : (k : Kind) (later on : Option Bytes) (held' : Bytes) (new : Instances) (entered' refused' : ℕ)
        → HasTurn k reads p f so_far.log mid later (λ t. (on ≡ with_text at (entry_at j so_far.log t)) × (Some held' ≡ with_text (Some held) (answer_at s so_far.log t))) new
        → entered' ≡ entered + entered_by k → refused' ≡ refused + refused_by k → entered_by k + refused_by k ≤ 1
        → SoFar later on now held' new entered' refused' (turn + 1)
    so_far_more k later on held' new entered' refused' has e r one =
        let counted = counts k has.turn has.kind in
        let more_entries = counted.0 in
        let more_denials = counted.1 in
        let long = length-append so_far.log (added_by has.turn) in
        let was = so_far.entered_is in
        let denials = so_far.refused_is in
        let few = so_far.few in
        let held_is : held' ≡ held ++ answer_at s so_far.log has.turn = ap bytes_of has.said.1 in
        let log = so_far.log ++ added_by has.turn in
        let read = so_far.read ++ line_at reads p f so_far.log has.turn in
        let written = so_far.written ++ answer_at s so_far.log has.turn in
        record {
          log = log;
          denied = so_far.denied + denied_by has.turn;
          read = read;
          kept = so_far.kept ++ entry_at j so_far.log has.turn;
          written = written;
          turns = more so_far.log so_far.denied so_far.read so_far.kept so_far.written has.turn so_far.turns has.is;
          were = so_far.were ∙ ap (with_front so_far.read) has.read ∙ with_front-more later so_far.read (line_at reads p f so_far.log has.turn);
          logged = has.said.0 ∙ ap (λ o. with_text o (entry_at j so_far.log has.turn)) so_far.logged
              ∙ with_text-more l so_far.kept (entry_at j so_far.log has.turn);
          answered = subst (Answered log read written on now) (sym held_is)
              (answered_more so_far.log (added_by has.turn) so_far.read (line_at reads p f so_far.log has.turn) so_far.written (answer_at s so_far.log has.turn) at on now held
              (entry_at j so_far.log has.turn) has.said.0 so_far.answered);
          keeps = has.keeps;
          entered_is = omega (arith, e, was, long, more_entries);
          refused_is = omega (arith, r, denials, more_denials);
          few = omega (arith, few, e, r, one);
        }

    -- the run stopped between lines
    pub stopped : Stops at now
    stopped =
        stopped_with so_far.log so_far.denied so_far.read so_far.kept so_far.written mid at now held so_far.turns so_far.were
        (all_lawful p f so_far.log (get_by_text instances.by_name) so_far.keeps) (all_begun l at so_far.kept so_far.logged) so_far.answered

    stopped_on : (on : Option Bytes) → on ≡ at → Stops on now
    stopped_on on still = subst (λ o. Stops o now) (sym still) stopped

    -- or within a turn: before its entry was whole in the log, or behind that
    failed_in : (on : Option Bytes) → HasTurnSome reads p f j s so_far.log mid at on None None → Stops on now
    failed_in on some =
        let t = some.turn in
        let noted = entry_at j so_far.log t in
        let told = answer_at s so_far.log t in
        let turns = more so_far.log so_far.denied so_far.read so_far.kept so_far.written t so_far.turns some.is in
        let were : left ≡ with_front (so_far.read ++ line_at reads p f so_far.log t) some.later =
        so_far.were ∙ ap (with_front so_far.read) some.read ∙ with_front-more some.later so_far.read (line_at reads p f so_far.log t) in
        elim some.wrote [
          | inl began ↦ stopped_with _ _ _ _ _ some.later on now (held ++ told) turns were some.lawful
              (more_begun l at on so_far.kept noted so_far.logged began.0)
              (answered_more so_far.log (added_by t) so_far.read (line_at reads p f so_far.log t) so_far.written told at on now held (take began.0.0 noted) began.0.1 so_far.answered)
          | inr began ↦ stopped_with _ _ _ _ _ some.later on now (held ++ told) turns were some.lawful
              (all_begun l on (so_far.kept ++ noted) (began.0 ∙ ap (λ o. with_text o noted) so_far.logged ∙ with_text-more l so_far.kept noted))
              (answered_more so_far.log (added_by t) so_far.read (line_at reads p f so_far.log t) so_far.written told at on now held noted began.0 so_far.answered)
        ]

    pub failed : (on : Option Bytes) → TurnFails reads p f j s so_far.log mid at on None None → Stops on now
    failed on fails =
        elim fails [
          | inl nothing ↦ stopped_on on nothing.0
          | inr some ↦ failed_in on some
        ]

    -- ---- what was held is written

    -- all is answered behind a sync
    all_answered : (on next : Option Bytes) (a b : L) → taken a ≡ at → on ≡ taken b → on ≡ at → (is_synced ≡ true → syncs a b) → next ≡ with_text now held
        → Answered so_far.log so_far.read so_far.written on next []
    all_answered on next a b was is still synced wrote = record {
      told = so_far.log;
      rest = [];
      denied = so_far.denied;
      read = so_far.read;
      later = [];
      kept = so_far.kept;
      written = so_far.written;
      turns = so_far.turns;
      log_is = sym (append-nil so_far.log);
      lines_are = sym (append-nil so_far.read);
      held_is = sym (append-nil so_far.written);
      whole = all_whole l on so_far.kept (still ∙ so_far.logged);
      wrote = wrote ∙ ap (λ o. with_text o held) so_far.answered.wrote ∙ with_text-more w so_far.answered.written held
          ∙ ap (with_text w) (sym so_far.answered.held_is);
      safe = λ so. inr (record {
        before = a;
        after = b;
        more = [];
        synced = synced so;
        whole = was ∙ so_far.logged;
        since = is ∙ with_text-nothing (taken b);
      });
    }

    pub settled : (is_due : Bool) (a b : L) (next : Option Bytes) (held' : Bytes) → taken a ≡ at → taken b ≡ taken a
        → Settles L syncs is_due is_synced a b held held' now next → SoFar mid (taken b) next held' instances entered refused turn
    settled is_due a b next held' was still settles = record {
      log = so_far.log;
      denied = so_far.denied;
      read = so_far.read;
      kept = so_far.kept;
      written = so_far.written;
      turns = so_far.turns;
      were = so_far.were;
      logged = still ∙ was ∙ so_far.logged;
      answered = elim settles [
        | inl nothing ↦ answered_on so_far.log so_far.read so_far.written at (taken b) now next held held' (still ∙ was) nothing.2 nothing.0 so_far.answered
        | inr all ↦ subst (Answered so_far.log so_far.read so_far.written (taken b) next) (sym all.1)
            (all_answered (taken b) next a b was refl (still ∙ was) all.0 all.2)
      ];
      keeps = so_far.keeps;
      entered_is = so_far.entered_is;
      refused_is = so_far.refused_is;
      few = so_far.few;
    }

    -- or the run stops, and a beginning of it is
    pub unsettled : (a b : L) (next : Option Bytes) → taken a ≡ at → taken b ≡ taken a → SettlesSome L syncs is_synced a b held now next
        → Stops (taken b) next
    unsettled a b next was still settles =
        let on : taken b ≡ at = still ∙ was in
        let lawful = all_lawful p f so_far.log (get_by_text instances.by_name) so_far.keeps in
        let logged = all_begun l (taken b) so_far.kept (on ∙ so_far.logged) in
        elim settles [
          | inl nothing ↦ stopped_with so_far.log so_far.denied so_far.read so_far.kept so_far.written mid (taken b) next held so_far.turns so_far.were lawful logged
              (answered_on so_far.log so_far.read so_far.written at (taken b) now next held held on nothing refl so_far.answered)
          | inr part ↦ let a' = so_far.answered in
              let wrote : WritesBeginning w next so_far.written =
              reaches_began w now next so_far.written held [] (a'.written, a'.wrote, a'.held_is ∙ ap (λ k. a'.written ++ k) (sym (append-nil held))) part.1 in
              record {
                some = record {
                  log = so_far.log;
                  denied = so_far.denied;
                  read = so_far.read;
                  kept = so_far.kept;
                  written = so_far.written;
                  later = mid;
                  turns = so_far.turns;
                  were = so_far.were;
                  lawful = lawful;
                  logged = logged;
                  wrote = wrote;
                  ahead = record {
                    told = so_far.log;
                    rest = [];
                    denied = so_far.denied;
                    read = so_far.read;
                    later = [];
                    kept = so_far.kept;
                    written = so_far.written;
                    turns = so_far.turns;
                    log_is = sym (append-nil so_far.log);
                    lines_are = sym (append-nil so_far.read);
                    whole = all_whole l (taken b) so_far.kept (on ∙ so_far.logged);
                    replied = wrote;
                  };
                };
                safe = λ is. record {
                  told = so_far.log;
                  denied = so_far.denied;
                  read = so_far.read;
                  later = mid;
                  kept = so_far.kept;
                  written = so_far.written;
                  turns = so_far.turns;
                  were = so_far.were;
                  safe = inr (record {
                    before = a;
                    after = b;
                    more = [];
                    synced = part.0 is;
                    whole = was ∙ so_far.logged;
                    since = with_text-nothing (taken b);
                  });
                  replied = wrote;
                };
              }
        ]

    -- the end was met behind these bytes, and nothing is held
    pub ended_with : (tail : Bytes) (end : Option Bytes) (score : Score) → held ≡ [] → IsLast tail mid end → score.entered ≡ entered
        → score.refused ≡ with_tail tail refused → HasHosted reads p f j s before left end l at w now score
    ended_with tail end score none_held last e r = record {
      log = so_far.log;
      denied = so_far.denied;
      read = so_far.read;
      kept = so_far.kept;
      written = so_far.written;
      later = mid;
      tail = tail;
      turns = so_far.turns;
      were = so_far.were;
      last = last;
      logged = so_far.logged;
      wrote = so_far.answered.wrote ∙ ap (with_text w)
          (sym (append-nil so_far.answered.written) ∙ ap (λ k. so_far.answered.written ++ k) (sym none_held) ∙ sym so_far.answered.held_is);
      lawful = all_lawful p f so_far.log (get_by_text instances.by_name) so_far.keeps;
      entered = ap (λ n. length before + n) e ∙ so_far.entered_is;
      refused = r ∙ ap (with_tail tail) so_far.refused_is;
    }

  -- ---- what a kind of turn comes to, once what is held behind it is settled

  module _ (mid at now : Option Bytes) (held : Bytes) (instances : Instances) (entered refused turn : ℕ)
      (so_far : SoFar mid at now held instances entered refused turn) (k : Kind) (later : Option Bytes) (a b : L) (next : Option Bytes) (held' : Bytes)
      (new : Instances) (takes : WritesTurn k reads p f j s so_far.log mid later at (taken a) (Some held) (Some held') new) (still : taken b ≡ taken a) where
    takes_as : (i : Kind) → k ≡ i → WritesTurn i reads p f j s so_far.log mid later at (taken a) (Some held) (Some held') new
    takes_as i is = subst (λ h. WritesTurn h reads p f j s so_far.log mid later at (taken a) (Some held) (Some held') new) is takes

    -- nothing was entered or answered
    same_so_far : taken a ≡ at → Some held' ≡ Some held → SoFar mid (taken a) now held' instances entered refused turn
    same_so_far is same =
        let held_is : held' ≡ held = ap bytes_of same in
        subst (λ o. SoFar mid o now held' instances entered refused turn) (sym is)
        (subst (λ k. SoFar mid at now k instances entered refused turn) (sym held_is) so_far)

    module _ (settles : SettlesSome L syncs is_synced a b held' now next) where
      unsettled_more : (i : Kind) → entered_by i + refused_by i ≤ 1
          → HasTurn i reads p f so_far.log mid later (λ t. (taken a ≡ with_text at (entry_at j so_far.log t)) × (Some held' ≡ with_text (Some held) (answer_at s so_far.log t))) new
          → Stops (taken b) next
      unsettled_more i one has =
          unsettled later (taken a) now held' new (entered + entered_by i) (refused + refused_by i) (turn + 1)
          (so_far_more mid at now held instances entered refused turn so_far i later (taken a) held' new (entered + entered_by i) (refused + refused_by i) has refl refl one)
          a b next refl still settles

      unsettled_same : taken a ≡ at → Some held' ≡ Some held → Stops (taken b) next
      unsettled_same is same = unsettled mid (taken a) now held' instances entered refused turn (same_so_far is same) a b next refl still settles

      unsettled_as : (i : Kind) → WritesTurn i reads p f j s so_far.log mid later at (taken a) (Some held) (Some held') new → Stops (taken b) next
      unsettled_as kinds.Called has = unsettled_more kinds.Called (omega arith) has
      unsettled_as kinds.Replayed has = unsettled_more kinds.Replayed (omega arith) has
      unsettled_as kinds.Noted has = unsettled_more kinds.Noted (omega arith) has
      unsettled_as kinds.Denied has = unsettled_more kinds.Denied (omega arith) has
      unsettled_as kinds.Wrong has = unsettled_same has.1.0 has.1.1
      unsettled_as kinds.NoEntry has = unsettled_same has.1.0 has.1.1
      unsettled_as kinds.Unfinished has = unsettled_same has.3.0 has.3.1
      unsettled_as kinds.Ended has = unsettled_same has.1.0 has.1.1

      pub turn_unsettled : Stops (taken b) next
      turn_unsettled = unsettled_as k takes

    module _ (is_due : Bool) (held'' : Bytes) (settles : Settles L syncs is_due is_synced a b held' held'' now next) where
      settled_more : (i : Kind) (entered' refused' : ℕ)
          → HasTurn i reads p f so_far.log mid later (λ t. (taken a ≡ with_text at (entry_at j so_far.log t)) × (Some held' ≡ with_text (Some held) (answer_at s so_far.log t))) new
          → entered' ≡ entered + entered_by i → refused' ≡ refused + refused_by i → entered_by i + refused_by i ≤ 1
          → SoFar later (taken b) next held'' new entered' refused' (turn + 1)
      settled_more i entered' refused' has e r one =
          settled later (taken a) now held' new entered' refused' (turn + 1)
          (so_far_more mid at now held instances entered refused turn so_far i later (taken a) held' new entered' refused' has e r one)
          is_due a b next held'' refl still settles

      settled_same : taken a ≡ at → Some held' ≡ Some held → SoFar mid (taken b) next held'' instances entered refused turn
      settled_same is same =
          settled mid (taken a) now held' instances entered refused turn (same_so_far is same) is_due a b next held'' refl still settles

      stopped_same : taken a ≡ at → Some held' ≡ Some held → Stops (taken b) next
      stopped_same is same = stopped mid (taken b) next held'' instances entered refused turn (settled_same is same)

      module _ (entered' refused' : ℕ) where
        pub turn_called : k ≡ kinds.Called → entered' ≡ entered + 1 → refused' ≡ refused → SoFar later (taken b) next held'' new entered' refused' (turn + 1)
        turn_called is e r = settled_more kinds.Called entered' refused' (takes_as kinds.Called is) e (omega (arith, r)) (omega arith)

        pub turn_replayed : k ≡ kinds.Replayed → entered' ≡ entered + 1 → refused' ≡ refused → SoFar later (taken b) next held'' new entered' refused' (turn + 1)
        turn_replayed is e r = settled_more kinds.Replayed entered' refused' (takes_as kinds.Replayed is) e (omega (arith, r)) (omega arith)

        pub turn_noted : k ≡ kinds.Noted → entered' ≡ entered → refused' ≡ refused → SoFar later (taken b) next held'' new entered' refused' (turn + 1)
        turn_noted is e r = settled_more kinds.Noted entered' refused' (takes_as kinds.Noted is) (omega (arith, e)) (omega (arith, r)) (omega arith)

        pub turn_denied : k ≡ kinds.Denied → entered' ≡ entered → refused' ≡ refused + 1 → SoFar later (taken b) next held'' new entered' refused' (turn + 1)
        turn_denied is e r = settled_more kinds.Denied entered' refused' (takes_as kinds.Denied is) (omega (arith, e)) r (omega arith)

      pub turn_wrong : k ≡ kinds.Wrong → AreTaken reads × Stops (taken b) next
      turn_wrong is = let has = takes_as kinds.Wrong is in (has.0, stopped_same has.1.0 has.1.1)

      pub turn_no_entry : k ≡ kinds.NoEntry → AreTaken reads × Stops (taken b) next
      turn_no_entry is = let has = takes_as kinds.NoEntry is in (has.0, stopped_same has.1.0 has.1.1)

      none_held : is_due ≡ true → held'' ≡ []
      none_held due =
          elim settles [
            | inl nothing ↦ nothing.0 ∙ nothing.1 due
            | inr all ↦ all.1
          ]

      -- the end was met, where all is due
      pub turn_unfinished : k ≡ kinds.Unfinished → is_due ≡ true → (score : Score) → score.entered ≡ entered → score.refused ≡ refused + 1
          → HasHosted reads p f j s before left later l (taken b) w next score × Stops (taken b) next
      turn_unfinished is due score e r =
          let last = takes_as kinds.Unfinished is in (
            ended_with mid (taken b) next held'' instances entered refused turn (settled_same last.3.0 last.3.1) last.0 later score (none_held due) last.1 e
                (r ∙ tail_more last.0 refused last.2),
            stopped_same last.3.0 last.3.1,
          )

      pub turn_ended : k ≡ kinds.Ended → is_due ≡ true → (score : Score) → score.entered ≡ entered → score.refused ≡ refused
          → HasHosted reads p f j s before left later l (taken b) w next score × Stops (taken b) next
      turn_ended is due score e r =
          let last = takes_as kinds.Ended is in (
            ended_with mid (taken b) next held'' instances entered refused turn (settled_same last.1.0 last.1.1) [] later score (none_held due) last.0 e r,
            stopped_same last.1.0 last.1.1,
          )

-- what isn't an entry that isn't right stops no run of one kind of lines alone
pub stops_so : (reads : Reads) (e : PlayError) (h : HostError) → h ≡ stop_of e → StopsBy reads h
stops_so reads plays.Read h is = subst (StopsBy reads) (sym is) tt
stops_so reads plays.Write h is = subst (StopsBy reads) (sym is) tt
stops_so reads plays.Memory h is = subst (StopsBy reads) (sym is) tt
stops_so reads plays.Full h is = subst (StopsBy reads) (sym is) tt
