-- Lines that are played one by one, each of which is entered in a log before its reply is told.
use Rattle.std.proofs.Common.{◌≡◌, ◌∙◌, ◌⊎◌, inl, inr, ◌+◌, ◌-◌, ◌<◌, ◌≤◌, ◌++◌, ℕ, Bool, true, refl, ap, sym, subst, List, [], ◌∷◌, length, take, Option, Some, append_assoc, append-nil, arith, length-append}
use Rattle.lus_devices.specs.Devices.{Bytes, WritesBeginning, with_text}
use Rattle.lus_devices.proofs.Laws.{reaches_began, reaches_stop, with_text-more, with_text-nothing}
use Rattle.lus_bursts.specs.Syncs.{Settles, SettlesSome, WasKept}
use Rattle.lus_requests.specs.declared.request.Request.{Request}
use Rattle.lus_requests.specs.declared.request.Entry.{Entry}
use Rattle.lus_lines.specs.Lines.{IsLast, IsNext}
use Rattle.lus_play.specs.Plays.{AnswerFails, Asks, AsksSome, HasPlayedAhead, HasPlayedAll, HasWhole, TurnFails, TurnIs, texts, with_tail}
use Rattle.lus_play.specs.declared.playing.Score.{Score}
use Rattle.lus_play.specs.declared.playing.Turn.{Turn}
use Rattle.lus_play.specs.declared.playing.Turn.TheVariants as cases
use Rattle.lus_play.proofs.PlayLaws.{asks_all, asks_entered, asks_refused, asks_start, texts_more, texts_parts}

-- a beginning of nothing
pub nothing_begun : (w : Option Bytes) (text : Bytes) → WritesBeginning w w text
nothing_begun w text = reaches_stop w w text text ([], with_text-nothing w, refl)

-- all of a text is a beginning of it
pub all_begun : (w now : Option Bytes) (text : Bytes) → now ≡ with_text w text → WritesBeginning w now text
all_begun w now text same = reaches_stop w now text [] (text, same, sym (append-nil text))

-- a text that is written is whole
pub all_whole : (l l' : Option Bytes) (text : Bytes) → l' ≡ with_text l text → HasWhole l l' text
all_whole l l' text same = ([], same ∙ ap (with_text l) (sym (append-nil text)))

-- a text that is whole stays so
pub whole_more : (l at on : Option Bytes) (text piece : Bytes) → on ≡ with_text at piece → HasWhole l at text → HasWhole l on text
whole_more l at on text piece grown whole =
    (whole.0 ++ piece, grown ∙ ap (λ o. with_text o piece) whole.1 ∙ with_text-more l (text ++ whole.0) piece ∙ ap (with_text l) (append_assoc text whole.0 piece))

-- a line was read, and its answer failed
pub line_failed : (R : Bytes → Option Request → Type 0) (logs : ℕ → Entry → Bytes) (n : ℕ) (line here : Bytes) (left later : Option Bytes) (h h' : List Entry)
    (l l' : Option Bytes) → IsNext line left later → here ≡ line → AnswerFails R logs n here h h' l l' → TurnFails R logs n left h h' l l'
line_failed R logs n line here left later h h' l l' next same fails =
    elim fails [
      | inl nothing ↦ inl nothing
      | inr some ↦ inr (later, line, some.0, next, subst (λ t. R t (Some some.0.request)) same some.1, some.2, some.3)
    ]

tail_more : (tail : Bytes) (n : ℕ) → 0 < length tail → n + 1 ≡ with_tail tail n
tail_more [] n some = absurd (omega (arith, some))
tail_more (b ∷ bs) n some = refl

module _ (L : Type 0) (syncs : L → L → Type 0) (taken : L → Option Bytes) (is_synced : Bool) where
  abbrev Safe : Option Bytes → Bytes → Option Bytes → Type 0
  Safe = WasKept is_synced L syncs taken

  -- what was kept stays so
  pub safe_more : (l at on : Option Bytes) (text piece : Bytes) (told : List Entry) → on ≡ with_text at piece → ((told ≡ []) ⊎ Safe l text at)
      → ((told ≡ []) ⊎ Safe l text on)
  safe_more l at on text piece told grown safe =
      elim safe [
        | inl none ↦ inl none
        | inr kept ↦ inr (λ is.
            (let was = kept is in
            record {
              before = was.before;
              after = was.after;
              more = was.more ++ piece;
              synced = was.synced;
              whole = was.whole;
              since = grown ∙ ap (λ o. with_text o piece) was.since ∙ with_text-more (taken was.after) was.more piece;
            }))
      ]

  module _ (R : Bytes → Option Request → Type 0) (logs tells : ℕ → Entry → Bytes) (first : ℕ) (left : Option Bytes) (h : List Entry) (l w : Option Bytes) where
    -- these lines were taken so far and entered; the first of their entries are told, and the replies of the others are held
    pub record SoFar (mid : Option Bytes) (m : List Entry) (at now : Option Bytes) (held : Bytes) (turns refused : ℕ) : Type 0 where
      pub entries : List Entry
      pub asks : Asks R left mid entries turns refused
      pub entered : m ≡ h ++ entries
      pub logged : at ≡ with_text l (texts logs first entries)
      pub told : List Entry
      pub rest : List Entry
      pub all : entries ≡ told ++ rest
      pub whole : HasWhole l at (texts logs first told)
      pub safe : (told ≡ []) ⊎ Safe l (texts logs first told) at
      pub wrote : now ≡ with_text w (texts tells first told)
      pub held_is : held ≡ texts tells (first + length told) rest
      pub few : refused ≤ turns

    abbrev Stops : List Entry → Option Bytes → Option Bytes → Type 0
    Stops h' on next = HasPlayedAhead R logs tells Safe first left h h' l on w next

    pub so_far_start : (held : Bytes) → held ≡ [] → SoFar left h l w held 0 0
    so_far_start held none = record {
      entries = [];
      asks = asks_start R left;
      entered = sym (append-nil h);
      logged = with_text-nothing l;
      told = [];
      rest = [];
      all = refl;
      whole = all_whole l l [] (with_text-nothing l);
      safe = inl refl;
      wrote = with_text-nothing w;
      held_is = none;
      few = omega arith;
    }

    module _ (mid : Option Bytes) (m : List Entry) (at now : Option Bytes) (held : Bytes) (turns refused : ℕ) (s : SoFar mid m at now held turns refused) where
      -- the run stops behind further entries, of which a beginning is in the log
      stopped_with : (extra : List Entry) (h' : List Entry) (on : Option Bytes) (piece : Bytes) → on ≡ with_text at piece → AsksSome R left (s.entries ++ extra)
          → h' ≡ h ++ (s.entries ++ extra) → WritesBeginning l on (texts logs first (s.entries ++ extra)) → Stops h' on now
      stopped_with extra h' on piece grown asks entered began =
          let same : s.entries ++ extra ≡ s.told ++ (s.rest ++ extra) = ap (λ k. k ++ extra) s.all ∙ append_assoc s.told s.rest extra in
          record {
            told = s.told;
            rest = s.rest ++ extra;
            asks = subst (AsksSome R left) same asks;
            entered = entered ∙ ap (λ k. h ++ k) same;
            logged = subst (λ k. WritesBeginning l on (texts logs first k)) same began;
            whole = whole_more l at on (texts logs first s.told) piece grown s.whole;
            safe = safe_more l at on (texts logs first s.told) piece s.told grown s.safe;
            replied = all_begun w now (texts tells first s.told) s.wrote;
          }

      pub stopped : Stops m at now
      stopped =
          let more : s.entries ≡ s.entries ++ [] = sym (append-nil s.entries) in
          stopped_with [] m at [] (with_text-nothing at) (subst (AsksSome R left) more (mid, turns, refused, s.asks))
          (s.entered ∙ ap (λ k. h ++ k) more)
          (subst (λ k. WritesBeginning l at (texts logs first k)) more (all_begun l at (texts logs first s.entries) s.logged))

      place_of : (number : ℕ) → number ≡ first + (turns - refused) → number ≡ first + length s.entries
      place_of number place = let counted = s.asks.counted in omega (arith, place, counted)

      -- a beginning of one more entry
      entry_begun : (number : ℕ) (e : Entry) (on : Option Bytes) → number ≡ first + length s.entries → WritesBeginning at on (logs number e)
          → WritesBeginning l on (texts logs first (s.entries ++ e ∷ []))
      entry_begun number e on place began =
          let piece = logs number e in
          let whole : texts logs first (s.entries ++ e ∷ []) ≡ texts logs first s.entries ++ (piece ++ []) =
          texts_more logs first s.entries e ∙ ap (λ n. texts logs first s.entries ++ logs n e) (sym place) ∙ ap (λ t. texts logs first s.entries ++ t) (sym (append-nil piece)) in
          reaches_began l at on (texts logs first (s.entries ++ e ∷ [])) piece [] (texts logs first s.entries, s.logged, whole) began

      pub failed : (number : ℕ) (h' : List Entry) (on : Option Bytes) → number ≡ first + (turns - refused) → TurnFails R logs number mid m h' at on → Stops h' on now
      failed number h' on place fails =
          elim fails [
            | inl nothing ↦ subst (λ k. Stops k on now) (sym nothing.0) (subst (λ o. Stops m o now) (sym nothing.1) stopped)
            | inr some ↦
                let e = some.2 in
                stopped_with (e ∷ []) h' on (take some.6.0 (logs number e)) some.6.1
                (some.0, turns + 1, refused, asks_entered R left mid s.entries turns refused s.asks some.1 e some.0 some.3 some.4)
                (some.5 ∙ ap (λ k. k ++ e ∷ []) s.entered ∙ append_assoc h s.entries (e ∷ []))
                (entry_begun number e on (place_of number place) some.6)
          ]

      -- one more call was entered, whose reply is held
      entered_more : (number : ℕ) (later : Option Bytes) (h' : List Entry) (on : Option Bytes) (held' : Bytes) → number ≡ first + (turns - refused)
          → TurnIs cases.Entered R logs tells number mid later m h' at on held held' → SoFar later h' on now held' (turns + 1) refused
      entered_more number later h' on held' place is =
          let e = is.1 in
          let there = place_of number place in
          let count : length s.entries ≡ length (s.told ++ s.rest) = ap length s.all in
          let behind : number ≡ first + length s.told + length s.rest = omega (arith, there, count, length-append s.told s.rest) in
          let few = s.few in
          record {
            entries = s.entries ++ e ∷ [];
            asks = asks_entered R left mid s.entries turns refused s.asks is.0 e later is.2 is.3;
            entered = is.4 ∙ ap (λ k. k ++ e ∷ []) s.entered ∙ append_assoc h s.entries (e ∷ []);
            logged = is.5 ∙ ap (λ o. with_text o (logs number e)) s.logged ∙ with_text-more l (texts logs first s.entries) (logs number e)
                ∙ ap (λ n. with_text l (texts logs first s.entries ++ logs n e)) there ∙ ap (with_text l) (sym (texts_more logs first s.entries e));
            told = s.told;
            rest = s.rest ++ e ∷ [];
            all = ap (λ k. k ++ e ∷ []) s.all ∙ append_assoc s.told s.rest (e ∷ []);
            whole = whole_more l at on (texts logs first s.told) (logs number e) is.5 s.whole;
            safe = safe_more l at on (texts logs first s.told) (logs number e) s.told is.5 s.safe;
            wrote = s.wrote;
            held_is = is.6 ∙ ap (λ d. d ++ tells number e) s.held_is
                ∙ ap (λ n. texts tells (first + length s.told) s.rest ++ tells n e) behind ∙ sym (texts_more tells (first + length s.told) s.rest e);
            few = omega (arith, few);
          }

      -- a line that is none was read
      refused_more : (number : ℕ) (later : Option Bytes) (h' : List Entry) (on : Option Bytes) (held' : Bytes)
          → TurnIs cases.Refused R logs tells number mid later m h' at on held held' → SoFar later h' on now held' (turns + 1) (refused + 1)
      refused_more number later h' on held' is =
          let few = s.few in
          record {
            entries = s.entries;
            asks = asks_refused R left mid s.entries turns refused s.asks is.0 later is.1 is.2;
            entered = is.3 ∙ s.entered;
            logged = is.4 ∙ s.logged;
            told = s.told;
            rest = s.rest;
            all = s.all;
            whole = subst (λ o. HasWhole l o (texts logs first s.told)) (sym is.4) s.whole;
            safe = subst (λ o. (s.told ≡ []) ⊎ Safe l (texts logs first s.told) o) (sym is.4) s.safe;
            wrote = s.wrote;
            held_is = is.5 ∙ s.held_is;
            few = omega (arith, few);
          }

      -- nothing was done
      same_still : (h' : List Entry) (on next : Option Bytes) (held' : Bytes) → h' ≡ m → on ≡ at → next ≡ now → held' ≡ held → SoFar mid h' on next held' turns refused
      same_still h' on next held' still log_still output_still held_still =
          subst (λ k. SoFar mid k on next held' turns refused) (sym still)
          (subst (λ o. SoFar mid m o next held' turns refused) (sym log_still)
          (subst (λ o. SoFar mid m at o held' turns refused) (sym output_still)
          (subst (λ d. SoFar mid m at now d turns refused) (sym held_still) s)))

      -- what is told and what is held is all
      all_split : texts tells first s.entries ≡ texts tells first s.told ++ (held ++ [])
      all_split =
          ap (texts tells first) s.all ∙ texts_parts tells first s.told s.rest
          ∙ ap (λ d. texts tells first s.told ++ d) (sym s.held_is ∙ sym (append-nil held))

      all_told : (next : Option Bytes) → next ≡ with_text now held → next ≡ with_text w (texts tells first s.entries)
      all_told next wrote =
          wrote ∙ ap (with_text now) (sym (append-nil held)) ∙ ap (λ o. with_text o (held ++ [])) s.wrote
          ∙ with_text-more w (texts tells first s.told) (held ++ []) ∙ ap (with_text w) (sym all_split)

      -- a log that was synced has all entries
      all_kept : (a b : L) → taken a ≡ at → (is_synced ≡ true → syncs a b) → Safe l (texts logs first s.entries) (taken b)
      all_kept a b was synced = λ is. record {
        before = a;
        after = b;
        more = [];
        synced = synced is;
        whole = was ∙ s.logged;
        since = with_text-nothing (taken b);
      }

      pub settled : (is_due : Bool) (a b : L) (next : Option Bytes) (held' : Bytes) → taken a ≡ at → taken b ≡ taken a
          → Settles L syncs is_due is_synced a b held held' now next → SoFar mid m (taken b) next held' turns refused
      settled is_due a b next held' was still settles =
          elim settles [
            | inl nothing ↦ same_still m (taken b) next held' refl (still ∙ was) nothing.2 nothing.0
            | inr all ↦ record {
              entries = s.entries;
              asks = s.asks;
              entered = s.entered;
              logged = still ∙ was ∙ s.logged;
              told = s.entries;
              rest = [];
              all = sym (append-nil s.entries);
              whole = all_whole l (taken b) (texts logs first s.entries) (still ∙ was ∙ s.logged);
              safe = inr (all_kept a b was all.0);
              wrote = all_told next all.2;
              held_is = all.1;
              few = s.few;
            }
          ]

      pub unsettled : (a b : L) (next : Option Bytes) → taken a ≡ at → taken b ≡ taken a → SettlesSome L syncs is_synced a b held now next → Stops m (taken b) next
      unsettled a b next was still settles =
          elim settles [
            | inl nothing ↦ subst (λ o. Stops m o next) (sym (still ∙ was)) (subst (Stops m at) (sym nothing) stopped)
            | inr part ↦
                let more : s.entries ≡ s.entries ++ [] = sym (append-nil s.entries) in
                record {
                  told = s.entries;
                  rest = [];
                  asks = subst (AsksSome R left) more (mid, turns, refused, s.asks);
                  entered = s.entered ∙ ap (λ k. h ++ k) more;
                  logged = subst (λ k. WritesBeginning l (taken b) (texts logs first k)) more
                      (all_begun l (taken b) (texts logs first s.entries) (still ∙ was ∙ s.logged));
                  whole = all_whole l (taken b) (texts logs first s.entries) (still ∙ was ∙ s.logged);
                  safe = inr (all_kept a b was part.0);
                  replied = reaches_began w now next (texts tells first s.entries) held [] (texts tells first s.told, s.wrote, all_split) part.1;
                }
          ]

      -- nothing is held any more
      pub ended_with : (tail : Bytes) (end : Option Bytes) (h' : List Entry) (on : Option Bytes) (score : Score) → IsLast tail mid end → h' ≡ m → on ≡ at → held ≡ []
          → score.entered ≡ turns - refused → score.refused ≡ with_tail tail refused → HasPlayedAll R logs tells Safe first left end h h' l on w now score
      ended_with tail end h' on score last still log_still none entered counted =
          record {
            entries = s.entries;
            asks = asks_all R left mid s.entries turns refused s.asks tail end score last entered counted;
            entered = still ∙ s.entered;
            logged = log_still ∙ s.logged;
            told = all_told now (with_text-nothing now ∙ ap (with_text now) (sym none));
            kept = record {
              told = s.told;
              rest = s.rest;
              all = s.all;
              safe = subst (λ o. (s.told ≡ []) ⊎ Safe l (texts logs first s.told) o) (sym log_still) s.safe;
              wrote = s.wrote;
            };
          }

    -- ---- what a line comes to, once what is held behind it is settled

    module _ (mid : Option Bytes) (m : List Entry) (at now : Option Bytes) (held : Bytes) (count refused : ℕ) (s : SoFar mid m at now held count refused)
        (turn : Turn) (number : ℕ) (place : number ≡ first + (count - refused)) (later : Option Bytes) (h' : List Entry) (a b : L) (next : Option Bytes)
        (held' : Bytes) (is : TurnIs turn R logs tells number mid later m h' at (taken a) held held') (still : taken b ≡ taken a) where
      is_as : (t : Turn) → turn ≡ t → TurnIs t R logs tells number mid later m h' at (taken a) held held'
      is_as t same = subst (λ k. TurnIs k R logs tells number mid later m h' at (taken a) held held') same is

      unsettled_as : (t : Turn) → TurnIs t R logs tells number mid later m h' at (taken a) held held' → SettlesSome L syncs is_synced a b held' now next
          → Stops h' (taken b) next
      unsettled_as cases.Entered so settles =
          unsettled later h' (taken a) now held' (count + 1) refused
          (entered_more mid m at now held count refused s number later h' (taken a) held' place so) a b next refl still settles
      unsettled_as cases.Refused so settles =
          unsettled later h' (taken a) now held' (count + 1) (refused + 1)
          (refused_more mid m at now held count refused s number later h' (taken a) held' so) a b next refl still settles
      unsettled_as cases.Unfinished so settles =
          unsettled mid h' (taken a) now held' count refused
          (same_still mid m at now held count refused s h' (taken a) now held' so.3 so.4 refl so.5) a b next refl still settles
      unsettled_as cases.Ended so settles =
          unsettled mid h' (taken a) now held' count refused
          (same_still mid m at now held count refused s h' (taken a) now held' so.1 so.2 refl so.3) a b next refl still settles

      pub turn_unsettled : SettlesSome L syncs is_synced a b held' now next → Stops h' (taken b) next
      turn_unsettled settles = unsettled_as turn is settles

      module _ (is_due : Bool) (last : Bytes) (settles : Settles L syncs is_due is_synced a b held' last now next) where
        pub turn_entered : (r : ℕ) → turn ≡ cases.Entered → r ≡ refused → SoFar later h' (taken b) next last (count + 1) r
        turn_entered r same none =
            subst (SoFar later h' (taken b) next last (count + 1)) (sym none)
            (settled later h' (taken a) now held' (count + 1) refused
            (entered_more mid m at now held count refused s number later h' (taken a) held' place (is_as cases.Entered same)) is_due a b next last refl still settles)

        pub turn_refused : (r : ℕ) → turn ≡ cases.Refused → r ≡ refused + 1 → SoFar later h' (taken b) next last (count + 1) r
        turn_refused r same one =
            subst (SoFar later h' (taken b) next last (count + 1)) (sym one)
            (settled later h' (taken a) now held' (count + 1) (refused + 1)
            (refused_more mid m at now held count refused s number later h' (taken a) held' (is_as cases.Refused same)) is_due a b next last refl still settles)

        settled_same : h' ≡ m → taken a ≡ at → held' ≡ held → SoFar mid h' (taken b) next last count refused
        settled_same history log kept =
            settled mid h' (taken a) now held' count refused (same_still mid m at now held count refused s h' (taken a) now held' history log refl kept)
            is_due a b next last refl still settles

        none_held : is_due ≡ true → last ≡ []
        none_held due =
            elim settles [
              | inl nothing ↦ nothing.0 ∙ nothing.1 due
              | inr all ↦ all.1
            ]

        pub turn_unfinished : turn ≡ cases.Unfinished → is_due ≡ true → (score : Score) → score.entered ≡ count - refused → score.refused ≡ refused + 1
            → HasPlayedAll R logs tells Safe first left later h h' l (taken b) w next score
        turn_unfinished same due score entered one =
            let so = is_as cases.Unfinished same in
            ended_with mid h' (taken b) next last count refused (settled_same so.3 so.4 so.5) so.0 later h' (taken b) score so.1 refl refl (none_held due) entered
            (one ∙ tail_more so.0 refused so.2)

        pub turn_ended : turn ≡ cases.Ended → is_due ≡ true → (score : Score) → score.entered ≡ count - refused → score.refused ≡ refused
            → HasPlayedAll R logs tells Safe first left later h h' l (taken b) w next score
        turn_ended same due score entered none =
            let so = is_as cases.Ended same in
            ended_with mid h' (taken b) next last count refused (settled_same so.1 so.2 so.3) [] later h' (taken b) score so.0 refl refl (none_held due) entered none
