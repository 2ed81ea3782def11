-- What is written in parts: what is missing in a journal, the lines of further entries, and the last line.
use Rattle.std.proofs.Common.{◌≡◌, ◌∙◌, inl, inr, ◌⊎◌, ◌+◌, ◌++◌, ℕ, Bool, refl, ap, sym, subst, List, [], length, take, Option, append_assoc, append-nil, arith}
use Rattle.lus_requests.specs.declared.request.Request.{Request}
use Rattle.lus_requests.specs.declared.request.Entry.{Entry}
use Rattle.lus_bursts.specs.Syncs.{WasKept}
use Rattle.lus_devices.specs.Devices.{Bytes, WritesBeginning, with_text}
use Rattle.lus_devices.proofs.Laws.{reaches_began, with_text-more, with_text-nothing}
use Rattle.lus_play.specs.Plays.{AsksSome, HasPlayedAhead, HasPlayedAll, HasWhole, texts}
use Rattle.lus_play.specs.declared.playing.Score.{Score}
use Rattle.lus_play.proofs.AheadLaws.{all_begun, nothing_begun, safe_more, whole_more}
use Rattle.lus_play.proofs.PlayLaws.{none_asked, texts_parts}
use Rattle.lus_sessions.specs.Recoveries.{entries_at}
use Rattle.lus_sessions.specs.Sessions.{HasDriven, HasDrivenSome, Scribe, added, begun, replies, scribe_of}
use Rattle.lus_sessions.specs.declared.recovering.Start.{Start}

-- what is whole behind a front is so with it
whole_behind : (l l1 l2 : Option Bytes) (front text : Bytes) → l1 ≡ with_text l front → HasWhole l1 l2 text → HasWhole l l2 (front ++ text)
whole_behind l l1 l2 front text wrote whole = (
  whole.0,
  whole.1 ∙ ap (λ o. with_text o (text ++ whole.0)) wrote ∙ with_text-more l front (text ++ whole.0)
      ∙ ap (with_text l) (sym (append_assoc front text whole.0)),
)

module _ (L : Type 0) (syncs : L → L → Type 0) (taken : L → Option Bytes) (is_synced : Bool) (R : Bytes → Option Request → Type 0)
    (starts : Start → Bytes) (says : ℕ → Entry → Bytes) (ends : ℕ → Bytes) (tells : ℕ → Entry → Bytes) (start : Start) (left : Option Bytes)
    (h : List Entry) (l l1 w : Option Bytes) where
  abbrev Safe : Option Bytes → Bytes → Option Bytes → Type 0
  Safe = WasKept is_synced L syncs taken

  abbrev j : Scribe
  j = scribe_of starts says ends

  -- no line was read
  unread : WritesBeginning l l1 (added j start []) → HasDrivenSome R j tells Safe start left h h l l1 w w
  unread wrote = record {
    told = [];
    rest = [];
    asks = none_asked R left;
    entered = sym (append-nil h);
    logged = wrote;
    whole = inl refl;
    safe = inl refl;
    replied = nothing_begun w [];
  }

  -- a part of what is missing is written
  pub start_begun : WritesBeginning l l1 (starts start) → HasDrivenSome R j tells Safe start left h h l l1 w w
  start_begun began =
      let whole : added j start [] ≡ starts start ++ ([] ++ ends (entries_at start + 0)) =
      append_assoc (starts start) [] (ends (entries_at start + 0)) in
      unread (reaches_began l l l1 (added j start []) (starts start) ([] ++ ends (entries_at start + 0)) ([], with_text-nothing l, whole) began)

  module _ (written : l1 ≡ with_text l (starts start)) where
    pub none_begun : HasDrivenSome R j tells Safe start left h h l l1 w w
    none_begun = start_begun (all_begun l l1 (starts start) written)

    module _ (n : ℕ) (first : n ≡ entries_at start + 1) (h' : List Entry) (l2 w2 : Option Bytes) where
      lines_front : (es : List Entry) → starts start ++ texts says n es ≡ begun j start es
      lines_front es = ap (λ m. starts start ++ texts says m es) first

      reached : (es : List Entry) (o : Option Bytes) → o ≡ with_text l1 (texts says n es) → o ≡ with_text l (begun j start es)
      reached es o wrote =
          wrote ∙ ap (λ k. with_text k (texts says n es)) written ∙ with_text-more l (starts start) (texts says n es) ∙ ap (with_text l) (lines_front es)

      parts : (es : List Entry) → added j start es ≡ starts start ++ (texts says n es ++ ends (entries_at start + length es))
      parts es =
          ap (λ t. t ++ ends (entries_at start + length es)) (sym (lines_front es))
          ∙ append_assoc (starts start) (texts says n es) (ends (entries_at start + length es))

      told_front : (es : List Entry) → texts tells n es ≡ replies tells start es
      told_front es = ap (λ m. texts tells m es) first

      kept_front : (told : List Entry) (o : Option Bytes) → ((told ≡ []) ⊎ Safe l1 (texts says n told) o) → ((told ≡ []) ⊎ Safe l (begun j start told) o)
      kept_front told o safe =
          elim safe [
            | inl none ↦ inl none
            | inr kept ↦ inr (λ is.
                (let was = kept is in
                record {
                  before = was.before;
                  after = was.after;
                  more = was.more;
                  synced = was.synced;
                  whole = reached told (taken was.before) was.whole;
                  since = was.since;
                }))
          ]

      -- the lines were not played to their end
      pub lines_begun : HasPlayedAhead R says tells Safe n left h h' l1 l2 w w2 → HasDrivenSome R j tells Safe start left h h' l l2 w w2
      lines_begun p = record {
        told = p.told;
        rest = p.rest;
        asks = p.asks;
        entered = p.entered;
        logged = reaches_began l l1 l2 (added j start (p.told ++ p.rest)) (texts says n (p.told ++ p.rest)) (ends (entries_at start + length (p.told ++ p.rest)))
            (starts start, written, parts (p.told ++ p.rest)) p.logged;
        whole = inr (subst (HasWhole l l2) (lines_front p.told) (whole_behind l l1 l2 (starts start) (texts says n p.told) written p.whole));
        safe = kept_front p.told l2 p.safe;
        replied = subst (WritesBeginning w w2) (told_front p.told) p.replied;
      }

      module _ (end : Option Bytes) (score : Score) (p : HasPlayedAll R says tells Safe n left end h h' l1 l2 w w2 score) where
        counted : score.entered ≡ length p.entries
        counted = let same = p.asks.3.counted in omega (arith, same)

        -- lines of entries that are told stand at the front
        told_whole : HasWhole l l2 (begun j start p.kept.told)
        told_whole =
            let k = p.kept in
            subst (HasWhole l l2) (lines_front k.told)
            (whole_behind l l1 l2 (starts start) (texts says n k.told) written (
              texts says (n + length k.told) k.rest,
              p.logged ∙ ap (λ es. with_text l1 (texts says n es)) k.all ∙ ap (with_text l1) (texts_parts says n k.told k.rest),
            ))

        -- the last line isn't written, or a part of it
        stopped_at : (o : Option Bytes) (piece : Bytes) → o ≡ with_text l2 piece → WritesBeginning l o (added j start p.entries)
            → HasDrivenSome R j tells Safe start left h h' l o w w2
        stopped_at o piece grown logged =
            let k = p.kept in
            record {
              told = k.told;
              rest = k.rest;
              asks = subst (λ es. AsksSome R left es) k.all (p.asks.0, score.entered + p.asks.2, p.asks.2, p.asks.3);
              entered = p.entered ∙ ap (λ es. h ++ es) k.all;
              logged = subst (λ es. WritesBeginning l o (added j start es)) k.all logged;
              whole = inr (whole_more l l2 o (begun j start k.told) piece grown told_whole);
              safe = safe_more L syncs taken is_synced l l2 o (begun j start k.told) piece k.told grown (kept_front k.told l2 k.safe);
              replied = subst (WritesBeginning w w2) (told_front k.told) (all_begun w w2 (texts tells n k.told) k.wrote);
            }

        end_begun : (o : Option Bytes) → WritesBeginning l2 o (ends (entries_at start + length p.entries)) → HasDrivenSome R j tells Safe start left h h' l o w w2
        end_begun o began =
            let last = ends (entries_at start + length p.entries) in
            stopped_at o (take began.0 last) began.1
            (reaches_began l l2 o (added j start p.entries) last []
            (begun j start p.entries, reached p.entries l2 p.logged, ap (λ t. begun j start p.entries ++ t) (sym (append-nil last))) began)

        pub uncounted : HasDrivenSome R j tells Safe start left h h' l l2 w w2
        uncounted = end_begun l2 (nothing_begun l2 (ends (entries_at start + length p.entries)))

        module _ (all : ℕ) (sum : all ≡ entries_at start + score.entered) (l3 : Option Bytes) where
          last_line : ends all ≡ ends (entries_at start + length p.entries)
          last_line = ap ends (sum ∙ ap (λ m. entries_at start + m) counted)

          pub count_begun : WritesBeginning l2 l3 (ends all) → HasDrivenSome R j tells Safe start left h h' l l3 w w2
          count_begun began = end_begun l3 (subst (WritesBeginning l2 l3) last_line began)

          pub driven : l3 ≡ with_text l2 (ends all) → HasDriven R j tells Safe start left end h h' l l3 w w2 score
          driven wrote =
              let k = p.kept in
              record {
                entries = p.entries;
                asks = p.asks;
                entered = p.entered;
                logged = wrote ∙ ap (with_text l2) last_line ∙ ap (λ o. with_text o (ends (entries_at start + length p.entries))) (reached p.entries l2 p.logged)
                    ∙ with_text-more l (begun j start p.entries) (ends (entries_at start + length p.entries));
                told = p.told ∙ ap (with_text w) (told_front p.entries);
                kept = record {
                  told = k.told;
                  rest = k.rest;
                  all = k.all;
                  safe = safe_more L syncs taken is_synced l l2 l3 (begun j start k.told) (ends all) k.told wrote (kept_front k.told l2 k.safe);
                  wrote = k.wrote ∙ ap (with_text w) (told_front k.told);
                };
              }
