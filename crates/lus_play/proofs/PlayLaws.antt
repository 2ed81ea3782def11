-- Lines that were read as calls, and the texts of their entries.
use Rattle.std.proofs.Common.{◌≡◌, ◌∙◌, inr, ◌+◌, ◌-◌, ◌++◌, ℕ, refl, ap, sym, subst, List, [], ◌∷◌, length, map, flat_map, Bool, true, false, Option, Some, None, append_assoc, append-nil, arith, length-append}
use Rattle.std.specs.List.{AllZip}
use Rattle.lus_devices.specs.Devices.{Bytes, with_front}
use Rattle.lus_devices.proofs.Laws.{with_front-more}
use Rattle.lus_requests.specs.declared.request.Request.{Request}
use Rattle.lus_requests.specs.declared.request.Entry.{Entry}
use Rattle.lus_lines.specs.Lines.{IsLast, IsNext}
use Rattle.lus_play.specs.Plays.{Answers, Asks, AsksAll, AsksSome, IsReadAs, Reads, TurnIs, ended, requests, texts, turn_of, with_tail}
use Rattle.lus_play.specs.declared.playing.Score.{Score}
use Rattle.lus_play.specs.declared.playing.Turn.{Turn}

module _ {A B : Type 0} (P : A → B → Type 0) where
  zip_more : (xs : List A) (ys : List B) (x : A) (y : B) → AllZip P xs ys → P x y → AllZip P (xs ++ x ∷ []) (ys ++ y ∷ [])
  zip_more [] [] x y all p = (p, tt)
  zip_more (a ∷ xs) (b ∷ ys) x y all p = (all.0, zip_more xs ys x y all.1 p)
  zip_more [] (b ∷ ys) x y all p = absurd all
  zip_more (a ∷ xs) [] x y all p = absurd all

front_nothing : (left : Option Bytes) → left ≡ with_front [] left
front_nothing None = refl
front_nothing (Some bs) = refl

ended_more : (ls : List Bytes) (l : Bytes) → flat_map ended (ls ++ l ∷ []) ≡ flat_map ended ls ++ ended l
ended_more [] l = append-nil (ended l)
ended_more (k ∷ ls) l = ap (λ t. ended k ++ t) (ended_more ls l) ∙ sym (append_assoc (ended k) (flat_map ended ls) (ended l))

requests_none : (os : List (Option Request)) → requests (os ++ None ∷ []) ≡ requests os
requests_none [] = refl
requests_none (None ∷ os) = requests_none os
requests_none (Some r ∷ os) = ap (λ rs. r ∷ rs) (requests_none os)

requests_more : (os : List (Option Request)) (r : Request) → requests (os ++ Some r ∷ []) ≡ requests os ++ r ∷ []
requests_more [] r = refl
requests_more (None ∷ os) r = requests_more os r
requests_more (Some q ∷ os) r = ap (λ rs. q ∷ rs) (requests_more os r)

asked_more : (es : List Entry) (e : Entry) → map (λ (d : Entry). d.request) (es ++ e ∷ []) ≡ map (λ (d : Entry). d.request) es ++ e.request ∷ []
asked_more [] e = refl
asked_more (d ∷ es) e = ap (λ rs. d.request ∷ rs) (asked_more es e)

pub texts_parts : (says : ℕ → Entry → Bytes) (n : ℕ) (es ds : List Entry) → texts says n (es ++ ds) ≡ texts says n es ++ texts says (n + length es) ds
texts_parts says n [] ds =
    let same : n ≡ n + 0 = omega arith in
    ap (λ m. texts says m ds) same
texts_parts says n (e ∷ es) ds =
    let same : n + 1 + length es ≡ n + length (e ∷ es) = omega arith in
    ap (λ t. says n e ++ t) (texts_parts says (n + 1) es ds)
    ∙ sym (append_assoc (says n e) (texts says (n + 1) es) (texts says (n + 1 + length es) ds))
    ∙ ap (λ m. (says n e ++ texts says (n + 1) es) ++ texts says m ds) same

pub texts_more : (says : ℕ → Entry → Bytes) (n : ℕ) (es : List Entry) (e : Entry) → texts says n (es ++ e ∷ []) ≡ texts says n es ++ says (n + length es) e
texts_more says n es e = texts_parts says n es (e ∷ []) ∙ ap (λ t. texts says n es ++ t) (append-nil (says (n + length es) e))

module _ (R : Bytes → Option Request → Type 0) (left : Option Bytes) where
  pub asks_start : Asks R left left [] 0 0
  asks_start = record { lines = []; reads = []; were = front_nothing left; read = tt; asked = refl; turned = refl; counted = refl }

  -- no line was read
  pub none_asked : AsksSome R left []
  none_asked = (left, 0, 0, asks_start)

  module _ (mid : Option Bytes) (es : List Entry) (turns refused : ℕ) (so_far : Asks R left mid es turns refused) where
    were_more : (line : Bytes) (later : Option Bytes) → IsNext line mid later → left ≡ with_front (flat_map ended (so_far.lines ++ line ∷ [])) later
    were_more line later next =
        so_far.were ∙ ap (with_front (flat_map ended so_far.lines)) next.read ∙ with_front-more later (flat_map ended so_far.lines) (ended line)
        ∙ ap (λ t. with_front t later) (sym (ended_more so_far.lines line))

    turned_more : (line : Bytes) → length (so_far.lines ++ line ∷ []) ≡ turns + 1
    turned_more line = let turned = so_far.turned in omega (arith, length-append so_far.lines (line ∷ []), turned)

    -- one more line has a call
    pub asks_entered : (line : Bytes) (e : Entry) (later : Option Bytes) → IsNext line mid later → R line (Some e.request)
        → Asks R left later (es ++ e ∷ []) (turns + 1) refused
    asks_entered line e later next asks =
        let counted = so_far.counted in
        let more : turns + 1 ≡ length (es ++ e ∷ []) + refused = omega (arith, length-append es (e ∷ []), counted) in
        record {
          lines = so_far.lines ++ line ∷ [];
          reads = so_far.reads ++ Some e.request ∷ [];
          were = were_more line later next;
          read = zip_more (IsReadAs R) so_far.lines so_far.reads line (Some e.request) so_far.read (record { plain = next.plain; reads = asks });
          asked = asked_more es e ∙ ap (λ rs. rs ++ e.request ∷ []) so_far.asked ∙ sym (requests_more so_far.reads e.request);
          turned = turned_more line;
          counted = more;
        }

    -- or has none
    pub asks_refused : (line : Bytes) (later : Option Bytes) → IsNext line mid later → Reads R line None → Asks R left later es (turns + 1) (refused + 1)
    asks_refused line later next none =
        let counted = so_far.counted in
        let more : turns + 1 ≡ length es + (refused + 1) = omega (arith, counted) in
        record {
          lines = so_far.lines ++ line ∷ [];
          reads = so_far.reads ++ None ∷ [];
          were = were_more line later next;
          read = zip_more (IsReadAs R) so_far.lines so_far.reads line None so_far.read (record { plain = next.plain; reads = none });
          asked = so_far.asked ∙ sym (requests_none so_far.reads);
          turned = turned_more line;
          counted = more;
        }

    score_turns : (n : ℕ) → n ≡ turns - refused → turns ≡ n + refused
    score_turns n is = let counted = so_far.counted in omega (arith, is, counted)

    -- the end was met
    pub asks_all : (tail : Bytes) (end : Option Bytes) (score : Score) → IsLast tail mid end → score.entered ≡ turns - refused
        → score.refused ≡ with_tail tail refused → AsksAll R left end es score
    asks_all tail end score last entered counted =
        (mid, tail, refused, subst (λ k. Asks R left mid es k refused) (score_turns score.entered entered) so_far, last, counted)

-- a line was read and answered
pub line_taken : (R : Bytes → Option Request → Type 0) (logs tells : ℕ → Entry → Bytes) (n : ℕ) (line here : Bytes) (left later : Option Bytes) (h h' : List Entry)
    (l l' : Option Bytes) (held held' : Bytes) (is_call : Bool) (turn : Turn) → IsNext line left later → here ≡ line
    → Answers R logs tells n here is_call h h' l l' held held' → turn ≡ turn_of is_call → TurnIs turn R logs tells n left later h h' l l' held held'
line_taken R logs tells n line here left later h h' l l' held held' true turn next same answer is =
    rw is (line, answer.0, next, subst (λ t. R t (Some answer.0.request)) same answer.1, answer.2, answer.3, answer.4)
line_taken R logs tells n line here left later h h' l l' held held' false turn next same answer is =
    rw is (line, next, inr (subst (λ t. R t None) same answer.0), answer.1, answer.2, answer.3)
