-- Gaps and tokens, one after the other.
use Rattle.std.proofs.Common.{◌≡◌, ℕ, ◌<◌, ◌≤◌, List, [], ◌∷◌, ◌++◌, length, take, drop, Result, Ok, Err, refl, sym, ap, subst, ◌∙◌, arith, length-append, take-append-drop}
use Rattle.std.specs.Prelude.{IsErrAnd, IfErr}
use Rattle.std.proofs.lemmas.List.{nil_from_length, length-take-le}
use Rattle.lus_syntax.specs.declared.token.Place.{Place}
use Rattle.lus_syntax.specs.declared.refusal.RefusalNumber.{RefusalNumber}
use Rattle.lus_syntax.specs.declared.refusal.RefusalNumber.TheVariants.{Lexical}
use Rattle.lus_syntax.specs.Places.{past, end_of}
use Rattle.lus_syntax.specs.Reading.{HasRoom, Skips, IsOpen}
use Rattle.lus_syntax.specs.Texts.{LongestText, NoText, meaning}
use Rattle.lus_syntax.specs.Gaps.{Piece, Gap, IsGap, IsPlain}
use Rattle.lus_syntax.specs.Lexemes.{Kind, Lexeme, tok}
use Rattle.lus_syntax.specs.Tokens.{Here, Reads, Run, Ends, Wrong, open_comment, no_token, no_meaning, Breaks}
use Rattle.lus_syntax.proofs.Places.{room_after}
use Rattle.lus_syntax.proofs.Spans.{past_text}
use Rattle.lus_syntax.proofs.Meanings.{text_nonempty}

-- ---- gaps

gap_push : (pieces : List (List ℕ)) (at : Place) (text : List ℕ) (mid : Place) (here p after : List ℕ) → Gap pieces at text mid here → here ≡ p ++ after → Piece p after → Gap (pieces ++ p ∷ []) at text (past mid p) after
gap_push [] at text mid here p after g parts is = (after, g.1 ∙ parts, is, (ap (λ (x : Place). past x p) g.0, refl))
gap_push (q ∷ pieces) at text mid here p after g parts is = (g.0, g.1, g.2, gap_push pieces (past at q) g.0 mid here p after g.3 parts is)

pub gap_more : (at : Place) (text : List ℕ) (mid : Place) (here : List ℕ) (n : ℕ) → IsGap at text mid here → Skips here n → IsGap at text (past mid (take n here)) (drop n here)
gap_more at text mid here n g s = (g.0 ++ take n here ∷ [], gap_push g.0 at text mid here (take n here) (drop n here) g.1 (sym (take-append-drop n here)) s.piece)

gap_room : (pieces : List (List ℕ)) (at : Place) (text : List ℕ) (to : Place) (here : List ℕ) → Gap pieces at text to here → HasRoom at text → HasRoom to here
gap_room [] at text to here g room = subst (λ (x : Place). HasRoom x here) g.0 (subst (λ (x : List ℕ). HasRoom at x) g.1 room)
gap_room (p ∷ pieces) at text to here g room = gap_room pieces (past at p) g.0 to here g.3 (room_after at p g.0 (subst (λ (x : List ℕ). HasRoom at x) g.1 room))

pub is_gap_room : (at : Place) (text : List ℕ) (to : Place) (here : List ℕ) → IsGap at text to here → HasRoom at text → HasRoom to here
is_gap_room at text to here g room = gap_room g.0 at text to here g.1 room

gap_length : (pieces : List (List ℕ)) (at : Place) (text : List ℕ) (to : Place) (here : List ℕ) → Gap pieces at text to here → length here ≤ length text
gap_length [] at text to here g = omega (arith, ap length g.1)
gap_length (p ∷ pieces) at text to here g = omega (arith, gap_length pieces (past at p) g.0 to here g.3, ap length g.1, length-append p g.0)

-- ---- tokens

here_room : (here : List ℕ) (t : Lexeme) (rest : List ℕ) → Here here t rest → HasRoom t.span.start here → HasRoom (end_of t.span) rest
here_room here t rest h room = subst (λ (x : Place). HasRoom x rest) (sym h.ends) (room_after t.span.start h.text rest (subst (λ (x : List ℕ). HasRoom t.span.start x) h.longest.parts room))

pub reads_room : (at : Place) (text : List ℕ) (t : Lexeme) (rest : List ℕ) → Reads at text t rest → HasRoom at text → HasRoom (end_of t.span) rest
reads_room at text t rest r room = here_room r.here t rest r.token (is_gap_room at text t.span.start r.here r.gap room)

pub reads_length : (at : Place) (text : List ℕ) (t : Lexeme) (rest : List ℕ) → Reads at text t rest → length rest < length text
reads_length at text t rest r =
    let l = r.token.longest in
    omega (arith, gap_length r.gap.0 at text t.span.start r.here r.gap.1, ap length l.parts, length-append r.token.text rest, text_nonempty r.token.text l.is_one)

pub run_push : (ts : List Lexeme) (at : Place) (text : List ℕ) (mid : Place) (here : List ℕ) (t : Lexeme) (rest : List ℕ) → Run ts at text mid here → Reads mid here t rest → Run (ts ++ t ∷ []) at text (end_of t.span) rest
run_push [] at text mid here t rest r is = (rest, subst (λ (x : Place). Reads x text t rest) (sym r.0) (subst (λ (x : List ℕ). Reads mid x t rest) (sym r.1) is), (refl, refl))
run_push (u ∷ ts) at text mid here t rest r is = (r.0, r.1, run_push ts (end_of u.span) r.0 mid here t rest r.2 is)

-- ---- as the code has it

pub record Step (begin : Place) (text : List ℕ) (to : Place) (after : List ℕ) : Type 0 where
  pub gap : IsGap begin text to after
  pub room : HasRoom to after

pub gap_step : (begin : Place) (text : List ℕ) (at : Place) (here : List ℕ) (n : ℕ) (to : Place) (piece after : List ℕ) → IsGap begin text at here → HasRoom at here → Skips here n
    → piece ≡ take n here → after ≡ drop n here → to ≡ past at piece → Step begin text to after
gap_step begin text at here n to piece after gap room skips front back is =
    let place : to ≡ past at (take n here) = is ∙ ap (past at) front in
    let next : Step begin text (past at (take n here)) (drop n here) = record {
      gap = gap_more begin text at here n gap skips;
      room = room_after at (take n here) (drop n here) (subst (λ (x : List ℕ). HasRoom at x) (sym (take-append-drop n here)) room);
    } in
    subst (λ (x : Place). Step begin text x after) (sym place) (subst (λ (x : List ℕ). Step begin text (past at (take n here)) x) (sym back) next)

pub kind_refused : {X : Type 0} (here text rest : List ℕ) (number : RefusalNumber) (r : Result X RefusalNumber) → IsPlain here → LongestText here text rest → meaning text ≡ Err number
    → IsErrAnd r (λ m. m ≡ number) → IfErr r (λ m. Wrong here m)
kind_refused here text rest number (Ok x) plain longest means is = absurd is
kind_refused here text rest number (Err m) plain longest means is = rw is (no_meaning plain longest means)

-- a token's span has the length of its text
pub token_here : (here : List ℕ) (begin : Place) (n : ℕ) (kind : Kind) (text rest : List ℕ) → n ≤ length here → LongestText here (take n here) (drop n here) → text ≡ take n here → rest ≡ drop n here
    → meaning text ≡ Ok kind → Here here (tok kind (record { start = begin; length = n })) rest
token_here here begin n kind text rest within longest front back means =
    let long : length text ≡ n = ap length front ∙ length-take-le n here within in
    let cut : LongestText here text rest = rw (front, back) longest in
    let behind : past begin text ≡ end_of (record { start = begin; length = n }) = past_text begin text cut.is_one ∙ ap (λ (k : ℕ). end_of (record { start = begin; length = k })) long in
    record { text = text; longest = cut; means = means; ends = sym behind }

pub text_wrong : (here : List ℕ) → IsPlain here → 0 < length here → NoText here → Wrong here Lexical
text_wrong here plain some none = no_token plain (λ e. absurd (omega (arith, ap length e, some))) none

pub open_breaks : (at : Place) (text : List ℕ) (to : Place) → IsOpen at text to → Breaks at text Lexical to
open_breaks at text to h = record { here = h.0; gap = h.1; wrong = open_comment h.2 }

pub ends_here : (at : Place) (text : List ℕ) (to : Place) (here : List ℕ) → IsGap at text to here → length here ≡ 0 → Ends at text
ends_here at text to here gap none = record { to = to; gap = subst (λ (x : List ℕ). IsGap at text to x) (nil_from_length here none) gap }
