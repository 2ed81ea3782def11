-- Gaps and tokens cut a text between characters.
use Rattle.std.proofs.Common.{◌≡◌, ℕ, ◌<◌, true, List, [], ◌∷◌, ◌++◌, length, get_or, take, refl, sym, ap, subst, ◌∙◌, arith, append_assoc, length-append}
use Rattle.std.specs.Prelude.{nat_lt, IsUtf8}
use Rattle.std.proofs.lemmas.Bool.{and_parts, eqb-true, ltb-true}
use Rattle.std.proofs.lemmas.Bool.Decides.{nat_tests}
use Rattle.std.proofs.lemmas.List.{take_at, drop_at}
use Rattle.std.proofs.lemmas.Str.{IsUtf8-nil, IsUtf8-take, IsUtf8-drop, IsUtf8-past_char, IsCharBoundary-before_ascii, IsCharBoundary-at_seam, encode_ascii}
use Rattle.lus_syntax.specs.declared.token.Place.{Place}
use Rattle.lus_syntax.specs.Places.{past, end_of}
use Rattle.lus_syntax.specs.Lexemes.{Lexeme}
use Rattle.lus_syntax.specs.Gaps.{is_blank, Piece, blank, line, slash, round, Gap}
use Rattle.lus_syntax.specs.Tokens.{Here, Reads, Run}
use Rattle.lus_syntax.proofs.Meanings.{ascii, text_ascii}

-- behind an ASCII byte
byte_rest : (b : ℕ) (bs : List ℕ) → b < 128 → IsUtf8 (b ∷ bs) → IsUtf8 bs
byte_rest b bs low u = IsUtf8-past_char (b ∷ bs) bs b u (ap (λ (x : List ℕ). x ++ bs) (sym (encode_ascii b low)))

pub ascii_rest : (xs ys : List ℕ) → ascii xs ≡ true → IsUtf8 (xs ++ ys) → IsUtf8 ys
ascii_rest [] ys h u = u
ascii_rest (x ∷ xs) ys h u =
    let p = and_parts (nat_lt x 128) (ascii xs) h in
    ascii_rest xs ys p.1 (byte_rest x (xs ++ ys) (ltb-true x 128 p.0) u)

byte_at : (xs ys : List ℕ) (b : ℕ) → get_or (xs ++ b ∷ ys) (length xs) 0 ≡ b
byte_at [] ys b = refl
byte_at (x ∷ xs) ys b = byte_at xs ys b

-- from an ASCII byte on
from_ascii : (xs ys : List ℕ) (b : ℕ) → b < 128 → IsUtf8 (xs ++ b ∷ ys) → IsUtf8 (b ∷ ys)
from_ascii xs ys b low u =
    let bound : length xs < length (xs ++ b ∷ ys) = omega (arith, length-append xs (b ∷ ys)) in
    let is_low : get_or (xs ++ b ∷ ys) (length xs) 0 < 128 = omega (arith, byte_at xs ys b, low) in
    let cut = IsUtf8-drop (xs ++ b ∷ ys) (length xs) u (IsCharBoundary-before_ascii (xs ++ b ∷ ys) (length xs) bound is_low) in
    subst (λ (x : List ℕ). IsUtf8 x) (drop_at xs (b ∷ ys) (length xs) refl) cut

-- in front of what is whole characters
pub valid_front : (whole front rest : List ℕ) → whole ≡ front ++ rest → IsUtf8 whole → IsUtf8 rest → IsUtf8 front
valid_front whole front rest e u v =
    let cut = IsUtf8-take whole (length front) u (IsCharBoundary-at_seam whole front rest e v) in
    subst (λ (x : List ℕ). IsUtf8 x) (ap (take (length front)) e ∙ take_at front rest (length front) refl) cut

blank_low : (b : ℕ) → is_blank b ≡ true → b < 128
blank_low b h = grind (arith, nat_tests)

comment_rest : (close : ℕ) (body after : List ℕ) → close < 128 → IsUtf8 ((body ++ 42 ∷ close ∷ []) ++ after) → IsUtf8 after
comment_rest close body after low u =
    let whole : IsUtf8 (body ++ (42 ∷ close ∷ after)) = subst (λ (x : List ℕ). IsUtf8 x) (append_assoc body (42 ∷ close ∷ []) after) u in
    byte_rest close after low (byte_rest 42 (close ∷ after) (omega arith) (from_ascii body (close ∷ after) 42 (omega arith) whole))

piece_rest : {p : List ℕ} {after : List ℕ} → Piece p after → IsUtf8 (p ++ after) → IsUtf8 after
piece_rest (blank {b} {rest} h) u = byte_rest b rest (blank_low b h) u
piece_rest (line {body} {rest = []} h e) u = IsUtf8-nil
piece_rest (line {body} {rest = b ∷ bs} h e) u = from_ascii (45 ∷ 45 ∷ body) bs b (omega (arith, eqb-true b 10 e)) u
piece_rest (slash {body} {rest} h) u = comment_rest 47 body rest (omega arith) (byte_rest 42 _ (omega arith) (byte_rest 47 _ (omega arith) u))
piece_rest (round {body} {rest} h) u = comment_rest 41 body rest (omega arith) (byte_rest 42 _ (omega arith) (byte_rest 40 _ (omega arith) u))

pub gap_rest : (pieces : List (List ℕ)) (at : Place) (text : List ℕ) (to : Place) (here : List ℕ) → Gap pieces at text to here → IsUtf8 text → IsUtf8 here
gap_rest [] at text to here g u = subst (λ (x : List ℕ). IsUtf8 x) g.1 u
gap_rest (p ∷ pieces) at text to here g u = gap_rest pieces (past at p) g.0 to here g.3 (piece_rest g.2 (subst (λ (x : List ℕ). IsUtf8 x) g.1 u))

pub here_rest : (here : List ℕ) (t : Lexeme) (rest : List ℕ) → Here here t rest → IsUtf8 here → IsUtf8 rest
here_rest here t rest h u = ascii_rest h.text rest (text_ascii h.text h.longest.is_one) (subst (λ (x : List ℕ). IsUtf8 x) h.longest.parts u)

pub reads_rest : (at : Place) (text : List ℕ) (t : Lexeme) (rest : List ℕ) → Reads at text t rest → IsUtf8 text → IsUtf8 rest
reads_rest at text t rest r u = here_rest r.here t rest r.token (gap_rest r.gap.0 at text t.span.start r.here r.gap.1 u)

pub run_rest : (ts : List Lexeme) (at : Place) (text : List ℕ) (to : Place) (rest : List ℕ) → Run ts at text to rest → IsUtf8 text → IsUtf8 rest
run_rest [] at text to rest r u = subst (λ (x : List ℕ). IsUtf8 x) r.1 u
run_rest (t ∷ ts) at text to rest r u = run_rest ts (end_of t.span) r.0 to rest r.2 (reads_rest at text t r.0 r.1 u)
