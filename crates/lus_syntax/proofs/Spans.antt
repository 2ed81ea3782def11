-- Where the tokens of a text stand.
use Rattle.std.proofs.Common.{◌≡◌, ℕ, ◌+◌, ◌<◌, ◌≤◌, Bool, true, false, cond, List, [], ◌∷◌, ◌++◌, length, reverse, refl, sym, ap, subst, ◌∙◌, arith, append_assoc}
use Rattle.std.specs.Prelude.{not, nat_lt, nat_le, IsUtf8}
use Rattle.std.specs.List.{count_by, take_while, list_all, AllByRecursion}
use Rattle.std.proofs.lemmas.List.{reverse-append, reverse-reverse, length-reverse}
use Rattle.std.proofs.lemmas.Bool.{and_parts, or_left, not-true, cond-true, cond-false}
use Rattle.std.proofs.lemmas.List.Sums.{sum_by-cons, sum_by-append, take_while-cons}
use Rattle.lus_syntax.specs.declared.token.Place.{Place}
use Rattle.lus_syntax.specs.declared.refusal.RefusalNumber.{RefusalNumber}
use Rattle.lus_syntax.specs.Places.{is_feed, is_first, past_one, past, start, place_behind, end_of}
use Rattle.lus_syntax.specs.Gaps.{Gap, IsLine}
use Rattle.lus_syntax.specs.Lexemes.{Lexeme}
use Rattle.lus_syntax.specs.Texts.{is_text}
use Rattle.lus_syntax.specs.Tokens.{Reads, Run, Tokens, Faulty}
use Rattle.lus_syntax.specs.Spans.{StandsIn, InOrder, StandsAt}
use Rattle.lus_syntax.proofs.Places.{past_push, past_append, past_byte}
use Rattle.lus_syntax.proofs.Cuts.{valid_front, gap_rest, reads_rest, run_rest}
use Rattle.lus_syntax.proofs.Meanings.{ascii, text_ascii, text_on_line, text_nonempty}

-- ---- places in words

pub count_cons : (p : ℕ → Bool) (b : ℕ) (bs : List ℕ) → count_by p (b ∷ bs) ≡ cond (p b) 1 0 + count_by p bs
count_cons p b bs = sum_by-cons (λ x. cond (p x) 1 0) b bs

same_place : (a b c d e f : ℕ) → a ≡ b → c ≡ d → e ≡ f → ◌≡◌ {A = Place} (record { byte = a; line = c; column = e }) (record { byte = b; line = d; column = f })
same_place a b c d e f p q r = λ i. record { byte = p i; line = q i; column = r i }

abbrev pub same_line : ℕ → Bool
same_line b = not (is_feed b)

-- the place behind these bytes, the last of them first
abbrev place_before : List ℕ → Place
place_before before = record { byte = length before; line = 1 + count_by is_feed before; column = 1 + count_by is_first (take_while same_line before) }

pub new_line : (at : Place) (b : ℕ) → is_feed b ≡ true → past_one at b ≡ record { byte = at.byte + 1; line = at.line + 1; column = 1 }
new_line at b e = cond-true (is_feed b) _ _ e

pub on_line : (at : Place) (b : ℕ) (g : Bool) → is_feed b ≡ false → is_first b ≡ g → past_one at b ≡ record { byte = at.byte + 1; line = at.line; column = cond g (at.column + 1) at.column }
on_line at b g e h = cond-false (is_feed b) _ _ e ∙ ap (λ (t : Bool). record { byte = at.byte + 1; line = at.line; column = cond t (at.column + 1) at.column }) h

-- bytes that are characters on one line
along : (at : Place) (xs : List ℕ) → IsLine xs → ascii xs ≡ true → past at xs ≡ end_of (record { start = at; length = length xs })
along at [] lines low = same_place at.byte (at.byte + 0) at.line at.line at.column (at.column + 0) (omega arith) refl (omega arith)
along at (x ∷ xs) lines low =
    let l = and_parts (not (is_feed x)) (list_all same_line xs) lines in
    let a = and_parts (nat_lt x 128) (ascii xs) low in
    let first : is_first x ≡ true = or_left (nat_lt x 128) (nat_le 192 x) a.0 in
    let one : past_one at x ≡ record { byte = at.byte + 1; line = at.line; column = at.column + 1 } = on_line at x true (not-true (is_feed x) l.0) first in
    ap (λ (p : Place). past p xs) one ∙ along (record { byte = at.byte + 1; line = at.line; column = at.column + 1 }) xs l.1 a.1
    ∙ same_place (at.byte + 1 + length xs) (at.byte + length (x ∷ xs)) at.line at.line (at.column + 1 + length xs) (at.column + length (x ∷ xs)) (omega arith) refl (omega arith)

-- behind a token's text stands what its span tells
pub past_text : (at : Place) (xs : List ℕ) → is_text xs ≡ true → past at xs ≡ end_of (record { start = at; length = length xs })
past_text at xs t = along at xs (text_on_line xs t) (text_ascii xs t)

one_before : (b : ℕ) (bs : List ℕ) → past_one (place_before bs) b ≡ place_before (b ∷ bs)
one_before b bs = go (is_feed b) (is_first b) refl refl
  where
    go : (f g : Bool) → is_feed b ≡ f → is_first b ≡ g → past_one (place_before bs) b ≡ place_before (b ∷ bs)
    go true g e h =
        let lines : 1 + count_by is_feed (b ∷ bs) ≡ 1 + count_by is_feed bs + 1 = rw (count_cons, e) (omega arith) in
        let none : take_while same_line (b ∷ bs) ≡ [] = take_while-cons same_line b bs ∙ rw e refl in
        let column : 1 + count_by is_first (take_while same_line (b ∷ bs)) ≡ 1 = ap (λ (x : List ℕ). 1 + count_by is_first x) none in
        new_line (place_before bs) b e ∙ (same_place (length bs + 1) (length (b ∷ bs)) (1 + count_by is_feed bs + 1) (1 + count_by is_feed (b ∷ bs)) 1 (1 + count_by is_first (take_while same_line (b ∷ bs))) (omega arith) (sym lines) (sym column))
    go false g e h =
        let lines : 1 + count_by is_feed (b ∷ bs) ≡ 1 + count_by is_feed bs = rw (count_cons, e) (omega arith) in
        let some : take_while same_line (b ∷ bs) ≡ b ∷ take_while same_line bs = take_while-cons same_line b bs ∙ rw e refl in
        let counted : count_by is_first (take_while same_line (b ∷ bs)) ≡ cond g 1 0 + count_by is_first (take_while same_line bs) = ap (count_by is_first) some ∙ count_cons is_first b (take_while same_line bs) ∙ ap (λ (x : Bool). cond x 1 0 + count_by is_first (take_while same_line bs)) h in
        let column : cond g (1 + count_by is_first (take_while same_line bs) + 1) (1 + count_by is_first (take_while same_line bs)) ≡ 1 + count_by is_first (take_while same_line (b ∷ bs)) = columns g (count_by is_first (take_while same_line bs)) (count_by is_first (take_while same_line (b ∷ bs))) counted in
        on_line (place_before bs) b g e h ∙ (same_place (length bs + 1) (length (b ∷ bs)) (1 + count_by is_feed bs) (1 + count_by is_feed (b ∷ bs)) _ (1 + count_by is_first (take_while same_line (b ∷ bs))) (omega arith) (sym lines) column)
      where
        columns : (g : Bool) (n m : ℕ) → m ≡ cond g 1 0 + n → cond g (1 + n + 1) (1 + n) ≡ 1 + m
        columns true n m e = omega (arith, e)
        columns false n m e = omega (arith, e)

past_reversed : (bs : List ℕ) → past start (reverse bs) ≡ place_before bs
past_reversed [] = refl
past_reversed (b ∷ bs) =
    let e : reverse (b ∷ bs) ≡ reverse bs ++ b ∷ [] = reverse-append (b ∷ []) bs in
    ap (past start) e ∙ past_push start (reverse bs) b ∙ ap (λ (x : Place). past_one x b) (past_reversed bs) ∙ one_before b bs

pub count_by-reverse : (p : ℕ → Bool) (bs : List ℕ) → count_by p (reverse bs) ≡ count_by p bs
count_by-reverse p [] = refl
count_by-reverse p (b ∷ bs) =
    let weight : ℕ → ℕ = λ x. cond (p x) 1 0 in
    let split : count_by p (reverse (b ∷ bs)) ≡ count_by p (reverse bs) + count_by p (b ∷ []) = ap (count_by p) (reverse-append (b ∷ []) bs) ∙ sum_by-append weight (reverse bs) (b ∷ []) in
    omega (arith, split, count_by-reverse p bs, count_cons p b bs, count_cons p b [])

pub past_is : (front : List ℕ) → past start front ≡ place_behind front
past_is front =
    ap (past start) (sym (reverse-reverse front)) ∙ past_reversed (reverse front)
    ∙ same_place (length (reverse front)) (length front) (1 + count_by is_feed (reverse front)) (1 + count_by is_feed front) _ _ (length-reverse front) (ap (λ (n : ℕ). 1 + n) (count_by-reverse is_feed front)) refl

-- ---- fronts

gap_front : (pieces : List (List ℕ)) (at : Place) (text : List ℕ) (to : Place) (here : List ℕ) → Gap pieces at text to here → (gap : List ℕ) × (text ≡ gap ++ here) × (to ≡ past at gap)
gap_front [] at text to here g = ([], g.1, sym g.0)
gap_front (p ∷ pieces) at text to here g =
    let r = gap_front pieces (past at p) g.0 to here g.3 in
    (p ++ r.0, g.1 ∙ ap (λ (x : List ℕ). p ++ x) r.1 ∙ sym (append_assoc p r.0 here), r.2 ∙ sym (past_append at p r.0))

record Stands (whole front : List ℕ) (at : Place) (text : List ℕ) (t : Lexeme) (rest : List ℕ) : Type 0 where
  next : List ℕ
  parts : whole ≡ next ++ rest
  ends : end_of t.span ≡ past start next
  stands : StandsIn whole t
  order : at.byte ≤ t.span.start.byte
  some : t.span.start.byte < (end_of t.span).byte

reads_stands : (whole front : List ℕ) (at : Place) (text : List ℕ) (t : Lexeme) (rest : List ℕ) → whole ≡ front ++ text → at ≡ past start front → (IsUtf8 whole → IsUtf8 text) → Reads at text t rest → Stands whole front at text t rest
reads_stands whole front at text t rest e place valid r =
    let g = gap_front r.gap.0 at text t.span.start r.here r.gap.1 in
    let l = r.token.longest in
    let s = r.token.text in
    let before : List ℕ = front ++ g.0 in
    let parts : whole ≡ before ++ (s ++ rest) = e ∙ ap (λ (x : List ℕ). front ++ x) (g.1 ∙ ap (λ (x : List ℕ). g.0 ++ x) l.parts) ∙ sym (append_assoc front g.0 (s ++ rest)) in
    let starts : t.span.start ≡ past start before = g.2 ∙ ap (λ (x : Place). past x g.0) place ∙ sym (past_append start front g.0) in
    let ends : end_of t.span ≡ past start (before ++ s) = r.token.ends ∙ ap (λ (x : Place). past x s) starts ∙ sym (past_append start before s) in
    let heres : IsUtf8 whole → IsUtf8 (s ++ rest) = λ w. subst (λ (x : List ℕ). IsUtf8 x) l.parts (gap_rest r.gap.0 at text t.span.start r.here r.gap.1 (valid w)) in
    let fronts : IsUtf8 whole → IsUtf8 before = λ w. valid_front whole before (s ++ rest) parts w (heres w) in
    record {
      next = before ++ s;
      parts = parts ∙ sym (append_assoc before s rest);
      ends = ends;
      stands = record { front = before; text = s; rest = rest; parts = parts; start = starts ∙ past_is before; ends = ends ∙ past_is (before ++ s); means = r.token.means; valid = fronts };
      order = omega (arith, ap (λ (x : Place). x.byte) g.2, past_byte at g.0);
      some = omega (arith, ap (λ (x : Place). x.byte) r.token.ends, past_byte t.span.start s, text_nonempty s l.is_one);
    }

run_stands : (ts : List Lexeme) (whole front : List ℕ) (at : Place) (text : List ℕ) (to : Place) (rest : List ℕ) → whole ≡ front ++ text → at ≡ past start front → (IsUtf8 whole → IsUtf8 text) → Run ts at text to rest
    → AllByRecursion (StandsIn whole) ts × InOrder at.byte ts
run_stands [] whole front at text to rest e place valid r = (tt, tt)
run_stands (t ∷ ts) whole front at text to rest e place valid r =
    let s = reads_stands whole front at text t r.0 e place valid r.1 in
    let ih = run_stands ts whole s.next (end_of t.span) r.0 to rest s.parts s.ends (λ w. reads_rest at text t r.0 r.1 (valid w)) r.2 in
    ((s.stands, ih.0), (s.order, s.some, ih.1))

pub tokens_stand : (text : List ℕ) (ts : List Lexeme) → Tokens text ts → AllByRecursion (StandsIn text) ts × InOrder 0 ts
tokens_stand text ts t = run_stands ts text [] start text t.to t.rest refl refl (λ w. w) t.run

-- ---- faults

run_front : (ts : List Lexeme) (at : Place) (text : List ℕ) (to : Place) (rest : List ℕ) → Run ts at text to rest → (front : List ℕ) × (text ≡ front ++ rest) × (to ≡ past at front)
run_front [] at text to rest r = ([], r.1, sym r.0)
run_front (t ∷ ts) at text to rest r =
    let g = gap_front r.1.gap.0 at text t.span.start r.1.here r.1.gap.1 in
    let s = r.1.token.text in
    let next = run_front ts (end_of t.span) r.0 to rest r.2 in
    let whole : text ≡ g.0 ++ (s ++ (next.0 ++ rest)) = g.1 ∙ ap (λ (x : List ℕ). g.0 ++ x) (r.1.token.longest.parts ∙ ap (λ (x : List ℕ). s ++ x) next.1) in
    let parts : g.0 ++ (s ++ (next.0 ++ rest)) ≡ (g.0 ++ (s ++ next.0)) ++ rest = simp append_assoc in
    let behind : past t.span.start s ≡ past at (g.0 ++ s) = ap (λ (x : Place). past x s) g.2 ∙ sym (past_append at g.0 s) in
    let place : to ≡ past (past at (g.0 ++ s)) next.0 = next.2 ∙ ap (λ (x : Place). past x next.0) (r.1.token.ends ∙ behind) in
    (g.0 ++ (s ++ next.0), whole ∙ parts, place ∙ sym (past_append at (g.0 ++ s) next.0) ∙ ap (past at) (append_assoc g.0 s next.0))

pub fault_stands : (text : List ℕ) (number : RefusalNumber) (place : Place) → Faulty text number place → StandsAt text place
fault_stands text number place f =
    let r = run_front f.before start text f.to f.rest f.run in
    let g = gap_front f.breaks.gap.0 f.to f.rest place f.breaks.here f.breaks.gap.1 in
    let parts : text ≡ (r.0 ++ g.0) ++ f.breaks.here = r.1 ∙ ap (λ (x : List ℕ). r.0 ++ x) g.1 ∙ sym (append_assoc r.0 g.0 f.breaks.here) in
    let at : place ≡ past start (r.0 ++ g.0) = g.2 ∙ ap (λ (x : Place). past x g.0) r.2 ∙ sym (past_append start r.0 g.0) in
    let heres : IsUtf8 text → IsUtf8 f.breaks.here = λ w. gap_rest f.breaks.gap.0 f.to f.rest place f.breaks.here f.breaks.gap.1 (run_rest f.before start text f.to f.rest f.run w) in
    record {
      front = r.0 ++ g.0;
      rest = f.breaks.here;
      parts = parts;
      is = at ∙ past_is (r.0 ++ g.0);
      valid = λ w. valid_front text (r.0 ++ g.0) f.breaks.here parts w (heres w);
    }
