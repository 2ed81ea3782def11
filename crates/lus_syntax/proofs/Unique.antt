-- A text is read in one way.
use Rattle.std.proofs.Common.{◌≡◌, ℕ, ◌+◌, false, cond, List, [], ◌∷◌, ◌++◌, length, take, drop, Option, Some, None, Result, Ok, Err, refl, sym, ap, subst, ◌∙◌, arith, append_assoc, length-append, inl, inr, ◌⊎◌}
use Rattle.std.specs.Prelude.{◌&&◌, ◌||◌, ◌==◌, not, option_map, ◌≢◌}
use Rattle.std.specs.List.{list_all, prefix_len}
use Rattle.std.proofs.lemmas.Bool.{and_parts, or_parts, and_right, false≢true, both_ways, eq-eqb, ne_eqb, eqb-true, false_from_ne_true, cond-false}
use Rattle.std.proofs.lemmas.List.{take_at, drop_at}
use Rattle.lus_syntax.specs.declared.token.Place.{Place}
use Rattle.lus_syntax.specs.declared.refusal.RefusalNumber.{RefusalNumber}
use Rattle.lus_syntax.specs.declared.refusal.RefusalNumber.TheVariants.{Lexical, Unsupported, Limit}
use Rattle.lus_syntax.specs.Places.{is_feed, past, start, end_of}
use Rattle.lus_syntax.specs.Lexemes.{Kind, Lexeme}
use Rattle.lus_syntax.specs.Texts.{LongestText, meaning, is_text}
use Rattle.lus_syntax.specs.Gaps.{is_blank, IsLine, EndsLine, Lacks, Piece, blank, line, slash, round, Unclosed, slash_open, round_open, opens, IsPlain, Gap}
use Rattle.lus_syntax.specs.Reading.{block_len}
use Rattle.lus_syntax.specs.Tokens.{Here, Reads, Run, Ends, Wrong, open_comment, no_token, no_meaning, Breaks, Tokens, Faulty}
use Rattle.lus_syntax.proofs.Blocks.{same_line, block_some}
use Rattle.lus_syntax.proofs.Meanings.{text_nonempty, no_meaning_is}

-- ---- pieces

-- the length of the blank or comment that stands here
abbrev skip_len : List ℕ → Option ℕ
skip_len [] = None
skip_len (b ∷ []) = cond (is_blank b) (Some 1) None
skip_len (b ∷ c ∷ body) =
    cond (is_blank b) (Some 1)
    (cond (b == 45 && c == 45) (Some (2 + prefix_len same_line body))
    (cond (b == 47 && c == 42) (option_map (λ n. n + 2) (block_len 47 body))
    (cond (b == 40 && c == 42) (option_map (λ n. n + 2) (block_len 41 body)) None)))

line_again : (body rest : List ℕ) → IsLine body → EndsLine rest → prefix_len same_line (body ++ rest) ≡ length body
line_again [] [] h e = refl
line_again [] (b ∷ rest) h e = rw e refl
line_again (b ∷ body) rest h e =
    let p = and_parts (not (is_feed b)) (list_all same_line body) h in
    let ih = line_again body rest p.1 e in
    rw p.0 (omega (arith, ih))

block_again : (close : ℕ) (body rest : List ℕ) → close ≢ 42 → Lacks close body → block_len close (body ++ 42 ∷ close ∷ rest) ≡ Some (length body + 2)
block_again close [] rest ne lacks = rw (eq-eqb close close refl) refl
block_again close (a ∷ []) rest ne lacks =
    let test : (a == 42 && 42 == close) ≡ false = and_right (a == 42) (42 == close) (ne_eqb 42 close (λ e. ne (sym e))) in
    rw test (rw (eq-eqb close close refl) refl)
block_again close (a ∷ b ∷ bs) rest ne lacks =
    let test : (a == 42 && b == close) ≡ false = false_from_ne_true (a == 42 && b == close) (λ e.
    let p = and_parts (a == 42) (b == close) e in
    lacks [] bs (both a b (eqb-true a 42 p.0) (eqb-true b close p.1))) in
    let ih = block_again close (b ∷ bs) rest ne (λ front more e. lacks (a ∷ front) more (ap (λ (x : List ℕ). a ∷ x) e)) in
    rw test (ap (option_map (λ n. n + 1)) ih ∙ ap Some (omega arith))
  where
    both : (x y : ℕ) → x ≡ 42 → y ≡ close → x ∷ y ∷ bs ≡ 42 ∷ close ∷ bs
    both x y e f = rw (e, f) refl

unclosed_none : (close : ℕ) (body : List ℕ) (o : Option ℕ) → Lacks close body → block_len close body ≡ o → o ≡ None
unclosed_none close body None lacks e = refl
unclosed_none close body (Some n) lacks e = let c = block_some close body n e in absurd (lacks c.front c.rest c.parts)

block_piece : (close : ℕ) (body rest : List ℕ) → close ≢ 42 → Lacks close body → option_map (λ n. n + 2) (block_len close ((body ++ 42 ∷ close ∷ []) ++ rest)) ≡ Some (length (body ++ 42 ∷ close ∷ []) + 2)
block_piece close body rest ne lacks =
    ap (λ (x : List ℕ). option_map (λ n. n + 2) (block_len close x)) (append_assoc body (42 ∷ close ∷ []) rest)
    ∙ ap (option_map (λ n. n + 2)) (block_again close body rest ne lacks)
    ∙ ap Some (omega (arith, length-append body (42 ∷ close ∷ [])))

piece_len : {p : List ℕ} {after : List ℕ} → Piece p after → skip_len (p ++ after) ≡ Some (length p)
piece_len (blank {b} {rest} h) = go rest
  where
    go : (r : List ℕ) → skip_len (b ∷ r) ≡ Some 1
    go [] = rw h refl
    go (c ∷ r) = rw h refl
piece_len (line {body} {rest} h e) = ap Some (omega (arith, line_again body rest h e))
piece_len (slash {body} {rest} h) = block_piece 47 body rest (λ e. absurd (omega (arith, e))) h ∙ ap Some (omega arith)
piece_len (round {body} {rest} h) = block_piece 41 body rest (λ e. absurd (omega (arith, e))) h ∙ ap Some (omega arith)

plain_none : (here : List ℕ) → IsPlain here → skip_len here ≡ None
plain_none [] h = refl
plain_none (b ∷ []) h = rw (or_parts (is_blank b) false h).0 refl
plain_none (b ∷ c ∷ body) h =
    let p = or_parts (is_blank b) (opens b (c ∷ body)) h in
    let q = or_parts (b == 45 && c == 45) ((b == 47 && c == 42) || (b == 40 && c == 42)) p.1 in
    let r = or_parts (b == 47 && c == 42) (b == 40 && c == 42) q.1 in
    cond-false _ (Some 1) _ p.0 ∙ cond-false _ (Some (2 + prefix_len same_line body)) _ q.0 ∙ cond-false _ (option_map (λ n. n + 2) (block_len 47 body)) _ r.0 ∙ cond-false _ (option_map (λ n. n + 2) (block_len 41 body)) None r.1

open_none : {here : List ℕ} → Unclosed here → skip_len here ≡ None
open_none (slash_open {body} h) = ap (option_map (λ n. n + 2)) (unclosed_none 47 body (block_len 47 body) h refl)
open_none (round_open {body} h) = ap (option_map (λ n. n + 2)) (unclosed_none 41 body (block_len 41 body) h refl)

-- ---- fronts of one list

same_front : (p q a b : List ℕ) → p ++ a ≡ q ++ b → length p ≡ length q → (p ≡ q) × (a ≡ b)
same_front p q a b e len = (
  sym (take_at p a (length p) refl) ∙ ap (take (length p)) e ∙ take_at q b (length p) (sym len),
  sym (drop_at p a (length p) refl) ∙ ap (drop (length p)) e ∙ drop_at q b (length p) (sym len),
)

some_none : (o : Option ℕ) (n : ℕ) → o ≡ Some n → o ≡ None → ⊥
some_none o n e f = cc

some_same : (o : Option ℕ) (m n : ℕ) → o ≡ Some m → o ≡ Some n → m ≡ n
some_same o m n e f = cc

gap_unique : (ps qs : List (List ℕ)) (at : Place) (text : List ℕ) (to : Place) (here : List ℕ) (to' : Place) (here' : List ℕ)
    → Gap ps at text to here → skip_len here ≡ None → Gap qs at text to' here' → skip_len here' ≡ None → (to ≡ to') × (here ≡ here')
gap_unique [] [] at text to here to' here' g n h m = (sym g.0 ∙ h.0, sym g.1 ∙ h.1)
gap_unique [] (q ∷ qs) at text to here to' here' g n h m =
    let e : skip_len here ≡ Some (length q) = ap skip_len (sym g.1 ∙ h.1) ∙ piece_len h.2 in
    absurd (some_none (skip_len here) (length q) e n)
gap_unique (p ∷ ps) [] at text to here to' here' g n h m =
    let e : skip_len here' ≡ Some (length p) = ap skip_len (sym h.1 ∙ g.1) ∙ piece_len g.2 in
    absurd (some_none (skip_len here') (length p) e m)
gap_unique (p ∷ ps) (q ∷ qs) at text to here to' here' g n h m =
    let e : p ++ g.0 ≡ q ++ h.0 = sym g.1 ∙ h.1 in
    let len : length p ≡ length q = some_same (skip_len (p ++ g.0)) (length p) (length q) (piece_len g.2) (ap skip_len e ∙ piece_len h.2) in
    let same = same_front p q g.0 h.0 e len in
    gap_unique ps qs (past at p) g.0 to here to' here' g.3 n
    (subst (λ (x : List ℕ). Gap qs (past at x) g.0 to' here') (sym same.0) (subst (λ (x : List ℕ). Gap qs (past at q) x to' here') (sym same.1) h.3)) m

-- ---- what stands behind a gap

text_unique : (here s r s' r' : List ℕ) → LongestText here s r → LongestText here s' r' → (s ≡ s') × (r ≡ r')
text_unique here s r s' r' l m = same_front s s' r r' (sym l.parts ∙ m.parts) (omega (arith, l.longest s' r' m.parts m.is_one, m.longest s r l.parts l.is_one))

lexeme_same : (t u : Lexeme) → t.kind ≡ u.kind → t.span.start ≡ u.span.start → end_of t.span ≡ end_of u.span → t ≡ u
lexeme_same t u e f g =
    let lengths : t.span.length ≡ u.span.length = omega (arith, ap (λ (x : Place). x.byte) f, ap (λ (x : Place). x.byte) g) in
    λ i. record { kind = e i; span = record { start = f i; length = lengths i } }

ok_same : (r : Result Kind RefusalNumber) (k l : Kind) → r ≡ Ok k → r ≡ Ok l → k ≡ l
ok_same r k l e f = cc

ok_err : (r : Result Kind RefusalNumber) (k : Kind) (f : RefusalNumber) → r ≡ Ok k → r ≡ Err f → ⊥
ok_err r k f e g = cc

err_same : (r : Result Kind RefusalNumber) (f g : RefusalNumber) → r ≡ Err f → r ≡ Err g → f ≡ g
err_same r f g d e = cc

pub reads_unique : (at : Place) (text : List ℕ) (t u : Lexeme) (a b : List ℕ) → Reads at text t a → Reads at text u b → (t ≡ u) × (a ≡ b)
reads_unique at text t u a b r s =
    let g = gap_unique r.gap.0 s.gap.0 at text t.span.start r.here u.span.start s.here r.gap.1 (plain_none r.here r.plain) s.gap.1 (plain_none s.here s.plain) in
    let l : LongestText r.here s.token.text b = subst (λ (x : List ℕ). LongestText x s.token.text b) (sym g.1) s.token.longest in
    let w = text_unique r.here r.token.text a s.token.text b r.token.longest l in
    let kinds : t.kind ≡ u.kind = ok_same (meaning r.token.text) t.kind u.kind r.token.means (ap meaning w.0 ∙ s.token.means) in
    let ends : end_of t.span ≡ end_of u.span = r.token.ends ∙ ap (past t.span.start) w.0 ∙ ap (λ (x : Place). past x s.token.text) g.0 ∙ sym s.token.ends in
    (lexeme_same t u kinds g.0 ends, w.1)

some_text : (here s r : List ℕ) → LongestText here s r → here ≢ []
some_text here s r l e = absurd (omega (arith, ap length e, ap length l.parts, length-append s r, text_nonempty s l.is_one))

-- the text ends, or something is wrong: no token comes
pub ends_stop : (at : Place) (text : List ℕ) (t : Lexeme) (a : List ℕ) → Ends at text → Reads at text t a → ⊥
ends_stop at text t a n r =
    let g = gap_unique n.gap.0 r.gap.0 at text n.to [] t.span.start r.here n.gap.1 refl r.gap.1 (plain_none r.here r.plain) in
    some_text r.here r.token.text a r.token.longest (sym g.1)

wrong_none : {here : List ℕ} {f : RefusalNumber} → Wrong here f → skip_len here ≡ None
wrong_none (open_comment u) = open_none u
wrong_none (no_token {here} plain ne none) = plain_none here plain
wrong_none (no_meaning {here} plain longest means) = plain_none here plain

open_not_plain : {here : List ℕ} → Unclosed here → IsPlain here → ⊥
open_not_plain (slash_open h) plain = false≢true (sym plain)
open_not_plain (round_open h) plain = false≢true (sym plain)

wrong_not_here : {here : List ℕ} {f : RefusalNumber} (t : Lexeme) (a : List ℕ) → Wrong here f → IsPlain here → Here here t a → ⊥
wrong_not_here t a (open_comment u) plain h = open_not_plain u plain
wrong_not_here t a (no_token p ne none) plain h = both_ways (is_text h.text) (none h.text a h.longest.parts) h.longest.is_one
wrong_not_here t a (no_meaning {here} {text} {rest} {number} p longest means) plain h =
    let w = text_unique here h.text a text rest h.longest longest in
    ok_err (meaning h.text) t.kind number h.means (ap meaning w.0 ∙ means)

pub breaks_stop : (at : Place) (text : List ℕ) (f : RefusalNumber) (to : Place) (t : Lexeme) (a : List ℕ) → Breaks at text f to → Reads at text t a → ⊥
breaks_stop at text f to t a b r =
    let g = gap_unique b.gap.0 r.gap.0 at text to b.here t.span.start r.here b.gap.1 (wrong_none b.wrong) r.gap.1 (plain_none r.here r.plain) in
    wrong_not_here t a (subst (λ (x : List ℕ). Wrong x f) g.1 b.wrong) r.plain r.token

wrong_some : {here : List ℕ} {f : RefusalNumber} → Wrong here f → here ≢ []
wrong_some (open_comment (slash_open h)) e = absurd cc
wrong_some (open_comment (round_open h)) e = absurd cc
wrong_some (no_token p ne none) e = ne e
wrong_some (no_meaning {here} {text} {rest} p longest means) e = some_text here text rest longest e

pub ends_no_break : (at : Place) (text : List ℕ) (f : RefusalNumber) (to : Place) → Ends at text → Breaks at text f to → ⊥
ends_no_break at text f to n b =
    let g = gap_unique n.gap.0 b.gap.0 at text n.to [] to b.here n.gap.1 refl b.gap.1 (wrong_none b.wrong) in
    wrong_some b.wrong (sym g.1)

wrong_unique : {here : List ℕ} (f g : RefusalNumber) → Wrong here f → Wrong here g → f ≡ g
wrong_unique f g (open_comment u) (open_comment v) = refl
wrong_unique f g (open_comment u) (no_token p ne none) = refl
wrong_unique f g (open_comment u) (no_meaning p longest means) = absurd (open_not_plain u p)
wrong_unique f g (no_token p ne none) (open_comment v) = refl
wrong_unique f g (no_token p ne none) (no_token q ne' none') = refl
wrong_unique f g (no_token p ne none) (no_meaning {here} {text} {rest} q longest means) = absurd (both_ways (is_text text) (none text rest longest.parts) longest.is_one)
wrong_unique f g (no_meaning p longest means) (open_comment v) = absurd (open_not_plain v p)
wrong_unique f g (no_meaning {here} {text} {rest} p longest means) (no_token q ne none) = absurd (both_ways (is_text text) (none text rest longest.parts) longest.is_one)
wrong_unique f g (no_meaning {here} {text = s} {rest = r} p longest means) (no_meaning {text = s'} {rest = r'} q longest' means') =
    let w = text_unique here s r s' r' longest longest' in
    err_same (meaning s) f g means (ap meaning w.0 ∙ means')

pub breaks_unique : (at : Place) (text : List ℕ) (f g : RefusalNumber) (to to' : Place) → Breaks at text f to → Breaks at text g to' → (f ≡ g) × (to ≡ to')
breaks_unique at text f g to to' b c =
    let e = gap_unique b.gap.0 c.gap.0 at text to b.here to' c.here b.gap.1 (wrong_none b.wrong) c.gap.1 (wrong_none c.wrong) in
    (wrong_unique f g b.wrong (subst (λ (x : List ℕ). Wrong x g) (sym e.1) c.wrong), e.0)

-- ---- whole texts

abbrev Stops : Place → List ℕ → Type 0
Stops at text = (t : Lexeme) (a : List ℕ) → Reads at text t a → ⊥

moved : (at to : Place) (text rest : List ℕ) (t : Lexeme) (a : List ℕ) → at ≡ to → text ≡ rest → Reads at text t a → Reads to rest t a
moved at to text rest t a e f r = subst (λ (x : Place). Reads x rest t a) e (subst (λ (x : List ℕ). Reads at x t a) f r)

run_unique : (ts us : List Lexeme) (at : Place) (text : List ℕ) (to : Place) (rest : List ℕ) (to' : Place) (rest' : List ℕ)
    → Run ts at text to rest → Stops to rest → Run us at text to' rest' → Stops to' rest' → (ts ≡ us) × (to ≡ to') × (rest ≡ rest')
run_unique [] [] at text to rest to' rest' r s q p = (refl, sym r.0 ∙ q.0, sym r.1 ∙ q.1)
run_unique [] (u ∷ us) at text to rest to' rest' r s q p = absurd (s u q.0 (moved at to text rest u q.0 r.0 r.1 q.1))
run_unique (t ∷ ts) [] at text to rest to' rest' r s q p = absurd (p t r.0 (moved at to' text rest' t r.0 q.0 q.1 r.1))
run_unique (t ∷ ts) (u ∷ us) at text to rest to' rest' r s q p =
    let same = reads_unique at text t u r.0 q.0 r.1 q.1 in
    let other : Run us (end_of t.span) r.0 to' rest' = subst (λ (x : Lexeme). Run us (end_of x.span) r.0 to' rest') (sym same.0) (subst (λ (x : List ℕ). Run us (end_of u.span) x to' rest') (sym same.1) q.2) in
    let ih = run_unique ts us (end_of t.span) r.0 to rest to' rest' r.2 s other p in
    ((λ i. same.0 i ∷ ih.0 i), ih.1, ih.2)

pub one_reading : (text : List ℕ) (ts us : List Lexeme) → Tokens text ts → Tokens text us → ts ≡ us
one_reading text ts us a b = (run_unique ts us start text a.to a.rest b.to b.rest a.run (λ t r. ends_stop a.to a.rest t r a.ends) b.run (λ t r. ends_stop b.to b.rest t r b.ends)).0

pub no_fault : (text : List ℕ) (ts : List Lexeme) (f : RefusalNumber) (place : Place) → Tokens text ts → Faulty text f place → ⊥
no_fault text ts f place a b =
    let same = run_unique ts b.before start text a.to a.rest b.to b.rest a.run (λ t r. ends_stop a.to a.rest t r a.ends) b.run (λ t r. breaks_stop b.to b.rest f place t r b.breaks) in
    ends_no_break a.to a.rest f place a.ends (subst (λ (x : Place). Breaks x a.rest f place) (sym same.1) (subst (λ (x : List ℕ). Breaks b.to x f place) (sym same.2) b.breaks))

pub one_fault : (text : List ℕ) (f g : RefusalNumber) (p q : Place) → Faulty text f p → Faulty text g q → (f ≡ g) × (p ≡ q)
one_fault text f g p q a b =
    let same = run_unique a.before b.before start text a.to a.rest b.to b.rest a.run (λ t r. breaks_stop a.to a.rest f p t r a.breaks) b.run (λ t r. breaks_stop b.to b.rest g q t r b.breaks) in
    breaks_unique a.to a.rest f g p q a.breaks (subst (λ (x : Place). Breaks x a.rest g q) (sym same.1) (subst (λ (x : List ℕ). Breaks b.to x g q) (sym same.2) b.breaks))

-- ---- the numbers of faults

wrong_number : {here : List ℕ} (number : RefusalNumber) → Wrong here number → (number ≡ Lexical) ⊎ ((number ≡ Unsupported) ⊎ (number ≡ Limit))
wrong_number number (open_comment u) = inl refl
wrong_number number (no_token p ne none) = inl refl
wrong_number number (no_meaning {here} {text} {rest} p longest means) = inr (no_meaning_is text number longest.is_one means)

pub fault_number : (text : List ℕ) (number : RefusalNumber) (place : Place) → Faulty text number place → (number ≡ Lexical) ⊎ ((number ≡ Unsupported) ⊎ (number ≡ Limit))
fault_number text number place f = wrong_number number f.breaks.wrong
