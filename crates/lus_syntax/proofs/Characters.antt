-- Columns count characters: of the bytes of a character one is its first, and none but a line feed's is a line feed.
use Rattle.std.proofs.Common.{◌≡◌, ℕ, ◌+◌, ◌/◌, ◌%◌, ◌<◌, ◌≤◌, Bool, true, false, cond, List, [], ◌∷◌, ◌++◌, length, reverse, refl, sym, ap, ◌∙◌, arith, inl, inr}
use Rattle.std.specs.Prelude.{◌||◌, ◌&&◌, nat_lt, nat_le, IsUtf8}
use Rattle.std.specs.List.{list_all, count_by, take_while}
use Rattle.std.specs.Char.{encode_utf8}
use Rattle.std.specs.Str.{chars, encode_utf8_all}
use Rattle.std.proofs.lemmas.Bool.{and_parts, and_from, or_left, or_right, ne_eqb, ltb-true, leb-true, le-leb, lt-leb, lt-ltb, le-ltb, cases_lt, cond-true, cond-false}
use Rattle.std.proofs.lemmas.List.{append-nil, reverse-append, reverse-reverse}
use Rattle.std.proofs.lemmas.List.Sums.{take_while-cons}
use Rattle.std.proofs.lemmas.Str.{encode_ascii, encodes-append, encodes-chars}
use Rattle.lus_syntax.specs.declared.token.Place.{Place}
use Rattle.lus_syntax.specs.Places.{is_feed, past_one, past, start, place_behind, IsBehind}
use Rattle.lus_syntax.proofs.Places.{past_append}
use Rattle.lus_syntax.proofs.Spans.{same_line, count_cons, count_by-reverse, new_line, on_line, past_is}

-- a byte of a character behind its first one
abbrev is_next : ℕ → Bool
is_next b = nat_le 128 b && nat_lt b 192

no_feed : (b : ℕ) → 128 ≤ b → is_feed b ≡ false
no_feed b h = ne_eqb b 10 (λ e. omega (arith, e, h))

first_on : (at : Place) (b : ℕ) → 192 ≤ b → past_one at b ≡ record { byte = at.byte + 1; line = at.line; column = at.column + 1 }
first_on at b h = on_line at b true (no_feed b (omega arith)) (or_right (nat_lt b 128) (nat_le 192 b) (le-leb 192 b h))

next_on : (at : Place) (b : ℕ) → is_next b ≡ true → past_one at b ≡ record { byte = at.byte + 1; line = at.line; column = at.column }
next_on at b h =
    let p = and_parts (nat_le 128 b) (nat_lt b 192) h in
    let low : 128 ≤ b = leb-true 128 b p.0 in
    let high : b < 192 = ltb-true b 192 p.1 in
    on_line at b false (no_feed b low) (no_first (nat_lt b 128) (nat_le 192 b) (le-ltb b 128 low) (lt-leb 192 b high))
  where
    no_first : (x y : Bool) → x ≡ false → y ≡ false → (x || y) ≡ false
    no_first x y e f = rw (e, f) refl

-- the same line, and one more column or none
nexts_line : (at : Place) (bs : List ℕ) → list_all is_next bs ≡ true → (past at bs).line ≡ at.line
nexts_line at [] h = refl
nexts_line at (b ∷ bs) h =
    let p = and_parts (is_next b) (list_all is_next bs) h in
    nexts_line (past_one at b) bs p.1 ∙ ap (λ (x : Place). x.line) (next_on at b p.0)

nexts_column : (at : Place) (bs : List ℕ) → list_all is_next bs ≡ true → (past at bs).column ≡ at.column
nexts_column at [] h = refl
nexts_column at (b ∷ bs) h =
    let p = and_parts (is_next b) (list_all is_next bs) h in
    nexts_column (past_one at b) bs p.1 ∙ ap (λ (x : Place). x.column) (next_on at b p.0)

record Wide (bytes : List ℕ) : Type 0 where
  first : ℕ
  nexts : List ℕ
  parts : bytes ≡ first ∷ nexts
  is_lead : 192 ≤ first
  all_next : list_all is_next nexts ≡ true

next_is : (n : ℕ) → n < 64 → is_next (128 + n) ≡ true
next_is n h = and_from (nat_le 128 (128 + n)) (nat_lt (128 + n) 192) (le-leb 128 (128 + n) (omega arith)) (lt-ltb (128 + n) 192 (omega arith))

wide_of : (b c : Bool) (x y z : List ℕ) → Wide x → Wide y → Wide z → Wide (cond b x (cond c y z))
wide_of true c x y z p q r = p
wide_of false true x y z p q r = q
wide_of false false x y z p q r = r

-- a character past ASCII has a first byte and some that follow it
encode_wide : (c : ℕ) → 128 ≤ c → Wide (encode_utf8 c)
unfolding encode_utf8
encode_wide c h =
    let n : (x : ℕ) → is_next (128 + x % 64) ≡ true = λ x. next_is (x % 64) (omega arith) in
    let all1 : (x : ℕ) → list_all is_next ((128 + x % 64) ∷ []) ≡ true = λ x. and_from (is_next (128 + x % 64)) true (n x) refl in
    let all2 : (x y : ℕ) → list_all is_next ((128 + x % 64) ∷ (128 + y % 64) ∷ []) ≡ true = λ x y. and_from (is_next (128 + x % 64)) _ (n x) (all1 y) in
    let all3 : (x y z : ℕ) → list_all is_next ((128 + x % 64) ∷ (128 + y % 64) ∷ (128 + z % 64) ∷ []) ≡ true = λ x y z. and_from (is_next (128 + x % 64)) _ (n x) (all2 y z) in
    rw (le-ltb c 128 h) (wide_of (nat_lt c 2048) (nat_lt c 65536) _ _ _
    (record { first = 192 + c / 64; nexts = _; parts = refl; is_lead = omega arith; all_next = all1 c })
    (record { first = 224 + c / 4096; nexts = _; parts = refl; is_lead = omega arith; all_next = all2 (c / 64) c })
    (record { first = 240 + c / 262144; nexts = _; parts = refl; is_lead = omega arith; all_next = all3 (c / 4096) (c / 64) c }))

-- one character on
record OneOn (at to : Place) (c : ℕ) : Type 0 where
  line : to.line ≡ cond (is_feed c) (at.line + 1) at.line
  column : to.column ≡ cond (is_feed c) 1 (at.column + 1)

wide_on : (at : Place) (c : ℕ) → 128 ≤ c → OneOn at (past at (encode_utf8 c)) c
wide_on at c h =
    let w = encode_wide c h in
    let first = first_on at w.first w.is_lead in
    let feed = no_feed c h in
    record {
      line = ap (λ (x : List ℕ). (past at x).line) w.parts ∙ nexts_line (past_one at w.first) w.nexts w.all_next ∙ ap (λ (x : Place). x.line) first ∙ sym (cond-false (is_feed c) (at.line + 1) at.line feed);
      column = ap (λ (x : List ℕ). (past at x).column) w.parts ∙ nexts_column (past_one at w.first) w.nexts w.all_next ∙ ap (λ (x : Place). x.column) first ∙ sym (cond-false (is_feed c) 1 (at.column + 1) feed);
    }

ascii_on : (at : Place) (c : ℕ) → c < 128 → OneOn at (past_one at c) c
ascii_on at c h = go (is_feed c) refl
  where
    go : (t : Bool) → is_feed c ≡ t → OneOn at (past_one at c) c
    go true e = record {
      line = ap (λ (x : Place). x.line) (new_line at c e) ∙ sym (cond-true (is_feed c) (at.line + 1) at.line e);
      column = ap (λ (x : Place). x.column) (new_line at c e) ∙ sym (cond-true (is_feed c) 1 (at.column + 1) e);
    }
    go false e =
        let one = on_line at c true e (or_left (nat_lt c 128) (nat_le 192 c) (lt-ltb c 128 h)) in
        record {
          line = ap (λ (x : Place). x.line) one ∙ sym (cond-false (is_feed c) (at.line + 1) at.line e);
          column = ap (λ (x : Place). x.column) one ∙ sym (cond-false (is_feed c) 1 (at.column + 1) e);
        }

character_on : (at : Place) (c : ℕ) → OneOn at (past at (encode_utf8 c)) c
character_on at c = elim (cases_lt c 128) [ inl low ↦ rw (encode_ascii c low) (ascii_on at c low) | inr high ↦ wide_on at c high ]

-- the place behind these characters, the last of them first
record Reversed (at : Place) (cs : List ℕ) : Type 0 where
  line : at.line ≡ 1 + count_by is_feed cs
  column : at.column ≡ 1 + length (take_while same_line cs)

one_more : (at to : Place) (c : ℕ) (cs : List ℕ) → OneOn at to c → Reversed at cs → Reversed to (c ∷ cs)
one_more at to c cs one before = go (is_feed c) refl
  where
    go : (t : Bool) → is_feed c ≡ t → Reversed to (c ∷ cs)
    go true e =
        let lines : to.line ≡ at.line + 1 = one.line ∙ cond-true (is_feed c) (at.line + 1) at.line e in
        let columns : to.column ≡ 1 = one.column ∙ cond-true (is_feed c) 1 (at.column + 1) e in
        let counted : count_by is_feed (c ∷ cs) ≡ 1 + count_by is_feed cs = count_cons is_feed c cs ∙ rw e refl in
        let none : take_while same_line (c ∷ cs) ≡ [] = take_while-cons same_line c cs ∙ rw e refl in
        record { line = omega (arith, lines, before.line, counted); column = columns ∙ ap (λ (x : List ℕ). 1 + length x) (sym none) }
    go false e =
        let lines : to.line ≡ at.line = one.line ∙ cond-false (is_feed c) (at.line + 1) at.line e in
        let columns : to.column ≡ at.column + 1 = one.column ∙ cond-false (is_feed c) 1 (at.column + 1) e in
        let counted : count_by is_feed (c ∷ cs) ≡ 0 + count_by is_feed cs = count_cons is_feed c cs ∙ rw e refl in
        let some : take_while same_line (c ∷ cs) ≡ c ∷ take_while same_line cs = take_while-cons same_line c cs ∙ rw e refl in
        record { line = omega (arith, lines, before.line, counted); column = omega (arith, columns, before.column, ap length some) }

reversed_is : (cs : List ℕ) → Reversed (past start (encode_utf8_all (reverse cs))) cs
reversed_is [] = record { line = refl; column = refl }
reversed_is (c ∷ cs) =
    let bytes : encode_utf8_all (reverse (c ∷ cs)) ≡ encode_utf8_all (reverse cs) ++ encode_utf8 c =
    ap encode_utf8_all (reverse-append (c ∷ []) cs) ∙ encodes-append (reverse cs) (c ∷ []) ∙ ap (λ (x : List ℕ). encode_utf8_all (reverse cs) ++ x) (append-nil (encode_utf8 c)) in
    let at : Place = past start (encode_utf8_all (reverse cs)) in
    let place : past start (encode_utf8_all (reverse (c ∷ cs))) ≡ past at (encode_utf8 c) = ap (past start) bytes ∙ past_append start (encode_utf8_all (reverse cs)) (encode_utf8 c) in
    rw place (one_more at (past at (encode_utf8 c)) c cs (character_on at c) (reversed_is cs))

pub behind_characters : (front : List ℕ) → IsUtf8 front → IsBehind (place_behind front) (chars front)
behind_characters front text =
    let cs = chars front in
    let bytes : encode_utf8_all (reverse (reverse cs)) ≡ front = ap encode_utf8_all (reverse-reverse cs) ∙ encodes-chars front text in
    let place : past start (encode_utf8_all (reverse (reverse cs))) ≡ place_behind front = ap (past start) bytes ∙ past_is front in
    let r = reversed_is (reverse cs) in
    record {
      line = sym (ap (λ (x : Place). x.line) place) ∙ r.line ∙ ap (λ (n : ℕ). 1 + n) (count_by-reverse is_feed cs);
      column = sym (ap (λ (x : Place). x.column) place) ∙ r.column;
    }
