-- The lines of a journal are of one kind each.
use Rattle.std.proofs.Common.{◌≡◌, ◌∙◌, ◌==◌, ◌&&◌, ◌+◌, ◌++◌, ◌<◌, ℕ, Bool, true, false, not, refl, ap, ap₂, sym, [], ◌∷◌, length, append_assoc, arith, codes}
use Rattle.std.specs.Char.{is_ascii_digit}
use Rattle.std.specs.Fmt.{decimal, digit_glyph}
use Rattle.std.specs.List.{list_all}
use Rattle.std.proofs.lemmas.Bool.{agree_below_at, and_parts, eq-eqb, true≢false}
use Rattle.std.proofs.lemmas.List.Folds.{list_all-append}
use Rattle.lus_values.specs.Names.{Text, Names}
use Rattle.lus_requests.specs.declared.request.Request.{Request}
use Rattle.lus_requests.specs.declared.request.Why.TheVariants.{Shape, Presence, Fault, NoSave}
use Rattle.lus_requests.specs.declared.request.Reply.{Reply}
use Rattle.lus_requests.specs.declared.request.Reply.TheVariants.{Outputs, Rows, Done, Refused}
use Rattle.lus_devices.specs.Journals.{count_text, items_text as row_items_text, listed_rows_text, reply_text, request_text}
use Rattle.lus_asked.specs.Asked.{IsCaller, asked_text, is_unbroken}
use Rattle.lus_lines.specs.Lines.{IsPlain, IsWholeLine}
use Rattle.lus_replay.specs.Replays.{ArePlain, BeginsAsked, BeginsJournal, Counted, CutShort, IsReadable, Item, Said, Told, cut_mark, item_text, said_line}
use Rattle.lus_replay.proofs.Plain.{decimal_all, decimal_plain, decimal_some, reply_plain, request_plain}
use Rattle.lus_replay.proofs.Splits.{first_is, first_stays, plain_append, same_before}

-- ---- first bytes

digit_glyphs : (d : ℕ) → d < 10 → is_ascii_digit (digit_glyph false d) ≡ true
digit_glyphs d small = agree_below_at (λ e. is_ascii_digit (digit_glyph false e)) (λ e. true) 10 d refl small

first_of : (bs : Text) → list_all is_ascii_digit bs ≡ true → 0 < length bs → first_is is_ascii_digit bs ≡ true
first_of [] all some = absurd (omega arith)
first_of (b ∷ bs) all some = (and_parts (is_ascii_digit b) (list_all is_ascii_digit bs) all).0

-- an entry's line begins with a digit
asked_first : (names : Names) (caller : Text) (n : ℕ) (r : Request) (line : Text) → BeginsAsked names caller n r line → first_is is_ascii_digit line ≡ true
asked_first names caller n r line asked =
    let number : first_is is_ascii_digit (decimal n) ≡ true = first_of (decimal n) (decimal_all is_ascii_digit digit_glyphs n) (decimal_some n) in
    let a = decimal n ++ codes " " in
    let b = a ++ caller in
    let c = b ++ codes " " in
    let d = c ++ request_text names r in
    let begins : first_is is_ascii_digit (asked_text names caller n r) ≡ true =
    first_stays is_ascii_digit d (codes " -> ")
    (first_stays is_ascii_digit c (request_text names r)
    (first_stays is_ascii_digit b (codes " ") (first_stays is_ascii_digit a caller (first_stays is_ascii_digit (decimal n) (codes " ") number)))) in
    ap (first_is is_ascii_digit) asked.1 ∙ first_stays is_ascii_digit (asked_text names caller n r) asked.0 begins

-- it begins as that of its request
pub said_asked : (names : Names) (n : ℕ) (s : Said) → BeginsAsked names s.caller n s.request (said_line names n s)
said_asked names n s = (reply_text names s.reply ++ codes "\n", append_assoc (asked_text names s.caller n s.request) (reply_text names s.reply) (codes "\n"))

pub asked_no_journal : (names : Names) (caller : Text) (n : ℕ) (r : Request) (line : Text) → BeginsAsked names caller n r line → BeginsJournal line → ⊥
asked_no_journal names caller n r line asked begins =
    true≢false (sym (asked_first names caller n r line asked) ∙ ap (first_is is_ascii_digit) begins.1)

pub asked_no_count : (names : Names) (caller : Text) (n : ℕ) (r : Request) (k : ℕ) (line : Text) → BeginsAsked names caller n r line → line ≡ count_text k → ⊥
asked_no_count names caller n r k line asked is = true≢false (sym (asked_first names caller n r line asked) ∙ ap (first_is is_ascii_digit) is)

pub count_no_journal : (k : ℕ) (line : Text) → line ≡ count_text k → BeginsJournal line → ⊥
count_no_journal k line is begins = true≢false (sym (ap (first_is (λ b. b == 101)) is) ∙ ap (first_is (λ b. b == 101)) begins.1)

-- ---- ends

-- a text that ends like a mark does so with its last letter
by_last : (front reply tail : Text) (b : ℕ) → (front ++ (reply ++ b ∷ [])) ++ codes "\n" ≡ tail ++ cut_mark → b ≡ 116
by_last front reply tail b same =
    same_before (front ++ reply) (tail ++ codes "# cut shor") (10 ∷ []) b 116
    (sym (append_assoc (front ++ reply) (b ∷ []) (10 ∷ [])) ∙ ap (λ t. t ++ codes "\n") (append_assoc front reply (b ∷ [])) ∙ same
    ∙ sym (append_assoc tail (codes "# cut shor") (116 ∷ 10 ∷ [])))

-- and with the letter before it
by_two : (front reply tail : Text) (b : ℕ) → (front ++ (reply ++ b ∷ 116 ∷ [])) ++ codes "\n" ≡ tail ++ cut_mark → b ≡ 114
by_two front reply tail b same =
    same_before (front ++ reply) (tail ++ codes "# cut sho") (116 ∷ 10 ∷ []) b 114
    (sym (append_assoc (front ++ reply) (b ∷ 116 ∷ []) (10 ∷ [])) ∙ ap (λ t. t ++ codes "\n") (append_assoc front reply (b ∷ 116 ∷ [])) ∙ same
    ∙ sym (append_assoc tail (codes "# cut sho") (114 ∷ 116 ∷ 10 ∷ [])))

apart : (b c : ℕ) → (b == c) ≡ false → b ≡ c → ⊥
apart b c other same = true≢false (sym (eq-eqb b c same) ∙ other)

-- no reply ends like a mark
reply_no_cut : (names : Names) (a : Reply) (front tail : Text) → (front ++ reply_text names a) ++ codes "\n" ≡ tail ++ cut_mark → ⊥
reply_no_cut names (Outputs row) front tail same = apart 41 116 refl (by_last front (codes "(" ++ row_items_text names row) tail 41 same)
reply_no_cut names (Rows rows) front tail same = apart 41 116 refl (by_last front (codes "(" ++ listed_rows_text names rows) tail 41 same)
reply_no_cut names Done front tail same = apart 101 116 refl (by_last front (codes "don") tail 101 same)
reply_no_cut names (Refused Shape) front tail same = apart 101 116 refl (by_last front (codes "refused shap") tail 101 same)
reply_no_cut names (Refused Presence) front tail same = apart 101 116 refl (by_last front (codes "refused presenc") tail 101 same)
reply_no_cut names (Refused Fault) front tail same = apart 108 114 refl (by_two front (codes "refused fau") tail 108 same)
reply_no_cut names (Refused NoSave) front tail same = apart 101 116 refl (by_last front (codes "refused nosav") tail 101 same)

pub said_no_cut : (names : Names) (n : ℕ) (s : Said) (tail : Text) → said_line names n s ≡ tail ++ cut_mark → ⊥
said_no_cut names n s tail same = reply_no_cut names s.reply (asked_text names s.caller n s.request) tail same

-- a number of entries has no `#`
abbrev is_no_mark : ℕ → Bool
is_no_mark b = not (b == 35)

count_no_mark : (k : ℕ) → list_all is_no_mark (count_text k) ≡ true
count_no_mark k =
    let number : list_all is_no_mark (decimal k) ≡ true =
    decimal_all is_no_mark (λ d small. agree_below_at (λ e. is_no_mark (digit_glyph false e)) (λ e. true) 10 d refl small) k in
    list_all-append is_no_mark (codes "entries " ++ decimal k) (codes "\n")
    ∙ ap (λ t. t && true) (list_all-append is_no_mark (codes "entries ") (decimal k) ∙ ap (λ t. true && t) number)

pub count_no_cut : (k : ℕ) (tail : Text) → count_text k ≡ tail ++ cut_mark → ⊥
count_no_cut k tail same =
    let all : (list_all is_no_mark tail && list_all is_no_mark cut_mark) ≡ true =
    sym (list_all-append is_no_mark tail cut_mark) ∙ ap (list_all is_no_mark) (sym same) ∙ count_no_mark k in
    true≢false (sym (and_parts (list_all is_no_mark tail) (list_all is_no_mark cut_mark) all).1)

-- ---- lines

unbroken_plain : (bs : Text) → list_all is_unbroken bs ≡ true → IsPlain bs
unbroken_plain [] all = refl
unbroken_plain (b ∷ bs) all =
    let parts = and_parts (is_unbroken b) (list_all is_unbroken bs) all in
    let here = (and_parts (not (b == 32)) (not (b == 10)) parts.0).1 in
    ap₂ (λ x y. x && y) here (unbroken_plain bs parts.1)

module _ (names : Names) (named : ArePlain names) where
  asked_plain : (caller : Text) (n : ℕ) (r : Request) → IsCaller caller → IsPlain (asked_text names caller n r)
  asked_plain caller n r is =
      let a = decimal n ++ codes " " in
      let b = a ++ caller in
      let c = b ++ codes " " in
      let d = c ++ request_text names r in
      plain_append d (codes " -> ")
      (plain_append c (request_text names r)
      (plain_append b (codes " ")
      (plain_append a caller (plain_append (decimal n) (codes " ") (decimal_plain n) refl) (unbroken_plain caller is.one_word)) refl)
      (request_plain names named r)) refl

  -- what can be read back is a line
  pub item_whole : (k : ℕ) (i : Item) → IsReadable names i → IsWholeLine (item_text names k i)
  item_whole k (Told s) readable = record {
    bytes = asked_text names s.caller (k + 1) s.request ++ reply_text names s.reply;
    ended = refl;
    plain = plain_append (asked_text names s.caller (k + 1) s.request) (reply_text names s.reply) (asked_plain s.caller (k + 1) s.request readable.0)
        (reply_plain names named s.reply);
  }
  item_whole k Counted readable = record {
    bytes = codes "entries " ++ decimal k;
    ended = refl;
    plain = plain_append (codes "entries ") (decimal k) refl (decimal_plain k);
  }
  item_whole k (CutShort t) readable = record {
    bytes = t ++ codes "# cut short";
    ended = sym (append_assoc t (codes "# cut short") (10 ∷ []));
    plain = plain_append t (codes "# cut short") readable refl;
  }
