-- Rows, requests and the lines of entries are read back from their texts.
use Rattle.std.proofs.Common.{◌≡◌, ◌∙◌, ◌++◌, ◌==◌, ◌/◌, ◌%◌, ◌+◌, ◌<◌, ◌^◌, ℕ, zero, suc, refl, ap, Bool, true, false, not, List, [], ◌∷◌, length, take, drop, Option, Some, None, option_map, codes, append_assoc, inl, inr, if◌then◌else◌, arith}
use Rattle.std.specs.Prelude.{option_and_then}
use Rattle.std.specs.Fmt.{decimal, digit_glyph, digits, digits_onto}
use Rattle.std.specs.List.{list_all, prefix_len}
use Rattle.std.proofs.Math.Seq.{take-append_seam, drop-append_seam}
use Rattle.std.proofs.lemmas.Bool.{agree_below_at, and_from, and_parts, cond_both}
use Rattle.std.proofs.lemmas.Option.{same_Some}
use Rattle.lus_values.specs.Lists.{Each}
use Rattle.lus_values.specs.Names.{Text, Names}
use Rattle.lus_values.specs.Text.{text_of}
use Rattle.lus_values.specs.Values.{Value, struct, Fields, Row}
use Rattle.lus_requests.specs.declared.request.Request.{Request}
use Rattle.lus_requests.specs.declared.request.Request.TheVariants.{Step, Reset, Save, Restore, Burst}
use Rattle.lus_devices.specs.Journals.{item_text, items_text, listed_rows_text, request_text, row_text}
use Rattle.lus_asked.specs.Asked.{IsCaller, IsItemTold, IsRowTold, IsSpelled, IsTold, asked_text, is_unbroken, most_levels}
use Rattle.lus_asked.specs.Reading.{after, arrow_behind, ascii, asked_at, blank_place, call_at, call_by, first_as, inner_row_at, is_absent, is_no_blank, item_at, item_by, list_at, number_below, other_at, other_by, parted, past_word, request_at, request_by, row_at, rows_at, slot_at, split_blank, value_at, with_rest, word_len, word_of}
use Rattle.lus_asked.proofs.Pieces.{IsBehind, after_front, after_other, ascii_is, past_is, word_is}
use Rattle.lus_asked.proofs.Numbers.{decimal_digits, digits_ascii, digits_inside, number_is}
use Rattle.lus_asked.proofs.Lists.{ReadsBack, list_back, list_text}
use Rattle.lus_asked.proofs.Values.{all_weaker, value_apart, value_back, word_or}

-- ---- items

struct_absent : (names : Names) (fs : Fields) (rest : Text) → is_absent (word_of (text_of names (struct fs) ++ rest)) ≡ false
unfolding word_len
struct_absent names fs rest = refl

present : (names : Names) (v : Value) → IsTold most_levels names v → (rest : Text) → IsBehind rest → is_absent (word_of (text_of names v ++ rest)) ≡ false
present names v told rest behind = elim (word_or most_levels names v told) [
  | inl w ↦ ap is_absent (word_is (text_of names v) rest w.inside behind) ∙ w.no_dash
  | inr s ↦ ap (λ (u : Value). is_absent (word_of (text_of names u ++ rest))) s.1 ∙ struct_absent names s.0 rest
]

item_back : (names : Names) (item : Option Value) (rest : Text) → IsItemTold names item → IsBehind rest → item_at names (item_text names item ++ rest) ≡ Some (item, rest)
unfolding item_at
item_back names None rest told behind =
    let text : Text = codes "-" ++ rest in
    ap (λ (w : Text). item_by (is_absent w) (past_word text) (value_at most_levels names text)) (word_is (codes "-") rest refl behind)
    ∙ ap (λ (r : Text). item_by true r (value_at most_levels names text)) (past_is (codes "-") rest refl behind)
item_back names (Some v) rest told behind =
    let text : Text = text_of names v ++ rest in
    ap (λ (t : Bool). item_by t (past_word text) (value_at most_levels names text)) (present names v told rest behind)
    ∙ ap (λ (o : Option (Value × Text)). item_by false (past_word text) o) (value_back most_levels names v told rest behind)

item_apart : (names : Names) (item : Option Value) (rest : Text) → IsItemTold names item → after (codes ")") (item_text names item ++ rest) ≡ None
item_apart names None rest told = after_other 41 45 [] rest refl
item_apart names (Some v) rest told = value_apart 41 refl refl most_levels names v told rest

items_are : (names : Names) (row : Row) → items_text names row ≡ list_text (item_text names) (codes ", ") row
items_are names [] = refl
items_are names (item ∷ items) = refl

-- ---- rows

row_back : (names : Names) (row : Row) (rest : Text) → IsRowTold names row → inner_row_at names (items_text names row ++ (codes ")" ++ rest)) ≡ Some (row, rest)
unfolding inner_row_at
row_back names row rest told =
    let reads : ReadsBack (Option Value) (item_at names) (item_text names) (IsItemTold names) 41 = record {
      back = λ item later is behind. item_back names item later is behind;
      apart = λ item later is. item_apart names item later is;
    } in
    ap (λ (t : Text). list_at (item_at names) (codes ")") (codes ", ") (t ++ (codes ")" ++ rest))) (items_are names row)
    ∙ list_back (Option Value) (item_at names) (item_text names) (IsItemTold names) 41 44 (32 ∷ []) reads refl refl refl row rest told

closed_row : (names : Names) (row : Row) (rest : Text) → IsRowTold names row → inner_row_at names ((items_text names row ++ codes ")") ++ rest) ≡ Some (row, rest)
closed_row names row rest told = ap (inner_row_at names) (append_assoc (items_text names row) (codes ")") rest) ∙ row_back names row rest told

whole_row : (names : Names) (row : Row) (rest : Text) → IsRowTold names row → row_at names (row_text names row ++ rest) ≡ Some (row, rest)
unfolding row_at
whole_row names row rest told =
    ap (option_and_then (inner_row_at names)) (after_front (codes "(") ((items_text names row ++ codes ")") ++ rest)) ∙ closed_row names row rest told

listed_are : (names : Names) (rows : List Row) → listed_rows_text names rows ≡ list_text (row_text names) (codes ", ") rows
listed_are names [] = refl
listed_are names (row ∷ rows) = refl

rows_back : (names : Names) (rows : List Row) (rest : Text) → Each (IsRowTold names) rows → rows_at names ((listed_rows_text names rows ++ codes ")") ++ rest) ≡ Some (rows, rest)
unfolding rows_at
rows_back names rows rest told =
    let reads : ReadsBack Row (row_at names) (row_text names) (IsRowTold names) 41 = record {
      back = λ row later is behind. whole_row names row later is;
      apart = λ row later is. after_other 41 40 [] ((items_text names row ++ codes ")") ++ later) refl;
    } in
    ap (list_at (row_at names) (codes ")") (codes ", ")) (append_assoc (listed_rows_text names rows) (codes ")") rest ∙ ap (λ (t : Text). t ++ (codes ")" ++ rest)) (listed_are names rows))
    ∙ list_back Row (row_at names) (row_text names) (IsRowTold names) 41 44 (32 ∷ []) reads refl refl refl rows rest told

-- ---- requests

slot_back : (n : ℕ) (rest : Text) → n < 2 ^ 64 → IsBehind rest → slot_at (decimal n ++ rest) ≡ Some (n, rest)
unfolding slot_at
slot_back n rest fits behind =
    let digits = decimal_digits n fits in
    let inside = digits_inside (decimal n) digits in
    let text : Text = decimal n ++ rest in
    ap (λ (w : Text). with_rest (past_word text) (option_and_then (number_below (2 ^ 64)) (ascii w))) (word_is (decimal n) rest inside behind)
    ∙ ap (λ (o : Option Text). with_rest (past_word text) (option_and_then (number_below (2 ^ 64)) o)) (ascii_is (decimal n) (digits_ascii (decimal n) digits))
    ∙ ap (with_rest (past_word text)) (number_is (2 ^ 64) n fits fits)
    ∙ ap (λ (r : Text). with_rest r (Some n)) (past_is (decimal n) rest inside behind)

-- two words that begin alike
not_save : (text : Text) → after (codes "step(") (codes "save " ++ text) ≡ None
unfolding after
not_save text = refl

not_reset : (text : Text) → after (codes "reset") (codes "restore " ++ text) ≡ None
unfolding after
not_reset text = refl

pub request_back : (names : Names) (r : Request) (rest : Text) → IsSpelled names r → IsBehind rest → request_at names (request_text names r ++ rest) ≡ Some (r, rest)
unfolding request_at other_at
request_back names (Step row) rest told behind =
    let text : Text = request_text names (Step row) ++ rest in
    let inner : Text = (items_text names row ++ codes ")") ++ rest in
    ap (λ (o : Option Text). request_by names o (after (codes "burst(") text) (other_by (after (codes "reset") text) (after (codes "save ") text) (after (codes "restore ") text))) (after_front (codes "step(") inner)
    ∙ ap (first_as Step) (closed_row names row rest told)
request_back names (Burst rows) rest told behind =
    let text : Text = request_text names (Burst rows) ++ rest in
    let inner : Text = (listed_rows_text names rows ++ codes ")") ++ rest in
    let other = other_by (after (codes "reset") text) (after (codes "save ") text) (after (codes "restore ") text) in
    ap (λ (o : Option Text). request_by names o (after (codes "burst(") text) other) (after_other 115 98 (codes "tep(") (codes "urst(" ++ inner) refl)
    ∙ ap (λ (o : Option Text). request_by names None o other) (after_front (codes "burst(") inner)
    ∙ ap (first_as Burst) (rows_back names rows rest told)
request_back names Reset rest told behind =
    let text : Text = codes "reset" ++ rest in
    let other = other_by (after (codes "reset") text) (after (codes "save ") text) (after (codes "restore ") text) in
    ap (λ (o : Option Text). request_by names o (after (codes "burst(") text) other) (after_other 115 114 (codes "tep(") (codes "eset" ++ rest) refl)
    ∙ ap (λ (o : Option Text). request_by names None o other) (after_other 98 114 (codes "urst(") (codes "eset" ++ rest) refl)
    ∙ ap (λ (o : Option Text). other_by o (after (codes "save ") text) (after (codes "restore ") text)) (after_front (codes "reset") rest)
request_back names (Save slot) rest told behind =
    let text : Text = codes "save " ++ (decimal slot ++ rest) in
    let other = other_by (after (codes "reset") text) (after (codes "save ") text) (after (codes "restore ") text) in
    ap (λ (o : Option Text). request_by names o (after (codes "burst(") text) other) (not_save (decimal slot ++ rest))
    ∙ ap (λ (o : Option Text). request_by names None o other) (after_other 98 115 (codes "urst(") (codes "ave " ++ (decimal slot ++ rest)) refl)
    ∙ ap (λ (o : Option Text). other_by o (after (codes "save ") text) (after (codes "restore ") text)) (after_other 114 115 (codes "eset") (codes "ave " ++ (decimal slot ++ rest)) refl)
    ∙ ap (λ (o : Option Text). other_by None o (after (codes "restore ") text)) (after_front (codes "save ") (decimal slot ++ rest))
    ∙ ap (first_as Save) (slot_back slot rest told behind)
request_back names (Restore slot) rest told behind =
    let text : Text = codes "restore " ++ (decimal slot ++ rest) in
    let other = other_by (after (codes "reset") text) (after (codes "save ") text) (after (codes "restore ") text) in
    ap (λ (o : Option Text). request_by names o (after (codes "burst(") text) other) (after_other 115 114 (codes "tep(") (codes "estore " ++ (decimal slot ++ rest)) refl)
    ∙ ap (λ (o : Option Text). request_by names None o other) (after_other 98 114 (codes "urst(") (codes "estore " ++ (decimal slot ++ rest)) refl)
    ∙ ap (λ (o : Option Text). other_by o (after (codes "save ") text) (after (codes "restore ") text)) (not_reset (decimal slot ++ rest))
    ∙ ap (λ (o : Option Text). other_by None o (after (codes "restore ") text)) (after_other 115 114 (codes "ave ") (codes "estore " ++ (decimal slot ++ rest)) refl)
    ∙ ap (λ (o : Option Text). other_by None None o) (after_front (codes "restore ") (decimal slot ++ rest))
    ∙ ap (first_as Restore) (slot_back slot rest told behind)

-- ---- lines

glyph_no_blank : (d : ℕ) → d < 10 → is_no_blank (digit_glyph false d) ≡ true
glyph_no_blank d small = agree_below_at (λ b. is_no_blank (digit_glyph false b)) (λ b. true) 10 d refl small

digits_no_blank : (k n : ℕ) (acc : Text) → list_all is_no_blank acc ≡ true → list_all is_no_blank (digits_onto k 10 false n acc) ≡ true
digits_no_blank zero n acc all = all
digits_no_blank (suc k) n acc all =
    let g : ℕ = digit_glyph false (n % 10) in
    let more : list_all is_no_blank (g ∷ acc) ≡ true = and_from (is_no_blank g) (list_all is_no_blank acc) (glyph_no_blank (n % 10) (omega arith)) all in
    cond_both (n / 10 == 0) (g ∷ acc) (digits_onto k 10 false (n / 10) (g ∷ acc)) (λ (t : Text). list_all is_no_blank t ≡ true) (λ e. more) (λ e. digits_no_blank k (n / 10) (g ∷ acc) more)

decimal_no_blank : (n : ℕ) → list_all is_no_blank (decimal n) ≡ true
unfolding digits
decimal_no_blank n = digits_no_blank 64 n [] refl

blank_place_is : (front later : Text) → list_all is_no_blank front ≡ true → blank_place (front ++ (32 ∷ later)) ≡ length front
unfolding blank_place
blank_place_is [] later all = refl
blank_place_is (b ∷ bs) later all =
    let parts = and_parts (is_no_blank b) (list_all is_no_blank bs) all in
    let more : prefix_len is_no_blank (bs ++ (32 ∷ later)) ≡ length bs = blank_place_is bs later parts.1 in
    let one : (1 + prefix_len is_no_blank (bs ++ (32 ∷ later))) ≡ suc (length bs) = omega (arith, more) in
    ap (λ (t : Bool). if t then 1 + prefix_len is_no_blank (bs ++ (32 ∷ later)) else 0) parts.0 ∙ one

split_blank_is : (front later : Text) → list_all is_no_blank front ≡ true → split_blank (front ++ (32 ∷ later)) ≡ Some (front, later)
unfolding split_blank
split_blank_is front later all =
    let text : Text = front ++ (32 ∷ later) in
    ap (λ (n : ℕ). parted (take n text) (drop n text)) (blank_place_is front later all)
    ∙ ap (λ (t : Text). parted t (drop (length front) text)) (take-append_seam front (32 ∷ later))
    ∙ ap (parted front) (drop-append_seam front (32 ∷ later))

unbroken_no_blank : (b : ℕ) → is_unbroken b ≡ true → is_no_blank b ≡ true
unbroken_no_blank b is = (and_parts (not (b == 32)) (not (b == 10)) is).0

regroup : (a b c d e f g : Text) → (((((a ++ b) ++ c) ++ d) ++ e) ++ f) ++ g ≡ a ++ (b ++ (c ++ (d ++ (e ++ (f ++ g)))))
regroup a b c d e f g = simp append_assoc

-- a line's caller and request are read back, whatever stands behind the arrow
pub asked_back : (names : Names) (caller : Text) (n : ℕ) (r : Request) (given : Text) → IsCaller caller → IsSpelled names r
    → asked_at names (asked_text names caller n r ++ given) ≡ Some (caller, r)
unfolding asked_at
asked_back names caller n r given is spelled =
    let arrow : Text = codes " -> " ++ given in
    let call : Text = request_text names r ++ arrow in
    let later : Text = caller ++ (32 ∷ call) in
    let text : Text = decimal n ++ (32 ∷ later) in
    let one : list_all is_no_blank caller ≡ true = all_weaker is_unbroken is_no_blank unbroken_no_blank caller is.one_word in
    ap (λ (t : Text). option_and_then (λ (p : Text × Text). option_and_then (call_at names) (split_blank p.1)) (split_blank t))
    (regroup (decimal n) (codes " ") caller (codes " ") (request_text names r) (codes " -> ") given)
    ∙ ap (option_and_then (λ (p : Text × Text). option_and_then (call_at names) (split_blank p.1))) (split_blank_is (decimal n) later (decimal_no_blank n))
    ∙ ap (option_and_then (call_at names)) (split_blank_is caller call one)
    ∙ ap (λ (o : Option (Request × Text)). call_by caller (arrow_behind o)) (request_back names r arrow spelled refl)
    ∙ ap (λ (o : Option Text). call_by caller (option_map (λ (rest : Text). r) o)) (after_front (codes " -> ") given)

-- ---- what the code gives

-- nothing is read where nothing is spelled
pub none_read : (names : Names) (caller : Text) (n : ℕ) (r : Request) (line given : Text) → IsCaller caller → IsSpelled names r
    → line ≡ asked_text names caller n r ++ given → None ≡ asked_at names line → ⊥
none_read names caller n r line given is spelled text none =
    let back : asked_at names line ≡ Some (caller, r) = ap (asked_at names) text ∙ asked_back names caller n r given is spelled in
    cc

pub both_read : (names : Names) (caller : Text) (n : ℕ) (r : Request) (line given c : Text) (q : Request) → IsCaller caller → IsSpelled names r
    → line ≡ asked_text names caller n r ++ given → Some (c, q) ≡ asked_at names line → (c ≡ caller) × (q ≡ r)
both_read names caller n r line given c q is spelled text some =
    let back : asked_at names line ≡ Some (caller, r) = ap (asked_at names) text ∙ asked_back names caller n r given is spelled in
    let same : Some (c, q) ≡ Some (caller, r) = some ∙ back in
    let pair : (c, q) ≡ (caller, r) = same_Some _ _ same in
    (ap (λ (p : Text × Request). p.0) pair, ap (λ (p : Text × Request). p.1) pair)
