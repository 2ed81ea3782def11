-- Texts without line feeds, and what bytes the texts of numbers have.
use Rattle.std.proofs.Common.{◌≡◌, ◌==◌, ◌/◌, ◌%◌, ◌++◌, ◌<◌, ℕ, zero, suc, pos, negsuc, Bool, true, false, not, refl, List, [], ◌∷◌, length, flat_map, Option, Some, None, arith, codes}
use Rattle.std.specs.Prelude.{unwrap_or}
use Rattle.std.specs.Fmt.{decimal, digit_glyph, digits, digits_onto}
use Rattle.std.specs.List.{list_all}
use Rattle.std.proofs.lemmas.Bool.{agree_below_at, and_from, cond_both}
use Rattle.lus_values.specs.Names.{Text, Names, name_of}
use Rattle.lus_values.specs.Text.{text_of, fields_text}
use Rattle.lus_values.specs.Values.{Value, bool, int, enum, struct, nil, Fields, end, field, Row}
use Rattle.lus_requests.specs.declared.request.Request.{Request}
use Rattle.lus_requests.specs.declared.request.Request.TheVariants.{Step, Reset, Save, Restore, Burst}
use Rattle.lus_requests.specs.declared.request.Why.TheVariants.{Shape, Presence, Fault, NoSave}
use Rattle.lus_requests.specs.declared.request.Reply.{Reply}
use Rattle.lus_requests.specs.declared.request.Reply.TheVariants.{Outputs, Rows, Done, Refused}
use Rattle.lus_devices.specs.Journals.{item_text, items_text as row_items_text, later_item_text, later_row_text, listed_rows_text, reply_text, request_text, row_text, rows_text}
use Rattle.lus_lines.specs.Lines.{IsPlain}
use Rattle.lus_replay.specs.Replays.{ArePlain}
use Rattle.lus_replay.proofs.Splits.{plain_append}

-- ---- numbers

-- what holds of each digit holds of each byte of a number's text
digits_all : (test : ℕ → Bool) → ((d : ℕ) → d < 10 → test (digit_glyph false d) ≡ true) → (k n : ℕ) (acc : Text) → list_all test acc ≡ true
    → list_all test (digits_onto k 10 false n acc) ≡ true
digits_all test each zero n acc all = all
digits_all test each (suc k) n acc all =
    let g : ℕ = digit_glyph false (n % 10) in
    let more : list_all test (g ∷ acc) ≡ true = and_from (test g) (list_all test acc) (each (n % 10) (omega arith)) all in
    cond_both (n / 10 == 0) (g ∷ acc) (digits_onto k 10 false (n / 10) (g ∷ acc)) (λ (t : Text). list_all test t ≡ true) (λ e. more)
    (λ e. digits_all test each k (n / 10) (g ∷ acc) more)

pub decimal_all : (test : ℕ → Bool) → ((d : ℕ) → d < 10 → test (digit_glyph false d) ≡ true) → (n : ℕ) → list_all test (decimal n) ≡ true
unfolding digits
decimal_all test each n = digits_all test each 64 n [] refl

digits_some : (k n : ℕ) (acc : Text) → 0 < length acc → 0 < length (digits_onto k 10 false n acc)
digits_some zero n acc some = some
digits_some (suc k) n acc some =
    let g : ℕ = digit_glyph false (n % 10) in
    let more : 0 < length (g ∷ acc) = omega arith in
    cond_both (n / 10 == 0) (g ∷ acc) (digits_onto k 10 false (n / 10) (g ∷ acc)) (λ (t : Text). 0 < length t) (λ e. more)
    (λ e. digits_some k (n / 10) (g ∷ acc) more)

pub decimal_some : (n : ℕ) → 0 < length (decimal n)
unfolding digits
decimal_some n =
    let g : ℕ = digit_glyph false (n % 10) in
    let one : 0 < length (g ∷ []) = omega arith in
    cond_both (n / 10 == 0) (g ∷ []) (digits_onto 63 10 false (n / 10) (g ∷ [])) (λ (t : Text). 0 < length t) (λ e. one)
    (λ e. digits_some 63 (n / 10) (g ∷ []) one)

pub decimal_plain : (n : ℕ) → IsPlain (decimal n)
decimal_plain n = decimal_all (λ b. not (b == 10)) (λ d small. agree_below_at (λ e. not (digit_glyph false e == 10)) (λ e. true) 10 d refl small) n

-- ---- values

named_plain : (o : Option Text) → ((name : Text) → o ≡ Some name → IsPlain name) → IsPlain (unwrap_or o (codes "?"))
named_plain None plain = refl
named_plain (Some name) plain = plain name refl

module _ (names : Names) (named : ArePlain names) where
  mutual
    value_plain : (v : Value) → IsPlain (text_of names v)
    value_plain (bool true) = refl
    value_plain (bool false) = refl
    value_plain (int (pos n)) = decimal_plain n
    value_plain (int (negsuc n)) = plain_append (45 ∷ []) (decimal (suc n)) refl (decimal_plain (suc n))
    value_plain (enum t c) = named_plain (name_of names t c) (named t c)
    value_plain (struct fs) =
        plain_append (codes "{" ++ fields_text names [] fs) (codes "}") (plain_append (codes "{") (fields_text names [] fs) refl (fields_plain [] refl fs)) refl
    value_plain nil = refl

    fields_plain : (before : Text) → IsPlain before → (fs : Fields) → IsPlain (fields_text names before fs)
    fields_plain before plain end = refl
    fields_plain before plain (field v fs) =
        plain_append (before ++ text_of names v) (fields_text names (codes "; ") fs) (plain_append before (text_of names v) plain (value_plain v))
        (fields_plain (codes "; ") refl fs)

  -- ---- rows

  flat_plain : {X : Type 0} (f : X → Text) → ((x : X) → IsPlain (f x)) → (xs : List X) → IsPlain (flat_map f xs)
  flat_plain f each [] = refl
  flat_plain f each (x ∷ xs) = plain_append (f x) (flat_map f xs) (each x) (flat_plain f each xs)

  item_plain : (o : Option Value) → IsPlain (item_text names o)
  item_plain None = refl
  item_plain (Some v) = value_plain v

  items_plain : (row : Row) → IsPlain (row_items_text names row)
  items_plain [] = refl
  items_plain (first ∷ later) =
      plain_append (item_text names first) (flat_map (later_item_text names) later) (item_plain first)
      (flat_plain (later_item_text names) (λ o. plain_append (codes ", ") (item_text names o) refl (item_plain o)) later)

  row_plain : (row : Row) → IsPlain (row_text names row)
  row_plain row =
      plain_append (codes "(" ++ row_items_text names row) (codes ")") (plain_append (codes "(") (row_items_text names row) refl (items_plain row)) refl

  listed_plain : (rows : List Row) → IsPlain (listed_rows_text names rows)
  listed_plain [] = refl
  listed_plain (first ∷ later) =
      plain_append (row_text names first) (flat_map (later_row_text names) later) (row_plain first)
      (flat_plain (later_row_text names) (λ row. plain_append (codes ", ") (row_text names row) refl (row_plain row)) later)

  rows_plain : (rows : List Row) → IsPlain (rows_text names rows)
  rows_plain rows =
      plain_append (codes "(" ++ listed_rows_text names rows) (codes ")") (plain_append (codes "(") (listed_rows_text names rows) refl (listed_plain rows)) refl

  -- ---- requests and replies

  pub request_plain : (r : Request) → IsPlain (request_text names r)
  request_plain (Step inputs) = plain_append (codes "step") (row_text names inputs) refl (row_plain inputs)
  request_plain Reset = refl
  request_plain (Save slot) = plain_append (codes "save ") (decimal slot) refl (decimal_plain slot)
  request_plain (Restore slot) = plain_append (codes "restore ") (decimal slot) refl (decimal_plain slot)
  request_plain (Burst rows) = plain_append (codes "burst") (rows_text names rows) refl (rows_plain rows)

  pub reply_plain : (a : Reply) → IsPlain (reply_text names a)
  reply_plain (Outputs row) = row_plain row
  reply_plain (Rows rows) = rows_plain rows
  reply_plain Done = refl
  reply_plain (Refused Shape) = refl
  reply_plain (Refused Presence) = refl
  reply_plain (Refused Fault) = refl
  reply_plain (Refused NoSave) = refl
