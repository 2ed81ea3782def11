-- Nothing that is printed is hidden.
use lib.Utf8.{scalar, scalars}
use Rattle.std.proofs.Common.{append-nil, ◌≡◌, ◌∙◌, ◌++◌, ◌/◌, ◌%◌, ◌<◌, ℕ, suc, zero, Bool, true, false, ap, ap₂, refl, sym, List, [], ◌∷◌, arith, codes, cond, flat_map, nat_eq, ◌&&◌}
use Rattle.std.proofs.lemmas.Bool.Decides.{nat_tests}
use Rattle.std.proofs.lemmas.List.Folds.{list_all-append}
use Rattle.std.proofs.lemmas.Str.{IsUtf8-encode, IsUtf8-from_ascii, chars-IsAscii, chars-append, chars-nil, chars_past_char, scalars-chars}
use Rattle.std.proofs.lemmas.Str.Ascii.{IsAscii-cons, IsAscii-nil}
use Rattle.std.specs.Char.{IsScalar}
use Rattle.std.specs.Fmt.{digit_glyph, digits, digits_onto}
use Rattle.std.specs.List.{list_all}
use Rattle.std.specs.Prelude.{encode_utf8, not, nat_le, nat_lt, IsUtf8}
use Rattle.std.specs.Str.{IsAscii, chars}
use Rattle.lus_printable.specs.Printable.{is_hidden, is_seen, shown}

-- a character of ASCII that is seen, or a blank
abbrev is_plain : ℕ → Bool
is_plain b = nat_le 32 b && nat_lt b 127

plain_seen : (b : ℕ) → is_plain b ≡ true → is_seen b ≡ true
plain_seen b h = grind (arith, nat_tests)

plain_ascii : (b : ℕ) → is_plain b ≡ true → b < 128
plain_ascii b h = grind (arith, nat_tests)

both : (a b : Bool) → (a && b) ≡ true → (a ≡ true) × (b ≡ true)
both true b h = (refl, h)
both false b h = absurd (cc)

and_both : (a b : Bool) → a ≡ true → b ≡ true → (a && b) ≡ true
and_both a b first second = ap₂ (λ x y. x && y) first second

all_seen : (bs : List ℕ) → list_all is_plain bs ≡ true → list_all is_seen bs ≡ true
all_seen [] h = refl
all_seen (b ∷ bs) h = let parts = both (is_plain b) (list_all is_plain bs) h in and_both _ _ (plain_seen b parts.0) (all_seen bs parts.1)

all_ascii : (bs : List ℕ) → list_all is_plain bs ≡ true → IsAscii bs
all_ascii [] h = IsAscii-nil
all_ascii (b ∷ bs) h = let parts = both (is_plain b) (list_all is_plain bs) h in IsAscii-cons b bs (plain_ascii b parts.0) (all_ascii bs parts.1)

-- ---- digits

glyph_plain : (d : ℕ) → d < 16 → is_plain (digit_glyph false d) ≡ true
glyph_plain d h = grind (arith, nat_tests)

either : (b : Bool) (xs ys : List ℕ) → list_all is_plain xs ≡ true → list_all is_plain ys ≡ true → list_all is_plain (cond b xs ys) ≡ true
either true xs ys first second = first
either false xs ys first second = second

onto_plain : (k n : ℕ) (acc : List ℕ) → list_all is_plain acc ≡ true → list_all is_plain (digits_onto k 16 false n acc) ≡ true
onto_plain zero n acc h = h
onto_plain (suc k) n acc h =
    let more = and_both _ _ (glyph_plain (n % 16) (omega arith)) h in
    either (nat_eq (n / 16) 0) _ _ more (onto_plain k (n / 16) (digit_glyph false (n % 16) ∷ acc) more)

digits_plain : (n : ℕ) → list_all is_plain (digits 16 false n) ≡ true
unfolding digits
digits_plain n = onto_plain 64 n [] refl

number_plain : (c : ℕ) → list_all is_plain (codes "\\u{" ++ digits 16 false c ++ codes "}") ≡ true
number_plain c =
    let front = list_all-append is_plain (codes "\\u{") (digits 16 false c) in
    let all = list_all-append is_plain (codes "\\u{" ++ digits 16 false c) (codes "}") in
    all ∙ and_both _ _ (front ∙ and_both _ _ refl (digits_plain c)) refl

-- ---- characters

abbrev by_number : ℕ → List ℕ
by_number c = codes "\\u{" ++ digits 16 false c ++ codes "}"

one_char : (c : ℕ) → IsScalar c → chars (encode_utf8 c) ≡ c ∷ []
one_char c scalar =
    chars_past_char (encode_utf8 c) [] c (IsUtf8-encode c scalar) (sym (append-nil (encode_utf8 c))) ∙ ap (λ t. c ∷ t) chars-nil

shown_utf8 : (c : ℕ) → IsScalar c → IsUtf8 (shown c)
shown_utf8 c scalar = go (is_hidden c)
  where
    go : (b : Bool) → IsUtf8 (cond b (by_number c) (encode_utf8 c))
    go true = IsUtf8-from_ascii (by_number c) (all_ascii (by_number c) (number_plain c))
    go false = IsUtf8-encode c scalar

shown_seen : (c : ℕ) → IsScalar c → list_all is_seen (chars (shown c)) ≡ true
shown_seen c scalar = go (is_hidden c) refl
  where
    go : (b : Bool) → is_hidden c ≡ b
        → list_all is_seen (chars (cond b (by_number c) (encode_utf8 c))) ≡ true
    go true is =
        let ascii = chars-IsAscii (by_number c) (all_ascii (by_number c) (number_plain c)) in
        ap (list_all is_seen) ascii ∙ all_seen (by_number c) (number_plain c)
    go false is = ap (list_all is_seen) (one_char c scalar) ∙ and_both (is_seen c) true (ap not is) refl

pub shown_all_seen : (cs : List ℕ) → scalars cs ≡ true → list_all is_seen (chars (flat_map shown cs)) ≡ true
shown_all_seen [] h = ap (list_all is_seen) chars-nil
shown_all_seen (c ∷ cs) h =
    let parts = both (scalar c) (scalars cs) h in
    let rest = flat_map shown cs in
    ap (list_all is_seen) (chars-append (shown c) rest (shown_utf8 c parts.0)) ∙ list_all-append is_seen (chars (shown c)) (chars rest)
    ∙ and_both (list_all is_seen (chars (shown c))) (list_all is_seen (chars rest)) (shown_seen c parts.0) (shown_all_seen cs parts.1)

-- what is shown of the characters of a text
pub text_seen : (bs shown_text : List ℕ) → IsUtf8 bs → shown_text ≡ flat_map shown (chars bs) → list_all is_seen (chars shown_text) ≡ true
text_seen bs shown_text utf8 is = ap (λ t. list_all is_seen (chars t)) is ∙ shown_all_seen (chars bs) (scalars-chars bs utf8)
