-- Values are read back from their texts.
use Rattle.std.proofs.Common.{◌≡◌, ◌∙◌, ◌++◌, ◌==◌, ◌&&◌, ◌||◌, ◌+◌, ◌-◌, ◌<◌, ◌≤◌, ◌^◌, ◌⊎◌, inl, inr, ℕ, zero, suc, ℤ, pos, negsuc, refl, ap, sym, Bool, true, false, not, List, [], ◌∷◌, length, Option, Some, None, option_map, codes, append_assoc, if◌then◌else◌, arith}
use Rattle.std.specs.Prelude.{FitsSigned, nat_le, is_some, option_and_then, unwrap_or}
use Rattle.std.specs.Int.{w64, is_in_range}
use Rattle.std.specs.Char.{is_ascii, is_ascii_alphabetic, is_ascii_digit}
use Rattle.std.specs.Fmt.{decimal, signed_decimal}
use Rattle.std.specs.List.{list_all}
use Rattle.std.specs.Str.{all_ascii_digits, bytes_eq}
use Rattle.std.proofs.lemmas.Bool.{agree_below_at, and_cases, and_from, and_parts, eqb-true, leb-true, not-false, not-true, or_cases, or_parts, true≢false}
use Rattle.std.proofs.lemmas.Fmt.{decimal_nonempty}
use Rattle.lus_values.specs.Lists.{Each}
use Rattle.lus_values.specs.Names.{Text, Names, numbers_of}
use Rattle.lus_values.specs.Text.{fields_text, text_of}
use Rattle.lus_values.specs.Values.{Value, bool, int, enum, struct, nil, Fields, end, field, fields_of}
use Rattle.lus_asked.specs.Asked.{AreTold, IsFound, IsTold, begins_identifier, continues_identifier, is_identifier}
use Rattle.lus_asked.specs.Reading.{after, ascii, begins_number, first_as, integer, is_inside, list_at, named, past_word, scalar, scalar_at, value_at, value_by, with_rest}
use Rattle.lus_asked.proofs.Pieces.{IsBehind, after_front, after_other, apart_word, ascii_is, past_is, word_is}
use Rattle.lus_asked.proofs.Numbers.{begins_integer, decimal_digits, digit_no_sign, digits_ascii, digits_inside, integer_is}
use Rattle.lus_asked.proofs.Lists.{ReadsBack, later_text, list_back, list_text}

-- ---- words

-- the text of a value that is one word
pub record IsWordOf (names : Names) (v : Value) (word : Text) : Type 0 where
  pub inside : list_all is_inside word ≡ true
  pub plain : list_all is_ascii word ≡ true
  pub some : 0 < length word
  pub no_dash : bytes_eq word (codes "-") ≡ false
  pub reads : scalar names word ≡ Some v

pub scalar_back : (names : Names) (v : Value) (word rest : Text) → IsWordOf names v word → IsBehind rest → scalar_at names (word ++ rest) ≡ Some (v, rest)
unfolding scalar_at
scalar_back names v word rest is behind =
    let text : Text = word ++ rest in
    ap (λ (w : Text). with_rest (past_word text) (option_and_then (scalar names) (ascii w))) (word_is word rest is.inside behind)
    ∙ ap (λ (o : Option Text). with_rest (past_word text) (option_and_then (scalar names) o)) (ascii_is word is.plain)
    ∙ ap (with_rest (past_word text)) is.reads
    ∙ ap (λ (r : Text). with_rest r (Some v)) (past_is word rest is.inside behind)

bool_word : (names : Names) (b : Bool) → IsWordOf names (bool b) (text_of names (bool b))
unfolding scalar
bool_word names true = record { inside = refl; plain = refl; some = omega arith; no_dash = refl; reads = refl }
bool_word names false = record { inside = refl; plain = refl; some = omega arith; no_dash = refl; reads = refl }

number_reads : (names : Names) (word : Text) (z : ℤ) → begins_number word ≡ true → integer word ≡ Some z → scalar names word ≡ Some (int z)
unfolding scalar
number_reads names word z begins is =
    ap (λ (t : Bool). if t then option_map int (integer word)
    else (if bytes_eq word (codes "true") then Some (bool true) else (if bytes_eq word (codes "false") then Some (bool false) else named (numbers_of names word) word))) begins
    ∙ ap (option_map int) is

digits_no_dash : (ds : Text) → all_ascii_digits ds ≡ true → bytes_eq ds (codes "-") ≡ false
digits_no_dash [] digits = refl
digits_no_dash (b ∷ bs) digits =
    ap (λ (t : Bool). t && bytes_eq bs []) (digit_no_sign b (and_parts (is_ascii_digit b) (all_ascii_digits bs) digits).0)

no_end : (ds : Text) → 0 < length ds → bytes_eq ds [] ≡ false
no_end [] some = absurd (omega arith)
no_end (b ∷ bs) some = refl

int_word : (names : Names) (z : ℤ) → FitsSigned w64 z → IsWordOf names (int z) (text_of names (int z))
int_word names (pos n) fits =
    let less : n < 2 ^ 63 = omega (arith, fits) in
    let small : n < 2 ^ 64 = omega arith in
    let digits = decimal_digits n small in
    record {
      inside = digits_inside (decimal n) digits;
      plain = digits_ascii (decimal n) digits;
      some = decimal_nonempty n small;
      no_dash = digits_no_dash (decimal n) digits;
      reads = number_reads names (decimal n) (pos n) (begins_integer (pos n) fits) (integer_is (pos n) fits);
    }
int_word names (negsuc n) fits =
    let less : suc n < 2 ^ 63 + 1 = omega (arith, fits) in
    let small : suc n < 2 ^ 64 = omega arith in
    let digits = decimal_digits (suc n) small in
    record {
      inside = digits_inside (decimal (suc n)) digits;
      plain = digits_ascii (decimal (suc n)) digits;
      some = omega arith;
      no_dash = no_end (decimal (suc n)) (decimal_nonempty (suc n) small);
      reads = number_reads names (signed_decimal (negsuc n)) (negsuc n) (begins_integer (negsuc n) fits) (integer_is (negsuc n) fits);
    }

-- ---- names of constructors

in_range_most : (lo hi b : ℕ) → (nat_le lo b && nat_le b hi) ≡ true → b ≤ hi
in_range_most lo hi b is = leb-true b hi (and_parts (nat_le lo b) (nat_le b hi) is).1

begins_small : (b : ℕ) → begins_identifier b ≡ true → b < 128
begins_small b is = elim (or_cases (is_ascii_alphabetic b) (b == 95) is) [
  | inl letter ↦ elim (or_cases (is_in_range 65 90 b) (is_in_range 97 122 b) letter) [
    | inl upper ↦ (let most : b ≤ 90 = in_range_most 65 90 b upper in omega arith)
    | inr lower ↦ (let most : b ≤ 122 = in_range_most 97 122 b lower in omega arith)
  ]
  | inr line ↦ (let same : b ≡ 95 = eqb-true b 95 line in omega arith)
]

continues_small : (b : ℕ) → continues_identifier b ≡ true → b < 128
continues_small b is = elim (or_cases (begins_identifier b) (is_ascii_digit b) is) [
  | inl begins ↦ begins_small b begins
  | inr digit ↦ (let most : b ≤ 57 = in_range_most 48 57 b digit in omega arith)
]

-- what holds of each byte that passes a test, by a table
by_table : (p q : ℕ → Bool) (b : ℕ) → b < 128 → ((c : ℕ) → c < 128 → (p c && not (q c)) ≡ false) → p b ≡ true → q b ≡ true
by_table p q b small table is = elim (and_cases (p b) (not (q b)) (table b small)) [
  | inl out ↦ absurd (true≢false (sym is ∙ out))
  | inr stays ↦ not-false (q b) stays
]

continues_inside : (b : ℕ) → continues_identifier b ≡ true → is_inside b ≡ true
continues_inside b is =
    by_table continues_identifier is_inside b (continues_small b is)
    (λ c small. agree_below_at (λ d. continues_identifier d && not (is_inside d)) (λ d. false) 128 c refl small) is

continues_ascii : (b : ℕ) → continues_identifier b ≡ true → is_ascii b ≡ true
continues_ascii b is =
    by_table continues_identifier is_ascii b (continues_small b is)
    (λ c small. agree_below_at (λ d. continues_identifier d && not (is_ascii d)) (λ d. false) 128 c refl small) is

abbrev begins_other : ℕ → Bool
begins_other b = not ((b == 45) || is_ascii_digit b)

begins_no_number : (b : ℕ) → begins_identifier b ≡ true → begins_other b ≡ true
begins_no_number b is =
    by_table begins_identifier begins_other b (begins_small b is)
    (λ c small. agree_below_at (λ d. begins_identifier d && not (begins_other d)) (λ d. false) 128 c refl small) is

weaker : (p q : ℕ → Bool) → ((b : ℕ) → p b ≡ true → q b ≡ true) → (xs : Text) → list_all p xs ≡ true → list_all q xs ≡ true
weaker p q f [] all = refl
weaker p q f (b ∷ bs) all =
    let parts = and_parts (p b) (list_all p bs) all in
    and_from (q b) (list_all q bs) (f b parts.0) (weaker p q f bs parts.1)

pub all_weaker : (p q : ℕ → Bool) → ((b : ℕ) → p b ≡ true → q b ≡ true) → (xs : Text) → list_all p xs ≡ true → list_all q xs ≡ true
all_weaker p q f xs all = weaker p q f xs all

identifier_all : (text : Text) → is_identifier text ≡ true → list_all continues_identifier text ≡ true
identifier_all [] is = absurd (true≢false (sym is))
identifier_all (b ∷ bs) is =
    let parts = and_parts (begins_identifier b) (list_all continues_identifier bs) is in
    and_from (continues_identifier b) (list_all continues_identifier bs) (ap (λ (t : Bool). t || is_ascii_digit b) parts.0) parts.1

identifier_some : (text : Text) → is_identifier text ≡ true → 0 < length text
identifier_some [] is = absurd (true≢false (sym is))
identifier_some (b ∷ bs) is = omega arith

identifier_no_number : (text : Text) → is_identifier text ≡ true → begins_number text ≡ false
identifier_no_number [] is = absurd (true≢false (sym is))
identifier_no_number (b ∷ bs) is =
    not-true ((b == 45) || is_ascii_digit b) (begins_no_number b (and_parts (begins_identifier b) (list_all continues_identifier bs) is).0)

identifier_no_dash : (text : Text) → is_identifier text ≡ true → bytes_eq text (codes "-") ≡ false
identifier_no_dash [] is = refl
identifier_no_dash (b ∷ bs) is =
    ap (λ (t : Bool). t && bytes_eq bs []) (or_parts (b == 45) (is_ascii_digit b) (identifier_no_number (b ∷ bs) is)).0

name_reads : (names : Names) (name : Text) (t c : ℕ) → begins_number name ≡ false → (bytes_eq name (codes "true") || bytes_eq name (codes "false")) ≡ false
    → numbers_of names name ≡ Some (t, c) → scalar names name ≡ Some (enum t c)
unfolding scalar
name_reads names name t c begins no_truth found =
    let parts = or_parts (bytes_eq name (codes "true")) (bytes_eq name (codes "false")) no_truth in
    ap (λ (u : Bool). if u then option_map int (integer name)
    else (if bytes_eq name (codes "true") then Some (bool true) else (if bytes_eq name (codes "false") then Some (bool false) else named (numbers_of names name) name))) begins
    ∙ ap (λ (u : Bool). if u then Some (bool true) else (if bytes_eq name (codes "false") then Some (bool false) else named (numbers_of names name) name)) parts.0
    ∙ ap (λ (u : Bool). if u then Some (bool false) else named (numbers_of names name) name) parts.1
    ∙ ap (λ (o : Option (ℕ × ℕ)). named o name) found

name_word : (names : Names) (t c : ℕ) (f : IsFound names t c) → IsWordOf names (enum t c) f.name
name_word names t c f =
    let all = identifier_all f.name f.identifier in
    record {
      inside = weaker continues_identifier is_inside continues_inside f.name all;
      plain = weaker continues_identifier is_ascii continues_ascii f.name all;
      some = identifier_some f.name f.identifier;
      no_dash = identifier_no_dash f.name f.identifier;
      reads = name_reads names f.name t c (identifier_no_number f.name f.identifier) f.no_truth f.found;
    }

same_word : (names : Names) (v : Value) (word text : Text) → text ≡ word → IsWordOf names v word → IsWordOf names v text
same_word names v word text is w = rw is w

nil_word : (names : Names) → numbers_of names (codes "nil") ≡ None → IsWordOf names nil (text_of names nil)
unfolding scalar
nil_word names free = record { inside = refl; plain = refl; some = omega arith; no_dash = refl; reads = ap (λ (o : Option (ℕ × ℕ)). named o (codes "nil")) free }

-- ---- values

told_int : (levels : ℕ) (names : Names) (z : ℤ) → IsTold levels names (int z) → FitsSigned w64 z
told_int zero names z told = told
told_int (suc n) names z told = told

told_enum : (levels : ℕ) (names : Names) (t c : ℕ) → IsTold levels names (enum t c) → IsFound names t c
told_enum zero names t c told = told
told_enum (suc n) names t c told = told

told_nil : (levels : ℕ) (names : Names) → IsTold levels names nil → numbers_of names (codes "nil") ≡ None
told_nil zero names told = told
told_nil (suc n) names told = told

pub word_or : (levels : ℕ) (names : Names) (v : Value) → IsTold levels names v → IsWordOf names v (text_of names v) ⊎ ((fs : Fields) × (v ≡ struct fs))
word_or levels names (bool b) told = inl (bool_word names b)
word_or levels names (int z) told = inl (int_word names z (told_int levels names z told))
word_or levels names (enum t c) told =
    let f = told_enum levels names t c told in
    inl (same_word names (enum t c) f.name (text_of names (enum t c)) (ap (λ (o : Option Text). unwrap_or o (codes "?")) f.named) (name_word names t c f))
word_or levels names (struct fs) told = inr (fs, refl)
word_or levels names nil told = inl (nil_word names (told_nil levels names told))

pub plain_at : (levels : ℕ) (names : Names) (text : Text) → after (codes "{") text ≡ None → value_at levels names text ≡ scalar_at names text
unfolding value_at
plain_at zero names text none = ap (λ (o : Option Text). if is_some o then None else scalar_at names text) none
plain_at (suc n) names text none = ap (value_by (value_at n names) (scalar_at names text)) none

pub inner_at : (n : ℕ) (names : Names) (text inner : Text) → after (codes "{") text ≡ Some inner
    → value_at (suc n) names text ≡ first_as (λ vs. struct (fields_of vs)) (list_at (value_at n names) (codes "}") (codes "; ") inner)
unfolding value_at
inner_at n names text inner is = ap (value_by (value_at n names) (scalar_at names text)) is

-- with no levels left nothing is read behind a brace
pub zero_at : (levels : ℕ) (names : Names) (text inner : Text) → levels ≡ 0 → Some inner ≡ after (codes "{") text → None ≡ value_at levels names text
unfolding value_at
zero_at zero names text inner none some = ap (λ (o : Option Text). if is_some o then None else scalar_at names text) some
zero_at (suc n) names text inner none some = absurd (omega arith)

pub struct_at : (levels : ℕ) (names : Names) (text inner : Text) → 0 < levels → Some inner ≡ after (codes "{") text
    → first_as (λ vs. struct (fields_of vs)) (list_at (value_at (levels - 1) names) (codes "}") (codes "; ") inner) ≡ value_at levels names text
struct_at zero names text inner some is = absurd (omega arith)
struct_at (suc n) names text inner some is =
    let less : suc n - 1 ≡ n = omega arith in
    ap (λ (m : ℕ). first_as (λ (vs : List Value). struct (fields_of vs)) (list_at (value_at m names) (codes "}") (codes "; ") inner)) less
    ∙ sym (inner_at n names text inner (sym is))

word_back : (levels : ℕ) (names : Names) (v : Value) (word rest : Text) → IsWordOf names v word → IsBehind rest → value_at levels names (word ++ rest) ≡ Some (v, rest)
word_back levels names v word rest is behind =
    plain_at levels names (word ++ rest) (apart_word 123 [] word rest refl is.inside is.some) ∙ scalar_back names v word rest is behind

-- no value begins with a byte that no word has, but with a brace
pub value_apart : (f : ℕ) → is_inside f ≡ false → (123 == f) ≡ false → (levels : ℕ) (names : Names) (v : Value) → IsTold levels names v → (rest : Text)
    → after (f ∷ []) (text_of names v ++ rest) ≡ None
value_apart f out brace levels names v told rest = elim (word_or levels names v told) [
  | inl w ↦ apart_word f [] (text_of names v) rest out w.inside w.some
  | inr s ↦ ap (λ (u : Value). after (f ∷ []) (text_of names u ++ rest)) s.1 ∙ after_other f 123 [] ((fields_text names [] s.0 ++ codes "}") ++ rest) brace
]

-- ---- structures

values_in : Fields → List Value
values_in end = []
values_in (field v fs) = v ∷ values_in fs

fields_back : (fs : Fields) → fields_of (values_in fs) ≡ fs
unfolding values_in
fields_back end = refl
fields_back (field v fs) = ap (field v) (fields_back fs)

later_fields : (names : Names) (fs : Fields) → fields_text names (codes "; ") fs ≡ later_text (text_of names) (codes "; ") (values_in fs)
unfolding values_in
later_fields names end = refl
later_fields names (field v fs) = ap (λ (t : Text). (codes "; " ++ text_of names v) ++ t) (later_fields names fs)

fields_are : (names : Names) (fs : Fields) → fields_text names [] fs ≡ list_text (text_of names) (codes "; ") (values_in fs)
unfolding values_in
fields_are names end = refl
fields_are names (field v fs) = ap (λ (t : Text). text_of names v ++ t) (later_fields names fs)

all_told : (n : ℕ) (names : Names) (fs : Fields) → AreTold n names fs → Each (IsTold n names) (values_in fs)
unfolding values_in
all_told n names end told = tt
all_told n names (field v fs) told = (told.0, all_told n names fs told.1)

abbrev pub IsBack : ℕ → Names → Type 0
IsBack n names = (v : Value) → IsTold n names v → (rest : Text) → IsBehind rest → value_at n names (text_of names v ++ rest) ≡ Some (v, rest)

struct_back : (n : ℕ) (names : Names) → IsBack n names → (fs : Fields) → AreTold n names fs → (rest : Text)
    → value_at (suc n) names (text_of names (struct fs) ++ rest) ≡ Some (struct fs, rest)
struct_back n names back fs told rest =
    let texts : Text = fields_text names [] fs in
    let inner : Text = (texts ++ codes "}") ++ rest in
    let close : Text = codes "}" ++ rest in
    let text : Text = text_of names (struct fs) ++ rest in
    let opens : after (codes "{") text ≡ Some inner = after_front (codes "{") inner in
    let reads : ReadsBack Value (value_at n names) (text_of names) (IsTold n names) 125 = record {
      back = λ v later is behind. back v is later behind;
      apart = λ v later is. value_apart 125 refl refl n names v is later;
    } in
    let listed : list_at (value_at n names) (codes "}") (codes "; ") (list_text (text_of names) (codes "; ") (values_in fs) ++ close) ≡ Some (values_in fs, rest) =
    list_back Value (value_at n names) (text_of names) (IsTold n names) 125 59 (32 ∷ []) reads refl refl refl (values_in fs) rest (all_told n names fs told) in
    let same : inner ≡ list_text (text_of names) (codes "; ") (values_in fs) ++ close =
    append_assoc texts (codes "}") rest ∙ ap (λ (t : Text). t ++ close) (fields_are names fs) in
    inner_at n names text inner opens
    ∙ ap (λ (t : Text). first_as (λ (vs : List Value). struct (fields_of vs)) (list_at (value_at n names) (codes "}") (codes "; ") t)) same
    ∙ ap (first_as (λ (vs : List Value). struct (fields_of vs))) listed
    ∙ ap (λ (gs : Fields). with_rest rest (Some (struct gs))) (fields_back fs)

by_kind : (levels : ℕ) (names : Names) → ((fs : Fields) → IsTold levels names (struct fs) → (rest : Text) → value_at levels names (text_of names (struct fs) ++ rest) ≡ Some (struct fs, rest))
    → IsBack levels names
by_kind levels names structs (struct fs) told rest behind = structs fs told rest
by_kind levels names structs (bool b) told rest behind = word_back levels names (bool b) _ rest (bool_word names b) behind
by_kind levels names structs (int z) told rest behind = word_back levels names (int z) _ rest (int_word names z (told_int levels names z told)) behind
by_kind levels names structs (enum t c) told rest behind =
    let f = told_enum levels names t c told in
    word_back levels names (enum t c) _ rest
    (same_word names (enum t c) f.name (text_of names (enum t c)) (ap (λ (o : Option Text). unwrap_or o (codes "?")) f.named) (name_word names t c f)) behind
by_kind levels names structs nil told rest behind = word_back levels names nil _ rest (nil_word names (told_nil levels names told)) behind

-- a value is read back, whatever stands behind it
pub value_back : (levels : ℕ) (names : Names) → IsBack levels names
value_back zero names = by_kind zero names (λ fs told rest. absurd told)
value_back (suc n) names = by_kind (suc n) names (struct_back n names (value_back n names))
