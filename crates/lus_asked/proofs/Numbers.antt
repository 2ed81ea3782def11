-- Numbers are read back from their texts.
use Rattle.std.proofs.Common.{◌≡◌, ◌∙◌, ◌==◌, ◌&&◌, ◌||◌, ◌+◌, ◌<◌, ◌^◌, ℕ, suc, ℤ, pos, negsuc, refl, ap, sym, Bool, true, false, [], ◌∷◌, length, Option, Some, None, option_map, Result, Ok, Err, get_or, if◌then◌else◌, arith}
use Rattle.std.specs.Prelude.{neg_ℤ, nat_lt, FitsSigned}
use Rattle.std.specs.Int.{w64}
use Rattle.std.specs.Char.{is_ascii, is_ascii_digit}
use Rattle.std.specs.Fmt.{decimal, signed_decimal}
use Rattle.std.specs.List.{list_all}
use Rattle.std.specs.Str.{all_ascii_digits}
use Rattle.std.specs.Str.Parse.{digits_value, ParsesSigned, ParsesUnsigned}
use Rattle.std.specs.Result.{OkIff, result_ok}
use Rattle.std.proofs.lemmas.Bool.{and_parts, or_parts, lt-ltb, ltb-true, eqb-true, eqb-false, true≢false, and_from}
use Rattle.std.proofs.lemmas.Bool.Decides.{nat_tests}
use Rattle.std.proofs.lemmas.Fmt.{decimal_nonempty, digits_decimal, digits_value-decimal}
use Rattle.std.proofs.lemmas.Str.Parse.{IsNumeralModel, numerals_by_value, parse_plain, parse_signed_minus, parse_signed_plain, tells_all_ascii_digits}
use Rattle.lus_values.specs.Names.{Text}
use Rattle.lus_asked.specs.Reading.{begins_number, integer, is_inside, number_below}

own : IsNumeralModel (λ ds. all_ascii_digits ds ≡ true) (digits_value 10)
own = numerals_by_value _ tells_all_ascii_digits

pub decimal_digits : (n : ℕ) → n < 2 ^ 64 → all_ascii_digits (decimal n) ≡ true
decimal_digits n fits = digits_decimal own n fits

-- what number_below gives for a text, by what is told of it
below_by : (limit n : ℕ) (ds : Text) → all_ascii_digits ds ≡ true → digits_value 10 ds ≡ n → nat_lt 0 (length ds) ≡ true → nat_lt n limit ≡ true
    → number_below limit ds ≡ Some n
unfolding number_below
below_by limit n ds digits value some less = rw (digits, some, value, less) refl

pub number_is : (limit n : ℕ) → n < 2 ^ 64 → n < limit → number_below limit (decimal n) ≡ Some n
number_is limit n fits less =
    below_by limit n (decimal n) (decimal_digits n fits) (digits_value-decimal own n fits) (lt-ltb 0 (length (decimal n)) (decimal_nonempty n fits)) (lt-ltb n limit less)

pub digit_no_sign : (b : ℕ) → is_ascii_digit b ≡ true → (b == 45) ≡ false
digit_no_sign b digit = grind (arith, nat_tests)

plain_integer : (ds : Text) → all_ascii_digits ds ≡ true → integer ds ≡ option_map pos (number_below (2 ^ 63) ds)
unfolding number_below
plain_integer [] digits = refl
plain_integer (b ∷ bs) digits = rw (digit_no_sign b (and_parts (is_ascii_digit b) (all_ascii_digits bs) digits).0) refl

-- a number is read back
pub integer_is : (z : ℤ) → FitsSigned w64 z → integer (signed_decimal z) ≡ Some z
integer_is (pos n) fits =
    let less : n < 2 ^ 63 = omega (arith, fits) in
    let small : n < 2 ^ 64 = omega arith in
    plain_integer (decimal n) (decimal_digits n small) ∙ ap (option_map pos) (number_is (2 ^ 63) n small less)
integer_is (negsuc n) fits =
    let less : suc n < 2 ^ 63 + 1 = omega (arith, fits) in
    let small : suc n < 2 ^ 64 = omega arith in
    ap (option_map (λ m. neg_ℤ (pos m))) (number_is (2 ^ 63 + 1) (suc n) small less)

begins_digit : (ds : Text) → all_ascii_digits ds ≡ true → 0 < length ds → begins_number ds ≡ true
begins_digit [] digits some = absurd (omega arith)
begins_digit (b ∷ bs) digits some = rw (and_parts (is_ascii_digit b) (all_ascii_digits bs) digits).0 (grind (arith, nat_tests))

pub begins_integer : (z : ℤ) → FitsSigned w64 z → begins_number (signed_decimal z) ≡ true
begins_integer (pos n) fits =
    let less : n < 2 ^ 63 = omega (arith, fits) in
    begins_digit (decimal n) (decimal_digits n (omega arith)) (decimal_nonempty n (omega arith))
begins_integer (negsuc n) fits = refl

-- ---- what bytes the texts of numbers have

digit_inside : (b : ℕ) → is_ascii_digit b ≡ true → (is_inside b ≡ true) × (is_ascii b ≡ true)
digit_inside b digit = (grind (arith, nat_tests), grind (arith, nat_tests))

pub digits_inside : (ds : Text) → all_ascii_digits ds ≡ true → list_all is_inside ds ≡ true
digits_inside [] digits = refl
digits_inside (b ∷ bs) digits =
    let parts = and_parts (is_ascii_digit b) (all_ascii_digits bs) digits in
    and_from (is_inside b) (list_all is_inside bs) (digit_inside b parts.0).0 (digits_inside bs parts.1)

pub digits_ascii : (ds : Text) → all_ascii_digits ds ≡ true → list_all is_ascii ds ≡ true
digits_ascii [] digits = refl
digits_ascii (b ∷ bs) digits =
    let parts = and_parts (is_ascii_digit b) (all_ascii_digits bs) digits in
    and_from (is_ascii b) (list_all is_ascii bs) (digit_inside b parts.0).1 (digits_ascii bs parts.1)

-- ---- what parse gives

same_if : {B E : Type 0} {P Q : Type 0} (r : Result B E) (v : B) → (P → Q) → (Q → P) → OkIff r P v → OkIff r Q v
same_if (Ok x) v f g h = (f h.0, h.1)
same_if (Err e) v f g h = λ q. h (g q)

no_test : (t : Bool) (limit : ℕ) (ds : Text) → (all_ascii_digits ds && (nat_lt 0 (length ds) && nat_lt (digits_value 10 ds) limit)) ≡ t
    → ¬ ((all_ascii_digits ds ≡ true) × (0 < length ds) × (digits_value 10 ds < limit)) → t ≡ false
no_test false limit ds is none = refl
no_test true limit ds is none =
    let parts = and_parts (all_ascii_digits ds) (nat_lt 0 (length ds) && nat_lt (digits_value 10 ds) limit) is in
    let rest = and_parts (nat_lt 0 (length ds)) (nat_lt (digits_value 10 ds) limit) parts.1 in
    absurd (none (parts.0, ltb-true 0 (length ds) rest.0, ltb-true (digits_value 10 ds) limit rest.1))

no_number : (limit : ℕ) (ds : Text) → ¬ ((all_ascii_digits ds ≡ true) × (0 < length ds) × (digits_value 10 ds < limit)) → number_below limit ds ≡ None
unfolding number_below
no_number limit ds none =
    ap (λ (t : Bool). if t then Some (digits_value 10 ds) else None)
    (no_test (all_ascii_digits ds && (nat_lt 0 (length ds) && nat_lt (digits_value 10 ds) limit)) limit ds refl none)

below_parsed : {B E : Type 0} (limit : ℕ) (ds : Text) (sign : ℕ → B) (r : Result B E)
    → OkIff r ((all_ascii_digits ds ≡ true) × (0 < length ds) × (digits_value 10 ds < limit)) (sign (digits_value 10 ds))
    → result_ok r ≡ option_map sign (number_below limit ds)
below_parsed limit ds sign (Ok x) h =
    ap Some h.1
    ∙ sym (ap (option_map sign) (below_by limit (digits_value 10 ds) ds h.0.0 refl (lt-ltb 0 (length ds) h.0.1) (lt-ltb (digits_value 10 ds) limit h.0.2)))
below_parsed limit ds sign (Err e) h = sym (ap (option_map sign) (no_number limit ds h))

by_sign : {E : Type 0} (t : Bool) (b : ℕ) (bs : Text) (r : Result ℤ E) → (b == 45) ≡ t → begins_number (b ∷ bs) ≡ true → ParsesSigned w64 10 (b ∷ bs) r
    → result_ok r ≡ (if t then option_map (λ n. neg_ℤ (pos n)) (number_below (2 ^ 63 + 1) bs) else option_map pos (number_below (2 ^ 63) (b ∷ bs)))
by_sign true b bs r is begins h =
    below_parsed (2 ^ 63 + 1) bs (λ n. neg_ℤ (pos n)) r
    (same_if r (neg_ℤ (pos (digits_value 10 bs))) (λ q. (q.0, q.1, omega (arith, q.2))) (λ q. (q.0, q.1, omega (arith, q.2)))
    (parse_signed_minus own w64 (b ∷ bs) r h (eqb-true b 45 is)))
by_sign false b bs r is begins h =
    let other : (b == 45) ≡ false = is in
    let no_plus : b ≡ 43 → ⊥ = λ e. absurd (true≢false (sym begins ∙ ap (λ c. (c == 45) || is_ascii_digit c) e)) in
    below_parsed (2 ^ 63) (b ∷ bs) pos r (parse_signed_plain own w64 (b ∷ bs) r h no_plus (eqb-false b 45 is))

pub integer_parsed : {E : Type 0} (text : Text) (r : Result ℤ E) → begins_number text ≡ true → ParsesSigned w64 10 text r → result_ok r ≡ integer text
integer_parsed [] r begins h = absurd (true≢false (sym begins))
integer_parsed (b ∷ bs) r begins h = by_sign (b == 45) b bs r refl begins h

same_number : (o : Option ℕ) → option_map (λ n. n) o ≡ o
same_number None = refl
same_number (Some n) = refl

first_no_plus : (text : Text) → begins_number text ≡ true → get_or text 0 0 ≡ 43 → ⊥
first_no_plus [] begins is = absurd (true≢false (sym begins))
first_no_plus (b ∷ bs) begins is = true≢false (sym begins ∙ ap (λ c. (c == 45) || is_ascii_digit c) is)

pub natural_parsed : {E : Type 0} (text : Text) (r : Result ℕ E) → begins_number text ≡ true → ParsesUnsigned 64 10 text r → result_ok r ≡ number_below (2 ^ 64) text
natural_parsed text r begins h =
    below_parsed (2 ^ 64) text (λ n. n) r (parse_plain own 64 text r h (first_no_plus text begins)) ∙ same_number (number_below (2 ^ 64) text)

-- no number begins there
pub natural_none : (limit : ℕ) (text : Text) → begins_number text ≡ false → None ≡ number_below limit text
unfolding number_below
natural_none limit [] begins = refl
natural_none limit (b ∷ bs) begins = rw (or_parts (b == 45) (is_ascii_digit b) begins).1 refl

pub integer_none : (text : Text) → begins_number text ≡ false → None ≡ integer text
unfolding number_below
integer_none [] begins = refl
integer_none (b ∷ bs) begins = let no = or_parts (b == 45) (is_ascii_digit b) begins in rw (no.0, no.1) refl
