-- What a text stands for.
use Rattle.std.proofs.Common.{Option, is_some, ◌≡◌, ℕ, zero, suc, ◌<◌, ◌≤◌, ◌^◌, Bool, true, false, leb, List, [], ◌∷◌, length, get_or, Some, None, Result, Ok, Err, refl, sym, ap, ◌∙◌, arith, inl, inr, ◌⊎◌}
use Rattle.std.specs.Prelude.{ℤ, pos, nat_lt, not, option_map, MatchResult, IsOk, IsUtf8}
use Rattle.std.specs.Int.{w64}
use Rattle.std.specs.Result.{OkIff, result_ok}
use Rattle.std.specs.List.{list_all}
use Rattle.std.specs.Char.{is_ascii_digit, digit_value}
use Rattle.std.specs.Str.{IsAscii}
use Rattle.std.specs.Str.Parse.{AllDigits, ParsesSigned, digits_value}
use Rattle.std.proofs.lemmas.Bool.{and_parts, and_from, false≢true, both_ways, ltb-true, le-leb, lt-leb, cases_lt, cond-true, cond-false}
use Rattle.std.proofs.lemmas.Bool.Decides.{nat_tests}
use Rattle.std.proofs.lemmas.Str.{IsUtf8-from_ascii}
use Rattle.std.proofs.lemmas.Str.Parse.{numerals_by_value, tells_digits, parse_signed_digits}
use Rattle.lus_syntax.specs.declared.refusal.RefusalNumber.{RefusalNumber}
use Rattle.lus_syntax.specs.declared.refusal.RefusalNumber.TheVariants.{Unsupported, Limit}
use Rattle.lus_syntax.specs.declared.token.Word.{Word}
use Rattle.lus_syntax.specs.declared.token.Symbol.{Symbol}
use Rattle.lus_syntax.specs.Gaps.{IsLine}
use Rattle.lus_syntax.specs.Places.{is_feed}
use Rattle.lus_syntax.specs.Texts.{begins_name, continues_name, is_number, is_symbol, is_text, symbols, words, look_up, limit, number_within, of_name, of_number, of_symbol, meaning}
use Rattle.lus_syntax.proofs.Longest.{of_first, found_passes, digit_no_name}

-- ---- numbers

digit_within : (b : ℕ) → is_ascii_digit b ≡ true → digit_value b < 10
digit_within b h = grind (arith, nat_tests)

all_digits : (xs : List ℕ) → list_all is_ascii_digit xs ≡ true → AllDigits 10 xs
all_digits [] h = tt
all_digits (b ∷ bs) h =
    let p = and_parts (is_ascii_digit b) (list_all is_ascii_digit bs) h in
    (digit_within b p.0, all_digits bs p.1)

number_digits : (xs : List ℕ) → is_number xs ≡ true → AllDigits 10 xs × (0 < length xs)
number_digits [] h = absurd (false≢true h)
number_digits (b ∷ bs) h = (all_digits (b ∷ bs) h, omega arith)

number_fits : (xs : List ℕ) → digits_value 10 xs < 2 ^ 63 → number_within xs ≡ Some (digits_value 10 xs)
unfolding number_within
number_fits xs h = cond-true (leb (digits_value 10 xs) limit) (Some (digits_value 10 xs)) None (le-leb (digits_value 10 xs) limit (omega arith))

number_too_large : (xs : List ℕ) → 2 ^ 63 ≤ digits_value 10 xs → number_within xs ≡ None
unfolding number_within
number_too_large xs h = cond-false (leb (digits_value 10 xs) limit) (Some (digits_value 10 xs)) None (lt-leb (digits_value 10 xs) limit (omega arith))

digits_parsed : {E : Type 0} (xs : List ℕ) (r : Result ℤ E) → 0 < length xs → OkIff r ((0 < length xs) × (digits_value 10 xs < 2 ^ 63)) (pos (digits_value 10 xs)) → result_ok r ≡ option_map pos (number_within xs)
digits_parsed xs (Ok z) some h = ap Some h.1 ∙ sym (ap (option_map pos) (number_fits xs h.0.1))
digits_parsed xs (Err e) some h = sym (ap (option_map pos) (number_too_large xs (elim (cases_lt (digits_value 10 xs) (2 ^ 63)) [ inl lt ↦ absurd (h (some, lt)) | inr ge ↦ ge ])))

-- what parse gives where all bytes are digits
pub parsed : {E : Type 0} (xs : List ℕ) (r : Result ℤ E) → is_number xs ≡ true → ParsesSigned w64 10 xs r → result_ok r ≡ option_map pos (number_within xs)
parsed xs r is h =
    let digits = number_digits xs is in
    digits_parsed xs r digits.1 (parse_signed_digits (numerals_by_value (AllDigits 10) tells_digits) w64 xs r h digits.0)

-- ---- texts of ASCII

abbrev pub ascii : List ℕ → Bool
ascii xs = list_all (λ b. nat_lt b 128) xs

symbols_ascii : list_all (λ e. ascii e.0) symbols ≡ true
unfolding symbols
symbols_ascii = refl

weaker : (p q : ℕ → Bool) → ((b : ℕ) → p b ≡ true → q b ≡ true) → (xs : List ℕ) → list_all p xs ≡ true → list_all q xs ≡ true
weaker p q f [] h = refl
weaker p q f (b ∷ bs) h =
    let parts = and_parts (p b) (list_all p bs) h in
    and_from (q b) (list_all q bs) (f b parts.0) (weaker p q f bs parts.1)

name_ascii : (b : ℕ) → continues_name b ≡ true → nat_lt b 128 ≡ true
name_ascii b h = grind (arith, nat_tests)

digit_ascii : (b : ℕ) → is_ascii_digit b ≡ true → nat_lt b 128 ≡ true
digit_ascii b h = grind (arith, nat_tests)

-- each byte of a text is a letter, a digit, an underscore or a symbol's
text_passes : (p : ℕ → Bool) → ((b : ℕ) → continues_name b ≡ true → p b ≡ true) → ((b : ℕ) → is_ascii_digit b ≡ true → p b ≡ true)
    → list_all (λ e. list_all p e.0) symbols ≡ true → (xs : List ℕ) → is_text xs ≡ true → list_all p xs ≡ true
unfolding is_symbol
text_passes p in_name in_number in_symbol [] t = refl
text_passes p in_name in_number in_symbol (b ∷ bs) t =
    elim (of_first (b ∷ bs) t) [
      | inl name ↦ weaker continues_name p in_name (b ∷ bs) name.1
      | inr (inl number) ↦ weaker is_ascii_digit p in_number (b ∷ bs) number.1
      | inr (inr symbol) ↦ found_passes (list_all p) (b ∷ bs) symbols in_symbol symbol.2
    ]

pub text_ascii : (xs : List ℕ) → is_text xs ≡ true → ascii xs ≡ true
text_ascii = text_passes (λ b. nat_lt b 128) name_ascii digit_ascii symbols_ascii

symbols_on_line : list_all (λ e. list_all (λ b. not (is_feed b)) e.0) symbols ≡ true
unfolding symbols
symbols_on_line = refl

name_on_line : (b : ℕ) → continues_name b ≡ true → not (is_feed b) ≡ true
name_on_line b h = grind (arith, nat_tests)

digit_on_line : (b : ℕ) → is_ascii_digit b ≡ true → not (is_feed b) ≡ true
digit_on_line b h = grind (arith, nat_tests)

pub text_on_line : (xs : List ℕ) → is_text xs ≡ true → IsLine xs
text_on_line = text_passes (λ b. not (is_feed b)) name_on_line digit_on_line symbols_on_line

is_ascii : (xs : List ℕ) → ascii xs ≡ true → IsAscii xs
is_ascii [] h i = omega arith
is_ascii (b ∷ bs) h zero = ltb-true b 128 (and_parts (nat_lt b 128) (ascii bs) h).0
is_ascii (b ∷ bs) h (suc i) = is_ascii bs (and_parts (nat_lt b 128) (ascii bs) h).1 i

pub text_is_utf8 : (xs : List ℕ) → is_text xs ≡ true → IsUtf8 xs
text_is_utf8 xs t = IsUtf8-from_ascii xs (is_ascii xs (text_ascii xs t))

pub text_nonempty : (xs : List ℕ) → is_text xs ≡ true → 0 < length xs
text_nonempty [] t = absurd (of_first [] t)
text_nonempty (b ∷ bs) t = omega arith

-- ---- by the first byte

pub number_first : (xs : List ℕ) → is_text xs ≡ true → begins_name (get_or xs 0 0) ≡ false → is_ascii_digit (get_or xs 0 0) ≡ true → is_number xs ≡ true
number_first [] t n d = absurd (of_first [] t)
number_first (b ∷ bs) t n d =
    elim (of_first (b ∷ bs) t) [
      | inl name ↦ absurd (both_ways (begins_name b) n name.0)
      | inr (inl number) ↦ number.1
      | inr (inr symbol) ↦ absurd (both_ways (is_ascii_digit b) symbol.1 d)
    ]

pub name_meaning : (xs : List ℕ) → is_text xs ≡ true → begins_name (get_or xs 0 0) ≡ true → meaning xs ≡ of_name xs (look_up xs words)
unfolding meaning
name_meaning [] t n = absurd (of_first [] t)
name_meaning (b ∷ bs) t n = rw n refl

pub number_meaning : (xs : List ℕ) → is_text xs ≡ true → begins_name (get_or xs 0 0) ≡ false → is_ascii_digit (get_or xs 0 0) ≡ true → meaning xs ≡ of_number (number_within xs)
unfolding meaning
number_meaning [] t n d = absurd (of_first [] t)
number_meaning (b ∷ bs) t n d = rw (n, d) refl

pub symbol_meaning : (xs : List ℕ) → is_text xs ≡ true → begins_name (get_or xs 0 0) ≡ false → is_ascii_digit (get_or xs 0 0) ≡ false → meaning xs ≡ of_symbol (look_up xs symbols)
unfolding meaning
symbol_meaning [] t n d = absurd (of_first [] t)
symbol_meaning (b ∷ bs) t n d = rw (n, d) refl

pub is_ok : {X E : Type 0} (P : X → Type 0) (Q : E → Type 0) (xs : List ℕ) (r : Result X E) → MatchResult r P (λ e. (¬ IsUtf8 xs) × Q e) → is_text xs ≡ true → IsOk r
is_ok P Q xs (Ok x) h t = refl
is_ok P Q xs (Err e) h t = absurd (h.0 (text_is_utf8 xs t))

-- ---- the longest text of a token is kept back or too large, where it stands for nothing

of_name_is : (xs : List ℕ) (o : Option (Option Word)) (number : RefusalNumber) → of_name xs o ≡ Err number → (number ≡ Unsupported) ⊎ (number ≡ Limit)
of_name_is xs None number e = absurd cc
of_name_is xs (Some None) number e = inl cc
of_name_is xs (Some (Some w)) number e = absurd cc

of_number_is : (o : Option ℕ) (number : RefusalNumber) → of_number o ≡ Err number → (number ≡ Unsupported) ⊎ (number ≡ Limit)
of_number_is None number e = inr cc
of_number_is (Some n) number e = absurd cc

of_symbol_is : (o : Option Symbol) (number : RefusalNumber) → is_some o ≡ true → of_symbol o ≡ Err number → (number ≡ Unsupported) ⊎ (number ≡ Limit)
of_symbol_is None number h e = absurd (false≢true h)
of_symbol_is (Some s) number h e = absurd cc

pub no_meaning_is : (xs : List ℕ) (number : RefusalNumber) → is_text xs ≡ true → meaning xs ≡ Err number → (number ≡ Unsupported) ⊎ (number ≡ Limit)
unfolding is_symbol
no_meaning_is [] number t e = absurd (of_first [] t)
no_meaning_is (b ∷ bs) number t e =
    elim (of_first (b ∷ bs) t) [
      | inl name ↦ of_name_is (b ∷ bs) (look_up (b ∷ bs) words) number (sym (name_meaning (b ∷ bs) t name.0) ∙ e)
      | inr (inl number') ↦ of_number_is (number_within (b ∷ bs)) number (sym (number_meaning (b ∷ bs) t (digit_no_name b number'.0) number'.0) ∙ e)
      | inr (inr symbol) ↦ of_symbol_is (look_up (b ∷ bs) symbols) number symbol.2 (sym (symbol_meaning (b ∷ bs) t symbol.0 symbol.1) ∙ e)
    ]
