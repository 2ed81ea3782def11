-- The definitions at small texts, by computation.
use Rattle.std.proofs.Common.{◌≡◌, true, false, [], ◌∷◌, codes, Ok, Err, refl}
use Rattle.std.specs.Prelude.{pos}
use Rattle.lus_syntax.specs.declared.refusal.RefusalNumber.TheVariants.{Unsupported, Limit}
use Rattle.lus_syntax.specs.declared.token.Symbol.TheVariants.{Arrow, Star, Sharp}
use Rattle.lus_syntax.specs.declared.token.Word.TheVariants.{Node, Merge, Nor}
use Rattle.lus_syntax.specs.Gaps.{is_blank, opens}
use Rattle.lus_syntax.specs.Lexemes.{Identifier, Number, Sign, Keyword}
use Rattle.lus_syntax.specs.Places.{start, past, place_behind}
use Rattle.lus_syntax.specs.Texts.{words, symbols, is_symbol, is_text, number_within, meaning}

-- ---- what a text stands for

node_is : meaning (codes "node") ≡ Ok (Keyword Node)
unfolding meaning words
node_is = refl

merge_is : meaning (codes "merge") ≡ Ok (Keyword Merge)
unfolding meaning words
merge_is = refl

capital_is : meaning (codes "Node") ≡ Ok (Identifier (codes "Node"))
unfolding meaning words
capital_is = refl

real_is : meaning (codes "real") ≡ Err Unsupported
unfolding meaning words
real_is = refl

zeros_are : meaning (codes "007") ≡ Ok (Number (pos 7))
unfolding meaning number_within
zeros_are = refl

largest_is : meaning (codes "9223372036854775807") ≡ Ok (Number (pos 9223372036854775807))
unfolding meaning number_within
largest_is = refl

too_large_is : meaning (codes "9223372036854775808") ≡ Err Limit
unfolding meaning number_within
too_large_is = refl

arrow_is : meaning (codes "->") ≡ Ok (Sign Arrow)
unfolding meaning symbols
arrow_is = refl

star_is : meaning (codes "*") ≡ Ok (Sign Star)
unfolding meaning symbols
star_is = refl

nor_is : meaning (codes "nor") ≡ Ok (Keyword Nor)
unfolding meaning words
nor_is = refl

sharp_is : meaning (codes "#") ≡ Ok (Sign Sharp)
unfolding meaning symbols
sharp_is = refl

-- ---- which texts are one token's

digit_then_letter : is_text (codes "1a") ≡ false
unfolding is_text is_symbol symbols
digit_then_letter = refl

point : is_text (codes "1.5") ≡ false
unfolding is_text is_symbol symbols
point = refl

two_signs : is_text (codes "<>") ≡ true
unfolding is_text is_symbol symbols
two_signs = refl

no_sign : is_text (codes "!") ≡ false
unfolding is_text is_symbol symbols
no_sign = refl

-- ---- places

behind_two_lines : past start (97 ∷ 10 ∷ 98 ∷ 99 ∷ []) ≡ record { byte = 4; line = 2; column = 3 }
behind_two_lines = refl

behind_two_bytes : past start (195 ∷ 169 ∷ []) ≡ record { byte = 2; line = 1; column = 2 }
behind_two_bytes = refl

in_words : place_behind (97 ∷ 10 ∷ 195 ∷ 169 ∷ 99 ∷ []) ≡ record { byte = 5; line = 2; column = 3 }
in_words = refl

-- ---- gaps

form_feed_is_blank : is_blank 12 ≡ true
form_feed_is_blank = refl

slash_opens : opens 47 (42 ∷ []) ≡ true
slash_opens = refl
