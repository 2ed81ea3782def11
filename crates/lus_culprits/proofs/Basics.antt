-- A text of characters of ASCII that are seen is a sentence.
use Rattle.std.proofs.Common.{◌≡◌, ◌∙◌, ◌<◌, ◌&&◌, ℕ, Bool, true, false, ap, ap₂, refl, List, [], ◌∷◌, arith}
use Rattle.std.proofs.lemmas.Bool.Decides.{nat_tests}
use Rattle.std.proofs.lemmas.Str.{chars-IsAscii}
use Rattle.std.proofs.lemmas.Str.Ascii.{IsAscii-cons, IsAscii-nil}
use Rattle.std.specs.List.{list_all}
use Rattle.std.specs.Str.{IsAscii}
use Rattle.lus_syntax.specs.Lexemes.{Text}
use Rattle.lus_printable.specs.Printable.{is_seen}
use Rattle.lus_culprits.specs.Sentences.{IsBasic, IsSentence, is_basic, is_in_line}

basic_in_line : (b : ℕ) → is_basic b ≡ true → is_in_line b ≡ true
basic_in_line b h = grind (arith, nat_tests)

basic_seen : (b : ℕ) → is_basic b ≡ true → is_seen b ≡ true
basic_seen b h = grind (arith, nat_tests)

basic_ascii : (b : ℕ) → is_basic b ≡ true → b < 128
basic_ascii b h = grind (arith, nat_tests)

both : (a b : Bool) → (a && b) ≡ true → (a ≡ true) × (b ≡ true)
both true b h = (refl, h)
both false b h = absurd (cc)

and_both : (a b : Bool) → a ≡ true → b ≡ true → (a && b) ≡ true
and_both a b first second = ap₂ (λ x y. x && y) first second

all_in_line : (bs : List ℕ) → list_all is_basic bs ≡ true → list_all is_in_line bs ≡ true
all_in_line [] h = refl
all_in_line (b ∷ bs) h = let parts = both (is_basic b) (list_all is_basic bs) h in and_both _ _ (basic_in_line b parts.0) (all_in_line bs parts.1)

all_seen : (bs : List ℕ) → list_all is_basic bs ≡ true → list_all is_seen bs ≡ true
all_seen [] h = refl
all_seen (b ∷ bs) h = let parts = both (is_basic b) (list_all is_basic bs) h in and_both _ _ (basic_seen b parts.0) (all_seen bs parts.1)

all_ascii : (bs : List ℕ) → list_all is_basic bs ≡ true → IsAscii bs
all_ascii [] h = IsAscii-nil
all_ascii (b ∷ bs) h = let parts = both (is_basic b) (list_all is_basic bs) h in IsAscii-cons b bs (basic_ascii b parts.0) (all_ascii bs parts.1)

pub basic_sentence : (text : Text) → IsBasic text → IsSentence text
basic_sentence text h = record {
  plain = all_in_line text h;
  seen = ap (list_all is_seen) (chars-IsAscii text (all_ascii text h)) ∙ all_seen text h;
}
