-- The tokens of a text weigh no more than its bytes, where `fby` weighs two and each other token one.
use Rattle.std.proofs.Common.{arith, ◌≡◌, refl, sym, ap, ℕ, ◌+◌, ◌≤◌, nat_le, Bool, true, false, List, [], ◌∷◌, ◌++◌, length, Option, Some, None, Ok, if◌then◌else◌}
use Rattle.std.specs.Prelude.{pos}
use Rattle.std.specs.List.{list_all}
use Rattle.std.specs.Str.{bytes_eq}
use Rattle.std.specs.Char.{is_ascii_digit}
use Rattle.std.proofs.lemmas.Slice.Eq.{bytes_eq-Decides}
use Rattle.std.proofs.lemmas.Bool.{and_parts, leb-true}
use Rattle.std.proofs.lemmas.List.{length-append}
use Rattle.lus_syntax.specs.declared.token.Place.{Place}
use Rattle.lus_syntax.specs.declared.token.Symbol.{Symbol}
use Rattle.lus_syntax.specs.declared.token.Word.{Word}
use Rattle.lus_syntax.specs.declared.token.Word.TheVariants as w
use Rattle.lus_syntax.specs.Lexemes.{Text, Kind, Identifier, Number, Sign, Keyword, Lexeme}
use Rattle.lus_syntax.specs.Places.{start, end_of, past}
use Rattle.lus_syntax.specs.Texts.{words, symbols, look_up, begins_name, of_name, number_within, of_number, of_symbol, meaning}
use Rattle.lus_syntax.specs.Gaps.{Gap}
use Rattle.lus_syntax.specs.Tokens.{Here, Run, Tokens}

abbrev pub weight : Kind → ℕ
weight (Keyword w.Fby) = 2
weight k = 1

pub weight_some : (k : Kind) → 1 ≤ weight k
weight_some (Keyword w.Fby) = omega arith
weight_some k = omega arith

-- what tokens weigh together
abbrev pub weights : List Lexeme → ℕ
weights [] = 0
weights (t ∷ ts) = weight t.kind + weights ts

pub weights_append : (xs ys : List Lexeme) → weights (xs ++ ys) ≡ weights xs + weights ys
weights_append [] ys = omega arith
weights_append (x ∷ xs) ys = omega (arith, weights_append xs ys)

-- what a word of the table weighs, if it isn't kept back
abbrev heft : Option Word → ℕ
heft None = 0
heft (Some w) = weight (Keyword w)

-- each word of the table is as long as it weighs
abbrev are_long : List (Text × Option Word) → Bool
are_long es = list_all (λ e. nat_le (heft e.1) (length e.0)) es

words_are_long : are_long words ≡ true
unfolding words
words_are_long = refl

found_or : (b : Bool) (text : Text) (e : Text × Option Word) (rest : Option (Option Word)) (w : Option Word) → bytes_eq e.0 text ≡ b → heft e.1 ≤ length e.0 → (rest ≡ Some w → heft w ≤ length text) → (if b then Some e.1 else rest) ≡ Some w → heft w ≤ length text
found_or true text e rest w same long later h = let is : e.1 ≡ w = cc in omega (arith, ap heft is, long, ap length ((bytes_eq-Decides e.0 text).0 same))
found_or false text e rest w same long later h = later h

word_weighs : (text : Text) (es : List (Text × Option Word)) (w : Option Word) → are_long es ≡ true → look_up text es ≡ Some w → heft w ≤ length text
word_weighs text [] w long h = absurd cc
word_weighs text (e ∷ es) w long h =
    let both = and_parts (nat_le (heft e.1) (length e.0)) (are_long es) long in
    found_or (bytes_eq e.0 text) text e (look_up text es) w refl (leb-true (heft e.1) (length e.0) both.0) (word_weighs text es w both.1) h

-- a token that begins with a byte
meant_weighs : (p q : Bool) (text : Text) (w : Option (Option Word)) (n : Option ℕ) (s : Option Symbol) (k : Kind) → 1 ≤ length text → ((v : Option Word) → w ≡ Some v → heft v ≤ length text)
    → (if p then of_name text w else (if q then of_number n else of_symbol s)) ≡ Ok k → weight k ≤ length text
meant_weighs true q text None n s k some word e = let same : Identifier text ≡ k = cc in omega (arith, ap weight (sym same), some)
meant_weighs true q text (Some (Some w)) n s k some word e = let same : Keyword w ≡ k = cc in omega (arith, ap weight (sym same), word (Some w) refl)
meant_weighs false true text w (Some n) s k some word e = let same : Number (pos n) ≡ k = cc in omega (arith, ap weight (sym same), some)
meant_weighs false false text w n (Some s) k some word e = let same : Sign s ≡ k = cc in omega (arith, ap weight (sym same), some)
meant_weighs _ _ text _ _ _ k some word e = absurd cc

kind_weighs : (text : Text) (k : Kind) → meaning text ≡ Ok k → weight k ≤ length text
unfolding meaning
kind_weighs [] k e = absurd cc
kind_weighs (b ∷ bs) k e =
    let text : Text = b ∷ bs in
    meant_weighs (begins_name b) (is_ascii_digit b) text (look_up text words) (number_within text) (look_up text symbols) k (omega arith) (λ v. word_weighs text words v words_are_long) e

gap_fits : (pieces : List (List ℕ)) (at : Place) (text : Text) (to : Place) (rest : Text) → Gap pieces at text to rest → length rest ≤ length text
gap_fits [] at text to rest h = omega (arith, ap length h.1)
gap_fits (piece ∷ pieces) at text to rest h = omega (arith, ap length h.1, length-append piece h.0, gap_fits pieces (past at piece) h.0 to rest h.3)

token_fits : (here : Text) (t : Lexeme) (rest : Text) → Here here t rest → weight t.kind + length rest ≤ length here
token_fits here t rest h = omega (arith, ap length h.longest.parts, length-append h.text rest, kind_weighs h.text t.kind h.means)

run_fits : (ts : List Lexeme) (at : Place) (text : Text) (to : Place) (rest : Text) → Run ts at text to rest → weights ts + length rest ≤ length text
run_fits [] at text to rest h = omega (arith, ap length h.1)
run_fits (t ∷ ts) at text to rest h =
    let behind = gap_fits h.1.gap.0 at text t.span.start h.1.here h.1.gap.1 in
    omega (arith, behind, token_fits h.1.here t h.0 h.1.token, run_fits ts (end_of t.span) h.0 to rest h.2)

pub tokens_fit : (text : Text) (ts : List Lexeme) → Tokens text ts → weights ts ≤ length text
tokens_fit text ts h = omega (arith, run_fits ts start text h.to h.rest h.run)
