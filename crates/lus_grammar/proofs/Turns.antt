-- Reading in turns, as a loop does.
use Rattle.std.proofs.Common.{◌≡◌, ℕ, suc, ◌+◌, ◌-◌, ◌<◌, ◌≤◌, List, Option, Some, None, Ok, Err, refl, sym, ap, ◌∙◌, arith}
use Rattle.lus_grammar.specs.declared.fault.ParseError.{ParseError}
use Rattle.lus_syntax.specs.Lexemes.{Lexeme}
use Rattle.lus_spelling.specs.Reading.{Syntax}
use Rattle.lus_spelling.specs.ReadingDeclarations.{Reads, repeat_on, repeat_at}
use Rattle.lus_grammar.specs.Answers.{Fails}
use Rattle.lus_grammar.proofs.Steps.{bind_fails}

-- going on from `s` after `i` of `count` turns gives `total`
module _ {S : Type 0} (begins : List Lexeme → Option (List Lexeme)) (turn : S → List Lexeme → Reads S) (count i : ℕ) (s : S) (ts : List Lexeme) (total : Reads S) (so_far : repeat_at begins turn (count - i) s ts ≡ total) where
  one : i < count → total ≡ repeat_on begins turn (repeat_at begins turn (count - (i + 1))) s ts (begins ts)
  unfolding repeat_at
  one lt = let k : count - i ≡ suc (count - (i + 1)) = omega arith in sym so_far ∙ ap (λ (n : ℕ). repeat_at begins turn n s ts) k

  pub ended : i < count → begins ts ≡ None → total ≡ Ok (s, ts)
  ended lt at = one lt ∙ ap (repeat_on begins turn (repeat_at begins turn (count - (i + 1))) s ts) at

  pub turn_fails : (e : ParseError) (r : List Lexeme) → i < count → begins ts ≡ Some r → Fails e (turn s r) → Fails e total
  turn_fails e r lt at h = rw (one lt, at) (bind_fails e (turn s r) _ h)

  pub goes_on : (r : List Lexeme) (u : S) (rest : List Lexeme) → i < count → begins ts ≡ Some r → turn s r ≡ Ok (u, rest) → repeat_at begins turn (count - (i + 1)) u rest ≡ total
  goes_on r u rest lt at h = sym (one lt ∙ rw (at, h) refl)

  pub runs_out : count ≤ i → total ≡ Err Syntax
  unfolding repeat_at
  runs_out le = let k : count - i ≡ 0 = omega arith in sym so_far ∙ ap (λ (n : ℕ). repeat_at begins turn n s ts) k
