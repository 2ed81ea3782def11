-- Reading parts one after the other, as a loop does.
use Rattle.std.proofs.Common.{◌≡◌, ℕ, suc, ◌+◌, ◌-◌, ◌<◌, ◌≤◌, max, true, false, List, [], ◌∷◌, ◌++◌, length, Ok, Err, refl, sym, ap, ◌∙◌, arith}
use Rattle.lus_grammar.specs.declared.fault.ParseError.{ParseError}
use Rattle.lus_spelling.specs.declared.form.Form.{Form}
use Rattle.lus_syntax.specs.Lexemes.{Lexeme}
use Rattle.lus_syntax.specs.Trees.{Expression, Lead}
use Rattle.lus_spelling.specs.Reading.{Syntax, Reader, Several, Item, ◌>>=◌, turn_at, part_at, parts_at, onward}
use Rattle.lus_grammar.specs.Answers.{Fails}
use Rattle.lus_syntax.specs.View.{tokens_seen}
use Rattle.lus_syntax.specs.declared.token.Token.{Token}
use Rattle.lus_grammar.proofs.Steps.{bind_fails}

module _ (form : Form) (whole : Reader) (us : List (Lead × Expression)) (d count i : ℕ) (ts : List Lexeme) (total : Several) (so_far : parts_at (count - i) form whole us d ts ≡ total) where
  one : i < count → total ≡ (part_at form whole ts >>= λ p. turn_at form p.rest >>= λ t. onward (parts_at (count - (i + 1)) form whole) (us ++ (p.lead, p.tree) ∷ []) (max d p.depth) t)
  unfolding parts_at
  one lt = let k : count - i ≡ suc (count - (i + 1)) = omega arith in sym so_far ∙ ap (λ (n : ℕ). parts_at n form whole us d ts) k

  pub part_fails : (e : ParseError) → i < count → Fails e (part_at form whole ts) → Fails e total
  part_fails e lt h = rw (one lt) (bind_fails e (part_at form whole ts) _ h)

  pub turn_fails : (e : ParseError) (p : Item) → i < count → part_at form whole ts ≡ Ok p → Fails e (turn_at form p.rest) → Fails e total
  turn_fails e p lt h fails = rw (one lt, h) (bind_fails e (turn_at form p.rest) _ fails)

  pub all_read : (p : Item) (rest : List Lexeme) (vs : List (Lead × Expression)) (m : ℕ) → i < count → part_at form whole ts ≡ Ok p → turn_at form p.rest ≡ Ok (false, rest) → vs ≡ us ++ (p.lead, p.tree) ∷ [] → m ≡ max d p.depth → total ≡ Ok (vs, m, rest)
  all_read p rest vs m lt h turned ev em = one lt ∙ rw (h, turned, ev, em) refl

  pub goes_on : (p : Item) (rest : List Lexeme) (vs : List (Lead × Expression)) (m : ℕ) → i < count → part_at form whole ts ≡ Ok p → turn_at form p.rest ≡ Ok (true, rest) → vs ≡ us ++ (p.lead, p.tree) ∷ [] → m ≡ max d p.depth → parts_at (count - (i + 1)) form whole vs m rest ≡ total
  goes_on p rest vs m lt h turned ev em = sym (one lt ∙ rw (h, turned, ev, em) refl)

  pub runs_out : count ≤ i → total ≡ Err Syntax
  unfolding parts_at
  runs_out le = let k : count - i ≡ 0 = omega arith in sym so_far ∙ ap (λ (n : ℕ). parts_at n form whole us d ts) k

-- as many tokens as are seen
pub seen_length : (ts : List Token) → length ts ≡ length (tokens_seen ts)
seen_length [] = refl
seen_length (t ∷ ts) = ap suc (seen_length ts)
