-- What is left to read in a loop that makes a tree deeper at each turn.
use Rattle.std.proofs.Common.{◌≡◌, ℕ, zero, suc, ◌+◌, ◌<◌, Bool, true, false, cond, List, Some, None, Result, Ok, Err, refl, sym, ap, subst, ◌∙◌, arith}
use Rattle.std.specs.Prelude.{nat_lt}
use Rattle.std.proofs.lemmas.Bool.{lt-ltb}
use Rattle.lus_grammar.specs.declared.operators.Chain.{Chain}
use Rattle.lus_grammar.specs.declared.operators.Chain.TheVariants as chains
use Rattle.lus_syntax.specs.declared.token.Span.{Span}
use Rattle.lus_syntax.specs.declared.token.Symbol.TheVariants as symbols
use Rattle.lus_syntax.specs.declared.tree.Infix.{Infix}
use Rattle.lus_grammar.specs.declared.fault.ParseError.{ParseError}
use Rattle.lus_syntax.specs.Lexemes.{Lexeme, Sign}
use Rattle.lus_syntax.specs.Trees.{Named, Field}
use Rattle.lus_spelling.specs.Expressions.{Level}
use Rattle.lus_spelling.specs.Reading.{Fault, Deep, Found, found, Read, Reader, ◌>>=◌, front, identifier_at, infix_at, join, two_on, more_at, dots_at, chain_at, read, read_implication, read_disjunction, read_conjunction, read_comparison, read_sum, read_term}
use Rattle.lus_grammar.specs.Rules.{level_of, operand_of}
use Rattle.lus_grammar.specs.Answers.{Fails}
use Rattle.lus_grammar.proofs.Steps.{bind_fails}

-- with enough turns, going on from `left` gives `total`
pub record Remains (reads : ℕ → Found → Read) (limit : ℕ) (left : Found) (total : Read) : Type 0 where
  pub turns : ℕ
  pub enough : limit < turns + left.depth
  pub goes_on : reads turns left ≡ total

-- a part is read, by which the tree grows unless it is too deep for that
abbrev pub grown : {A : Type 0} → Bool → (A → Found) → Result A Fault → (Found → Read) → Read
grown deep grow part more = part >>= λ x. cond deep (Err Deep) (more (grow x))

in_two : {A : Type 0} (deep : Bool) (grow : A → Found) (part : Result A Fault) (more : Found → Read) → grown deep grow part more ≡ (grown deep grow part (λ f. Ok f) >>= more)
in_two true grow (Ok x) more = refl
in_two false grow (Ok x) more = refl
in_two deep grow (Err f) more = refl

never : {A : Type 0} (grow : A → Found) (part : Result A Fault) (f : Found) → grown true grow part (λ f. Ok f) ≡ Ok f → ⊥
never grow (Ok x) f e = cc
never grow (Err g) f e = cc

module _ {A : Type 0} (reads : ℕ → Found → Read) (n : ℕ) (left : Found) (total : Read) (grow : A → Found) (part : Result A Fault)
    (next : (k : ℕ) → reads (suc k) left ≡ grown (nat_lt n left.depth) grow part (reads k)) (last : reads zero left ≡ grown true grow part (λ f. Ok f)) where
  abbrev one : Bool → Read
  one deep = grown deep grow part (λ f. Ok f)

  turn_fails_in : (e : ParseError) (turns : ℕ) → n < turns + left.depth → reads turns left ≡ total → Fails e (one (nat_lt n left.depth)) → Fails e total
  turn_fails_in e zero enough same h = subst (Fails e) (ap one (lt-ltb n left.depth (omega (arith, enough))) ∙ sym last ∙ same) h
  turn_fails_in e (suc k) enough same h = subst (Fails e) (sym (in_two (nat_lt n left.depth) grow part (reads k)) ∙ sym (next k) ∙ same) (bind_fails e (one (nat_lt n left.depth)) (reads k) h)

  pub turn_fails : (e : ParseError) → Remains reads n left total → Fails e (one (nat_lt n left.depth)) → Fails e total
  turn_fails e r h = turn_fails_in e r.turns r.enough r.goes_on h

  goes_on_in : (f : Found) (turns : ℕ) → n < turns + left.depth → reads turns left ≡ total → one (nat_lt n left.depth) ≡ Ok f → left.depth < f.depth → Remains reads n f total
  goes_on_in f zero enough same h deeper = absurd (never grow part f (ap one (sym (lt-ltb n left.depth (omega (arith, enough)))) ∙ h))
  goes_on_in f (suc k) enough same h deeper = record {
    turns = k;
    enough = omega arith;
    goes_on = sym (in_two (nat_lt n left.depth) grow part (reads k) ∙ ap (λ (r : Read). r >>= reads k) h) ∙ sym (next k) ∙ same;
  }

  pub goes_on : (f : Found) → Remains reads n left total → one (nat_lt n left.depth) ≡ Ok f → left.depth < f.depth → Remains reads n f total
  goes_on f r h deeper = goes_on_in f r.turns r.enough r.goes_on h deeper

pub is_done : (reads : ℕ → Found → Read) (n : ℕ) (left : Found) (total : Read) → Remains reads n left total → ((k : ℕ) → reads k left ≡ Ok left) → total ≡ Ok left
is_done reads n left total r same = sym r.goes_on ∙ same r.turns

-- ---- operands

pub chain_is : (c : Chain) (n : ℕ) (ts : List Lexeme) → read (suc n) (level_of c) ts ≡ (read (suc n) (operand_of c) ts >>= more_at (suc n) (level_of c) n (read n (operand_of c)))
unfolding read chain_at read_implication read_disjunction read_conjunction read_comparison read_sum read_term
chain_is chains.Implication n ts = refl
chain_is chains.Disjunction n ts = refl
chain_is chains.Conjunction n ts = refl
chain_is chains.Comparison n ts = refl
chain_is chains.Sum n ts = refl
chain_is chains.Term n ts = refl

module _ (level : Level) (n : ℕ) (operand : Reader) where
  abbrev pub operands : ℕ → Found → Read
  operands k left = more_at k level n operand left

  pub operands_end : (left : Found) → infix_at level left.tree left.rest ≡ None → (k : ℕ) → operands k left ≡ Ok left
  unfolding more_at
  operands_end left at zero = rw at refl
  operands_end left at (suc k) = rw at refl

  module _ (left : Found) (total : Read) (op : Infix) (after : List Lexeme) (at : infix_at level left.tree left.rest ≡ Some (op, after)) where
    next : (k : ℕ) → operands (suc k) left ≡ grown (nat_lt n left.depth) (join op left) (operand after) (operands k)
    unfolding more_at
    next k = rw at refl

    last : operands zero left ≡ grown true (join op left) (operand after) (λ f. Ok f)
    unfolding more_at
    last = rw at refl

    pub right_fails : (e : ParseError) → Remains operands n left total → Fails e (two_on n op operand (λ f. Ok f) left after) → Fails e total
    right_fails = turn_fails operands n left total (join op left) (operand after) next last

    pub right_read : (f : Found) → Remains operands n left total → two_on n op operand (λ f. Ok f) left after ≡ Ok f → left.depth < f.depth → Remains operands n f total
    right_read = goes_on operands n left total (join op left) (operand after) next last

pub first_fails : (c : Chain) (n : ℕ) (ts : List Lexeme) (e : ParseError) → Fails e (read (suc n) (operand_of c) ts) → Fails e (read (suc n) (level_of c) ts)
first_fails c n ts e h = rw (chain_is c n ts) (bind_fails e (read (suc n) (operand_of c) ts) _ h)

pub starts : (c : Chain) (n : ℕ) (ts : List Lexeme) (f : Found) → read (suc n) (operand_of c) ts ≡ Ok f → Remains (operands (level_of c) n (read n (operand_of c))) n f (read (suc n) (level_of c) ts)
starts c n ts f e = record {
  turns = suc n;
  enough = omega arith;
  goes_on = sym (chain_is c n ts ∙ rw e refl);
}

-- ---- fields

module _ (n : ℕ) where
  abbrev pub dots : ℕ → Found → Read
  dots k left = dots_at k n left

  pub dots_end : (left : Found) → front (Sign symbols.Dot) left.rest ≡ None → (k : ℕ) → dots k left ≡ Ok left
  unfolding dots_at
  dots_end left at zero = rw at refl
  dots_end left at (suc k) = rw at refl

  module _ (left : Found) (total : Read) (x : Span × List Lexeme) (at : front (Sign symbols.Dot) left.rest ≡ Some x) where
    abbrev pub field : Named × List Lexeme → Found
    field y = found (Field left.tree y.0) (suc left.depth) y.1

    next_dot : (k : ℕ) → dots (suc k) left ≡ grown (nat_lt n left.depth) field (identifier_at x.1) (dots k)
    unfolding dots_at
    next_dot k = rw at refl

    last_dot : dots zero left ≡ grown true field (identifier_at x.1) (λ f. Ok f)
    unfolding dots_at
    last_dot = rw at refl

    pub field_fails : (e : ParseError) → Remains dots n left total → Fails e (grown (nat_lt n left.depth) field (identifier_at x.1) (λ f. Ok f)) → Fails e total
    field_fails = turn_fails dots n left total field (identifier_at x.1) next_dot last_dot

    pub field_read : (f : Found) → Remains dots n left total → grown (nat_lt n left.depth) field (identifier_at x.1) (λ f. Ok f) ≡ Ok f → left.depth < f.depth → Remains dots n f total
    field_read = goes_on dots n left total field (identifier_at x.1) next_dot last_dot
