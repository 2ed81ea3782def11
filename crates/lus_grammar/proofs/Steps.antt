-- Steps of the parser.
use Rattle.std.proofs.Common.{◌≡◌, ℕ, suc, List, Result, refl}
use Rattle.lus_grammar.specs.declared.fault.ParseError.{ParseError}
use Rattle.lus_grammar.specs.declared.fault.ParseError.TheVariants as errors
use Rattle.lus_grammar.specs.declared.operators.Head.{Head}
use Rattle.lus_grammar.specs.declared.operators.Head.TheVariants as heads
use Rattle.lus_syntax.specs.Lexemes.{Lexeme}
use Rattle.lus_spelling.specs.Expressions.{Level}
use Rattle.lus_spelling.specs.Reading.{Fault, ◌>>=◌, entry, deep_at, prefix_at, prefixed_on, prefixed_at, read, read_negation, read_negated, read_signed}
use Rattle.lus_grammar.specs.Rules.{head_level, head_operand, head_other}
use Rattle.lus_grammar.specs.Answers.{Fails}

pub bind_fails : {A B : Type 0} (e : ParseError) (r : Result A Fault) (f : A → Result B Fault) → Fails e r → Fails e (r >>= f)
bind_fails errors.Memory r f h = tt
bind_fails (errors.Syntax l) r f h = rw h refl
bind_fails (errors.Deep l) r f h = rw h refl

pub prefixed_is : (h : Head) (n : ℕ) (ts : List Lexeme) → read (suc n) (head_level h) ts ≡ prefixed_on (read n (head_level (head_operand h))) (read (suc n) (head_other h)) ts (prefix_at (head_level h) ts)
unfolding read read_negation read_negated read_signed prefixed_at
prefixed_is heads.Negation n ts = refl
prefixed_is heads.Negated n ts = refl
prefixed_is heads.Signed n ts = refl

-- where no depth is left, what may begin decides the fault
pub nothing_read : (n wanted : ℕ) (level : Level) (ts : List Lexeme) (e : ParseError) → n ≡ 0 → wanted ≡ entry level → Fails e (deep_at wanted ts) → Fails e (read n level ts)
unfolding read
nothing_read n wanted level ts e none same fails = rw (none, ← same) fails
