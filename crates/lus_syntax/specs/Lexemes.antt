-- Tokens as plain data: what a token is and where it stands, without where its name lies in memory.
use Rattle.std.specs.Prelude.{ℕ, ℤ, List}
use Rattle.lus_syntax.specs.declared.token.Span.{Span}
use Rattle.lus_syntax.specs.declared.token.Symbol.{Symbol}
use Rattle.lus_syntax.specs.declared.token.Word.{Word}

-- a name's bytes
abbrev pub Text : Type 0
Text = List ℕ

pub data Kind : Type 0 where
  Identifier : Text → Kind
  Number : ℤ → Kind
  Sign : Symbol → Kind
  Keyword : Word → Kind

pub record Lexeme : Type 0 where
  pub kind : Kind
  pub span : Span

-- a token of this kind, standing here
abbrev pub tok : Kind → Span → Lexeme
tok kind span = record { kind = kind; span = span }
