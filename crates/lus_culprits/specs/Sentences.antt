-- Sentences of one line, which a terminal may show.
use Rattle.std.specs.Prelude.{◌≡◌, ◌==◌, ◌&&◌, ℕ, Bool, true, not, nat_le, nat_lt}
use Rattle.std.specs.List.{list_all}
use Rattle.std.specs.Str.{chars}
use Rattle.lus_syntax.specs.Lexemes.{Text}
use Rattle.lus_lines.specs.Lines.{IsPlain}
use Rattle.lus_printable.specs.Printable.{is_seen}

-- it ends no line, and no character of it hides itself or what stands beside it
pub record IsSentence (text : Text) : Type 0 where
  pub plain : IsPlain text
  pub seen : list_all is_seen (chars text) ≡ true

-- a byte that ends no line
abbrev pub is_in_line : ℕ → Bool
is_in_line b = not (b == 10)

-- a character of ASCII that is seen, or a blank
abbrev pub is_basic : ℕ → Bool
is_basic b = nat_le 32 b && nat_lt b 127

-- of such characters alone
abbrev pub IsBasic : Text → Type 0
IsBasic text = list_all is_basic text ≡ true
