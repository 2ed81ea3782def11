-- How C is answered why a text is refused.
use Rattle.std.specs.Prelude.{◌≡◌, ◌-◌, ◌^◌, ℕ, min}
use Rattle.lus_syntax.specs.Lexemes.{Text}
use Rattle.lus_syntax.specs.declared.refusal.Refusal.{Refusal}
use Rattle.lus_syntax.specs.declared.refusal.RefusalNumber.{RefusalNumber}
use Rattle.lus_syntax.specs.declared.refusal.RefusalNumber.TheVariants.{Lexical, Syntax, Unsupported, Name, «Type», Clock, Cycle, Nil, Recursion, Limit, Memory}
pub use Rattle.lus_shared.specs.MachineSpecs.Acceptance.{RefusedWith, IsRefused}
use Rattle.lus_c.specs.declared.compiling.Refused.{Refused}

-- 1 to 11, of E1 to E11
abbrev pub code : RefusalNumber → ℕ
code Lexical = 1
code Syntax = 2
code Unsupported = 3
code Name = 4
code «Type» = 5
code Clock = 6
code Cycle = 7
code Nil = 8
code Recursion = 9
code Limit = 10
code Memory = 11

-- the refusal's own number and place; past the greatest number of 32 bits, the greatest
pub record IsWritten (e : Refusal) (r : Refused) : Type 0 where
  pub number : r.number ≡ code e.number
  pub line : r.line ≡ min e.line (2 ^ 32 - 1)
  pub column : r.column ≡ min e.column (2 ^ 32 - 1)

-- the number and the place of the first pass that refuses the text
pub record TellsRefusal (text : Text) (r : Refused) : Type 0 where
  pub refusal : Refusal
  pub first : RefusedWith text refusal
  pub written : IsWritten refusal r
