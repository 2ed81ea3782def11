-- What a renaming keeps of a source: its tokens but for a name, and the program that it means but for names, or the number by which it
-- is refused.
use Rattle.std.specs.Prelude.{◌≡◌, ◌≢◌, ◌≤◌, ℕ, List, Some, slice_get}
use Rattle.lus_syntax.specs.declared.token.Token.{Token}
use Rattle.lus_syntax.specs.declared.refusal.Refusal.{Refusal}
use Rattle.lus_syntax.specs.declared.refusal.RefusalNumber.{RefusalNumber}
use Rattle.lus_syntax.specs.declared.refusal.RefusalNumber.TheVariants as numbers
use Rattle.lus_syntax.specs.Lexemes.{Identifier, Lexeme, Text}
use Rattle.lus_syntax.specs.Places.{end_of}
use Rattle.lus_syntax.specs.Tokens.{Tokens}
use Rattle.lus_syntax.specs.View.{token_seen}
use Rattle.lus_program.specs.Programs.{Program}
use Rattle.lus_machine.specs.Acceptance.{Accepted, RefusedWith}
use Rattle.lus_edits.specs.Kept.{KeepsComments, RenamesTokens}
use Rattle.lus_same.specs.Nameless.{nameless}

-- the token is this name, and stands at a byte of its text or ends there
pub record HasNameAt (token : Lexeme) (byte : ℕ) (name : Text) : Type 0 where
  pub is : token.kind ≡ Identifier name
  pub begins : token.span.start.byte ≤ byte
  pub ends : byte ≤ (end_of token.span).byte

-- one of the tokens is that name
pub record HaveNameAt (tokens : List Token) (byte : ℕ) (name : Text) : Type 0 where
  pub place : ℕ
  pub token : Token
  pub at : slice_get tokens place ≡ Some token
  pub has : HasNameAt (token_seen token) byte name

-- the source has tokens, and one of them is this name, at a byte of the source or ending there
pub record IsNameAt (source : Text) (byte : ℕ) (name : Text) : Type 0 where
  pub tokens : List Lexeme
  pub reads : Tokens source tokens
  pub place : ℕ
  pub token : Lexeme
  pub at : slice_get tokens place ≡ Some token
  pub has : HasNameAt token byte name

-- the text is a name: one stands at its first byte, and is all of it
abbrev pub IsName : Text → Type 0
IsName text = IsNameAt text 0 text

-- the source is accepted, as a program that is this one but for names
abbrev pub IsSameProgram : Program → Text → Type 0
IsSameProgram p source = (q : Program) × Accepted source q × (nameless p ≡ nameless q)

-- the source is refused by this number, and not for want of memory
abbrev pub IsRefusedBy : RefusalNumber → Text → Type 0
IsRefusedBy number source = (e : Refusal) × (e.number ≡ number) × (e.number ≢ numbers.Memory) × RefusedWith source e

-- both sources are accepted, as programs that are one but for names, or both are refused, by one number
pub data SameButForNames (old new : Text) : Type 0 where
  same_program : (p : Program) → Accepted old p → IsSameProgram p new → SameButForNames old new
  same_refusal : (number : RefusalNumber) → IsRefusedBy number old → IsRefusedBy number new → SameButForNames old new

-- the new source is the old one but for the name
abbrev pub Keeps : Text → Text → Text → Text → Type 0
Keeps old_name new_name old new = RenamesTokens old_name new_name old new × KeepsComments old new × SameButForNames old new
