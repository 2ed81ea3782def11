-- Names that stand for declarations.
use Rattle.std.specs.Prelude.{◌≡◌, ◌≤◌, ℕ, List, Some, slice_get}
use Rattle.lus_syntax.specs.declared.token.Token.{Token}
use Rattle.lus_syntax.specs.Lexemes.{Identifier, Text}
use Rattle.lus_syntax.specs.Places.{end_of}
use Rattle.lus_syntax.specs.View.{kind_seen}
use Rattle.lus_occurrences.specs.declared.names.Declaration.{Declaration}
use Rattle.lus_occurrences.specs.declared.names.Occurrence.{Occurrence}

-- the token at this place is this name
pub record Spells (tokens : List Token) (place : ℕ) (name : Text) : Type 0 where
  pub token : Token
  pub at : slice_get tokens place ≡ Some token
  pub is : kind_seen token.kind ≡ Identifier name

-- the token at this place stands at a byte of the text, or ends there
pub record StandsAt (tokens : List Token) (place byte : ℕ) : Type 0 where
  pub token : Token
  pub at : slice_get tokens place ≡ Some token
  pub begins : token.span.start.byte ≤ byte
  pub ends : byte ≤ (end_of token.span).byte

-- the declaration at this place is that of this name
pub record Declares (tokens : List Token) (declarations : List Declaration) (place : ℕ) (name : Text) : Type 0 where
  pub declaration : Declaration
  pub at : slice_get declarations place ≡ Some declaration
  pub is : Spells tokens declaration.token name

-- the name is that of the declaration which it stands for
pub record StandsFor (tokens : List Token) (declarations : List Declaration) (o : Occurrence) : Type 0 where
  pub name : Text
  pub here : Spells tokens o.token name
  pub there : Declares tokens declarations o.declaration name
