-- What an edit of a text keeps: its tokens, its tokens but for one name, and its comments (Lustre V6 reference manual, "Lexical
-- aspects").
use Rattle.std.specs.Prelude.{◌≡◌, ◌⊎◌, ◌-◌, ◌++◌, ℕ, List, [], ◌∷◌, length, map, take, drop}
use Rattle.std.specs.Char.{is_ascii_whitespace}
use Rattle.std.specs.List.{AllZip, suffix_len}
use Rattle.lus_syntax.specs.Gaps.{Piece}
use Rattle.lus_syntax.specs.Lexemes.{Text, Kind, Identifier, Lexeme}
use Rattle.lus_syntax.specs.Places.{end_of}
use Rattle.lus_syntax.specs.Tokens.{Tokens}

-- ---- tokens

-- what tokens are, wherever they stand
abbrev pub kinds : List Lexeme → List Kind
kinds ts = map (λ t. t.kind) ts

-- the same token, or one name in place of another
abbrev pub IsRenamed : Text → Text → Kind → Kind → Type 0
IsRenamed old new a b = (a ≡ b) ⊎ ((a ≡ Identifier old) × (b ≡ Identifier new))

-- likewise one by one
abbrev pub AreRenamed : Text → Text → List Kind → List Kind → Type 0
AreRenamed old new [] [] = Unit {0}
AreRenamed old new (a ∷ others) (b ∷ bs) = IsRenamed old new a b × AreRenamed old new others bs
AreRenamed old new [] (b ∷ bs) = ⊥
AreRenamed old new (a ∷ others) [] = ⊥

-- both texts have tokens, and the same
pub record KeepsTokens (old new : Text) : Type 0 where
  pub before : List Lexeme
  pub after : List Lexeme
  pub reads : Tokens old before
  pub writes : Tokens new after
  pub same : kinds before ≡ kinds after

-- both texts have tokens, and the same but for one name, which is another one here or there
pub record RenamesTokens (old_name new_name old new : Text) : Type 0 where
  pub before : List Lexeme
  pub after : List Lexeme
  pub reads : Tokens old before
  pub writes : Tokens new after
  pub renamed : AreRenamed old_name new_name (kinds before) (kinds after)

-- ---- comments

-- a text without the blanks at its end
abbrev pub without_end : Text → Text
without_end text = take (length text - suffix_len is_ascii_whitespace text) text

-- a comment before others; blanks are none
abbrev pub note : Text → List Text → List Text
note [] comments = comments
note (b ∷ bs) comments = (b ∷ bs) ∷ comments

-- the comments among blanks and comments, each without the blanks at its end
abbrev pub said : List Text → List Text
said [] = []
said (piece ∷ pieces) = note (without_end piece) (said pieces)

-- these blanks and comments, one behind the other, are the text
abbrev pub ArePieces : List Text → Text → Type 0
ArePieces [] text = text ≡ []
ArePieces (piece ∷ pieces) text = (after : Text) × (text ≡ piece ++ after) × Piece piece after × ArePieces pieces after

-- blanks and comments, and these are the comments
pub record HasComments (gap : Text) (comments : List Text) : Type 0 where
  pub pieces : List Text
  pub parts : ArePieces pieces gap
  pub are : comments ≡ said pieces

abbrev pub HaveSameComments : Text → Text → Type 0
HaveSameComments gap other = (comments : List Text) × HasComments gap comments × HasComments other comments

-- what stands before each token, from a byte of the text on, and what stands behind the last
abbrev pub gaps : ℕ → List Lexeme → Text → List Text
gaps from [] text = drop from text ∷ []
gaps from (t ∷ ts) text = take (t.span.start.byte - from) (drop from text) ∷ gaps (end_of t.span).byte ts text

abbrev pub KeepComments : ℕ → List Lexeme → Text → ℕ → List Lexeme → Text → Type 0
KeepComments from ts old new_from us new = AllZip HaveSameComments (gaps from ts old) (gaps new_from us new)

-- both texts have tokens and the same comments, each behind as many tokens
pub record KeepsComments (old new : Text) : Type 0 where
  pub before : List Lexeme
  pub after : List Lexeme
  pub reads : Tokens old before
  pub writes : Tokens new after
  pub same : KeepComments 0 before old 0 after new
