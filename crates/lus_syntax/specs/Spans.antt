-- Where the tokens of a text stand.
use Rattle.std.specs.Prelude.{◌≡◌, ℕ, ◌<◌, ◌≤◌, List, [], ◌∷◌, ◌++◌, Ok, IsUtf8}
use Rattle.lus_syntax.specs.declared.token.Place.{Place}
use Rattle.lus_syntax.specs.Lexemes.{Lexeme}
use Rattle.lus_syntax.specs.Places.{place_behind, end_of}
use Rattle.lus_syntax.specs.Texts.{meaning}

-- the text's slice at the token's span spells the token
pub record StandsIn (whole : List ℕ) (t : Lexeme) : Type 0 where
  pub front : List ℕ
  pub text : List ℕ
  pub rest : List ℕ
  pub parts : whole ≡ front ++ (text ++ rest)
  pub start : t.span.start ≡ place_behind front
  pub ends : end_of t.span ≡ place_behind (front ++ text)
  pub means : meaning text ≡ Ok t.kind
  -- of valid UTF-8 the front is whole characters
  pub valid : IsUtf8 whole → IsUtf8 front

-- each token is some text, and begins where the one before it ends or later
abbrev pub InOrder : ℕ → List Lexeme → Type 0
InOrder from [] = Unit {0}
InOrder from (t ∷ ts) = (from ≤ t.span.start.byte) × (t.span.start.byte < (end_of t.span).byte) × InOrder (end_of t.span).byte ts

-- the place is that behind a front of the text
pub record StandsAt (whole : List ℕ) (place : Place) : Type 0 where
  pub front : List ℕ
  pub rest : List ℕ
  pub parts : whole ≡ front ++ rest
  pub is : place ≡ place_behind front
  pub valid : IsUtf8 whole → IsUtf8 front
