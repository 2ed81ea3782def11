-- Changes of a text (Language Server Protocol 3.17, "TextEdit").
use Rattle.std.specs.Prelude.{◌≡◌, ◌≤◌, ◌+◌, ℕ, List, [], ◌∷◌, ◌++◌, length, take, drop}
use Rattle.std.specs.List.{All}
use Rattle.lus_syntax.specs.Lexemes.{Text}
use Rattle.lus_queries.specs.declared.places.Spot.{Spot}
use Rattle.lus_queries.specs.declared.changes.Change.{Change}
use Rattle.lus_queries.specs.Spots.{spot_of}

-- a text with another one in place of so many bytes of it
abbrev pub replaced : Change → Text → Text
replaced c text = take c.byte text ++ (c.text.now ++ drop (c.byte + c.length) text)

-- a text with all of these changes. All places are those of the text before any change, so the last change is made first
abbrev pub changed : List Change → Text → Text
changed [] text = text
changed (c ∷ cs) text = replaced c (changed cs text)

-- each change begins where the one before ends, or behind it, and the last ends within so many bytes
abbrev pub AreApart : ℕ → List Change → ℕ → Type 0
AreApart from [] length = from ≤ length
AreApart from (c ∷ cs) length = (from ≤ c.byte) × AreApart (c.byte + c.length) cs length

-- a change begins and ends at the spots of its bytes
pub record IsPlaced (text : Text) (c : Change) : Type 0 where
  pub begins : c.from ≡ spot_of text c.byte
  pub ends : c.to ≡ spot_of text (c.byte + c.length)

-- changes that make one text of another
pub record Make (cs : List Change) (old new : Text) : Type 0 where
  pub made : changed cs old ≡ new
  pub apart : AreApart 0 cs (length old)
  pub placed : All (IsPlaced old) cs
