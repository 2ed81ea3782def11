-- What a renaming keeps of a source.
use Rattle.std.specs.Prelude.{ℕ}
use Rattle.lus_syntax.specs.Lexemes.{Text}
use Rattle.lus_rename.specs.EditSpecs.Kept.{KeepsComments, RenamesTokens}
use Rattle.lus_rename.specs.Renaming.{IsName, IsNameAt, SameButForNames}

-- the text has the source's tokens, but that the name at a byte is the new one here or there, and its comments; where the source is
-- accepted it is accepted too, as a program that is the same but for names, and where the source is refused it is refused by the same
-- number
pub record Renames (source : Text) (byte : ℕ) (name made : Text) : Type 0 where
  pub is_name : IsName name
  pub old : Text
  pub at : IsNameAt source byte old
  pub tokens : RenamesTokens old name source made
  pub comments : KeepsComments source made
  pub program : SameButForNames source made
