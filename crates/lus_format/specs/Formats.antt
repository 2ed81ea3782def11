-- Why a text isn't laid out, and what a text that is keeps.
use Rattle.std.specs.Prelude.{◌≢◌, List}
use Rattle.lus_syntax.specs.declared.refusal.Refusal.{Refusal}
use Rattle.lus_syntax.specs.declared.refusal.RefusalNumber.TheVariants as numbers
use Rattle.lus_syntax.specs.Lexemes.{Lexeme, Text}
use Rattle.lus_syntax.specs.Limits.{most_depth}
use Rattle.lus_syntax.specs.Tokens.{Tokens, TellsFault}
use Rattle.lus_grammar.specs.Answers.{RefusedRightly}
use Rattle.lus_edits.specs.Kept.{KeepsComments, KeepsTokens}
use Rattle.lus_format.specs.declared.error.FormatError.{FormatError}
use Rattle.lus_format.specs.declared.error.FormatError.TheVariants as errors

-- the refusal is that of a text without tokens, or of one whose tokens spell no tree, or none of the depth that it may have
pub data IsUnread (text : Text) (e : Refusal) : Type 0 where
  no_tokens : TellsFault text e → IsUnread text e
  no_tree : (ts : List Lexeme) → Tokens text ts → RefusedRightly most_depth ts e.number → IsUnread text e

-- what an error says of the text: nothing where memory ran out, or where the layout failed
abbrev pub IsFormatRefusal : Text → FormatError → Type 0
IsFormatRefusal text (errors.Refused e) = e.number ≢ numbers.Memory → IsUnread text e
IsFormatRefusal text errors.Layout = Unit {0}

-- another text has the same tokens and the same comments
abbrev pub Keeps : Text → Text → Type 0
Keeps text made = KeepsTokens text made × KeepsComments text made
