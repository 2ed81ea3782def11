-- Strings of JSON.
use Rattle.serde_json.specs.Data.{string}
use Rattle.serde_json.specs.Written.{compact_text}
use Rattle.lus_syntax.specs.Lexemes.{Text}

-- a text as a string of JSON
unfoldable pub quoted : Text → Text
quoted text = compact_text (string text)
