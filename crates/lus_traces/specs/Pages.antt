-- Pages of HTML that show journals: between a beginning and a script stand the lines of a file, in which nothing is markup.
use Rattle.std.specs.Prelude.{◌++◌, ◌-◌, ◌==◌, List, [], flat_map, length, map, codes, string_bytes, take}
use Rattle.std.specs.List.{slice_split}
use Rattle.lus_values.specs.Names.{Text}
use Rattle.lus_traces.specs.Markup.{escaped}
use Rattle.lus_traces.specs.declared.acting.TheConstants.{ACTING}
use Rattle.lus_traces.specs.declared.document.TheConstants.{OPENING}
use Rattle.lus_traces.specs.declared.reading.TheConstants.{READING}
use Rattle.lus_traces.specs.declared.showing.TheConstants.{SHOWING}
use Rattle.lus_traces.specs.declared.lines.Line as code

-- a line of the file, and further lines behind it
pub record Line : Type 0 where
  pub text : Text
  pub further : List Text

abbrev pub line_seen : code.Line → Line
line_seen l = record { text = l.text.now; further = map string_bytes l.further.items }

abbrev pub text_of : code.Line → Text
text_of l = l.text.now

abbrev pub plain : Text → Line
plain t = record { text = t; further = [] }

-- the texts before each line feed, with no lines behind them
abbrev pub whole_lines : Text → List Line
whole_lines text = let parts = slice_split (λ b. b == 10) text in map plain (take (length parts - 1) parts)

abbrev pub row_text : Text → Text
row_text t = escaped t ++ codes "\n"

abbrev pub line_text : Line → Text
line_text l = row_text l.text ++ flat_map row_text l.further

-- the page of a file's lines
unfoldable pub page_text : List Line → Text
page_text ls = ((OPENING.now ++ flat_map line_text ls ++ READING.now) ++ SHOWING.now) ++ ACTING.now
