-- A column's place is that of its text among the texts of the columns.
use Rattle.std.proofs.Common.{◌∙◌, sym, string_bytes}
use Rattle.std.specs.Str.{bytes_eq}
use Rattle.lus_scripts.proofs.Lists.{position-map}
use Rattle.lus_test.proofs.finding.column_of.Goals as goal

pub returns : goal.returns
returns c = c.place_among.ensures ∙ sym (position-map (bytes_eq c.args.name.now) string_bytes c.args.columns.now)
