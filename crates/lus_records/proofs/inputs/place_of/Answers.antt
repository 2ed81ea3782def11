-- A name's place in the table is its place among the texts of the table.
use Rattle.std.proofs.Common.{◌∙◌, sym, string_bytes}
use Rattle.std.specs.Str.{bytes_eq}
use Rattle.lus_scripts.proofs.Lists.{position-map}
use Rattle.lus_records.proofs.inputs.place_of.Goals as goal

pub returns : goal.returns
returns c = c.get_index_of.ensures.index ∙ sym (position-map (bytes_eq c.args.name.now) string_bytes c.args.head.now.keys)
