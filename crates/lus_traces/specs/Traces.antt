-- A journal's table with the names of its rows.
use Rattle.std.specs.Prelude.{List, string_bytes}
use Rattle.lus_values.specs.Names.{Text}
use Rattle.lus_diagrams.specs.Columns.{Column}
use Rattle.lus_traces.specs.declared.trace.Signal.{Signal}

-- the instance, the names of the signals, and the columns of the journal's table
pub record Trace : Type 0 where
  pub instance : Text
  pub names : List Text
  pub columns : List Column

abbrev pub name_of : Signal → Text
name_of s = string_bytes s.name
