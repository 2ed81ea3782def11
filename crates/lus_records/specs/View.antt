-- What the values of the code stand for.
use Rattle.std.specs.Prelude.{List, map, string_bytes}
use Rattle.lus_values.specs.Names.{Text}
use Rattle.lus_records.specs.Records.{cell_in}
use Rattle.lus_records.specs.declared.inputs.Cells.{Cells}

-- the names of a head
abbrev pub head_seen : Cells → List Text
head_seen c = map string_bytes c.head.now.keys

-- the cells under them
abbrev pub cells_seen : Cells → List Text
cells_seen c = map (λ t. t.now) c.cells.now

-- the cell under a name
abbrev pub cell_seen : Cells → Text → Text
cell_seen c = cell_in (head_seen c) (cells_seen c)
