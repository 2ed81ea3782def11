-- What columns of the code stand for.
use Rattle.lus_diagrams.specs.Columns as columns
use Rattle.lus_diagrams.specs.declared.table.Column.{Column}

abbrev pub column_seen : Column → columns.Column
column_seen c = record { head = c.head; cells = c.cells }
