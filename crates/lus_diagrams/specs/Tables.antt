-- What a table stands for.
use Rattle.std.specs.Prelude.{◌≡◌, List}
use Rattle.lus_diagrams.specs.Columns.{Column, Noted, columns_of, lineage_from, newborn}
use Rattle.lus_diagrams.specs.Parts.{all_up_to, part_of}
use Rattle.lus_diagrams.specs.declared.table.Table.{Table}

-- these are the columns of its part of these entries, behind which it goes on
pub record HasNoted (columns : List Column) (es : List Noted) (t : Table) : Type 0 where
  pub columns_are : columns ≡ part_of t.part (columns_of es)
  pub instants : t.instants ≡ all_up_to 0 (columns_of es)
  pub lineage : t.lineage ≡ lineage_from newborn es
