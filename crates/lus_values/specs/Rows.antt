-- The entries that a row stands for.
use Rattle.std.specs.Prelude.{List, [], ◌∷◌, map, Option}
use Rattle.lus_values.specs.Values.{Row}
use Rattle.lus_values.specs.View.{entry_of}
use Rattle.lus_values.specs.declared.row.Items.{Items}
use Rattle.lus_values.specs.declared.row.Items.TheVariants.{One, Many}

abbrev pub items_in : Items → Row
items_in (One e) = entry_of e ∷ []
items_in (Many es) = map entry_of es.items
