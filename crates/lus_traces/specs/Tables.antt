-- Tables as CSV (RFC 4180), with line feeds at the ends of lines.
use Rattle.std.specs.Prelude.{◌==◌, Bool, List, [], ◌∷◌, ◌++◌, Option, Some, None, flat_map, map, codes, if◌then◌else◌}
use Rattle.std.specs.Fmt.{decimal}
use Rattle.std.specs.List.{list_any, slice_split}
use Rattle.lus_values.specs.Names.{Names, Text}
use Rattle.lus_values.specs.Text.{text_of}
use Rattle.lus_values.specs.Values.{Row, Value}
use Rattle.lus_printable.specs.Printable.{printable}
use Rattle.lus_diagrams.specs.Columns.{Column}
use Rattle.lus_diagrams.specs.declared.lineage.Head.{Head}
use Rattle.lus_diagrams.specs.declared.lineage.Head.TheVariants.{Instant, Burst, Reset, Save, Restore}
use Rattle.lus_traces.specs.Traces.{Trace}

-- ---- cells and lines

-- it has a comma, a quote, or the end of a line
abbrev pub needs_quotes : Text → Bool
needs_quotes t = list_any (λ b. list_any (λ c. c == b) (codes ",\"\r\n")) t

abbrev pub in_quotes : Text → Text
in_quotes t = codes "\"" ++ t ++ codes "\""

-- between quotes, with each quote in it doubled
abbrev pub quoted : Text → Text
quoted t = flat_map in_quotes (slice_split (λ b. b == 34) t)

abbrev pub cell_text : Text → Text
cell_text t = if needs_quotes t then quoted t else t

abbrev pub following : Text → Text
following t = codes "," ++ cell_text t

-- ---- tables: behind the instance's name, as it may be printed, come the number of an instant, the name of an event, and the values

abbrev pub title_of : Head → Text
title_of (Instant n) = decimal n
title_of (Burst n) = codes "burst " ++ decimal n
title_of Reset = codes "reset"
title_of (Save s) = codes "save " ++ decimal s
title_of (Restore s) = codes "restore " ++ decimal s

-- an absent value's cell is empty
abbrev pub shown : Names → Option Value → Text
shown names None = []
shown names (Some v) = text_of names v

abbrev pub instant_cells : Names → Text → Row → List Text
instant_cells names title row = title ∷ [] ∷ map (shown names) row

-- an event has no values
abbrev pub event_cells : Text → List Text → List Text
event_cells title signals = [] ∷ title ∷ map (λ signal. []) signals

-- of a column under such a head, with these signals
abbrev pub cells_under : Names → List Text → Head → Row → List Text
cells_under names signals (Instant n) row = instant_cells names (title_of (Instant n)) row
cells_under names signals h row = event_cells (title_of h) signals

abbrev pub others_text : Names → List Text → Column → Text
others_text names signals c = flat_map following (cells_under names signals c.head c.cells)

-- behind the instance's name
abbrev pub named_text : Names → Text → List Text → Column → Text
named_text names instance signals c = cell_text instance ++ others_text names signals c ++ codes "\n"

abbrev pub column_text : Names → Trace → Column → Text
column_text names t c = named_text names (printable t.instance) t.names c

unfoldable pub head_text : List Text → Text
head_text signals = codes "instance name,instant number,event name" ++ flat_map following signals ++ codes "\n"

-- a line of names, and one for each column of the journal's table
abbrev pub table_text : Names → Trace → Text
table_text names t = head_text t.names ++ flat_map (column_text names t) t.columns

abbrev pub next_table : Text → Text
next_table t = codes "\n" ++ t

-- tables with an empty line between two
abbrev pub joined : List Text → Text
joined [] = []
joined (t ∷ ts) = t ++ flat_map next_table ts

abbrev pub csv_text : Names → List Trace → Text
csv_text names ts = joined (map (table_text names) ts)
