-- Parts of journals' tables, by the places of accepted instants, which are counted from 1.
use Rattle.std.specs.Prelude.{◌+◌, ◌&&◌, ℕ, Bool, true, false, List, [], ◌∷◌, nat_le, if◌then◌else◌}
use Rattle.lus_diagrams.specs.Columns.{Column}
use Rattle.lus_diagrams.specs.declared.lineage.Head.{Head}
use Rattle.lus_diagrams.specs.declared.lineage.Head.TheVariants as heads
use Rattle.lus_diagrams.specs.declared.parts.Part.{Part}

abbrev pub is_instant : Head → Bool
is_instant (heads.Instant n) = true
is_instant _ = false

-- how many instants there are up to a column, which is itself one or stands between two, where so many stand before it
abbrev pub up_to : ℕ → Head → ℕ
up_to n h = if is_instant h then n + 1 else n

-- whether a column behind so many instants stands in a part: an instant by its place, an event where the instant before it or the one
-- behind it could
abbrev pub is_within : Part → ℕ → Head → Bool
is_within p n h = nat_le p.from (n + 1) && nat_le (up_to n h) p.to

abbrev pub kept : Bool → Column → List Column → List Column
kept true c cs = c ∷ cs
kept false c cs = cs

-- of columns behind so many instants those of a part
abbrev pub part_behind : Part → ℕ → List Column → List Column
part_behind p n [] = []
part_behind p n (c ∷ cs) = kept (is_within p n c.head) c (part_behind p (up_to n c.head) cs)

abbrev pub part_of : Part → List Column → List Column
part_of p cs = part_behind p 0 cs

-- how many instants there are up to the end of columns behind so many
abbrev pub all_up_to : ℕ → List Column → ℕ
all_up_to n [] = n
all_up_to n (c ∷ cs) = all_up_to (up_to n c.head) cs
