-- The plain layouts of what the code holds in a `Vec`.
use Rattle.std.proofs.Common.{◌≡◌, map, Vec, Global, refl, sym, ap, ◌∙◌}
use mathlib.Core.Former.{Count}
use Rattle.lus_words.specs.declared.layout.Layout.{Layout as StoredLayout, Parts, Parts', Row_of-Layout, end_of-Layout, more_of-Layout, items-the_row-Layout, items_hidden-the_row-Layout-0}
use Rattle.lus_words.specs.Layouts.{parts, next, layouts_of}
use Rattle.lus_words.specs.View.{layout_of, layouts_in}

row_layouts : (n : _) (row : Row_of-Layout n) → layouts_of (map layout_of (items-the_row-Layout n row)) ≡ layouts_in row
row_layouts n end_of-Layout = refl
row_layouts n (more_of-Layout l rest) = ap (next (layout_of l)) (row_layouts _ rest)

abbrev row_of_layout : StoredLayout → (n : Count) × Row_of-Layout n
row_of_layout (Parts' shape all) = (_, all)
row_of_layout _ = (_, end_of-Layout)

pub seen_parts : (all : Vec StoredLayout Global) → layout_of (Parts all) ≡ parts (layouts_of (map layout_of all.items))
seen_parts all =
    let row = row_of_layout (Parts all) in
    ap parts (sym (row_layouts row.0 row.1) ∙ ap (λ l. layouts_of (map layout_of l)) (items_hidden-the_row-Layout-0 all))
