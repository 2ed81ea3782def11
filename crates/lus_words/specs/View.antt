-- The plain layouts that the code's are.
use Rattle.lus_words.specs.declared.layout.Layout.{Layout as StoredLayout, Word, Parts', Row_of-Layout, end_of-Layout, more_of-Layout}
use Rattle.lus_words.specs.Layouts.{Layout, word, parts, Layouts, done, next}

abbrev mutual
  pub layout_of : StoredLayout → Layout
  layout_of (Word k) = word k
  layout_of (Parts' shape all) = parts (layouts_in all)

  pub layouts_in : {m : _} → Row_of-Layout m → Layouts
  layouts_in end_of-Layout = done
  layouts_in (more_of-Layout l rest) = next (layout_of l) (layouts_in rest)
