-- Which signals of a node are drawn.
use Rattle.std.specs.Prelude.{◌≡◌}
use Rattle.lus_values.specs.Names.{Text}
use Rattle.lus_sketches.specs.declared.selection.Selection.{Selection as StoredSelection}
use Rattle.lus_sketches.specs.declared.selection.Selection.TheVariants as selections

-- a node's inputs and outputs, or what names choose, with commas between them
pub data Selection : Type 0 where
  formals : Selection
  named : Text → Selection

abbrev pub selection_seen : StoredSelection → Selection
selection_seen selections.Formals = formals
selection_seen (selections.Named names) = named names.now

-- values are picked of the streams, and aren't the entries' own
abbrev pub IsPicked : Selection → Type 0
IsPicked s = s ≡ formals → ⊥
