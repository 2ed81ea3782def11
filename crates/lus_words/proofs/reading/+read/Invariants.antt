use Rattle.std.proofs.Common.{◌≡◌, ◌+◌, map, drop}
use Rattle.lus_values.specs.View.{value_of}
use Rattle.lus_instructions.specs.Words.{entry_in}
use Rattle.lus_words.specs.Encoded.{all_read}
use Rattle.lus_words.specs.Layouts.{layouts_of, sizes}
use Rattle.lus_words.specs.View.{layout_of}
use Rattle.lus_words.proofs.Falling.{with_fields}
use Rattle.lus_words.proofs.reading.+read.Given as goal

abbrev pub invariant-read_structure-loop-part : goal.invariant-read_structure-loop-part
invariant-read_structure-loop-part l =
    let left = layouts_of (map layout_of (drop l.part-index l.parts)) in
    (l.place + sizes left ≡ l.fn.place + sizes (layouts_of (map layout_of l.parts)))
    × (with_fields (map value_of l.fields.items) (all_read left (drop l.place (map entry_in l.words)))
    ≡ all_read (layouts_of (map layout_of l.parts)) (drop l.fn.place (map entry_in l.words)))
