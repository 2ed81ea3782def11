use Rattle.std.proofs.Common.{◌≡◌, ◌++◌, map, replicate, drop}
use Rattle.lus_instructions.specs.Words.{entry_in}
use Rattle.lus_words.specs.Layouts.{layouts_of, sizes}
use Rattle.lus_words.specs.View.{layout_of}
use Rattle.lus_words.proofs.pushing.+push_all.Given as goal

abbrev pub invariant-loop-part : goal.invariant-loop-part
invariant-loop-part l =
    map entry_in l.row.items ++ replicate (sizes (layouts_of (map layout_of (drop l.part-index l.part-items)))) (entry_in l.word)
    ≡ map entry_in l.fn.row.items ++ replicate (sizes (layouts_of (map layout_of l.part-items))) (entry_in l.word)
