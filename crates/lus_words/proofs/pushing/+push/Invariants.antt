use Rattle.std.proofs.Common.{◌≡◌, ◌++◌, map, drop, length}
use Rattle.lus_values.specs.Values.{fields_of}
use Rattle.lus_values.specs.View.{value_of}
use Rattle.lus_instructions.specs.Words.{entry_in}
use Rattle.lus_words.specs.Encoded.{all_words}
use Rattle.lus_words.specs.Fitting.{AllFit}
use Rattle.lus_words.specs.Layouts.{layouts_of}
use Rattle.lus_words.specs.View.{layout_of}
use Rattle.lus_words.proofs.pushing.+push.Given as goal

abbrev pub invariant-push_fields-loop-part : goal.invariant-push_fields-loop-part
invariant-push_fields-loop-part l =
    (length l.parts ≡ length l.fields)
    × AllFit (layouts_of (map layout_of (drop (length l.yielded) l.parts))) (fields_of (map value_of (drop (length l.yielded) l.fields)))
    × (map entry_in l.row.items ++ all_words (layouts_of (map layout_of (drop (length l.yielded) l.parts))) (fields_of (map value_of (drop (length l.yielded) l.fields)))
    ≡ map entry_in l.fn.row.items ++ all_words (layouts_of (map layout_of l.parts)) (fields_of (map value_of l.fields)))
