-- The lines have their texts.
use Rattle.std.proofs.Common.{◌≡◌, map}
use Rattle.lus_traces.specs.Pages.{text_of}
use Rattle.lus_traces.proofs.further.push_further.Given as goal

abbrev pub invariant-loop-head : goal.invariant-loop-head
invariant-loop-head l = map text_of l.lines.items ≡ map text_of l.initial.lines.items

abbrev pub invariant-loop-column : goal.invariant-loop-column
invariant-loop-column l = map text_of l.lines.items ≡ map text_of l.initial.lines.items
