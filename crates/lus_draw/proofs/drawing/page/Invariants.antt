-- The lines have their texts.
use Rattle.std.proofs.Common.{◌≡◌, map}
use Rattle.lus_traces.specs.Pages.{text_of}
use Rattle.lus_draw.proofs.drawing.page.Given as goal

abbrev pub invariant-loop-trace : goal.invariant-loop-trace
invariant-loop-trace l = map text_of l.lines.items ≡ map text_of l.initial.lines.items
