use Rattle.std.proofs.Common.{◌+◌, ◌*◌, map, take}
use Rattle.lus_program.specs.View.{field_of, program_seen}
use Rattle.lus_words.specs.Layouts.{layouts_of, AreLayouts}
use Rattle.lus_words.specs.View.{layout_of}
use Rattle.lus_words.proofs.laying.+lay.Given as goal

abbrev pub decreases-layout_within : goal.decreases-layout_within
decreases-layout_within l = 2 * l.deep

abbrev pub decreases-layouts_within : goal.decreases-layouts_within
decreases-layouts_within l = 2 * l.deep + 1

abbrev pub invariant-layouts_within-loop-field : goal.invariant-layouts_within-loop-field
invariant-layouts_within-loop-field l = AreLayouts (program_seen l.program) (map (λ f. f.kind) (map field_of (take l.field-index l.fields))) (layouts_of (map layout_of l.parts.items))
