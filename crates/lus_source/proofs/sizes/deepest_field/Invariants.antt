use Rattle.std.proofs.Common.{◌≡◌, take, flat_map, map}
use Rattle.lus_values.specs.Lists.{item}
use Rattle.lus_program.specs.View.{field_of}
use Rattle.lus_program.specs.Sound.{structures_in}
use Rattle.lus_source.specs.Sized.{greatest}
use Rattle.lus_source.proofs.sizes.deepest_field.Given as goal

abbrev pub invariant-loop-field : goal.invariant-loop-field
invariant-loop-field l = l.deepest ≡ greatest (item 0 l.depths) (flat_map (λ g. structures_in g.kind) (map field_of (take l.field-index l.fields)))
