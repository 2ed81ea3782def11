use Rattle.std.proofs.Common.{◌≡◌, ◌+◌, take, map, sum_by}
use Rattle.lus_values.specs.Lists.{item}
use Rattle.lus_program.specs.View.{field_of}
use Rattle.lus_program.specs.Leaves.{kind_leaves}
use Rattle.lus_source.proofs.sizes.leaves_of_fields.Given as goal

abbrev pub invariant-loop-field : goal.invariant-loop-field
invariant-loop-field l = l.left + sum_by (λ g. kind_leaves (item 1 l.leaves) g.kind) (map field_of (take l.field-index l.fields)) ≡ 1024
