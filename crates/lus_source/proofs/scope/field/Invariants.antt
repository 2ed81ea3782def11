use Rattle.std.proofs.Common.{◌≡◌, map, drop}
use Rattle.lus_program.specs.View.{field_of}
use Rattle.lus_source.specs.Labels.{field_named, field_from}
use Rattle.lus_source.proofs.scope.field.Given as goal

abbrev pub invariant-loop-place : goal.invariant-loop-place
invariant-loop-place l = field_named (map field_of l.fields) l.name ≡ field_from l.place (map field_of (drop l.place l.fields)) l.name
