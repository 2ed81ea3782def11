use Rattle.std.proofs.Common.{◌≡◌, map, take}
use Rattle.lus_syntax.specs.View.{fields_seen}
use Rattle.std.specs.List.{zip}
use Rattle.lus_source.specs.Tables.{fields_by}
use Rattle.lus_source.specs.ByTable.{kind_in}
use Rattle.lus_program.specs.View.{field_of}
use Rattle.lus_source.proofs.types.fields.Given as goal

abbrev pub invariant-loop-group : goal.invariant-loop-group
invariant-loop-group l = map field_of l.fields.items ≡ fields_by (kind_in (zip l.types l.kinds)) (map fields_seen (take l.group-index l.groups))
