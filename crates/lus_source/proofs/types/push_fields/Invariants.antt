use Rattle.std.proofs.Common.{◌≡◌, ◌++◌, map, take}
use Rattle.lus_syntax.specs.View.{names_seen}
use Rattle.lus_source.specs.Tables.{fields_of_kind}
use Rattle.lus_program.specs.View.{field_of}
use Rattle.lus_source.proofs.types.push_fields.Given as goal

abbrev pub invariant-loop-name : goal.invariant-loop-name
invariant-loop-name l = map field_of l.fields.items ≡ map field_of l.fn.fields.items ++ fields_of_kind (names_seen (take l.name-index l.names)) l.kind
