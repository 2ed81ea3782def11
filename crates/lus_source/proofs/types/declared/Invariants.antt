use Rattle.std.proofs.Common.{◌≡◌, map, take}
use Rattle.lus_syntax.specs.View.{type_seen}
use Rattle.std.specs.List.{zip}
use Rattle.lus_source.specs.Tables.{declared_by}
use Rattle.lus_source.specs.ByTable.{kind_in}
use Rattle.lus_program.specs.View.{declared_of}
use Rattle.lus_source.proofs.types.declared.Given as goal

abbrev pub invariant-loop-declaration : goal.invariant-loop-declaration
invariant-loop-declaration l = map declared_of l.all.items ≡ map (λ d. declared_by (kind_in (zip l.types l.kinds)) d.definition) (map type_seen (take l.declaration-index l.declarations))
