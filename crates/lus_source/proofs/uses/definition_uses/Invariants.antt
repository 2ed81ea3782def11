use Rattle.std.proofs.Common.{◌≡◌, take, map, flat_map}
use Rattle.lus_syntax.specs.View.{fields_seen}
use Rattle.lus_source.specs.Loopless.{named_type}
use Rattle.lus_source.proofs.uses.definition_uses.Given as goal

abbrev pub invariant-loop-group : goal.invariant-loop-group
invariant-loop-group l = l.found.items ≡ flat_map (λ g. named_type l.types g.type_name) (map fields_seen (take l.group-index l.group-items))
