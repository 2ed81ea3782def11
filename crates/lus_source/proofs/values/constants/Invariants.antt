use Rattle.std.proofs.Common.{◌≡◌, map, take}
use Rattle.std.specs.List.{zip}
use Rattle.lus_syntax.specs.View.{constant_seen}
use Rattle.lus_values.specs.View.{value_of}
use Rattle.lus_source.specs.Tables.{constants_by}
use Rattle.lus_source.proofs.values.constants.Given as goal

abbrev pub invariant-loop-constant : goal.invariant-loop-constant
invariant-loop-constant l = map value_of l.all.items ≡ map (λ e. e.1) (constants_by (zip l.names l.constructors) (map constant_seen (take l.constant-index l.constants)))
