use Rattle.std.proofs.Common.{◌≡◌, ◌++◌, drop, flat_map, map}
use Rattle.lus_syntax.specs.View.{type_seen}
use Rattle.lus_source.specs.Tables.{constructors_by, constructors_of, numbered_from}
use Rattle.lus_source.proofs.values.constructors.Given as goal

abbrev pub invariant-loop-place : goal.invariant-loop-place
invariant-loop-place l =
    l.all.items ++ map (λ e. e.1) (flat_map (λ e. constructors_of e.0.definition e.1) (numbered_from l.place (map type_seen (drop l.place l.declarations))))
    ≡ map (λ e. e.1) (constructors_by (map type_seen l.declarations))
