use Rattle.std.proofs.Common.{◌≡◌, take, map}
use Rattle.lus_syntax.specs.View.{names_seen}
use Rattle.lus_source.specs.Meaning.{variable_place}
use Rattle.lus_source.specs.ScopeView.{scope_of}
use Rattle.lus_types.proofs.elaboration.equations.targets.Given as goal

abbrev pub invariant-loop-name : goal.invariant-loop-name
invariant-loop-name l = l.targets.items ≡ map (λ x. variable_place (scope_of l.scope) x.text) (names_seen (take l.name-index l.names))
