use Rattle.std.proofs.Common.{◌≡◌, drop, map}
use Rattle.std.specs.List.{list_all}
use Rattle.lus_syntax.specs.View.{constant_seen}
use Rattle.lus_source.specs.ScopeView.{tables_seen}
use Rattle.lus_types.specs.ByScope.{constant_fits}
use Rattle.lus_types.proofs.constants.check_constants.Given as goal

abbrev pub invariant-loop-constant : goal.invariant-loop-constant
invariant-loop-constant l = list_all (constant_fits (tables_seen l.tables)) (map constant_seen (drop l.constant-index l.constants)) ≡ list_all (constant_fits (tables_seen l.tables)) (map constant_seen l.constants)
