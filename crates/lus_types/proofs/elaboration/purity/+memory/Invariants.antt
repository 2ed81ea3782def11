use Rattle.std.proofs.Common.{◌≡◌, map, drop}
use Rattle.lus_syntax.specs.View.{part_seen}
use Rattle.lus_syntax.specs.Trees.{parts_of}
use Rattle.lus_source.specs.WellTyped.{are_pure}
use Rattle.lus_source.specs.ScopeView.{scope_of}
use Rattle.lus_types.proofs.elaboration.purity.+memory.Given as goal

abbrev pub invariant-memory_in-loop-part : goal.invariant-memory_in-loop-part
invariant-memory_in-loop-part l = are_pure (scope_of l.scope) (parts_of (map part_seen (drop l.part-index l.parts))) ≡ are_pure (scope_of l.scope) (parts_of (map part_seen l.parts))
