use Rattle.std.proofs.Common.{◌≡◌, take, map}
use Rattle.lus_syntax.specs.View.{equation_seen}
use Rattle.lus_values.specs.Lists.{Each}
use Rattle.lus_source.specs.ScopeView.{scope_of}
use Rattle.lus_types.specs.Wholes.{EquationTyped}
use Rattle.lus_types.proofs.Numbering.{unnumbered, unnumbered_meant}
use Rattle.lus_types.proofs.nodes.equations.Given as goal

abbrev pub invariant-loop-source : goal.invariant-loop-source
invariant-loop-source l = record {
  meant : map unnumbered l.equations.items ≡ map (unnumbered_meant (scope_of l.scope)) (map equation_seen (take l.source-index l.sources));
  typed : Each (EquationTyped (scope_of l.scope)) (map equation_seen (take l.source-index l.sources));
}
