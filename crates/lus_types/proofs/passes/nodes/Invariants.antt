use Rattle.std.proofs.Common.{◌≡◌, take, map}
use Rattle.lus_syntax.specs.View.{tree_seen}
use Rattle.lus_values.specs.Lists.{Each}
use Rattle.lus_program.specs.View.{node_of}
use Rattle.lus_source.specs.Meaning.{node_meant}
use Rattle.lus_source.specs.WellTyped.{NodeTyped}
use Rattle.lus_types.proofs.passes.nodes.Given as goal

abbrev pub invariant-loop-place : goal.invariant-loop-place
invariant-loop-place l = record {
  meant : map node_of l.nodes.items ≡ map (node_meant (tree_seen l.tabled)) (take l.place (tree_seen l.tabled).nodes);
  typed : Each (NodeTyped (tree_seen l.tabled)) (take l.place (tree_seen l.tabled).nodes);
}
