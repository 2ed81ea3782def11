-- The tables are as before, each node before this one is right, and its variables are found.
use Rattle.std.proofs.Common.{◌≡◌, map, take}
use Rattle.lus_values.specs.Lists.{Each}
use Rattle.lus_syntax.specs.View.{node_seen}
use Rattle.lus_source.specs.Named.{NodeNamed, names_in}
use Rattle.lus_source.specs.NameView.{known_seen}
use Rattle.lus_source.specs.Parts.{in_node}
use Rattle.lus_source.specs.Tables.{groups}
use Rattle.lus_source.proofs.nodes.check_nodes.Given as goal

abbrev pub invariant-loop-node : goal.invariant-loop-node
invariant-loop-node l = record {
  kept : known_seen l.names ≡ known_seen l.fn.names;
  named : Each (λ f. NodeNamed (in_node (known_seen l.fn.names) f) f) (map node_seen (take l.node-index l.nodes));
  variables : l.variables.items ≡ map (λ f. names_in (groups f)) (map node_seen (take l.node-index l.nodes));
}
