use Rattle.lus_graph.proofs.NoWayBack.{order_has_none}
use Rattle.lus_syntax.specs.View.{tree_seen}
use Rattle.lus_source.specs.Loopless.{node_uses, type_uses}
use Rattle.lus_source.proofs.loopless.ordered.Goals as goal

pub invariant_of-result : goal.invariant_of-result
invariant_of-result c =
    let p = tree_seen c.args.named in
    record {
      loopless = record {
        types = order_has_none (type_uses p) c.in_ok-types.types.items c.in_ok-types.ensures.order;
        nodes = order_has_none (node_uses p) c.in_ok-nodes.nodes.items c.in_ok-nodes.ensures.order;
      };
      types = c.in_ok-types.ensures.order;
      nodes = c.in_ok-nodes.ensures.order;
    }

pub returns-clause-loopless : goal.returns-clause-loopless
returns-clause-loopless c =
    let p = tree_seen c.args.named in
    record {
      types = order_has_none (type_uses p) c.in_ok-types.types.items c.in_ok-types.ensures.order;
      nodes = order_has_none (node_uses p) c.in_ok-nodes.nodes.items c.in_ok-nodes.ensures.order;
    }
