use Rattle.lus_source.specs.NameView.{known_seen}
use Rattle.lus_source.proofs.NodeParts.{found_unknown}
use Rattle.lus_source.proofs.nodes.unknown_in_node.Goals as goal

pub returns : goal.returns
returns c =
    let inputs = rw c.deref.ensures.value at c.first_unknown.ensures in
    let outputs = rw c.deref-2.ensures.value at c.first_unknown-2.ensures in
    let locals = rw c.deref-3.ensures.value at c.first_unknown-3.ensures in
    let rights = rw c.deref-4.ensures.value at c.first_unknown-4.ensures in
    rw (c.or-3.ensures, c.or-2.ensures, c.or.ensures)
    (found_unknown (known_seen c.args.names.now) c.args.node.now c.first_unknown.result c.first_unknown-2.result c.first_unknown-3.result c.first_unknown-4.result inputs outputs locals rights)
