use Rattle.std.proofs.Common.{◌≡◌, arith}
use Rattle.std.proofs.lemmas.Grind.{common_steps}
use Rattle.lus_program.specs.Parts.{node_parts}
use Rattle.lus_program.specs.View.{node_of}
use Rattle.lus_normal.proofs.StoredParts.{equations_parts, stored_node}
use Rattle.lus_normal.proofs.parts.node_parts.Goals as goal

pub returns : goal.returns
returns c =
    let e : node_parts (node_of c.args.node.now) ≡ equations_parts c.args.node.now.equations.items = stored_node c.args.node.now in
    rw e (grind (arith, common_steps))
