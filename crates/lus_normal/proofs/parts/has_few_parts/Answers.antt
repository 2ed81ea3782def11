use Rattle.std.proofs.Common.{◌≡◌, arith}
use Rattle.std.proofs.lemmas.Grind.{common_steps}
use Rattle.lus_program.specs.Parts.{program_parts}
use Rattle.lus_program.specs.View.{program_seen}
use Rattle.lus_normal.proofs.StoredParts.{nodes_parts, stored_nodes}
use Rattle.lus_normal.proofs.parts.has_few_parts.Goals as goal

pub returns : goal.returns
returns c =
    let e : program_parts (program_seen c.args.program.now) ≡ nodes_parts c.args.program.now.nodes.items = stored_nodes c.args.program.now.nodes.items in
    rw e (grind (arith, common_steps))
