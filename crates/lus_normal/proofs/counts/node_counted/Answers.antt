use Rattle.std.proofs.Common.{◌≡◌, arith}
use Rattle.std.proofs.lemmas.Grind.{common_steps}
use Rattle.lus_normal_form.specs.NormalNodes.{counted as counted_of, count_rights}
use Rattle.lus_program.specs.View.{node_of}
use Rattle.lus_normal.proofs.StoredCounts.{stored_counts, counts_stored}
use Rattle.lus_normal.proofs.counts.node_counted.Goals as goal

pub returns : goal.returns
returns c =
    let stored = c.args.node.now.equations.items in
    let e : count_rights (counted_of c.args.pres c.args.arrows 0) (node_of c.args.node.now).equations ≡ stored_counts c.args.pres c.args.arrows stored = counts_stored c.args.pres c.args.arrows 0 stored in
    rw e (grind (arith, common_steps))
