use Rattle.std.proofs.Common.{rules}
use Rattle.lus_proposals.proofs.Same.{differ}
use Rattle.lus_proposals.proofs.keeping.are_same.Goals as goal

pub returns-then-left-right : goal.returns-then-left-right
returns-then-left-right c = differ c.args.left.now c.args.right.now (search rules)
