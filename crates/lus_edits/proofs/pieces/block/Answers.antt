use Rattle.std.proofs.Common.{arith, sym}
use Rattle.lus_syntax.proofs.Blocks.{block_len_within}
use Rattle.lus_edits.proofs.pieces.block.Goals as goal

pub overflow_add-result : goal.overflow_add-result
overflow_add-result c = omega (arith, block_len_within c.args.close c.args.body.now c.in-Some.n (sym c.in-Some.ensures), c.requires)
