use Rattle.std.proofs.Common.{rules}
use Rattle.lus_proposals.proofs.Steps.{one_more}
use Rattle.lus_proposals.proofs.binding.operators_in.Goals as goal

pub loop-word-preserved : goal.loop-word-preserved
loop-word-preserved c =
    one_more c.args.words.now c.loop-word.word-index _ c.loop-word.depth _ c.loop-word.is_behind c.loop-word.is_sampled _ _ _ _ _ _ (search rules)
    c.loop-word.invariant.0 c.loop-word.invariant.1 c.stands_free.ensures c.in_ok-push_operator.ensures c.depth_behind-depth.ensures
    c.may_end-is_behind.ensures c.is_among-is_sampled.ensures
