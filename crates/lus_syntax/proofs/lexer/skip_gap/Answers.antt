use Rattle.lus_syntax.proofs.Runs.{gap_step}
use Rattle.lus_syntax.proofs.lexer.skip_gap.Goals as goal

pub loop-n-preserved : goal.loop-n-preserved
loop-n-preserved c =
    let s = gap_step c.args.start c.args.bytes.now c.loop-n.at c.loop-n.rest.now c.in-Bytes.n _ _ _ c.loop-n.invariant.so_far c.loop-n.invariant.room c.in-Bytes.ensures c.split_at.ensures.front c.split_at.ensures.back c.past-at.ensures in
    record { so_far = s.gap; room = s.room }
