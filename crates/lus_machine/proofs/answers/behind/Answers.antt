-- The rows are gone through by a copy.
use Rattle.std.proofs.Common.{◌≤◌, List, ap, arith, length, subst}
use Rattle.lus_values.specs.Values.{Row}
use Rattle.lus_history.specs.Replies.{most_rows}
use Rattle.lus_machine.specs.Bursts.{GoesThrough}
use Rattle.lus_machine.proofs.Replied.{burst_outputs}
use Rattle.lus_machine.proofs.answers.behind.Goals as goal

pub returns-clause-ok : goal.returns-clause-ok
returns-clause-ok c =
    let few : length c.args.rows.now ≤ most_rows = omega (arith, c.if-count-gt-MOST_ROWS.false, ap length c.items-count.ensures) in
    burst_outputs c.args.code.now c.args.object.now c.args.rows.now c.in_ok-outputs.outputs c.in-Ok.next c.step_rows.new.object c.in-Ok.ensures few
    (subst (λ (rows : List Row). GoesThrough c.args.code.now c.in-Ok.next rows c.in_ok-outputs.outputs c.step_rows.new.object) c.items.ensures c.in_ok-outputs.ensures.ok)
