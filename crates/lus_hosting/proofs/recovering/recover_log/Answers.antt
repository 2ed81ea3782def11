-- A line of a log is one more of those so far, or the end is met behind them.
use Rattle.std.proofs.Common.{◌∙◌, ◌+◌, ap, refl, length}
use Rattle.lus_hosting.proofs.HostLaws.{none_named}
use Rattle.lus_hosting.proofs.RecoveryLaws.{read_noted, read_right, read_start, recovered_cut, recovered_over}
use Rattle.lus_hosting.proofs.recovering.recover_log.Goals as goal
use Rattle.lus_hosting.proofs.recovering.recover_log.Goals.{in-Noted+in_ok-bytes-in-Noted, in-Right+in_ok-bytes-in-Right}

pub loop-lines-init : goal.loop-lines-init
loop-lines-init g c = read_start _ _ _ _ (none_named c.no_instances-instances.result c.no_instances-instances.ensures)

pub loop-lines-preserved : goal.loop-lines-preserved
loop-lines-preserved g c =
    let so_far = c.loop-lines.invariant in
    let finds = c.in_ok-next_found.ensures _ so_far.audited.keeps in
    elim c.match-branch-2.branch [
      | in-Right+in_ok-bytes-in-Right w ↦ read_right _ _ _ _ _ _ _ so_far _ _ _ _ _ finds w.in-Right.is _
          (w.bytes-is ∙ w.in_ok-bytes-in-Right.ensures ∙ ap (λ l. c.loop-lines.bytes + length l) w.deref.ensures.value)
      | in-Noted+in_ok-bytes-in-Noted w ↦ read_noted _ _ _ _ _ _ _ so_far _ _ _ _ _ finds w.in-Noted.is _
          (w.bytes-is ∙ w.in_ok-bytes-in-Noted.ensures ∙ ap (λ l. c.loop-lines.bytes + length l) w.deref-in-Noted.ensures.value)
    ]

pub returns-in-Cut : goal.returns-in-Cut
returns-in-Cut g c =
    let so_far = c.loop-lines.invariant in
    recovered_cut _ _ _ _ _ _ _ so_far _ _ _ _ _ (c.in_ok-next_found.ensures _ so_far.audited.keeps) c.in-Cut.is _ refl refl refl

pub returns-in-Over : goal.returns-in-Over
returns-in-Over g c =
    let so_far = c.loop-lines.invariant in
    recovered_over _ _ _ _ _ _ _ so_far _ _ _ _ _ (c.in_ok-next_found.ensures _ so_far.audited.keeps) c.in-Over.is _ refl refl refl
