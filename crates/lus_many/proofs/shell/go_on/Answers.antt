-- A log isn't gone on from, or it is opened, its end is cut, and what was recovered of it is gone on from.
use Rattle.std.proofs.Common.{◌∙◌}
use Rattle.lus_many.proofs.EndLemmas.{gone_on}
use Rattle.lus_many.proofs.shell.go_on.Goals as goal

pub returns-clause-ends : goal.returns-clause-ends
returns-clause-ends g c =
    let recovered = c.in_ok-recovered.ensures.recovered in
    gone_on _ _ _ _ _ _ _ _ _ _ _ _ _ _ (c.cut_tail.ensures.written.0 ∙ c.open.ensures.written) recovered
    (record { opened = _; ready = _; opens_so = c.in-Ok.ensures.opened; cuts_so = c.in_ok-cut_tail.ensures.taken })
    (c.host_session.ensures.all recovered.0 recovered.2) (c.host_session.ensures.begun recovered.0 recovered.2) (c.host_session.ensures.lasts recovered.0 recovered.2)
    (c.host_session.ensures.safe recovered.0 recovered.2)
