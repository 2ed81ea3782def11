-- Nothing was read, or a beginning of the first line, or that and what was replayed behind it.
use Rattle.std.proofs.lemmas.Result.{IfOk-weaker}
use Rattle.std.proofs.Common.{◌≡◌, ◌∙◌, ap, subst, sym}
use Rattle.lus_devices.specs.Devices.{with_front}
use Rattle.lus_lines.specs.Lines.{HasReadWhole, IsLast}
use Rattle.lus_sessions.specs.Recoveries.{head_of}
use Rattle.lus_sessions.proofs.RecoveryLaws.{head_recovered, recovered_behind}
use Rattle.lus_sessions.proofs.recovering.recover.Goals as goal

pub returns-in-Unfinished-clause-recovered : goal.returns-in-Unfinished-clause-recovered
returns-in-Unfinished-clause-recovered g c =
    let read = subst (λ r. HasReadWhole r c.read_whole_line.new.line.items (g.J.Source.left c.args.journal.now) (g.J.Source.left c.read_whole_line.new.source))
    c.in-Unfinished.is c.in_ok-read_whole_line.ensures in
    IfOk-weaker c.start_in_head.result _ _
    (λ start begins. head_recovered start _ _ _ _ _ _ _ (c.as_bytes.ensures.value ∙ c.in_ok-first.ensures)
    (subst (λ bytes. IsLast bytes (g.J.Source.left c.args.journal.now) (g.J.Source.left c.read_whole_line.new.source)) (sym c.as_slice.ensures.value) read.0)
    begins)
    c.start_in_head.ensures

pub returns-clause-recovered : goal.returns-clause-recovered
returns-clause-recovered g c =
    let read = subst (λ r. HasReadWhole r c.read_whole_line.new.line.items (g.J.Source.left c.args.journal.now) (g.J.Source.left c.read_whole_line.new.source))
    c.in-Line.is c.in_ok-read_whole_line.ensures in
    let same : c.read_whole_line.new.line.items ≡ head_of c.args.name.now =
    sym c.as_slice-2.ensures.value ∙ c.in_ok-check_first.ensures ∙ c.as_bytes-2.ensures.value ∙ c.in_ok-first.ensures in
    IfOk-weaker c.start_behind.result _ _
    (λ start at. recovered_behind _ _ _ _ _ _ _ _ _ _ (read.1 ∙ ap (λ t. with_front t (g.J.Source.left c.read_whole_line.new.source)) same)
    c.in_ok-replayed.ensures.replayed start at)
    c.start_behind.ensures
