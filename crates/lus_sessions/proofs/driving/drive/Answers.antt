-- What is missing is written, then the lines of further entries, and then the last line; where one fails, a beginning of it.
use Rattle.std.proofs.Common.{rules, ◌≡◌, ◌∙◌, ◌+◌, ap}
use Rattle.lus_devices.proofs.Lines.{on_err}
use Rattle.lus_sessions.specs.Recoveries.{entries_at}
use Rattle.lus_sessions.proofs.DriveLaws.{count_begun, driven, lines_begun, none_begun, start_begun, uncounted}
use Rattle.lus_sessions.proofs.driving.drive.Goals as goal

pub returns-in_err-write_start-clause-some : goal.returns-in_err-write_start-clause-some
returns-in_err-write_start-clause-some g c =
    on_err c.from_residual.result _ (start_begun g.row.L.Denot g.L.Syncs.syncs g.L.Sink.written _ _ _ _ _ _ _ _ _ _ _ _ c.in_err-write_start.ensures.beginning)

pub returns-in_err-first-clause-some : goal.returns-in_err-first-clause-some
returns-in_err-first-clause-some g c =
    on_err c.from_residual-in_err-first.result _ (none_begun g.row.L.Denot g.L.Syncs.syncs g.L.Sink.written _ _ _ _ _ _ _ _ _ _ _ _ c.in_ok-write_start.ensures.whole)

pub returns-in_err-score-clause-some : goal.returns-in_err-score-clause-some
returns-in_err-score-clause-some g c =
    let first : c.in_ok-first.first ≡ c.entries_at-entries.result + 1 = search rules in
    let behind : c.in_ok-first.first ≡ entries_at c.args.start + 1 = first ∙ ap (λ k. k + 1) c.entries_at-entries.ensures in
    on_err c.from_residual-in_err-score.result _ (lines_begun g.row.L.Denot g.L.Syncs.syncs g.L.Sink.written _ _ _ _ _ _ _ _ _ _ _ _ c.in_ok-write_start.ensures.whole _ behind _ _ _ c.in_err-score.ensures.some)

pub returns-in_err-all-clause-some : goal.returns-in_err-all-clause-some
returns-in_err-all-clause-some g c =
    let first : c.in_ok-first.first ≡ c.entries_at-entries.result + 1 = search rules in
    let behind : c.in_ok-first.first ≡ entries_at c.args.start + 1 = first ∙ ap (λ k. k + 1) c.entries_at-entries.ensures in
    on_err c.from_residual-in_err-all.result _
    (uncounted g.row.L.Denot g.L.Syncs.syncs g.L.Sink.written _ _ _ _ _ _ _ _ _ _ _ _ c.in_ok-write_start.ensures.whole _ behind _ _ _ _ c.in_ok-score.score c.in_ok-score.ensures.all)

pub returns-in_err-write_end-clause-some : goal.returns-in_err-write_end-clause-some
returns-in_err-write_end-clause-some g c =
    let first : c.in_ok-first.first ≡ c.entries_at-entries.result + 1 = search rules in
    let behind : c.in_ok-first.first ≡ entries_at c.args.start + 1 = first ∙ ap (λ k. k + 1) c.entries_at-entries.ensures in
    let sum : c.in_ok-all.all ≡ c.entries_at-entries.result + c.in_ok-score.score.entered = search rules in
    let all : c.in_ok-all.all ≡ entries_at c.args.start + c.in_ok-score.score.entered = sum ∙ ap (λ k. k + c.in_ok-score.score.entered) c.entries_at-entries.ensures in
    on_err c.from_residual-in_err-write_end.result _
    (count_begun g.row.L.Denot g.L.Syncs.syncs g.L.Sink.written _ _ _ _ _ _ _ _ _ _ _ _ c.in_ok-write_start.ensures.whole _ behind _ _ _ _ c.in_ok-score.score c.in_ok-score.ensures.all _ all _ c.in_err-write_end.ensures.beginning)

pub returns-clause-all : goal.returns-clause-all
returns-clause-all g c =
    let first : c.in_ok-first.first ≡ c.entries_at-entries.result + 1 = search rules in
    let behind : c.in_ok-first.first ≡ entries_at c.args.start + 1 = first ∙ ap (λ k. k + 1) c.entries_at-entries.ensures in
    let sum : c.in_ok-all.all ≡ c.entries_at-entries.result + c.in_ok-score.score.entered = search rules in
    let all : c.in_ok-all.all ≡ entries_at c.args.start + c.in_ok-score.score.entered = sum ∙ ap (λ k. k + c.in_ok-score.score.entered) c.entries_at-entries.ensures in
    driven g.row.L.Denot g.L.Syncs.syncs g.L.Sink.written _ _ _ _ _ _ _ _ _ _ _ _ c.in_ok-write_start.ensures.whole _ behind _ _ _ _ c.in_ok-score.score c.in_ok-score.ensures.all _ all _ c.in_ok-write_end.ensures.whole
