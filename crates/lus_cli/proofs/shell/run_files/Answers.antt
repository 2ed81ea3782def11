-- The end of a run, by what `run` promises of the opened files.
use Rattle.std.proofs.Common.{sym, subst, inl, inr}
use Rattle.lus_devices.specs.Folders.{Known}
use Rattle.lus_cli.specs.Changes.{Change, change}
use Rattle.lus_cli.specs.Ends.{ReadFails, RunEnds}
use Rattle.lus_cli.proofs.EndLemmas.{run_ended}
use Rattle.lus_cli.proofs.shell.run_files.Goals as goal

pub returns-clause-ends : goal.returns-clause-ends
returns-clause-ends g c =
    let left = g.D.File.Source.left in
    let failures = g.D.File.Source.failures in
    let read_fails : Known → Type 0 = ReadFails g.row.D-File.Denot left failures in
    let program = g.D.Folder.known c.args.folder.now c.args.program.now in
    let scripts = g.D.Folder.known c.args.folder.now c.args.scripts.now in
    let output : Change = change (g.O.Sink.written c.args.output.now) (g.O.Sink.written c.run.new.output)
    (g.O.Sink.failures c.args.output.now) (g.O.Sink.failures c.run.new.output) in
    let e = c.run.ensures in
    subst (λ o. RunEnds read_fails program scripts o output) (sym c.ended.ensures)
    (run_ended read_fails program scripts (left c.in-Ok.program) (left c.in-Ok-open.scripts) output
    c.in-Ok.ensures.opened c.in-Ok-open.ensures.opened c.run.result e.ok e.refused e.beginning e.nothing e.memory e.quiet e.failed
    (λ is. elim (e.fails is) [
      | inl failed ↦ inl (c.in-Ok.program, c.run.new.program, c.in-Ok.ensures.opened, failed.0)
      | inr failed ↦ inr (c.in-Ok-open.scripts, c.run.new.scripts, c.in-Ok-open.ensures.opened, failed.1)
    ]))
