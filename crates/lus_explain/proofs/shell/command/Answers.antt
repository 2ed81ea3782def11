-- By what the words ask for, or why they were refused.
use Rattle.std.proofs.Common.{◌≡◌, ◌∙◌, ap, refl, subst, sym, Some, map, string_bytes}
use Rattle.lus_devices.specs.Folders.{Known}
use Rattle.lus_reports.specs.CliSpecs.Changes.{Change, change}
use Rattle.lus_reports.specs.CliSpecs.Ends.{ReadFails}
use Rattle.lus_reports.specs.CliSpecs.Faults.{IsToldBy, words_fault}
use Rattle.lus_explain.specs.CommandLine.{asked, script, task_seen}
use Rattle.lus_explain.specs.Ends.{CommandEnds}
use Rattle.lus_explain.proofs.EndLaws.{words_end}
use Rattle.lus_explain.proofs.shell.command.Goals as goal

pub returns-in-Ok-Script : goal.returns-in-Ok-Script
returns-in-Ok-Script g c =
    let read_fails : Known → Type 0 = ReadFails g.row.D-File.Denot g.D.File.Source.left g.D.File.Source.failures in
    let output : Change = change (g.O.Sink.written c.args.output.now) (g.O.Sink.written c.write_script.new.output)
    (g.O.Sink.failures c.args.output.now) (g.O.Sink.failures c.write_script.new.output) in
    let told : Change = change (g.F.Sink.written c.args.faults.now) (g.F.Sink.written c.write_script.new.faults)
    (g.F.Sink.failures c.args.faults.now) (g.F.Sink.failures c.write_script.new.faults) in
    let asks : asked (map string_bytes c.args.words.now) ≡ Some (script c.in-Ok-Script.node.now c.in-Ok-Script.program.now) =
    c.in-Ok-Script.ensures.ok ∙ ap (λ t. Some (task_seen t)) c.in-Ok-Script.field-0-is in
    subst (CommandEnds read_fails (g.D.Folder.known c.args.folder.now) output told c.write_script.result) (sym asks) c.write_script.ensures

pub returns-in-Err : goal.returns-in-Err
returns-in-Err g c =
    let read_fails : Known → Type 0 = ReadFails g.row.D-File.Denot g.D.File.Source.left g.D.File.Source.failures in
    let output : Change = change (g.O.Sink.written c.args.output.now) (g.O.Sink.written c.args.output.now)
    (g.O.Sink.failures c.args.output.now) (g.O.Sink.failures c.args.output.now) in
    let told : Change = change (g.F.Sink.written c.args.faults.now) (g.F.Sink.written c.tell.new.faults)
    (g.F.Sink.failures c.args.faults.now) (g.F.Sink.failures c.tell.new.faults) in
    let line : IsToldBy c.tell.result (words_fault c.in-Err.error) told = subst (λ f. IsToldBy c.tell.result f told) c.from.ensures c.tell.ensures in
    words_end read_fails (g.D.Folder.known c.args.folder.now) output told c.tell.result c.in-Err.error (asked (map string_bytes c.args.words.now))
    (λ h. c.in-Err.ensures.mistaken (cc)) (refl, refl) line
