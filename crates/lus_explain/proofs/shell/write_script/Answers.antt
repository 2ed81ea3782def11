-- By what became of the scripts.
use Rattle.std.proofs.Common.{refl, subst}
use Rattle.lus_reports.specs.CliSpecs.Changes.{Change, change}
use Rattle.lus_explain.specs.Ends.{EndsWriting, IsAnswerFor, is_lost, is_refused, is_written}
use Rattle.lus_explain.specs.declared.script.Script.TheVariants as answers
use Rattle.lus_explain.proofs.shell.write_script.Goals as goal

pub returns-in-Ok-Written : goal.returns-in-Ok-Written
returns-in-Ok-Written g c =
    let text = c.in-Ok-Written.text in
    let answer : IsAnswerFor (g.D.Folder.known c.args.folder.now) c.args.node.now c.args.program.now (answers.Written text) =
    subst (IsAnswerFor (g.D.Folder.known c.args.folder.now) c.args.node.now c.args.program.now) c.in-Ok-Written.field-0-is c.in-Ok-Written.ensures.answer in
    let output : Change = change (g.O.Sink.written c.args.output.now) (g.O.Sink.written c.write_text.new.output)
    (g.O.Sink.failures c.args.output.now) (g.O.Sink.failures c.write_text.new.output) in
    let told : Change = change (g.F.Sink.written c.args.faults.now) (g.F.Sink.written c.write_text.new.faults)
    (g.F.Sink.failures c.args.faults.now) (g.F.Sink.failures c.write_text.new.faults) in
    is_written text answer (subst (λ t. EndsWriting t output told c.write_text.result) c.as_str.ensures.value c.write_text.ensures)

pub returns-in-Ok-Refused : goal.returns-in-Ok-Refused
returns-in-Ok-Refused g c =
    let answer : IsAnswerFor (g.D.Folder.known c.args.folder.now) c.args.node.now c.args.program.now (answers.Refused c.in-Ok-Refused.verdict) =
    subst (IsAnswerFor (g.D.Folder.known c.args.folder.now) c.args.node.now c.args.program.now) c.in-Ok-Refused.field-0-is c.in-Ok-Refused.ensures.answer in
    is_refused c.in-Ok-Refused.verdict answer (refl, refl) c.tell_refused.ensures.status c.tell_refused.ensures.told

pub returns-in-Err : goal.returns-in-Err
returns-in-Err g c = is_lost c.in-Err.fault c.in-Err.ensures.fault (refl, refl) c.tell.ensures
