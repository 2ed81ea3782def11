-- What is drawn of the journals is drawn of nodes of the program that was read.
use Rattle.std.proofs.Common.{rules, ◌≡◌, subst, sym}
use Rattle.std.proofs.lemmas.Result.{IfErr-weaker, IfOk-weaker}
use Rattle.std.specs.Arc.{arc_value}
use Rattle.lus_cli.specs.CodeSpecs.Codes.{program_of}
use Rattle.lus_cli.specs.Ends.{ReadFails}
use Rattle.lus_cli.specs.Programs.{IsOfFile}
use Rattle.lus_draw.specs.CommandLine.{drawing_seen}
use Rattle.lus_draw.proofs.Files.{drawing_fails}
use Rattle.lus_draw.proofs.shell.draw_journals.Goals as goal

pub returns : goal.returns
returns g c =
    let file = g.D.Folder.known c.args.folder.now c.args.task.program.now in
    let journal = g.D.Folder.known c.args.folder.now c.args.task.journal.now in
    let same : arc_value c.in-Ok.program ≡ c.in_ok-program.program = search rules in
    let p = program_of (arc_value c.in-Ok.program) in
    let accepted = subst (λ q. IsOfFile file (program_of q)) (sym same) c.in_ok-program.ensures.accepted in
    record {
      drawn = IfOk-weaker c.draw_file.result _ _ (λ s drawn. (p, accepted, drawn)) c.draw_file.ensures.drawn;
      fault = IfErr-weaker c.draw_file.result _ _ (λ f cause.
          drawing_fails (ReadFails g.row.D-File.Denot g.D.File.Source.left g.D.File.Source.failures) journal file (drawing_seen c.args.task) p accepted f cause)
          c.draw_file.ensures.fault;
    }
