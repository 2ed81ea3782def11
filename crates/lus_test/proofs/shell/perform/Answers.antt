-- The tables that were tried are those that are asked for.
use Rattle.std.proofs.Common.{◌≡◌, ◌∙◌, ap, map, option_map, subst, sym, [], Some}
use Rattle.std.proofs.lemmas.Result.{IfOk-weaker}
use Rattle.std.specs.Prelude.{unwrap_or}
use Rattle.std.specs.Arc.{arc_value}
use Rattle.std.specs.List.{All}
use Rattle.lus_cli.specs.CodeSpecs.Codes.{program_of}
use Rattle.lus_cli.specs.Programs.{IsOfFile}
use Rattle.lus_test.specs.CommandLine.{task_seen}
use Rattle.lus_test.specs.Ends.{TablePasses}
use Rattle.lus_test.proofs.shell.perform.Goals as goal

pub returns : goal.returns
returns g c =
    let same : program_of c.in_ok-program.program ≡ program_of (arc_value c.in-Ok.program) = ap program_of (sym c.in-Ok.ensures.ok) in
    let tables : Some (map (λ file. file.now) c.in-Some.files.now) ≡ (task_seen c.args.task.now).tables =
    sym (ap (option_map _) c.in-Some.is) ∙ c.tables.ensures in
    IfOk-weaker c.try_tables.result _ _
    (λ status passes zero plain. (
      program_of (arc_value c.in-Ok.program),
      subst (IsOfFile (g.D.Folder.known c.args.folder.now c.args.task.now.program.now)) same c.in_ok-program.ensures.accepted,
      subst (λ o. All (TablePasses (g.D.Folder.known c.args.folder.now) (program_of (arc_value c.in-Ok.program)) (task_seen c.args.task.now).node) (unwrap_or o []))
          tables (passes zero plain),
    ))
    c.try_tables.ensures
