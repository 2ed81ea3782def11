-- The tables that were tried are those that the words ask for.
use Rattle.std.proofs.Common.{◌≡◌, IfOk, subst, sym}
use Rattle.lus_test.specs.Ends.{AllPass}
use Rattle.lus_test.proofs.shell.perform_tables.Goals as goal

pub returns : goal.returns
returns g c =
    subst (λ o. IfOk c.perform.result (λ status. status ≡ 0 → AllPass (g.D.Folder.known c.args.folder.now) o))
    (sym c.in_ok-task.ensures.ok) c.perform.ensures
