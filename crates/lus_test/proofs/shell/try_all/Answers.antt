-- One more table passes.
use Rattle.std.proofs.Common.{Bor, List, ℕ, arith, option_map}
use Rattle.std.specs.Arc.{arc_value}
use Rattle.lus_cli.specs.CodeSpecs.Codes.{program_of}
use Rattle.lus_test.specs.Ends.{TablePasses}
use Rattle.lus_test.proofs.Steps.{all_more}
use Rattle.lus_test.proofs.shell.try_all.Goals as goal

pub loop-file-preserved : goal.loop-file-preserved
loop-file-preserved g c = λ zero plain.
    all_more (TablePasses (g.D.Folder.known c.args.folder.now) (program_of (arc_value c.args.program.now)) (option_map (λ name. name.now) c.args.node))
    (λ (t : Bor (List ℕ)). t.now) c.args.files.now c.loop-file.file-index _ (omega arith)
    (c.loop-file.invariant (c.greater-status.ensures.one zero) plain) (c.try_table-own.ensures (c.greater-status.ensures.other zero) plain)
