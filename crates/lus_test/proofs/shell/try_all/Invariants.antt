-- While the status is 0, each table so far passes.
use Rattle.std.proofs.Common.{◌≡◌, false, map, option_map, take}
use Rattle.std.specs.Arc.{arc_value}
use Rattle.std.specs.List.{All}
use Rattle.lus_cli.specs.CodeSpecs.Codes.{program_of}
use Rattle.lus_test.specs.Ends.{TablePasses}
use Rattle.lus_test.proofs.shell.try_all.Given as goal

abbrev pub invariant-loop-file : goal.invariant-loop-file
invariant-loop-file g l =
    l.status ≡ 0 → l.mode.is_written ≡ false
    → All (TablePasses (g.D.Folder.known l.folder) (program_of (arc_value l.program)) (option_map (λ name. name.now) l.node))
    (map (λ file. file.now) (take l.file-index l.files))
