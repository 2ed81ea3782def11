-- A table that is tried and passes is that of the file.
use Rattle.std.proofs.Common.{◌≡◌, ◌∷◌, arith, map}
use Rattle.std.proofs.lemmas.Grind.{common_steps}
use Rattle.std.proofs.lemmas.Result.{IfOk-weaker}
use Rattle.std.specs.Arc.{arc_value}
use Rattle.csv.specs.Records.{fields_of}
use Rattle.lus_cli.specs.CodeSpecs.Codes.{program_of}
use Rattle.lus_test.specs.Ends.{has_objects}
use Rattle.lus_test.proofs.Ends.{passed_is, tested_file}
use Rattle.lus_test.proofs.trying.try_file.Goals as goal

pub returns : goal.returns
returns g c =
    let parts : map fields_of c.in_ok-records.records.items ≡ fields_of c.in-Some.head.now ∷ map fields_of c.in-Some.rows.now = grind (arith, common_steps) in
    IfOk-weaker c.answer.result _ _
    (λ ok passed is plain. tested_file (program_of (arc_value c.args.program.now)) c.in_ok-node.node.0 c.args.name.now (has_objects c.args.file.now)
    (g.D.Folder.known c.args.folder.now c.args.file.now) (map fields_of c.in_ok-records.records.items) (fields_of c.in-Some.head.now)
    (map fields_of c.in-Some.rows.now) c.in-Ok.tested.replies.items c.in-Ok.tested.finding parts c.in_ok-node.ensures.named c.in_ok-records.ensures
    c.in-Ok.ensures (passed_is c.in-Ok.tested.finding (passed is plain)))
    c.answer.ensures
