-- What is read behind a buffer is what the file had left.
use Rattle.std.proofs.Common.{map, string_bytes, subst}
use Rattle.std.proofs.lemmas.Result.{IfErr-weaker, IfOk-weaker}
use Rattle.std.specs.Prelude.{⊤}
use Rattle.std.specs.Arc.{arc_value}
use Rattle.lus_cli.specs.CodeSpecs.Codes.{program_of}
use Rattle.lus_draw.specs.Drawings.{IsDrawingFault, IsGathered}
use Rattle.lus_draw.proofs.drawing.streamed.Goals as goal

pub returns : goal.returns
returns g c =
    let d = g.K.Selects.wanted in
    let p = program_of (arc_value c.args.program.now) in
    record {
      drawn = IfOk-weaker c.gathered.result _ _ (λ v found. subst (λ left. IsGathered p d left (map string_bytes v.tables.items)) c.new-source.ensures found) c.gathered.ensures.drawn;
      fault = IfErr-weaker c.gathered.result _ _ (λ f so. subst (λ left. IsDrawingFault d.selection p ⊤ left f) c.new-source.ensures so) c.gathered.ensures.fault;
    }
