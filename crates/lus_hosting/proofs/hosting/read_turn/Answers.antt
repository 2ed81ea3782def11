-- A line is answered, or denied where it is too long.
use Rattle.std.proofs.Common.{codes, refl, string_bytes, subst, sym}
use Rattle.std.proofs.lemmas.Result.{IfOk-weaker}
use Rattle.lus_lines.specs.Lines.{HasRead, IsNext}
use Rattle.lus_hosting.proofs.AnswerLaws.{read_answered, read_long}
use Rattle.lus_hosting.proofs.hosting.read_turn.Goals as goal

pub returns-in-Line : goal.returns-in-Line
returns-in-Line g c = λ log keeps.
    (let read = subst (λ r. HasRead r c.read_line.new.line.items (g.S.Source.left c.args.input.now) (g.S.Source.left c.read_line.new.source)) c.in-Line.is c.in_ok-read_line.ensures in
    let next = subst (λ bytes. IsNext bytes (g.S.Source.left c.args.input.now) (g.S.Source.left c.read_line.new.source)) (sym c.deref.ensures.value) read.0 in
    IfOk-weaker c.answer.result _ _ (λ kind answers. read_answered _ _ _ (g.J.Tells.spelling c.args.scribe.now) (g.T.Tells.spelling c.args.teller.now) log _ _ _ _ _ kind _ answers next) (c.answer.ensures log keeps))

pub returns-in-Long : goal.returns-in-Long
returns-in-Long g c = λ log keeps.
    (let read = subst (λ r. HasRead r c.read_line.new.line.items (g.S.Source.left c.args.input.now) (g.S.Source.left c.read_line.new.source)) c.in-Long.is c.in_ok-read_line.ensures in
    IfOk-weaker c.answer_long.result _ _
    (λ kind denied. read_long _ _ _ (g.J.Tells.spelling c.args.scribe.now) (g.T.Tells.spelling c.args.teller.now) log (string_bytes c.answer_long.new.texts.entry) (string_bytes c.answer_long.new.texts.answer)
    c.args.instances.now _ _ kind (codes "it has more bytes than a line may have") refl denied keeps read) c.answer_long.ensures)
