-- A line that is no entry leaves what was drawn.
use Rattle.std.proofs.Common.{string_bytes}
use Rattle.lus_draw.proofs.Drawn.{drawn_passed}
use Rattle.lus_draw.proofs.gathering.SketchingObserver.pass.Goals as goal

pub returns : goal.returns
returns g c = λ p f h is.
    let d = g.K.Selects.wanted in
    let o = c.args.self.now in
    drawn_passed d p f h h o.sketch c.pass.new.self c.pass.ensures.same.signals (string_bytes o.heading.instance) (string_bytes o.table)
    (λ columns. c.pass.ensures.sketched d.selection p f h columns) is
