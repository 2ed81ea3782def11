-- The bytes behind the text are the rest.
use Rattle.std.proofs.Common.{◌∙◌, ◌++◌, ap, drop, sym, take-append-drop}
use Rattle.lus_draw.proofs.drawing.front_of.Goals as goal

pub returns-in-Ok : goal.returns-in-Ok
returns-in-Ok c =
    let behind = drop c.args.count c.args.bytes.now in
    (behind, sym (take-append-drop c.args.count c.args.bytes.now) ∙ ap (λ text. text ++ behind) (sym c.in-Ok.ensures.cases.0))
