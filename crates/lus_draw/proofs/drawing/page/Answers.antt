-- Further lines are no lines of the file.
use Rattle.std.proofs.Common.{◌≡◌, map, string_bytes, subst}
use Rattle.lus_traces.specs.Pages.{line_seen, page_text}
use Rattle.lus_draw.proofs.Drawn.{page_drawn}
use Rattle.lus_draw.proofs.drawing.page.Goals as goal

pub returns : goal.returns
returns c =
    page_drawn c.args.journals.now (string_bytes c.in_ok-html.field-0) c.in_ok-lines.lines.items c.loop-trace.lines.items c.in_ok-lines.ensures c.loop-trace.invariant
    (subst (λ ls. string_bytes c.in_ok-html.field-0 ≡ page_text (map line_seen ls)) c.deref.ensures.value c.in_ok-html.ensures)
