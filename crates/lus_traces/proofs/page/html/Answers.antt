-- Behind the beginning stand the lines, and then the script.
use Rattle.std.proofs.Common.{◌∙◌, ◌++◌, ap, append_assoc, flat_map, map, string_bytes}
use Rattle.std.proofs.lemmas.List.{take_all}
use Rattle.lus_traces.specs.Pages.{line_seen, line_text, page_text}
use Rattle.lus_traces.specs.declared.acting.TheConstants.{ACTING}
use Rattle.lus_traces.specs.declared.document.TheConstants.{OPENING}
use Rattle.lus_traces.specs.declared.reading.TheConstants.{READING}
use Rattle.lus_traces.specs.declared.showing.TheConstants.{SHOWING}
use Rattle.lus_traces.proofs.page.html.Goals as goal

pub returns : goal.returns
unfolding page_text
returns c =
    let lines = flat_map line_text (map line_seen c.args.lines.now) in
    let all = ap (λ ls. string_bytes c.in_ok-out.out ++ flat_map line_text (map line_seen ls)) (take_all c.loop-line.line-index c.args.lines.now c.loop-line-test.false) in
    c.in_ok-push_str-3.ensures.bytes
    ∙ ap (λ t. t ++ ACTING.now)
    (c.in_ok-push_str-2.ensures.bytes
    ∙ ap (λ t. t ++ SHOWING.now)
    (c.in_ok-push_str.ensures.bytes
    ∙ ap (λ t. t ++ READING.now) (c.loop-line.invariant ∙ all ∙ ap (λ t. t ++ lines) c.in_ok-out.ensures.ok)
    ∙ append_assoc OPENING.now lines READING.now))
