-- A line that gets further ones has its text.
use Rattle.std.proofs.Common.{◌≡◌, ◌∙◌, ap, sym, List, ℕ, get_or, map, set}
use Rattle.std.proofs.lemmas.List.{map-set, set-get_or}
use Rattle.lus_traces.specs.Pages.{text_of}
use Rattle.lus_traces.specs.declared.lines.Line.{Line}
use Rattle.lus_traces.proofs.further.add.Goals as goal

kept : (ls : List Line) (i : ℕ) (l d : Line) → text_of l ≡ text_of (get_or ls i d) → map text_of (set ls i l) ≡ map text_of ls
kept ls i l d same = map-set text_of ls i l ∙ ap (set (map text_of ls) i) same ∙ sym (map-set text_of ls i (get_or ls i d)) ∙ ap (map text_of) (set-get_or ls i d)

pub returns-in_err-push : goal.returns-in_err-push
returns-in_err-push c = kept c.args.lines.now.items c.saturating_sub-place.result _ c.index_mut.result.now (ap text_of c.index_mut.ensures.value)

pub returns-in_ok-push : goal.returns-in_ok-push
returns-in_ok-push c = kept c.args.lines.now.items c.saturating_sub-place.result _ c.index_mut.result.now (ap text_of c.index_mut.ensures.value)
