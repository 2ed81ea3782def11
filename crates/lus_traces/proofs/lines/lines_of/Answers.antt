-- All whole lines were taken.
use Rattle.std.proofs.Common.{◌≡◌, ◌∙◌, ◌-◌, ◌≤◌, ap, arith, Bor, ℕ, List, length, map, sym, take}
use Rattle.std.proofs.lemmas.List.{length-map, take-map, take_all}
use Rattle.lus_values.specs.Names.{Text}
use Rattle.lus_traces.specs.Pages.{Line, plain}
use Rattle.lus_traces.proofs.lines.lines_of.Goals as goal

all_whole : (qs ps : List (Bor (List ℕ))) (parts : List Text) (lines : List Line) (w i : ℕ) → qs ≡ ps → map (λ t. t.now) ps ≡ parts → w ≡ length ps - 1
    → length (take w qs) ≤ i → lines ≡ map plain (map (λ t. t.now) (take i (take w qs))) → lines ≡ map plain (take (length parts - 1) parts)
all_whole qs ps parts lines w i same texts whole all so_far =
    so_far ∙ ap (λ ts. map plain (map (λ t. t.now) ts)) (take_all i (take w qs) all ∙ ap (take w) same)
    ∙ ap (map plain) (sym (take-map (λ t. t.now) w ps) ∙ ap (take w) texts)
    ∙ ap (λ n. map plain (take n parts)) (whole ∙ ap (λ n. n - 1) (sym (length-map ps (λ t. t.now)) ∙ ap length texts))

pub returns : goal.returns
returns c =
    let so_many : c.saturating_sub-whole.result ≡ length c.in_ok-parts.parts.items - 1 =
    c.saturating_sub-whole.ensures ∙ ap (λ n. n - 1) (omega (arith, c.len.ensures, c.in_ok-parts.parts.ok.0)) in
    all_whole c.deref.result.now c.in_ok-parts.parts.items _ _ c.saturating_sub-whole.result c.loop-text.text-index c.deref.ensures.value
    c.in_ok-parts.ensures so_many c.loop-text-test.false c.loop-text.invariant
