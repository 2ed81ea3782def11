use Rattle.std.proofs.Common.{rules, arith, ◌≡◌, ◌∙◌, ◌<◌, ◌++◌, ◌∷◌, [], ap, length, map, sum_by, sym, take}
use Rattle.std.proofs.lemmas.List.{length-map, map_more}
use Rattle.std.proofs.lemmas.List.Sums.{sum_by-append, sum_by-cons}
use Rattle.std.proofs.lemmas.Grind.{common_steps}
use Rattle.lus_syntax.specs.View.{name_seen, names_seen}
use Rattle.lus_source.specs.Tables.{text_of}
use Rattle.lus_source.proofs.Counting.{past_most}
use Rattle.lus_source.proofs.counts.names_left.Goals as goal

pub returns-in_err-left : goal.returns-in_err-left
returns-in_err-left g c =
    let names = c.names.result.now in
    let size : length (g.T.Naming.named c.thing-item.result) ≡ length names =
    sym (ap length c.names.ensures) ∙ length-map (names_seen names) text_of ∙ length-map names name_seen in
    let less : c.loop-thing.left < length names = grind (arith, common_steps) in
    let past = past_most g.T.Naming.named length c.args.things.now c.loop-thing.thing-index c.loop-thing.left c.args.most
    (length names) c.thing-item.result c.loop-thing-test.true c.thing-item.is size c.loop-thing.invariant less in
    search rules

pub loop-thing-preserved : goal.loop-thing-preserved
loop-thing-preserved g c =
    let named = g.T.Naming.named in
    let names = c.names.result.now in
    let x = c.thing-item.result in
    let before = map named (take c.loop-thing.thing-index c.args.things.now) in
    let size : length (named x) ≡ length names = sym (ap length c.names.ensures) ∙ length-map (names_seen names) text_of ∙ length-map names name_seen in
    let grown = map_more named c.args.things.now c.loop-thing.thing-index x c.loop-thing-test.true ∙ ap (λ y. before ++ named y ∷ []) (sym c.thing-item.is) in
    let more = ap (sum_by length) grown ∙ sum_by-append length before (named x ∷ []) in
    omega (arith, more, sum_by-cons length (named x) [], size, c.loop-thing.invariant, c.in_ok-left.ensures.0, c.in_ok-left.ensures.1)
