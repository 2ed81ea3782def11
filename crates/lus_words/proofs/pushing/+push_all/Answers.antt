use Rattle.std.proofs.Common.{◌∙◌, sym, ap, map, replicate, ◌++◌}
use Rattle.lus_instructions.specs.Words.{entry_in}
use Rattle.lus_words.specs.Layouts.{size}
use Rattle.lus_words.proofs.Falling.{fill_step, fill_end, parts_are}
use Rattle.lus_words.proofs.pushing.+push_all.Goals as goal

pub loop-part-preserved : goal.loop-part-preserved
loop-part-preserved t c =
    fill_step c.deref-part-items.result.now c.loop-part.part-index c.part-item.result c.loop-part-test.true c.part-item.is
    (map entry_in c.loop-part.row.items) (map entry_in c.push_all.new.row.items) _ (entry_in c.args.word) c.in_ok-push_all-in-Parts.ensures c.loop-part.invariant

pub returns-after-loop-part : goal.returns-after-loop-part
returns-after-loop-part t c =
    let whole = parts_are c.in-Parts.parts c.args.layout.now c.deref-part-items.result.now c.in-Parts.is c.deref-part-items.ensures.value in
    fill_end c.deref-part-items.result.now c.loop-part.part-index c.loop-part-test.false (map entry_in c.loop-part.row.items) _ (entry_in c.args.word) c.loop-part.invariant
    ∙ ap (λ l. map entry_in c.args.row.now.items ++ replicate (size l) (entry_in c.args.word)) (sym whole)
