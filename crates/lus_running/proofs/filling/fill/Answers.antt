use Rattle.std.proofs.Common.{◌≡◌, ◌∙◌, ◌≤◌, ◌++◌, ℕ, arith, map, ap, sym, append-nil, add-one}
use Rattle.std.specs.Prelude.{replicate}
use Rattle.lus_instructions.specs.Words.{entry_in}
use Rattle.lus_running.proofs.Cells.{grown}
use Rattle.lus_running.proofs.filling.fill.Goals as goal

same_count : (i n : ℕ) → i ≤ n → n ≤ i → i ≡ n
same_count i n within past = omega arith

pub loop-place-init : goal.loop-place-init
loop-place-init g c = sym (append-nil (map g.T.Held.entry c.reserve_exact.new.self.items))

pub loop-place-preserved : goal.loop-place-preserved
loop-place-preserved g c =
    rw add-one
    (ap (map g.T.Held.entry) c.in_ok-push.ensures.items
    ∙ grown g.T.Held.entry c.loop-place.row.items c.of_word.result (map g.T.Held.entry c.reserve_exact.new.self.items) c.loop-place._place (entry_in c.args.word)
    c.loop-place.invariant c.of_word.ensures)

pub returns : goal.returns
returns g c =
    let entry = g.T.Held.entry in
    let all : c.loop-place._place ≡ c.args.count = same_count _ _ c.loop-place.auto._place-end c.loop-place-test.false in
    c.loop-place.invariant
    ∙ ap (λ n. map entry c.reserve_exact.new.self.items ++ replicate n (entry_in c.args.word)) all
    ∙ ap (λ l. map entry l ++ replicate c.args.count (entry_in c.args.word)) c.in_ok-reserve_exact.ensures.items
