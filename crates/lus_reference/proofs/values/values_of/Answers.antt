-- One part more, and all of them.
use Rattle.std.proofs.Common.{◌≡◌, ◌∙◌, suc, ◌+◌, ◌-◌, ◌<◌, [], ◌∷◌, drop, drop-cons, drop_of_length-le, length, map, None, refl, sym, ap, arith}
use Rattle.lus_values.specs.Lists.{item}
use Rattle.lus_values.specs.View.{entry_of}
use Rattle.lus_program.specs.Programs.{numbered}
use Rattle.lus_program.specs.View.{expression_of, program_seen}
use Rattle.lus_streams.specs.Streams.{is_present}
use Rattle.lus_parts.specs.Parts.{part_of}
use Rattle.lus_reference.specs.Made.{made, roots, stack_of, value_in}
use Rattle.lus_reference.proofs.Drops.{dropped_map}
use Rattle.lus_reference.proofs.Parts.{stack_here}
use Rattle.lus_reference.proofs.Stacks.{stack_more}
use Rattle.lus_reference.proofs.values.values_of.Goals as goal

pub loop-behind-init : goal.loop-behind-init
loop-behind-init c = λ now past er called keeps nested.
    let qs = c.args.parts.now in
    let done : drop (length qs - 0) qs ≡ [] = drop_of_length-le qs (omega arith) in
    ap stack_of c.new-stack.ensures.items ∙ ap (λ l. map (value_in (program_seen c.args.program.now) now past) (roots (map part_of l))) (sym done)

pub loop-behind-preserved : goal.loop-behind-preserved
loop-behind-preserved c = λ now past er called keeps nested.
    let p = program_seen c.args.program.now in
    let row = map entry_of c.args.row.now in
    let rows = c.args.rows.now in
    let kept = map entry_of c.args.kept.now in
    let qs = c.args.parts.now in
    let j = c.loop-behind.behind in
    let i = length qs - 1 - j in
    let q = c.index-parts-place.result in
    let old = c.loop-behind.stack.items in
    let left : length qs - (j + 1) ≡ i = omega (arith, c.loop-behind-test.true) in
    let first : length qs - j ≡ suc i = omega (arith, c.loop-behind-test.true) in
    let lt : i < length qs = omega (arith, c.loop-behind-test.true) in
    let rest : drop i qs ≡ q ∷ drop (suc i) qs = drop-cons qs i q lt ∙ (λ k. sym c.index-parts-place.is k ∷ drop (suc i) qs) in
    let behind : map entry_of c.entries_from-earlier.result.now ≡ drop i kept = ap (map entry_of) c.entries_from-earlier.ensures ∙ dropped_map entry_of i c.args.kept.now in
    let same = c.loop-behind.invariant now past er called keeps nested ∙ ap (λ m. map (value_in p now past) (roots (map part_of (drop m qs)))) first in
    let v = c.in_ok-made.made.value in
    let is : entry_of v ≡ made p row rows (numbered q.number (expression_of q.expr.now)) (map entry_of c.in_ok-made.made.operands.items) (item None (drop i kept) 1) =
    c.in_ok-made.ensures.value ∙ ap (λ l. made p row rows (numbered q.number (expression_of q.expr.now)) (map entry_of c.in_ok-made.made.operands.items) (item None l 1)) behind in
    ap stack_of c.in_ok-push.ensures.items
    ∙ stack_more c.make.new.stack.items v
    ∙ stack_here p (is_present now) row rows qs kept i q rest nested now past (record { base = refl; entries = er; called = called; keeps = keeps })
    (stack_of old) same (map entry_of c.in_ok-made.made.operands.items) c.in_ok-made.ensures.operands (entry_of v) is (stack_of c.make.new.stack.items) c.in_ok-made.ensures.left
    ∙ ap (λ m. map (value_in p now past) (roots (map part_of (drop m qs)))) (sym left)

pub returns : goal.returns
returns c = λ now past er called keeps nested.
    let p = program_seen c.args.program.now in
    let qs = c.args.parts.now in
    let none : length qs - c.loop-behind.behind ≡ 0 = omega (arith, c.loop-behind-test.false) in
    ap (map entry_of) c.reverse.ensures.items ∙ c.loop-behind.invariant now past er called keeps nested ∙ ap (λ m. map (value_in p now past) (roots (map part_of (drop m qs)))) none
