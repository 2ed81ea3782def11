-- One value more.
use Rattle.std.proofs.Common.{◌≡◌, ◌∙◌, suc, ◌+◌, ◌≤◌, [], ◌∷◌, ◌++◌, sym, ap, drop, drop-cons, drop_of_length-le, length, map, append_assoc, append-nil, arith}
use Rattle.std.proofs.lemmas.List.{map-append}
use Rattle.lus_values.specs.View.{entry_of}
use Rattle.lus_program.specs.Programs.{node_at}
use Rattle.lus_program.specs.View.{operands_of, program_seen}
use Rattle.lus_streams.specs.Clocks.{formal_clock}
use Rattle.lus_streams.specs.Streams.{instant, is_on, nobody, where_on}
use Rattle.lus_reference.specs.Given.{passed}
use Rattle.lus_reference.proofs.passing.pass_values.Goals as goal

pub loop-formal-preserved : goal.loop-formal-preserved
loop-formal-preserved c =
    let b = c.args.present in
    let row = map entry_of c.args.row.now in
    let clocks = formal_clock (node_at (program_seen c.args.program.now) c.args.called) (operands_of c.args.arguments.now) c.args.base.now in
    let xs = c.args.values.now in
    let i = c.loop-formal.formal in
    let x = c.index-values-formal.result in
    let old = map entry_of c.loop-formal.passed.items in
    let v = c.in_ok-entry.entry in
    let next : i + 1 ≡ suc i = omega arith in
    let rest : drop i xs ≡ x ∷ drop (suc i) xs = drop-cons xs i x c.loop-formal-test.true ∙ (λ j. sym c.index-values-formal.is j ∷ drop (suc i) xs) in
    let pushed : map entry_of c.push.new.self.items ≡ old ++ entry_of v ∷ [] = ap (map entry_of) c.in_ok-push.ensures.items ∙ map-append entry_of c.loop-formal.passed.items (v ∷ []) in
    let clock : c.deref.result.now ≡ clocks i = c.deref.ensures.value ∙ c.in_ok-clock.ensures ∙ ap clocks c.in_ok-number.ensures in
    let own : entry_of v ≡ where_on (is_on (clocks i) (instant b row nobody)) (entry_of x) = c.in_ok-entry.ensures ∙ ap (λ o. where_on o (entry_of x)) (c.is_on.ensures ∙ ap (λ k. is_on k (instant b row nobody)) clock) in
    let later = passed b row clocks (suc i) (map entry_of (drop (suc i) xs)) in
    (λ j. pushed j ++ passed b row clocks (next j) (map entry_of (drop (next j) xs)))
    ∙ append_assoc old (entry_of v ∷ []) later
    ∙ ap (λ o. old ++ o ∷ later) own
    ∙ ap (λ l. old ++ passed b row clocks i (map entry_of l)) (sym rest)
    ∙ c.loop-formal.invariant

pub returns : goal.returns
returns c =
    let row = map entry_of c.args.row.now in
    let clocks = formal_clock (node_at (program_seen c.args.program.now) c.args.called) (operands_of c.args.arguments.now) c.args.base.now in
    let xs = c.args.values.now in
    let old = map entry_of c.loop-formal.passed.items in
    let i = c.loop-formal.formal in
    let done : drop i xs ≡ [] = drop_of_length-le xs (let le : length xs ≤ i = omega arith in le) in
    sym (append-nil old) ∙ ap (λ l. old ++ passed c.args.present row clocks i (map entry_of l)) (sym done) ∙ c.loop-formal.invariant
