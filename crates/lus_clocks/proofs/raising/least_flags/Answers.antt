-- A round that raises nothing ends at the least flags; any other raises more.
use Rattle.std.proofs.Common.{◌≡◌, ◌+◌, ◌≤◌, ◌∙◌, length, refl, sym, ap, subst, arith}
use Rattle.std.proofs.Math.ListN.{length-map}
use Rattle.lus_program.specs.View.{node_of, variable_of}
use Rattle.lus_clocks.specs.Raising.{IsNext, raised_count}
use Rattle.lus_clocks.proofs.Rising.{rising_next, rising_ends, count_rises, count_within}
use Rattle.lus_clocks.proofs.raising.least_flags.Goals as goal

pub returns-then-count_raised : goal.returns-then-count_raised
returns-then-count_raised c =
    let n = length c.args.node.now.variables.items in
    let formals = c.args.node.now.inputs + c.args.node.now.outputs in
    let qs = c.args.node.now.equations.items in
    let bs = c.loop-flags.flags.items in
    let next = c.in_ok-next.next.items in
    let s : IsNext formals qs bs next = subst (λ m. IsNext m qs bs next) c.count_formals-formals.ensures (subst (λ l. IsNext c.count_formals-formals.result l bs next) c.deref.ensures.value (subst (λ l. IsNext c.count_formals-formals.result c.deref.result.now l next) c.deref-in-loop-flags.ensures.value c.in_ok-next.ensures)) in
    let next_count = c.count_raised.ensures ∙ ap raised_count c.deref-in-loop-flags-2.ensures.value in
    let count = c.count_raised-in-loop-flags.ensures ∙ ap raised_count c.deref-in-loop-flags-3.ensures.value in
    rising_ends n formals qs bs next c.loop-flags.invariant s (sym next_count ∙ c.if-count_raised.true ∙ count) (node_of c.args.node.now) (length-map c.args.node.now.variables.items variable_of) refl

pub loop-flags-preserved : goal.loop-flags-preserved
loop-flags-preserved c =
    let n = length c.args.node.now.variables.items in
    let formals = c.args.node.now.inputs + c.args.node.now.outputs in
    let qs = c.args.node.now.equations.items in
    let bs = c.loop-flags.flags.items in
    let next = c.in_ok-next.next.items in
    let s : IsNext formals qs bs next = subst (λ m. IsNext m qs bs next) c.count_formals-formals.ensures (subst (λ l. IsNext c.count_formals-formals.result l bs next) c.deref.ensures.value (subst (λ l. IsNext c.count_formals-formals.result c.deref.result.now l next) c.deref-in-loop-flags.ensures.value c.in_ok-next.ensures)) in
    rising_next n formals qs bs next c.loop-flags.invariant s

pub loop-flags-smaller : goal.loop-flags-smaller
loop-flags-smaller c =
    let n = length c.args.node.now.variables.items in
    let formals = c.args.node.now.inputs + c.args.node.now.outputs in
    let qs = c.args.node.now.equations.items in
    let bs = c.loop-flags.flags.items in
    let next = c.in_ok-next.next.items in
    let s : IsNext formals qs bs next = subst (λ m. IsNext m qs bs next) c.count_formals-formals.ensures (subst (λ l. IsNext c.count_formals-formals.result l bs next) c.deref.ensures.value (subst (λ l. IsNext c.count_formals-formals.result c.deref.result.now l next) c.deref-in-loop-flags.ensures.value c.in_ok-next.ensures)) in
    let next_count : c.count_raised.result ≡ raised_count next = c.count_raised.ensures ∙ ap raised_count c.deref-in-loop-flags-2.ensures.value in
    let count : c.count_raised-in-loop-flags.result ≡ raised_count bs = c.count_raised-in-loop-flags.ensures ∙ ap raised_count c.deref-in-loop-flags-3.ensures.value in
    let rises : raised_count bs ≤ raised_count next = count_rises n formals qs bs next c.loop-flags.invariant s in
    let most : raised_count next ≤ n = count_within n formals qs bs next c.loop-flags.invariant s in
    omega (arith, rises, most, next_count, count, c.if-count_raised.false)
