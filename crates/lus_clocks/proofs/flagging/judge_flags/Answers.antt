-- One node more has flags; one without them is without in the program.
use Rattle.std.proofs.Common.{rules, ◌≡◌, ◌≢◌, ◌<◌, ◌≤◌, length, map, sym, ap, ◌∙◌, subst}
use Rattle.std.proofs.lemmas.List.{take_all}
use Rattle.lus_values.specs.Lists.{item, Each}
use Rattle.lus_program.specs.View.{node_of, program_seen}
use Rattle.lus_syntax.specs.declared.refusal.RefusalNumber.TheVariants.{Memory}
use Rattle.lus_streams.specs.Flags.{IsFlagged}
use Rattle.lus_clocks.specs.Raising.{HasFlags}
use Rattle.lus_clocks.proofs.Flagged.{each_taken, node_of_each}
use Rattle.lus_clocks.proofs.flagging.judge_flags.Goals as goal

pub loop-node-preserved : goal.loop-node-preserved
loop-node-preserved c =
    let nodes = c.args.program.now.nodes.items in
    let index = c.loop-node.node-index in
    let node = c.node-item.result in
    let within : index < length nodes = subst (λ l. index < length l) c.deref-node-items.ensures.value c.loop-node-test.true in
    let here : node ≡ item node nodes index = c.node-item.is ∙ ap (λ l. item node l index) c.deref-node-items.ensures.value in
    λ p. each_taken (HasFlags p) nodes index node within (c.loop-node.invariant p) (subst (λ n. HasFlags p (node_of n)) here (c.in_ok-check_node.ensures.ok p))

pub returns-clause-ok : goal.returns-clause-ok
returns-clause-ok c =
    let p = program_seen c.args.program.now in
    let nodes = c.args.program.now.nodes.items in
    let past : length nodes ≤ c.loop-node.node-index = subst (λ l. length l ≤ c.loop-node.node-index) c.deref-node-items.ensures.value c.loop-node-test.false in
    subst (λ l. Each (HasFlags p) (map node_of l)) (take_all c.loop-node.node-index nodes past) (c.loop-node.invariant p)

pub returns-in_err-check_node-clause-err : goal.returns-in_err-check_node-clause-err
returns-in_err-check_node-clause-err c =
    let p = program_seen c.args.program.now in
    let nodes = c.args.program.now.nodes.items in
    let index = c.loop-node.node-index in
    let node = c.node-item.result in
    let within : index < length nodes = subst (λ l. index < length l) c.deref-node-items.ensures.value c.loop-node-test.true in
    let here : node ≡ item node nodes index = c.node-item.is ∙ ap (λ l. item node l index) c.deref-node-items.ensures.value in
    let none : c.in_err-check_node.field-0.0.refusal.number ≢ Memory → IsFlagged p → ⊥ =
    λ m h. c.in_err-check_node.ensures.err m p (subst (λ n. HasFlags p (node_of n)) (sym here) (node_of_each (HasFlags p) nodes index node within h)) in
    search (rules, none)
