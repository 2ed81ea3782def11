-- What is past the limit in some of the groups is past it in all.
use Rattle.std.proofs.Common.{arith}
use Rattle.std.proofs.lemmas.Grind.{common_steps}
use Rattle.lus_source.proofs.Counting.{variables_counted}
use Rattle.lus_source.proofs.counts.has_few_variables.Goals as goal

pub returns-in_default : goal.returns-in_default
returns-in_default c =
    let all = variables_counted c.args.node.now in
    let past = rw c.deref.ensures.value at c.in_default.ensures in
    (λ no. cc, λ few. absurd (omega (arith, all, past, few)))

pub returns-in_default-names_left : goal.returns-in_default-names_left
returns-in_default-names_left c =
    let all = variables_counted c.args.node.now in
    let first = rw c.deref.ensures.value at c.in-Some.ensures in
    let past = rw c.deref-2.ensures.value at c.in_default-names_left.ensures in
    (λ no. cc, λ few. absurd (omega (arith, all, first, past, few)))

pub returns : goal.returns
returns c =
    let all = variables_counted c.args.node.now in
    let first = rw c.deref.ensures.value at c.in-Some.ensures in
    let second = rw c.deref-2.ensures.value at c.in-Some-names_left.ensures in
    let third = rw c.deref-3.ensures.value at c.names_left-3.ensures in
    grind (arith, common_steps)
