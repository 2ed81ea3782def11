-- The first line of a journal that can be read back is read, and its node is one of the program's.
use Rattle.std.proofs.Common.{◌≡◌, ◌∙◌, ap, rules, Some, None}
use Rattle.std.proofs.lemmas.Result.{IfErr-weaker, IfOk-weaker}
use Rattle.std.specs.Arc.{arc_value}
use Rattle.lus_live_instance.specs.MachineSpecs.CodeSpecs.Codes.{program_of}
use Rattle.lus_live_instance.specs.MachineSpecs.Formals.{node_named}
use Rattle.lus_lawful.proofs.Firsts.{head_read}
use Rattle.lus_lawful.proofs.auditing.audit_behind.Goals as goal

pub returns-in_default-clause-blames : goal.returns-in_default-clause-blames
returns-in_default-clause-blames g c =
    λ n is j rest tail readable is_behind first left.
    head_read (program_of (arc_value c.args.program.now)) c.requires c.args.first.now None c.in_default.ensures.complete j readable first

pub returns-in-None-clause-blames : goal.returns-in-None-clause-blames
returns-in-None-clause-blames g c =
    λ n is j rest tail readable is_behind first left.
    (let p = program_of (arc_value c.args.program.now) in
    let names = head_read p c.requires c.args.first.now (Some c.in-Some.head) c.in-Some.ensures.complete j readable first in
    let none : None ≡ node_named p c.in-Some.head.node.now = search rules in
    let found : None ≡ Some readable.node = none ∙ ap (node_named p) names.1 ∙ readable.named in
    absurd (cc))

pub returns-in-Some-node-clause-complete : goal.returns-in-Some-node-clause-complete
returns-in-Some-node-clause-complete g c =
    let p = program_of (arc_value c.args.program.now) in
    IfOk-weaker c.audit_journal.result _ _
    (λ t found j rest tail readable is_behind first left.
    (let names = head_read p c.requires c.args.first.now (Some c.in-Some.head) c.in-Some.ensures.complete j readable first in
    found j rest tail readable is_behind names.0 names.1 left))
    c.audit_journal.ensures.complete

pub returns-in-Some-node-clause-blames : goal.returns-in-Some-node-clause-blames
returns-in-Some-node-clause-blames g c =
    let p = program_of (arc_value c.args.program.now) in
    IfErr-weaker c.audit_journal.result _ _
    (λ e none n is j rest tail readable is_behind first left.
    (let names = head_read p c.requires c.args.first.now (Some c.in-Some.head) c.in-Some.ensures.complete j readable first in
    none n is j rest tail readable is_behind names.0 names.1 left))
    c.audit_journal.ensures.blames
