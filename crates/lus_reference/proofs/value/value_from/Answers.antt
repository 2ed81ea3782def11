-- What each expression makes of its operands.
use Rattle.std.proofs.Common.{◌≡◌, ◌∙◌, IfOk, sym, ap, subst, map, None}
use Rattle.lus_values.specs.Lists.{item}
use Rattle.lus_values.specs.View.{entry_of}
use Rattle.lus_program.specs.Programs.{Expression, numbered}
use Rattle.lus_program.specs.View.{expression_of, expression_in, program_seen}
use Rattle.lus_program.proofs.OperandViews.{seen_operate, seen_merge, seen_call}
use Rattle.lus_reference.specs.Made.{made}
use Rattle.lus_reference.proofs.value.value_from.Goals as goal

pub returns-in-Operate : goal.returns-in-Operate
returns-in-Operate c =
    let p = program_seen c.args.program.now in
    let row = map entry_of c.args.row.now in
    let n = c.args.part.now.number in
    let os = map entry_of c.args.operands.now in
    let last = item None (map entry_of c.args.kept.now) 1 in
    let seen : expression_of c.args.part.now.expr.now ≡ _ = ap expression_in c.in-Operate.is ∙ seen_operate c.in-Operate.operator c.in-Operate.field-1 in
    subst (λ (e : Expression). IfOk c.operate_on.result (λ v. entry_of v ≡ made p row c.args.rows.now (numbered n e) os last)) (sym seen) c.operate_on.ensures

pub returns-in-Merge : goal.returns-in-Merge
returns-in-Merge c =
    let p = program_seen c.args.program.now in
    let row = map entry_of c.args.row.now in
    let n = c.args.part.now.number in
    let os = map entry_of c.args.operands.now in
    let last = item None (map entry_of c.args.kept.now) 1 in
    let seen : expression_of c.args.part.now.expr.now ≡ _ = ap expression_in c.in-Merge.is ∙ seen_merge c.in-Merge.variable c.in-Merge.field-1 in
    subst (λ (e : Expression). IfOk c.held.result (λ v. entry_of v ≡ made p row c.args.rows.now (numbered n e) os last)) (sym seen) c.held.ensures

pub returns-in-Call : goal.returns-in-Call
returns-in-Call c =
    let p = program_seen c.args.program.now in
    let row = map entry_of c.args.row.now in
    let n = c.args.part.now.number in
    let os = map entry_of c.args.operands.now in
    let last = item None (map entry_of c.args.kept.now) 1 in
    let seen : expression_of c.args.part.now.expr.now ≡ _ = ap expression_in c.in-Call.is ∙ seen_call c.in-Call.called c.in-Call.field-1 in
    subst (λ (e : Expression). IfOk c.output_at.result (λ v. entry_of v ≡ made p row c.args.rows.now (numbered n e) os last)) (sym seen) c.output_at.ensures
