-- The first of the values is that of the expression.
use Rattle.std.proofs.Common.{◌≡◌, ◌∙◌, drop, take, map, None, sym, subst, arith}
use Rattle.std.proofs.lemmas.Result.{IfOk-weaker}
use Rattle.lus_values.specs.Lists.{item}
use Rattle.lus_values.specs.View.{entry_of}
use Rattle.lus_program.specs.Parts.{parts as count}
use Rattle.lus_program.specs.View.{expression_of, program_seen}
use Rattle.lus_parts.specs.Parts.{part_of}
use Rattle.lus_reference.specs.Given.{IsValueAt}
use Rattle.lus_reference.specs.Made.{AreValues}
use Rattle.lus_reference.proofs.Given.{value_at_is}
use Rattle.lus_reference.proofs.definition.value_at.Goals as goal

pub returns : goal.returns
returns c =
    let p = program_seen c.args.program.now in
    let row = map entry_of c.args.row.now in
    let rows = c.args.rows.now in
    let e = expression_of c.args.expr.now in
    let m = c.args.place in
    let es = map part_of c.args.parts.now in
    let kept = map entry_of c.args.kept.now in
    let vs = map entry_of c.deref.result.now in
    let size : c.in_ok-size.size.parts ≡ count e = let k = c.in_ok-size.ensures.parts in omega (arith, k) in
    let values : AreValues p row rows (take (count e) (drop m es)) (drop m kept) vs =
    subst (λ l. AreValues p row rows (take (count e) (drop m es)) (drop m kept) (map entry_of l)) (sym c.deref.ensures.value)
    (subst (λ n. AreValues p row rows (take n (drop m es)) (drop m kept) (map entry_of c.in_ok-values.values.items)) size c.in_ok-values.ensures) in
    IfOk-weaker c.entry_at.result (λ v. entry_of v ≡ item None vs 0) (λ v. IsValueAt p row rows e es m kept (entry_of v))
    (λ v same now past n k rest there er called keeps.
    same ∙ value_at_is p now past rows e n k es m kept vs rest there called keeps (subst (λ r. AreValues p r rows (take (count e) (drop m es)) (drop m kept) vs) (sym er) values))
    c.entry_at.ensures
