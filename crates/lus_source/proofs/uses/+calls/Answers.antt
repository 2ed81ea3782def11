use Rattle.std.proofs.Common.{rules, arith, ◌≡◌, ◌∙◌, ap}
use Rattle.std.proofs.lemmas.Grind.{common_steps}
use Rattle.lus_syntax.specs.View.{expression_seen}
use Rattle.lus_syntax.proofs.TreeViews.{seen_call, seen_structure, seen_merge, seen_variadic}
use Rattle.lus_source.proofs.uses.+calls.Goals as goal

pub push_called-returns-in-Structure : goal.push_called-returns-in-Structure
push_called-returns-in-Structure t c =
    let e : expression_seen c.args.expr.now ≡ _ = ap expression_seen c.in-Structure.is ∙ seen_structure c.in-Structure.field-0 c.in-Structure.parts in
    rw e (search rules)

pub push_called-returns-in-Merge : goal.push_called-returns-in-Merge
push_called-returns-in-Merge t c =
    let e : expression_seen c.args.expr.now ≡ _ = ap expression_seen c.in-Merge.is ∙ seen_merge c.in-Merge.field-0 c.in-Merge.field-1 c.in-Merge.parts in
    rw e (search rules)

pub push_called-returns-in-Variadic : goal.push_called-returns-in-Variadic
push_called-returns-in-Variadic t c =
    let e : expression_seen c.args.expr.now ≡ _ = ap expression_seen c.in-Variadic.is ∙ seen_variadic c.in-Variadic.field-0 c.in-Variadic.field-1 c.in-Variadic.parts in
    rw e (search rules)

pub push_called-returns-in_ok-push_place-in-Call : goal.push_called-returns-in_ok-push_place-in-Call
push_called-returns-in_ok-push_place-in-Call t c =
    let e : expression_seen c.args.expr.now ≡ _ = ap expression_seen c.in-Call.is ∙ seen_call c.in-Call.name c.in-Call.arguments in
    rw e (grind (arith, common_steps))

pub push_called-returns-in_ok-push_called-in-Binary : goal.push_called-returns-in_ok-push_called-in-Binary
push_called-returns-in_ok-push_called-in-Binary t c = grind (arith, common_steps)

pub push_called-returns-in_ok-push_called-in-If-2 : goal.push_called-returns-in_ok-push_called-in-If-2
push_called-returns-in_ok-push_called-in-If-2 t c = grind (arith, common_steps)

pub push_called_in-loop-part-preserved : goal.push_called_in-loop-part-preserved
push_called_in-loop-part-preserved t c = grind (arith, common_steps)
