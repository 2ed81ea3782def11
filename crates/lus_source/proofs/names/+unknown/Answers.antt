use Rattle.std.proofs.Common.{rules, ◌≡◌, ◌∙◌, ap}
use Rattle.lus_syntax.specs.View.{expression_seen}
use Rattle.lus_syntax.proofs.TreeViews.{seen_call, seen_structure, seen_merge, seen_variadic}
use Rattle.lus_source.proofs.names.+unknown.Goals as goal

pub unknown-returns-in-Call : goal.unknown-returns-in-Call
unknown-returns-in-Call t c =
    let e : expression_seen c.args.source.now ≡ _ = ap expression_seen c.in-Call.is ∙ seen_call c.in-Call.name c.in-Call.arguments in
    rw e (search rules)

pub unknown-returns-in-Structure : goal.unknown-returns-in-Structure
unknown-returns-in-Structure t c =
    let e : expression_seen c.args.source.now ≡ _ = ap expression_seen c.in-Structure.is ∙ seen_structure c.in-Structure.name c.in-Structure.fields in
    rw e (search rules)

pub unknown-returns-in-Merge : goal.unknown-returns-in-Merge
unknown-returns-in-Merge t c =
    let e : expression_seen c.args.source.now ≡ _ = ap expression_seen c.in-Merge.is ∙ seen_merge c.in-Merge.field-0 c.in-Merge.variable c.in-Merge.branches in
    rw e (search rules)

pub unknown-returns-in-Variadic : goal.unknown-returns-in-Variadic
unknown-returns-in-Variadic t c =
    let e : expression_seen c.args.source.now ≡ _ = ap expression_seen c.in-Variadic.is ∙ seen_variadic c.in-Variadic.field-0 c.in-Variadic.field-1 c.in-Variadic.operands in
    rw e (search rules)
