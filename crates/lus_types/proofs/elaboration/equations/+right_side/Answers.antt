use Rattle.std.proofs.Common.{◌∙◌, ap}
use Rattle.lus_syntax.specs.View.{expression_seen, name_seen}
use Rattle.lus_syntax.proofs.TreeViews.{seen_call}
use Rattle.lus_source.proofs.Faults.{passed_on}
use Rattle.lus_source.specs.Meaning.{all_meant, call_meant}
use Rattle.lus_source.specs.ScopeView.{scope_of}
use Rattle.lus_types.specs.Wholes.{parts_seen}
use Rattle.lus_types.proofs.Meant.{fits_given, misfits}
use Rattle.lus_types.proofs.elaboration.equations.+right_side.Goals as goal

pub returns-in_err-expr-in-Call : goal.returns-in_err-expr-in-Call
returns-in_err-expr-in-Call t c =
    let s = scope_of c.args.scope.now in
    let parts = parts_seen c.in-Call.arguments.items in
    let means = call_meant s (name_seen c.in-Call.name.value).text parts (all_meant s parts) in
    let none = rw (c.deref-in-Call.ensures, c.deref-in-Call-2.ensures.value) at c.in_err-expr-in-Call.ensures in
    rw (ap expression_seen c.in-Call.is ∙ seen_call c.in-Call.name c.in-Call.arguments)
    (passed_on _ (misfits s c.args.targets.now means) c.from_residual-in_err-expr-in-Call.result c.in_err-expr-in-Call.field-0.0 c.from_residual-in_err-expr-in-Call.ensures.1 none)

pub returns-then-take : goal.returns-then-take
returns-then-take t c =
    let s = scope_of c.args.scope.now in
    let parts = parts_seen c.in-Call.arguments.items in
    let means = call_meant s (name_seen c.in-Call.name.value).text parts (all_meant s parts) in
    let given = rw (c.deref-in-Call.ensures, c.deref-in-Call-2.ensures.value) at c.in_ok-expr-in-Call.ensures in
    rw (ap expression_seen c.in-Call.is ∙ seen_call c.in-Call.name c.in-Call.arguments)
    (fits_given s c.args.targets.now means c.in_ok-expr-in-Call.outputs.now given.0 (c.take.ensures.0 c.if-take.true), given.1)
