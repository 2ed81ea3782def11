-- The equation at the place is that which defines the variable, and without a place none does.
use Rattle.std.proofs.Common.{◌≡◌, ◌∙◌, ℕ, ◌≤◌, drop, length, map, Some, refl, sym, ap, subst, slice_get, arith, rules}
use Rattle.std.proofs.lemmas.Grind.{common_steps}
use Rattle.std.proofs.lemmas.Option.{slice_get_read}
use Rattle.std.proofs.lemmas.Result.{IfOk-weaker}
use Rattle.lus_values.specs.Lists.{item}
use Rattle.lus_values.specs.View.{entry_of}
use Rattle.lus_program.specs.View.{expression_of, node_of, program_seen}
use Rattle.lus_streams.specs.Clocks.{clock_of}
use Rattle.lus_streams.specs.Streams.{definition_value}
use Rattle.lus_parts.specs.Parts.{part_of}
use Rattle.lus_reference.specs.Given.{IsDefinedAt, IsValueAt}
use Rattle.lus_reference.specs.Kept.{Keeps}
use Rattle.lus_reference.specs.Made.{output_in}
use Rattle.lus_reference.specs.Placed.{place_of}
use Rattle.lus_reference.proofs.Given.{called_is, other_is}
use Rattle.lus_reference.proofs.Made.{output_is}
use Rattle.lus_reference.proofs.Placed.{definition_at, equation_within, not_placed, parts_there}
use Rattle.lus_reference.proofs.definition.define.Goals as goal

pub returns-in-Some-callee : goal.returns-in-Some-callee
returns-in-Some-callee c =
    let p = program_seen c.args.program.now in
    let f = node_of c.args.node.now in
    let qs = c.args.node.now.equations.items in
    let kept = map entry_of c.args.kept.now in
    let row = map entry_of c.args.row.now in
    let rows = c.args.rows.now in
    let k = c.in-Some.at in
    let q = c.in-Some-get.equation.now in
    let e = expression_of q.right in
    let n = k.equation in
    let slot : slice_get c.deref.result.now n ≡ Some q = slice_get_read c.deref.result.now (length c.deref.result.now) n q refl (omega (arith, c.in-Some-get.ensures.lookup.3.0)) c.in-Some-get.ensures.lookup.1 in
    let there : slice_get qs n ≡ Some q = subst (λ l. slice_get l n ≡ Some q) c.deref.ensures.value slot in
    let called_by = sym c.callee.ensures ∙ c.in-Some-callee.is in
    IfOk-weaker c.output_at.result (λ v. entry_of v ≡ output_in p rows c.in-Some-callee.called k.calls k.target)
    (λ v. (x : ℕ) → c.args.place ≡ place_of c.args.node.now x → IsDefinedAt p row f x kept rows (entry_of v))
    (λ v same x h now past er called keeps.
    same
    ∙ output_is p now past rows called c.in-Some-callee.called k.calls k.target
    ∙ called_is p now past e c.in-Some-callee.called k.calls k.target q.targets.items (clock_of f (item 0 q.targets.items 0)) called_by
    ∙ ap (λ d. definition_value p d now past) (sym (definition_at f qs x k (sym h ∙ c.in-Some.is) q there)))
    c.output_at.ensures

pub returns-in-None-callee : goal.returns-in-None-callee
returns-in-None-callee c =
    let p = program_seen c.args.program.now in
    let f = node_of c.args.node.now in
    let qs = c.args.node.now.equations.items in
    let kept = map entry_of c.args.kept.now in
    let row = map entry_of c.args.row.now in
    let rows = c.args.rows.now in
    let es = map part_of c.args.parts.now in
    let k = c.in-Some.at in
    let q = c.in-Some-get.equation.now in
    let e = expression_of q.right in
    let n = k.equation in
    let slot : slice_get c.deref.result.now n ≡ Some q = slice_get_read c.deref.result.now (length c.deref.result.now) n q refl (omega (arith, c.in-Some-get.ensures.lookup.3.0)) c.in-Some-get.ensures.lookup.1 in
    let there : slice_get qs n ≡ Some q = subst (λ l. slice_get l n ≡ Some q) c.deref.ensures.value slot in
    let other = sym c.callee.ensures ∙ c.in-None-callee.is in
    let clock = clock_of f (item 0 q.targets.items 0) in
    IfOk-weaker c.value_at.result (λ v. IsValueAt p row rows e es k.parts kept (entry_of v))
    (λ v. (x : ℕ) → c.args.place ≡ place_of c.args.node.now x → IsDefinedAt p row f x kept rows (entry_of v))
    (λ v is x h now past er called keeps.
    let placed = sym h ∙ c.in-Some.is in
    let parts = parts_there f qs x k placed q there p in
    is now past k.calls clock parts.0 (ap (drop k.parts) c.requires ∙ parts.1) er called (subst (λ l. Keeps p past l kept) (sym c.requires) keeps)
    ∙ other_is p now past e k.calls k.target q.targets.items clock other
    ∙ ap (λ d. definition_value p d now past) (sym (definition_at f qs x k placed q there)))
    c.value_at.ensures

pub returns-in-None : goal.returns-in-None
returns-in-None c =
    let f = node_of c.args.node.now in
    let qs = c.args.node.now.equations.items in
    let k = c.in-Some.at in
    let n = k.equation in
    let past : length c.deref.result.now ≤ n = first_of (search (rules, c.in-None.ensures.lookup), grind (arith, common_steps)) in
    let le : length qs ≤ n = subst (λ l. length l ≤ n) c.deref.ensures.value past in
    λ x h now past er called keeps. absurd (equation_within f qs x k (sym h ∙ c.in-Some.is) le)

pub returns-in_default : goal.returns-in_default
returns-in_default c =
    let p = program_seen c.args.program.now in
    let f = node_of c.args.node.now in
    let qs = c.args.node.now.equations.items in
    λ x h now past er called keeps. ap (λ d. definition_value p d now past) (sym (not_placed f qs x 0 0 0 (sym h ∙ c.in_default.is)))
