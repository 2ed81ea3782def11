use Rattle.std.proofs.Common.{rules, ◌≡◌, ◌∙◌, refl, sym, ap, map, Some, false, if◌then◌else◌}
use Rattle.lus_values.specs.Operators.{any_nil, give}
use Rattle.lus_values.specs.Values.{nil}
use Rattle.lus_values.specs.View.{value_of}
use Rattle.lus_values.proofs.Views.{struct_fields}
use Rattle.lus_instructions.proofs.operation.operate.Goals as goal

pub returns-in-Structure : goal.returns-in-Structure
returns-in-Structure c =
    let vs = map value_of c.args.values.items in
    let none : any_nil vs ≡ false = search rules in
    ap Some (struct_fields c.args.values) ∙ sym (ap (λ b. if b then Some nil else give c.args.operator vs) none
    ∙ ap (λ o. give o vs) c.in-Structure.is)

pub returns-then-any_nil : goal.returns-then-any_nil
returns-then-any_nil c =
    let some = rw c.deref.ensures.value at c.if-any_nil.ensures in
    rw (← some) refl

pub returns-in-Compute : goal.returns-in-Compute
returns-in-Compute c = rw c.in-Compute.is (rw c.deref-in-Compute.ensures.value at c.try_apply.ensures)

pub returns-in-If : goal.returns-in-If
returns-in-If c =
    let none = rw c.deref.ensures.value at c.if-any_nil.ensures in
    rw (c.in-If.is, ← none) (rw c.deref-in-If.ensures.value at c.choose.ensures)

pub returns-in-Field : goal.returns-in-Field
returns-in-Field c =
    let none = rw c.deref.ensures.value at c.if-any_nil.ensures in
    rw (c.in-Field.is, ← none) (rw c.deref-in-Field.ensures.value at c.project_only.ensures)
