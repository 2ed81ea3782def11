-- One part more, and all of them.
use Rattle.std.proofs.Common.{◌≡◌, ◌∙◌, ◌⊎◌, IsSome, IsTrue, MatchOption, suc, ◌+◌, ◌-◌, ◌<◌, ◌∷◌, ◌&&◌, is_none, drop, drop-cons, length, map, None, sym, ap, ap₂, subst, arith}
use Rattle.lus_values.specs.Lists.{item}
use Rattle.lus_values.specs.View.{entry_of}
use Rattle.lus_program.specs.Programs.{numbered}
use Rattle.lus_program.specs.View.{expression_of, program_seen}
use Rattle.lus_streams.specs.Streams.{instant, is_on, nobody}
use Rattle.lus_reference.specs.Made.{made, stack_of}
use Rattle.lus_reference.specs.Causes.{IsFaultBy}
use Rattle.lus_reference.specs.Kept.{kept_next}
use Rattle.lus_reference.proofs.Drops.{dropped_map}
use Rattle.lus_reference.proofs.Parts.{IsRenewedFrom, renewed_begun, renewed_next}
use Rattle.lus_reference.proofs.Stacks.{stack_more}
use Rattle.lus_reference.proofs.renewal.renew.Goals as goal

pub loop-behind-init : goal.loop-behind-init
loop-behind-init c =
    let qs = c.args.parts.now in
    renewed_begun (program_seen c.args.program.now) c.args.present (map entry_of c.args.row.now) c.args.rows.now qs (map entry_of c.args.kept.now) (length qs - 0)
    (stack_of c.new-stack.result.items) (stack_of c.new-next.result.items) (omega arith) (ap stack_of c.new-stack.ensures.items) (ap stack_of c.new-next.ensures.items)

pub loop-behind-preserved : goal.loop-behind-preserved
loop-behind-preserved c =
    let p = program_seen c.args.program.now in
    let b = c.args.present in
    let row = map entry_of c.args.row.now in
    let rows = c.args.rows.now in
    let kept = map entry_of c.args.kept.now in
    let qs = c.args.parts.now in
    let j = c.loop-behind.behind in
    let i = length qs - 1 - j in
    let q = c.index-parts-place.result in
    let vs = stack_of c.loop-behind.stack.items in
    let ws = stack_of c.loop-behind.next.items in
    let left : length qs - (j + 1) ≡ i = omega (arith, c.loop-behind-test.true) in
    let first : length qs - j ≡ suc i = omega (arith, c.loop-behind-test.true) in
    let lt : i < length qs = omega (arith, c.loop-behind-test.true) in
    let rest : drop i qs ≡ q ∷ drop (suc i) qs = drop-cons qs i q lt ∙ (λ k. sym c.index-parts-place.is k ∷ drop (suc i) qs) in
    let behind : map entry_of c.entries_from-earlier.result.now ≡ drop i kept = ap (map entry_of) c.entries_from-earlier.ensures ∙ dropped_map entry_of i c.args.kept.now in
    let so_far : IsRenewedFrom p b row rows qs kept (suc i) vs ws c.loop-behind.fault =
    subst (λ m. IsRenewedFrom p b row rows qs kept m vs ws c.loop-behind.fault) first c.loop-behind.invariant in
    let os = map entry_of c.in_ok-made.made.operands.items in
    let v = c.in_ok-made.made.value in
    let w = c.in_ok-entry.entry in
    let e = numbered q.number (expression_of q.expr.now) in
    let is : entry_of v ≡ made p row rows e os (item None (drop i kept) 1) = c.in_ok-made.ensures.value ∙ ap (λ l. made p row rows e os (item None l 1)) behind in
    let on_is = c.is_on-on.ensures ∙ ap (λ k. is_on k (instant b row nobody)) c.deref.ensures.value in
    renewed_next p b row rows qs kept i q rest c.requires vs ws c.loop-behind.fault so_far os (entry_of v) c.in_ok-made.ensures.operands is
    (length qs - (j + 1)) (stack_of c.push-in-loop-behind.new.self.items) (stack_of c.push.new.self.items) (stack_of c.make.new.stack.items) (entry_of w) c.is_at_fault-at_fault.result c.in_ok-fault.fault
    left
    (ap stack_of c.in_ok-push-2.ensures.items ∙ stack_more c.make.new.stack.items v)
    (ap stack_of c.in_ok-push.ensures.items ∙ stack_more c.loop-behind.next.items w)
    c.in_ok-made.ensures.left
    (c.in_ok-entry.ensures ∙ ap₂ (λ o l. kept_next o (entry_of v) (item None l 0)) on_is behind)
    (c.is_at_fault-at_fault.ensures ∙ ap (λ o. o && is_none (entry_of v)) on_is)
    (subst (λ l. ((c.in_ok-fault.fault ≡ c.loop-behind.fault) × (IsTrue c.is_at_fault-at_fault.result → IsSome c.loop-behind.fault)) ⊎ (IsTrue c.is_at_fault-at_fault.result × MatchOption c.in_ok-fault.fault ⊥ (IsFaultBy (expression_of q.expr.now) (map entry_of l) i)))
    c.deref-in-loop-behind.ensures.value c.in_ok-fault.ensures)

pub returns : goal.returns
returns c =
    let p = program_seen c.args.program.now in
    let b = c.args.present in
    let row = map entry_of c.args.row.now in
    let rows = c.args.rows.now in
    let kept = map entry_of c.args.kept.now in
    let qs = c.args.parts.now in
    let none : length qs - c.loop-behind.behind ≡ 0 = omega (arith, c.loop-behind-test.false) in
    let all : IsRenewedFrom p b row rows qs kept 0 (stack_of c.loop-behind.stack.items) (stack_of c.loop-behind.next.items) c.loop-behind.fault =
    subst (λ m. IsRenewedFrom p b row rows qs kept m (stack_of c.loop-behind.stack.items) (stack_of c.loop-behind.next.items) c.loop-behind.fault) none c.loop-behind.invariant in
    record { kept = λ now past s. ap (map entry_of) c.reverse.ensures.items ∙ all.kept now past s; fault = all.fault }
