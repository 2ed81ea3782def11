use Rattle.std.proofs.Common.{◌∙◌, ◌+◌, ◌<◌, ◌≤◌, ◌∷◌, ◌++◌, [], List, length, take, drop, refl, sym, ap, subst, arith}
use Rattle.std.proofs.lemmas.List.{drop_all, take_all}
use Rattle.lus_instructions.specs.declared.class.Call.{Call}
use Rattle.lus_orders.specs.declared.class.Call.{Call as EmittedCall}
use Rattle.lus_emission.specs.Calls.{AreCallsAt, cells_end}
use Rattle.lus_emission.proofs.Adding.{each_at, take_next}
use Rattle.lus_emission.proofs.Standing.{calls_more, end_behind, one_less}
use Rattle.lus_emission.proofs.calls.calls_of.Goals as goal

pub loop-call-init : goal.loop-call-init
loop-call-init c = record {
  at = subst (λ (ps : List EmittedCall). AreCallsAt c.args.emitted.now c.args.from [] ps c.args.from) (sym c.in_ok-made.ensures.items) refl;
  rest = refl;
}

pub call_at-requires : goal.call_at-requires
call_at-requires c =
    each_at (λ (q : Call). q.node < length c.args.emitted.now) c.args.calls.now c.loop-call.call-index c.call-item.result c.loop-call-test.true c.call-item.is c.requires.nodes

-- what is left of the calls ends where all do
pub overflow_add-end : goal.overflow_add-end
overflow_add-end c =
    let emitted = c.args.emitted.now in
    let qs = c.args.calls.now in
    let l = c.loop-call in
    let i = l.call-index in
    let next = c.in_ok-next.next in
    let rest = one_less emitted qs i l.end c.call-item.result next c.loop-call-test.true c.call-item.is c.in_ok-next.ensures in
    let end = end_behind emitted (l.end + next.length) (drop (i + 1) qs) in
    let fit = c.requires.fit in
    let was = l.invariant.rest in
    omega (arith, rest, end, fit, was)

pub loop-call-preserved : goal.loop-call-preserved
loop-call-preserved c =
    let emitted = c.args.emitted.now in
    let qs = c.args.calls.now in
    let l = c.loop-call in
    let i = l.call-index in
    let q = c.call-item.result in
    let next = c.in_ok-next.next in
    record {
      at = subst (λ (ps : List EmittedCall). AreCallsAt emitted c.args.from (take (i + 1) qs) ps (l.end + next.length)) (sym c.in_ok-push.ensures.items)
          (subst (λ (hs : List Call). AreCallsAt emitted c.args.from hs (l.made.items ++ next ∷ []) (l.end + next.length))
          (sym (take_next qs i q c.loop-call-test.true c.call-item.is))
          (calls_more emitted c.args.from (take i qs) l.made.items l.end q next l.invariant.at c.in_ok-next.ensures));
      rest = one_less emitted qs i l.end q next c.loop-call-test.true c.call-item.is c.in_ok-next.ensures ∙ l.invariant.rest;
    }

pub returns : goal.returns
returns c =
    let emitted = c.args.emitted.now in
    let qs = c.args.calls.now in
    let l = c.loop-call in
    let past : length qs ≤ l.call-index = c.loop-call-test.false in
    record {
      at = subst (λ (hs : List Call). AreCallsAt emitted c.args.from hs l.made.items l.end) (take_all l.call-index qs past) l.invariant.at;
      end = sym (ap (cells_end emitted l.end) (drop_all l.call-index qs past)) ∙ l.invariant.rest;
    }
