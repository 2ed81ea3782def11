-- Calls go down, and one part more is begun.
use Rattle.std.proofs.Common.{◌≡◌, ◌∙◌, None, false, ◌+◌, ◌≤◌, suc, [], ◌∷◌, drop, drop-cons, drop_of_length-le, length, map, sym, ap, subst, append-nil, arith, rules}
use Rattle.std.proofs.lemmas.Grind.{common_steps}
use Rattle.lus_program.specs.Programs.{node_at}
use Rattle.lus_values.specs.View.{entry_of}
use Rattle.lus_program.specs.View.{node_of, program_seen}
use Rattle.lus_streams.specs.Equations.{node_parts, sites_in}
use Rattle.lus_parts.specs.Parts.{part_of}
use Rattle.lus_worlds.specs.declared.moment.Moment.{Moment, roll-Moment, the_lemmas}
use Rattle.lus_worlds.specs.Beginning.{Begins, IsWithin}
use Rattle.lus_worlds.specs.Moments.{kept_in, moments_in, KeepsBehind, EachKeeps}
use Rattle.lus_worlds.proofs.Begun.{all_begun, begun, begun_further, call_begins, other_begins, BegunFrom}
use Rattle.lus_worlds.proofs.Depths.{one_lacks}
use Rattle.lus_worlds.proofs.beginning.+start.Goals as goal

pub start_calls-loop-part-preserved : goal.start_calls-loop-part-preserved
start_calls-loop-part-preserved t c =
    let p = program_seen c.args.program.now in
    let qs = c.args.parts.now in
    let i = c.loop-part.part-index in
    let q = c.part-item.result in
    let next : i + 1 ≡ suc i = omega arith in
    let rest : drop i qs ≡ q ∷ drop (suc i) qs = drop-cons qs i q c.loop-part-test.true ∙ (λ j. sym c.part-item.is j ∷ drop (suc i) qs) in
    let called = c.loop-part.called.items in
    let new = c.start_call.new.called.items in
    let begins : Begins p q called new = c.in_ok-begun.ensures.begins c.if-not-begun.false in
    let before : BegunFrom p qs called (q ∷ drop (suc i) qs) = subst (BegunFrom p qs called) rest c.loop-part.invariant in
    subst (λ j. BegunFrom p qs new (drop j qs)) (sym next) (begun_further p qs called new q (drop (suc i) qs) begins before)

pub start_calls-returns-then-not-begun : goal.start_calls-returns-then-not-begun
start_calls-returns-then-not-begun t c =
    let p = program_seen c.args.program.now in
    let qs = c.args.parts.now in
    let i = c.loop-part.part-index in
    let q = c.part-item.result in
    let rest : drop i qs ≡ q ∷ drop (suc i) qs = drop-cons qs i q c.loop-part-test.true ∙ (λ j. sym c.part-item.is j ∷ drop (suc i) qs) in
    one_lacks p (IsWithin p c.args.depth) i qs (drop (suc i) qs) q rest (c.in_ok-begun.ensures.none c.if-not-begun.true)

pub start_calls-returns : goal.start_calls-returns
start_calls-returns t c =
    let qs = c.args.parts.now in
    let i = c.loop-part.part-index in
    let done : drop i qs ≡ [] = drop_of_length-le qs (let le : length qs ≤ i = omega arith in le) in
    all_begun (program_seen c.args.program.now) qs c.loop-part.called.items (drop i qs) done c.loop-part.invariant

pub start_call-returns-in_ok-push-in-Some-2-clause-begins : goal.start_call-returns-in_ok-push-in-Some-2-clause-begins
start_call-returns-in_ok-push-in-Some-2-clause-begins t c =
    let p = program_seen c.args.program.now in
    let m = c.in-Some-2.moment in
    let own : KeepsBehind p m c.in-Some.other [] = rw c.in-Some-2.is at c.in_ok-moment-in-Some.ensures in
    λ ok. call_begins p c.args.part.now c.in-Some.other m c.args.called.now.items c.push.new.self.items (sym c.callee.ensures ∙ c.in-Some.is) own c.in_ok-push-in-Some-2.ensures.items

pub start_call-returns-in-None-clause-begins : goal.start_call-returns-in-None-clause-begins
start_call-returns-in-None-clause-begins t c = λ ok. other_begins (program_seen c.args.program.now) c.args.part.now c.args.called.now.items (sym c.callee.ensures ∙ c.in-None.is) (sym (append-nil c.args.called.now.items))

pub start_within-returns-in-Some-2 : goal.start_within-returns-in-Some-2
start_within-returns-in-Some-2 t c =
    let p = program_seen c.args.program.now in
    let g = c.args.number in
    let ms = c.in-Some-2.called.items in
    let made : Moment = roll-Moment (record { present = false; row = c.new-in-Some-2.result; kept = c.new-in-Some-2-3.result; fault = None; called = c.in-Some-2.called }) in
    let ek : c.new-in-Some-2-3.result ≡ kept_in made = search (rules, the_lemmas) in
    let em : ms ≡ moments_in made = search (rules, the_lemmas) in
    let node_is : node_of c.in-Some.node.now ≡ node_at p g = first_of (search rules, grind (arith, common_steps)) in
    let parts_are : map part_of c.deref-in-Some.result.now ≡ node_parts p (node_at p g) = ap (map part_of) c.deref-in-Some.ensures.value ∙ c.in_ok-parts-in-Some.ensures.parts ∙ ap (node_parts p) node_is in
    let called : EachKeeps p ms (sites_in p (map part_of c.deref-in-Some.result.now)) [] = rw c.in-Some-2.is at c.in_ok-called-in-Some.ensures in
    begun p g made ms (sym ek ∙ c.new-in-Some-2-3.ensures ∙ ap (map entry_of) c.new-in-Some-2-2.ensures.items) (sym em) (subst (λ es. EachKeeps p ms (sites_in p es) []) parts_are called)
