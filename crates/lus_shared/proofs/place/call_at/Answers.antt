use Rattle.std.proofs.Common.{◌++◌, ◌∷◌, [], ap, sym, refl, ◌∙◌, arith}
use Rattle.lus_machine.specs.Machines.{Told, entry}
use Rattle.lus_shared.specs.Knowledge.{machine_at}
use Rattle.lus_shared.specs.Told.{its_facts, with_seen}
use Rattle.lus_shared.proofs.Steps.{slot_of, slot_after, machine_of, can_add, can_restore, gives_can}
use Rattle.lus_shared.proofs.place.call_at.Goals as goal

pub slot_mut-requires : goal.slot_mut-requires
slot_mut-requires c = let t = c.in-Ok.ensures.told in (c.take.ensures.same.0 ∙ c.requires.table.0, (machine_at (its_facts c.args.place.now.me).origin t.history, slot_of _ _ _ t.view))

pub store-requires : goal.store-requires
store-requires c =
    let t = c.in-Ok.ensures.told in
    let f = its_facts c.args.place.now.me in
    let e = entry c.args.number c.args.request.now c.in-Ok-call.reply in
    let was = machine_of _ _ (machine_at f.origin t.history) _ t.view c.slot_mut.ensures.value in
    let now = c.in-Ok-call.ensures.ok ∙ ap (λ (m : Told). let n : Told = record { program = m.program; node = m.node; history = m.history ++ e ∷ [] } in n) was in
    let can = can_add f t.history e _ _ (with_seen t.history f) refl now (sym c.requires.alone.1) c.call.ensures.legal t.count in
    (c.take.ensures.same.0 ∙ c.requires.table.0, omega (arith, c.requires.table.1), gives_can _ _ _ _ (with_seen t.history f) _ _ (slot_after _ _ (with_seen t.history f) (machine_at f.origin t.history) _ t.view refl) can)

pub store-requires-in-Err-call : goal.store-requires-in-Err-call
store-requires-in-Err-call c =
    let t = c.in-Ok.ensures.told in
    let f = its_facts c.args.place.now.me in
    let was = machine_of _ _ (machine_at f.origin t.history) _ t.view c.slot_mut.ensures.value in
    let can = can_restore f t.history _ _ (c.in-Err-call.ensures.err ∙ was) t.knows t.count in
    (c.take.ensures.same.0 ∙ c.requires.table.0, omega (arith, c.requires.table.1), gives_can _ _ _ _ (with_seen t.history f) _ _ (slot_after _ _ (with_seen t.history f) (machine_at f.origin t.history) _ t.view refl) can)
