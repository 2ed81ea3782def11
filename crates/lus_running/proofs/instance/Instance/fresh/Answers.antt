use Rattle.std.proofs.Common.{◌≡◌, ◌∙◌, ◌<◌, sym, ap, subst, slice_get, Some, refl, length, arith}
use Rattle.std.proofs.lemmas.Option.{slice_get_read}
use Rattle.lus_classes.specs.View.{classes_of}
use Rattle.lus_orders.specs.declared.class.Class.{Class as Emitted}
use Rattle.lus_orders.specs.Made.{state_in}
use Rattle.lus_instructions.specs.Words.{entry_in}
use Rattle.lus_running.specs.Instances.{IsNew, rows_seen}
use Rattle.lus_running.proofs.Placed.{fresh_state}
use Rattle.lus_emission.proofs.Underway.{found_within}
use Rattle.lus_running.proofs.Seeing.{new_long}
use Rattle.lus_running.proofs.instance.Instance.fresh.Goals as goal

pub bounds-on-node : goal.bounds-on-node
bounds-on-node c =
    let size = c.requires.code.size in
    omega (arith, size, c.requires.within)

pub returns-clause-start : goal.returns-clause-start
returns-clause-start c depth within =
    let on = c.args.on.now in
    let g = c.args.node in
    let f = c.index-on-node.result in
    let size = c.requires.code.size in
    let lt : g < length on.emitted.now = omega (arith, size, c.requires.within) in
    let coded : slice_get on.emitted.now g ≡ Some f = slice_get_read on.emitted.now (length on.emitted.now) g f refl lt c.index-on-node.is in
    let new : IsNew f (rows_seen entry_in g c.in_ok-words.words) =
    subst (λ (z : Emitted). IsNew z (rows_seen entry_in g c.in_ok-words.words)) (sym c.index-on-node.is) (c.in_ok-words.ensures g) in
    ap (state_in (classes_of on.classes.now) on.emitted.now depth g) new.cells ∙ fresh_state on.classes.now on.emitted.now c.requires.code depth g f coded within

pub returns-clause-shaped : goal.returns-clause-shaped
returns-clause-shaped c =
    let on = c.args.on.now in
    let g = c.args.node in
    let f = c.index-on-node.result in
    let size = c.requires.code.size in
    let lt : g < length on.emitted.now = omega (arith, size, c.requires.within) in
    let there = found_within on.classes.now g c.requires.within in
    let coded : slice_get on.emitted.now g ≡ Some f = slice_get_read on.emitted.now (length on.emitted.now) g f refl lt c.index-on-node.is in
    let new : IsNew f (rows_seen entry_in g c.in_ok-words.words) =
    subst (λ (z : Emitted). IsNew z (rows_seen entry_in g c.in_ok-words.words)) (sym c.index-on-node.is) (c.in_ok-words.ensures g) in
    record { class = there.0; code = f; found = there.1; coded = coded; long = new_long f (rows_seen entry_in g c.in_ok-words.words) new }
