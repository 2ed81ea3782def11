use Rattle.std.proofs.Common.{rules, ◌≡◌, ◌∙◌, ◌+◌, ◌≤◌, sym, ap, subst, map, drop, length, IfOk, OnOk}
use Rattle.lus_instructions.specs.Words.{entry_in}
use Rattle.lus_values.specs.Values.{struct}
use Rattle.lus_values.specs.View.{value_of}
use Rattle.lus_values.proofs.Views.{struct_fields}
use Rattle.lus_words.specs.declared.layout.Layout.{the_lemmas}
use Rattle.lus_words.specs.Encoded.{read}
use Rattle.lus_words.specs.Layouts.{Layout, size}
use Rattle.lus_words.proofs.Falling.{parts_are, place_step, read_end, read_step}
use Rattle.lus_words.proofs.reading.+read.Goals as goal

pub read_structure-loop-part-preserved : goal.read_structure-loop-part-preserved
read_structure-loop-part-preserved t c =
    let ls = c.args.parts.now in
    let i = c.loop-part.part-index in
    let x = c.part-item.result in
    let r = map entry_in c.args.words.now in
    let moved = c.in_ok-field.ensures.behind in (
      place_step ls i x c.loop-part-test.true c.part-item.is r c.loop-part.place c.read_value.new.place moved _ c.loop-part.invariant.0,
      read_step ls i x c.loop-part-test.true c.part-item.is r c.loop-part.place c.read_value.new.place moved c.loop-part.fields.items c.push.new.self.items c.in_ok-field.field _ c.in_ok-push.ensures.items c.in_ok-field.ensures.value c.loop-part.invariant.1,
    )

pub read_structure-returns-clause-value : goal.read_structure-returns-clause-value
read_structure-returns-clause-value t c =
    struct_fields c.loop-part.fields
    ∙ ap struct (read_end c.args.parts.now c.loop-part.part-index c.loop-part-test.false (drop c.loop-part.place (map entry_in c.args.words.now)) c.loop-part.fields.items _ c.loop-part.invariant.1)

pub read_value-read_structure-requires : goal.read_value-read_structure-requires
read_value-read_structure-requires t c =
    let layout = parts_are c.in-Parts.parts c.args.layout.now c.deref.result.now c.in-Parts.is c.deref.ensures.value in
    (search (rules, the_lemmas), subst (λ (l : Layout). c.args.place.now + size l ≤ length c.args.words.now) layout c.requires)

pub read_value-returns-in-Parts-clause-value : goal.read_value-returns-in-Parts-clause-value
read_value-returns-in-Parts-clause-value t c =
    let layout = parts_are c.in-Parts.parts c.args.layout.now c.deref.result.now c.in-Parts.is c.deref.ensures.value in
    subst (λ (l : Layout). IfOk c.read_structure.result (λ v. value_of v ≡ read l (drop c.args.place.now (map entry_in c.args.words.now)))) (sym layout) c.read_structure.ensures.value

pub read_value-returns-in-Parts-clause-behind : goal.read_value-returns-in-Parts-clause-behind
read_value-returns-in-Parts-clause-behind t c =
    let layout = parts_are c.in-Parts.parts c.args.layout.now c.deref.result.now c.in-Parts.is c.deref.ensures.value in
    subst (λ (l : Layout). OnOk c.read_structure.result (c.read_structure.new.place ≡ c.args.place.now + size l)) (sym layout) c.read_structure.ensures.behind
