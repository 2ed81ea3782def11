use Rattle.std.proofs.Common.{rules, ◌≡◌, ◌∙◌, refl, sym, ap, ap₂, subst, map, replicate, ◌++◌, OnOk, Some}
use Rattle.lus_instructions.specs.Words.{entry_in}
use Rattle.lus_values.specs.Values.{Value, Row, struct, nil}
use Rattle.lus_values.specs.View.{value_of}
use Rattle.lus_values.proofs.Views.{no_structure}
use Rattle.lus_values.specs.declared.value.Value.{the_lemmas}
use Rattle.lus_words.specs.declared.layout.Layout.{the_lemmas as layout_lemmas}
use Rattle.lus_words.specs.Encoded.{words}
use Rattle.lus_words.specs.Fitting.{Fits}
use Rattle.lus_words.specs.Layouts.{Layout, size}
use Rattle.lus_words.specs.View.{layout_of}
use Rattle.lus_words.proofs.Falling.{fields_are, fields_seen, fit_long, not_structure, parts_are, seen}
use Rattle.lus_words.proofs.Views.{seen_parts}
use Rattle.lus_words.proofs.pushing.+push.Goals as goal

pub push_value-push_fields-requires : goal.push_value-push_fields-requires
push_value-push_fields-requires t c =
    let layout = parts_are c.in-Parts.parts c.args.layout.now c.deref.result.now c.in-Parts.is c.deref.ensures.value in
    let value = fields_are c.in-Struct.fields c.args.value.now c.deref-in-Struct.result.now c.in-Struct.is c.deref-in-Struct.ensures.value in (
      search (rules, the_lemmas, layout_lemmas),
      subst (λ (l : Layout). Fits l (struct (fields_seen c.deref-in-Struct.result.now))) layout (subst (λ (v : Value). Fits (layout_of c.args.layout.now) v) value c.requires),
    )

pub push_value-returns-in-Struct : goal.push_value-returns-in-Struct
push_value-returns-in-Struct t c =
    let layout = parts_are c.in-Parts.parts c.args.layout.now c.deref.result.now c.in-Parts.is c.deref.ensures.value in
    let value = fields_are c.in-Struct.fields c.args.value.now c.deref-in-Struct.result.now c.in-Struct.is c.deref-in-Struct.ensures.value in
    subst (λ (more : Row). OnOk c.push_fields.result (map entry_in c.push_fields.new.row.items ≡ map entry_in c.args.row.now.items ++ more)) (sym (ap₂ words layout value)) c.push_fields.ensures

pub push_value-returns-in_default : goal.push_value-returns-in_default
push_value-returns-in_default t c =
    let layout = ap layout_of c.in-Parts.is ∙ seen_parts c.in-Parts.parts in
    let fits = subst (λ (l : Layout). Fits l (value_of c.args.value.now)) layout c.requires in
    let nils = not_structure (seen c.in-Parts.parts.items) (value_of c.args.value.now) fits (no_structure c.args.value.now c.in_default.not-Struct) in
    let same = ap (λ l. words l (value_of c.args.value.now)) layout ∙ nils ∙ ap (λ l. replicate (size l) (Some nil)) (sym layout) in
    subst (λ (more : Row). OnOk c.push_all.result (map entry_in c.push_all.new.row.items ≡ map entry_in c.args.row.now.items ++ more)) (sym same) c.push_all.ensures

pub push_fields-loop-part-init : goal.push_fields-loop-part-init
push_fields-loop-part-init t c = (fit_long c.args.parts.now c.args.fields.now c.requires, c.requires, refl)
