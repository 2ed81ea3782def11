-- A structure is read field by field, any other value as one word.
use Rattle.std.proofs.Common.{◌≡◌, ◌∙◌, ◌++◌, ◌∷◌, [], ap, sym, map, codes, rules, Some, None, List, ◌-◌, ◌<◌, arith}
use Rattle.std.proofs.lemmas.List.{map_push}
use Rattle.lus_values.specs.View.{value_of}
use Rattle.lus_values.specs.Values.{Value, fields_of, struct}
use Rattle.lus_values.proofs.Views.{struct_fields}
use Rattle.lus_asked.specs.Reading.{after, first_as, list_at, value_at, with_rest}
use Rattle.lus_asked.proofs.Lists.{begun_list, empty_list, last_item, more_item, none_item, spent_item, stuck_item}
use Rattle.lus_asked.proofs.Values.{plain_at, struct_at, zero_at}
use Rattle.lus_asked.proofs.value.+values.Goals as goal

pub take_fields-returns-in-Some : goal.take_fields-returns-in-Some
take_fields-returns-in-Some t c = empty_list _ (value_at c.args.levels c.args.names.now) (codes "}") (codes "; ") c.args.text.now c.in-Some.rest.now (map value_of c.new-fields.result.items) (ap (map value_of) c.new-fields.ensures.items) c.in-Some.ensures

pub take_fields-loop-init : goal.take_fields-loop-init
take_fields-loop-init t c =
    let none : None ≡ after (codes "}") c.args.text.now = search rules in
    begun_list _ (value_at c.args.levels c.args.names.now) (codes "}") (codes "; ") c.args.text.now (map value_of c.new-fields.result.items) (ap (map value_of) c.new-fields.ensures.items) none

pub take_fields-returns-in_default-2 : goal.take_fields-returns-in_default-2
take_fields-returns-in_default-2 t c =
    let none : None ≡ value_at c.args.levels c.args.names.now c.loop.left.now = search rules in
    none_item _ (value_at c.args.levels c.args.names.now) (codes "}") (codes "; ") _ (map value_of c.loop.fields.items) c.loop.left.now _ none c.loop.invariant

pub take_fields-returns-in-End : goal.take_fields-returns-in-End
take_fields-returns-in-End t c =
    let some : Some (value_of c.in-Some-2.field, c.in-Some-2.behind.now) ≡ value_at c.args.levels c.args.names.now c.loop.left.now = search rules in
    let pushed : map value_of c.push.new.self.items ≡ map value_of c.loop.fields.items ++ value_of c.in-Some-2.field ∷ [] = rw c.in_ok-push.ensures.items (map_push value_of c.loop.fields.items c.in-Some-2.field) in
    last_item _ (value_at c.args.levels c.args.names.now) (codes "}") (codes "; ") _ _ (map value_of c.loop.fields.items) (map value_of c.push.new.self.items) (value_of c.in-Some-2.field) c.loop.left.now c.in-Some-2.behind.now c.in-End.rest.now _ c.loop-test.true pushed some c.in-End.ensures c.loop.invariant

pub take_fields-returns-in-Neither : goal.take_fields-returns-in-Neither
take_fields-returns-in-Neither t c =
    let some : Some (value_of c.in-Some-2.field, c.in-Some-2.behind.now) ≡ value_at c.args.levels c.args.names.now c.loop.left.now = search rules in
    stuck_item _ (value_at c.args.levels c.args.names.now) (codes "}") (codes "; ") _ (map value_of c.loop.fields.items) (value_of c.in-Some-2.field) c.loop.left.now c.in-Some-2.behind.now _ some c.in-Neither.ensures c.loop.invariant

pub take_fields-loop-preserved : goal.take_fields-loop-preserved
take_fields-loop-preserved t c =
    let some : Some (value_of c.in-Some-2.field, c.in-Some-2.behind.now) ≡ value_at c.args.levels c.args.names.now c.loop.left.now = search rules in
    let pushed : map value_of c.push.new.self.items ≡ map value_of c.loop.fields.items ++ value_of c.in-Some-2.field ∷ [] = rw c.in_ok-push.ensures.items (map_push value_of c.loop.fields.items c.in-Some-2.field) in
    more_item _ (value_at c.args.levels c.args.names.now) (codes "}") (codes "; ") _ _ (map value_of c.loop.fields.items) (map value_of c.push.new.self.items) (value_of c.in-Some-2.field) c.loop.left.now c.in-Some-2.behind.now c.in-Item.later.now _ c.loop-test.true pushed some c.in-Item.ensures c.loop.invariant

pub take_fields-returns : goal.take_fields-returns
take_fields-returns t c = spent_item _ (value_at c.args.levels c.args.names.now) (codes "}") (codes "; ") _ _ (map value_of c.loop.fields.items) c.loop.left.now _ c.loop-test.false c.loop.invariant

pub take_value-returns-in_default : goal.take_value-returns-in_default
take_value-returns-in_default t c =
    let none : after (codes "{") c.args.text.now ≡ None = search rules in
    c.take_scalar.ensures ∙ sym (plain_at c.args.levels c.args.names.now c.args.text.now none)

pub take_value-returns-then-levels-eq0 : goal.take_value-returns-then-levels-eq0
take_value-returns-then-levels-eq0 t c = zero_at c.args.levels c.args.names.now c.args.text.now c.in-Some.inner.now c.if-levels-eq0.true c.in-Some.ensures

pub take_value-returns-in-Some-2 : goal.take_value-returns-in-Some-2
take_value-returns-in-Some-2 t c =
    let some : Some (map value_of c.in-Some-2.fields.items, c.in-Some-2.rest.now) ≡ list_at (value_at (c.args.levels - 1) c.args.names.now) (codes "}") (codes "; ") c.in-Some.inner.now = search rules in
    let levels : 0 < c.args.levels = omega arith in
    ap (λ (v : Value). with_rest c.in-Some-2.rest.now (Some v)) (struct_fields c.in-Some-2.fields)
    ∙ ap (first_as (λ (vs : List Value). struct (fields_of vs))) some
    ∙ struct_at c.args.levels c.args.names.now c.args.text.now c.in-Some.inner.now levels c.in-Some.ensures

pub take_value-returns-in-None : goal.take_value-returns-in-None
take_value-returns-in-None t c =
    let none : None ≡ list_at (value_at (c.args.levels - 1) c.args.names.now) (codes "}") (codes "; ") c.in-Some.inner.now = search rules in
    let levels : 0 < c.args.levels = omega arith in
    ap (first_as (λ (vs : List Value). struct (fields_of vs))) none
    ∙ struct_at c.args.levels c.args.names.now c.args.text.now c.in-Some.inner.now levels c.in-Some.ensures
