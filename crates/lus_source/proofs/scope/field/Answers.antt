use Rattle.std.proofs.Common.{◌≡◌, ◌∙◌, ap, sym, cond, Some, map, drop, ◌+◌, arith, true, false}
use Rattle.std.specs.Prelude.{string_bytes}
use Rattle.std.specs.Str.{bytes_eq}
use Rattle.lus_program.specs.View.{field_of}
use Rattle.lus_source.specs.declared.entries.Placed.{Placed}
use Rattle.lus_source.specs.Labels.{field_from}
use Rattle.lus_source.proofs.FieldsMeant.{field_step}
use Rattle.lus_source.proofs.scope.field.Goals as goal

pub returns-then-eq : goal.returns-then-eq
returns-then-eq c =
    let f = c.index-fields-place.result in
    let rest = field_from (c.loop-place.place + 1) (map field_of (drop (c.loop-place.place + 1) c.args.fields.now)) c.args.name.now in
    let test : bytes_eq c.args.name.now (string_bytes f.name) ≡ true = cc in
    let placed : Placed = record { place = c.loop-place.place; kind = f.kind } in
    sym (c.loop-place.invariant ∙ field_step c.args.fields.now c.loop-place.place f c.args.name.now (omega arith) c.index-fields-place.is ∙ ap (λ b. cond b (Some placed) rest) test)

pub loop-place-preserved : goal.loop-place-preserved
loop-place-preserved c =
    let f = c.index-fields-place.result in
    let rest = field_from (c.loop-place.place + 1) (map field_of (drop (c.loop-place.place + 1) c.args.fields.now)) c.args.name.now in
    let test : bytes_eq c.args.name.now (string_bytes f.name) ≡ false = cc in
    let placed : Placed = record { place = c.loop-place.place; kind = f.kind } in
    c.loop-place.invariant ∙ field_step c.args.fields.now c.loop-place.place f c.args.name.now (omega arith) c.index-fields-place.is ∙ ap (λ b. cond b (Some placed) rest) test
