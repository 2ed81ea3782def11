use Rattle.std.proofs.Common.{◌∙◌, ap, sym, refl, length, option_map, arith}
use Rattle.std.proofs.lemmas.Option.{slice_get_past, slice_get_read}
use Rattle.lus_source.specs.ScopeView.{scope_of}
use Rattle.lus_types.proofs.Meant.{field_read}
use Rattle.lus_types.proofs.elaboration.kinds.field_kind.Goals as goal

pub returns : goal.returns
returns c =
    let fs = c.fields_of.result.now in
    let n = c.args.field in
    let found = slice_get_read fs (length fs) n c.in_ok-get.field-0.now refl (omega (arith, c.in_ok-get.ensures.lookup.3.0)) c.in_ok-get.ensures.lookup.1 in
    sym (ap (option_map (λ f. f.kind)) found) ∙ field_read (scope_of c.args.scope.now) c.args.structure fs n c.fields_of.ensures.fields

pub returns-in_err-get : goal.returns-in_err-get
returns-in_err-get c =
    let fs = c.fields_of.result.now in
    let n = c.args.field in
    let absent = slice_get_past fs n (omega (arith, c.in_err-get.ensures.lookup)) in
    c.from_residual.ensures ∙ sym (ap (option_map (λ f. f.kind)) absent) ∙ field_read (scope_of c.args.scope.now) c.args.structure fs n c.fields_of.ensures.fields
