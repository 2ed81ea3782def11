use Rattle.std.proofs.Common.{◌≡◌, ◌∙◌, ap, sym, refl, Bool, true, false, List, Some, Bor}
use Rattle.std.specs.Bool.{then_some}
use Rattle.std.specs.Option.{option_and_then}
use Rattle.std.specs.Prelude.{option_map}
use Rattle.lus_program.specs.declared.types.Kind.{Kind}
use Rattle.lus_program.specs.Kinds.{where_true}
use Rattle.lus_program.specs.Resolved.{call_results}
use Rattle.lus_source.specs.Heads.{heads}
use Rattle.lus_source.specs.ScopeView.{scope_of, signature_of}
use Rattle.lus_types.proofs.Meant.{call_gives}
use Rattle.lus_types.proofs.elaboration.kinds.results.Goals as goal

seen_where : (b : Bool) (ks : Bor (List Kind)) → option_map (λ x. x.now) (then_some b ks) ≡ where_true b (Some ks.now)
seen_where true ks = refl
seen_where false ks = refl

pub returns : goal.returns
returns c =
    let s = scope_of c.args.scope.now in
    let ks = c.args.arguments.now in
    let gives = sym (call_gives s ks (signature_of c.in_ok-called.called.now)) in
    ap (option_map (λ x. x.now)) c.then_some.ensures ∙ seen_where c.all_same.result c.as_slice.result
    ∙ rw (c.all_same.ensures, c.deref.ensures.value, c.as_slice.ensures.value) gives ∙ ap (option_and_then (call_results (heads s) ks)) c.in_ok-called.ensures
