-- The source is that of the open document which is named.
use Rattle.std.proofs.Common.{◌≡◌, ◌∙◌, Some, ap, option_and_then, option_map, rules, sym}
use Rattle.std.proofs.lemmas.Result.{IfOk-weaker}
use Rattle.serde_json.specs.View.{view}
use Rattle.lus_editing.specs.Messages.{new_name_of, uri_of}
use Rattle.lus_editing.proofs.renames.renamed.Goals as goal

pub returns-in-Some-document : goal.returns-in-Some-document
returns-in-Some-document g c =
    let parameters = option_map (λ v. view v.now) c.args.parameters in
    let of : option_and_then uri_of parameters ≡ Some c.in-Some.uri.now = search rules in
    let to : option_and_then new_name_of parameters ≡ Some c.in-Some.name.now = search rules in
    IfOk-weaker c.changes.result _ _
    (λ r changed. IfOk-weaker r _ _
    (λ t made. record {
      uri = c.in-Some.uri.now;
      source = c.as_str.result.now;
      name = c.in-Some.name.now;
      of = of;
      to = to;
      opened = sym c.in-Some-document.ensures ∙ ap Some (sym c.as_str.ensures.value);
      renamed = made;
    })
    changed)
    c.changes.ensures
