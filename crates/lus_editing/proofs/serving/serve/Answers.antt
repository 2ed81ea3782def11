-- By whether the message is JSON.
use Rattle.std.proofs.Common.{Option, Some, ap, option_map, string_bytes, subst, sym, ◌∙◌}
use Rattle.std.proofs.lemmas.Result.{IfOk-weaker}
use Rattle.serde_json.specs.Data.{Data}
use Rattle.serde_json.specs.View.{view}
use Rattle.lus_editing.specs.Serving.{IsServed}
use Rattle.lus_editing.proofs.serving.serve.Goals as goal

pub returns-in-Some : goal.returns-in-Some
returns-in-Some g c =
    IfOk-weaker c.serve_value.result _ _
    (λ o is utf8. subst (λ (r : Option Data). IsServed g.C.Compiler.renames c.args.server.now r (option_map string_bytes o))
    (sym (c.in_ok-parsed.ensures utf8 ∙ ap (option_map view) c.in-Some.is)) is)
    c.serve_value.ensures

pub returns : goal.returns
returns g c = λ utf8.
    subst (λ (r : Option Data). IsServed g.C.Compiler.renames c.args.server.now r (Some (string_bytes c.in_ok-said-in-None.said)))
    (sym (c.in_ok-parsed.ensures utf8 ∙ ap (option_map view) c.in-None.is)) c.in_ok-said-in-None.ensures
