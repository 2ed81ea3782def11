-- With the id of a request or without one.
use Rattle.std.proofs.Common.{IfOk, Option, Some, None, option_map, string_bytes, subst, ◌∙◌}
use Rattle.serde_json.specs.Data.{Data}
use Rattle.serde_json.specs.View.{view}
use Rattle.std.specs.Str.{bytes_eq}
use Rattle.std.specs.Prelude.{codes}
use Rattle.lus_syntax.specs.Lexemes.{Text}
use Rattle.lus_editing.specs.Messages.{parameters_of}
use Rattle.lus_editing.specs.Renames.{Gives}
use Rattle.lus_editing.specs.Serving.{IsAnswer, IsNamedAnswered, stage_problem}
use Rattle.lus_editing.proofs.serving.serve_named.Goals as goal

pub returns-in_ok-said-in-Some : goal.returns-in_ok-said-in-Some
returns-in_ok-said-in-Some g c =
    let d = view c.args.message.now in
    let problem = stage_problem c.args.server.now.stage (bytes_eq c.args.method.now (codes "initialize")) in
    let gives = Gives g.C.Compiler.renames c.args.server.now (bytes_eq c.args.method.now (codes "textDocument/rename")) in
    let said = string_bytes c.in_ok-said-in-Some.said in
    subst (λ (i : Option Data). IsNamedAnswered g.C.Compiler.renames c.args.server.now c.args.method.now i (parameters_of d)
    (Some said))
    c.in-Some.ensures
    (λ plain. subst (λ (t : Text). IsAnswer (gives (parameters_of d)) problem t said) (c.as_str.ensures.value ∙ c.in_ok-id-in-Some.ensures.text plain)
    (subst (λ (p : Option Data). IsAnswer (gives p) problem c.as_str.result.now said) c.parameters_of-parameters.ensures c.in_ok-said-in-Some.ensures))

pub returns-in-None : goal.returns-in-None
returns-in-None g c =
    let d = view c.args.message.now in
    subst (λ (i : Option Data). IfOk c.notify.result (λ o.
    IsNamedAnswered g.C.Compiler.renames c.args.server.now c.args.method.now i (parameters_of d) (option_map string_bytes o)))
    c.in-None.ensures
    (subst (λ (p : Option Data). IfOk c.notify.result (λ o.
    IsNamedAnswered g.C.Compiler.renames c.args.server.now c.args.method.now None p (option_map string_bytes o)))
    c.parameters_of-parameters.ensures c.notify.ensures)
