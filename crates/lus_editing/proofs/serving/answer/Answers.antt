-- By the problem of the stage.
use Rattle.std.proofs.Common.{◌∙◌, IfOk, Option, ap, option_map, string_bytes, subst}
use Rattle.std.specs.Prelude.{codes}
use Rattle.std.specs.Str.{bytes_eq}
use Rattle.serde_json.specs.View.{view}
use Rattle.lus_editing.specs.Renames.{Gives}
use Rattle.lus_editing.specs.Serving.{IsAnswer, stage_problem}
use Rattle.lus_editing.specs.declared.answers.Problem.{Problem}
use Rattle.lus_editing.proofs.serving.answer.Goals as goal

pub returns-in-Some : goal.returns-in-Some
returns-in-Some g c =
    let gives = Gives g.C.Compiler.renames c.args.server.now (bytes_eq c.args.method.now (codes "textDocument/rename"))
    (option_map (λ v. view v.now) c.args.parameters) in
    subst (λ (p : Option Problem). IfOk c.fault.result (λ t. IsAnswer gives p c.args.id.now (string_bytes t)))
    (c.in-Some.ensures ∙ ap (stage_problem c.args.server.now.stage) c.eq.ensures) c.fault.ensures

pub returns-in-None : goal.returns-in-None
returns-in-None g c =
    let gives = Gives g.C.Compiler.renames c.args.server.now (bytes_eq c.args.method.now (codes "textDocument/rename"))
    (option_map (λ v. view v.now) c.args.parameters) in
    subst (λ (p : Option Problem). IfOk c.perform.result (λ t. IsAnswer gives p c.args.id.now (string_bytes t)))
    (c.in-None.ensures ∙ ap (stage_problem c.args.server.now.stage) c.eq.ensures) c.perform.ensures
