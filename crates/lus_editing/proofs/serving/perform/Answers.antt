-- A result is one that was given, and an error has its problem.
use Rattle.std.proofs.Common.{IfOk, inl, inr, option_map, string_bytes, subst, sym}
use Rattle.std.proofs.lemmas.Result.{IfOk-weaker}
use Rattle.std.specs.Prelude.{codes}
use Rattle.std.specs.Str.{bytes_eq}
use Rattle.serde_json.specs.View.{view}
use Rattle.lus_editing.specs.Renames.{Gives}
use Rattle.lus_editing.proofs.serving.perform.Goals as goal

pub returns-in-Ok : goal.returns-in-Ok
returns-in-Ok g c =
    let gives = Gives g.C.Compiler.renames c.args.server.now (bytes_eq c.args.method.now (codes "textDocument/rename"))
    (option_map (λ v. view v.now) c.args.parameters) in
    let given = subst (λ r. IfOk r (λ t. gives (string_bytes t))) c.in-Ok.is c.in_ok-done.ensures in
    IfOk-weaker c.result.result _ _ (λ t is. inl (c.as_str.result.now, is, subst gives (sym c.as_str.ensures.value) given)) c.result.ensures

pub returns-in-Err : goal.returns-in-Err
returns-in-Err g c = IfOk-weaker c.fault.result _ _ (λ t is. inr (c.in-Err.problem, is)) c.fault.ensures
