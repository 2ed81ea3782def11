-- With a method or without one.
use Rattle.std.proofs.Common.{IfOk, Option, option_map, string_bytes, subst}
use Rattle.serde_json.specs.View.{view}
use Rattle.lus_syntax.specs.Lexemes.{Text}
use Rattle.lus_editing.specs.Messages.{id_of, parameters_of}
use Rattle.lus_editing.specs.Serving.{IsAnsweredBy}
use Rattle.lus_editing.proofs.serving.serve_value.Goals as goal

pub returns-in-Some : goal.returns-in-Some
returns-in-Some g c =
    let d = view c.args.message.now in
    subst (λ (m : Option Text). IfOk c.serve_named.result (λ o.
    IsAnsweredBy g.C.Compiler.renames c.args.server.now m (id_of d) (parameters_of d) (option_map string_bytes o)))
    c.in-Some.ensures c.serve_named.ensures

pub returns-in-None : goal.returns-in-None
returns-in-None g c =
    let d = view c.args.message.now in
    subst (λ (m : Option Text). IfOk c.serve_nameless.result (λ o.
    IsAnsweredBy g.C.Compiler.renames c.args.server.now m (id_of d) (parameters_of d) (option_map string_bytes o)))
    c.in-None.ensures c.serve_nameless.ensures
