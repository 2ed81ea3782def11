-- By how lines of the node are spelled.
use Rattle.std.proofs.Common.{[], None, subst}
use Rattle.std.proofs.lemmas.Result.{IfOk-weaker, on_err_weaker}
use Rattle.std.specs.Arc.{arc_value}
use Rattle.lus_cli.specs.CodeSpecs.Codes.{program_of}
use Rattle.lus_hosting.specs.Spellings.{no_spelling}
use Rattle.lus_hosting.specs.Turns.{HasHosted, HasHostedSome, everything}
use Rattle.lus_many.proofs.objects.host_json.Goals as goal

pub returns-clause-all : goal.returns-clause-all
returns-clause-all g c =
    let p = program_of (arc_value c.args.program.now) in
    IfOk-weaker c.host_many.result _ _
    (λ score hosted. subst (λ s. HasHosted everything p c.args.node.0 no_spelling s [] (g.S.Source.left c.args.input.now) (g.S.Source.left c.host_many.new.input) None None (g.O.Sink.written c.args.output.now) (g.O.Sink.written c.host_many.new.output) score) c.json_lines-teller.ensures hosted)
    c.host_many.ensures.all

pub returns-clause-begun : goal.returns-clause-begun
returns-clause-begun g c =
    let p = program_of (arc_value c.args.program.now) in
    on_err_weaker c.host_many.result
    (λ hosted. subst (λ s. HasHostedSome everything p c.args.node.0 no_spelling s [] (g.S.Source.left c.args.input.now) None None (g.O.Sink.written c.args.output.now) (g.O.Sink.written c.host_many.new.output)) c.json_lines-teller.ensures hosted)
    c.host_many.ensures.begun
