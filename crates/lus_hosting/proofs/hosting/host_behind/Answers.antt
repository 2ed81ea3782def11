-- Entries are spelled by the names of the program.
use Rattle.std.proofs.Common.{◌≡◌, ◌∙◌, ap, subst, IfOk, OnErr}
use Rattle.std.specs.Arc.{arc_value}
use Rattle.lus_bursts.specs.Syncs.{IsSafe}
use Rattle.lus_live_instance.specs.MachineSpecs.CodeSpecs.Codes.{program_of}
use Rattle.lus_live_instance.specs.MachineSpecs.Constructors.{names_of}
use Rattle.lus_hosting.specs.Spellings.{log_spelling}
use Rattle.lus_hosting.specs.Turns.{AreSafe, HasHosted, HasHostedSome, calls}
use Rattle.lus_hosting.proofs.CallLaws.{caller_seen}
use Rattle.lus_hosting.proofs.hosting.host_behind.Goals as goal

pub returns-clause-all : goal.returns-clause-all
returns-clause-all g c = λ before keeps.
    (let p = program_of (arc_value c.args.program.now) in
    let same : c.names-names.result.now ≡ names_of (program_of (arc_value c.args.program.now)) =
    c.names-names.ensures ∙ ap (λ q. names_of (program_of q)) c.deref.ensures in
    subst
    (λ n. IfOk c.host_lines.result (λ score. HasHosted (calls (caller_seen c.args.caller)) p c.args.node.0 (log_spelling n) (g.T.Tells.spelling c.args.teller.now) before
    (g.S.Source.left c.args.input.now) (g.S.Source.left c.host_lines.new.input) (g.L.Sink.written c.args.log.now) (g.L.Sink.written c.host_lines.new.log)
    (g.O.Sink.written c.args.output.now) (g.O.Sink.written c.host_lines.new.output) score))
    same (c.host_lines.ensures.all before keeps))

pub returns-clause-begun : goal.returns-clause-begun
returns-clause-begun g c = λ before keeps.
    (let p = program_of (arc_value c.args.program.now) in
    let same : c.names-names.result.now ≡ names_of (program_of (arc_value c.args.program.now)) =
    c.names-names.ensures ∙ ap (λ q. names_of (program_of q)) c.deref.ensures in
    subst
    (λ n. OnErr c.host_lines.result (HasHostedSome (calls (caller_seen c.args.caller)) p c.args.node.0 (log_spelling n) (g.T.Tells.spelling c.args.teller.now) before
    (g.S.Source.left c.args.input.now) (g.L.Sink.written c.args.log.now) (g.L.Sink.written c.host_lines.new.log)
    (g.O.Sink.written c.args.output.now) (g.O.Sink.written c.host_lines.new.output)))
    same (c.host_lines.ensures.begun before keeps))

pub returns-clause-safe : goal.returns-clause-safe
returns-clause-safe g c = λ before keeps is.
    (let p = program_of (arc_value c.args.program.now) in
    let same : c.names-names.result.now ≡ names_of (program_of (arc_value c.args.program.now)) =
    c.names-names.ensures ∙ ap (λ q. names_of (program_of q)) c.deref.ensures in
    subst
    (λ n. AreSafe (calls (caller_seen c.args.caller)) p c.args.node.0 (log_spelling n) (g.T.Tells.spelling c.args.teller.now) before
    (IsSafe g.row.L.Denot g.L.Syncs.syncs g.L.Sink.written) (g.S.Source.left c.args.input.now) (g.L.Sink.written c.args.log.now) (g.L.Sink.written c.host_lines.new.log)
    (g.O.Sink.written c.args.output.now) (g.O.Sink.written c.host_lines.new.output))
    same (c.host_lines.ensures.safe before keeps is))
