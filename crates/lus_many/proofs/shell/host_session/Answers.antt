-- In the form that is asked for.
use Rattle.std.proofs.Common.{◌∙◌, ap, subst, IfOk, OnErr}
use Rattle.std.specs.Arc.{arc_value}
use Rattle.lus_bursts.specs.Syncs.{IsSafe}
use Rattle.lus_cli.specs.CodeSpecs.Codes.{program_of}
use Rattle.lus_hosting.specs.LiveSpecs.MachineSpecs.Constructors.{names_of}
use Rattle.lus_hosting.specs.Spellings.{log_spelling}
use Rattle.lus_hosting.specs.Turns.{AreSafe, HasHosted, HasHostedSome, calls}
use Rattle.lus_many.specs.CommandLine.{session_seen}
use Rattle.lus_many.proofs.EndLemmas.{spelled_json, spelled_log}
use Rattle.lus_many.proofs.shell.host_session.Goals as goal

pub returns-then-is_json-clause-all : goal.returns-then-is_json-clause-all
returns-then-is_json-clause-all g c = λ before keeps.
    (let p = program_of (arc_value c.args.program.now) in
    subst
    (λ s. IfOk c.host_behind.result (λ score. HasHosted (calls (session_seen c.args.session).caller) p c.args.node.0 (log_spelling (names_of p)) s before
    (g.S.Source.left c.args.input.now) (g.S.Source.left c.host_behind.new.input) (g.L.Sink.written c.args.log.now) (g.L.Sink.written c.host_behind.new.log)
    (g.O.Sink.written c.args.output.now) (g.O.Sink.written c.host_behind.new.output) score))
    (spelled_json _ _ _ _ c.if-is_json.true c.json_lines-teller.ensures) (c.host_behind.ensures.all before keeps))

pub returns-then-is_json-clause-begun : goal.returns-then-is_json-clause-begun
returns-then-is_json-clause-begun g c = λ before keeps.
    (let p = program_of (arc_value c.args.program.now) in
    subst
    (λ s. OnErr c.host_behind.result (HasHostedSome (calls (session_seen c.args.session).caller) p c.args.node.0 (log_spelling (names_of p)) s before
    (g.S.Source.left c.args.input.now) (g.L.Sink.written c.args.log.now) (g.L.Sink.written c.host_behind.new.log)
    (g.O.Sink.written c.args.output.now) (g.O.Sink.written c.host_behind.new.output)))
    (spelled_json _ _ _ _ c.if-is_json.true c.json_lines-teller.ensures) (c.host_behind.ensures.begun before keeps))

pub returns-else-is_json-clause-all : goal.returns-else-is_json-clause-all
returns-else-is_json-clause-all g c = λ before keeps.
    (let p = program_of (arc_value c.args.program.now) in
    subst
    (λ s. IfOk c.host_behind-else-is_json.result (λ score. HasHosted (calls (session_seen c.args.session).caller) p c.args.node.0 (log_spelling (names_of p)) s before
    (g.S.Source.left c.args.input.now) (g.S.Source.left c.host_behind-else-is_json.new.input) (g.L.Sink.written c.args.log.now) (g.L.Sink.written c.host_behind-else-is_json.new.log)
    (g.O.Sink.written c.args.output.now) (g.O.Sink.written c.host_behind-else-is_json.new.output) score))
    (spelled_log _ _ _ _ c.if-is_json.false
    (ap log_spelling (c.names-names.ensures ∙ ap (λ q. names_of (program_of q)) c.deref.ensures))) (c.host_behind-else-is_json.ensures.all before keeps))

pub returns-else-is_json-clause-begun : goal.returns-else-is_json-clause-begun
returns-else-is_json-clause-begun g c = λ before keeps.
    (let p = program_of (arc_value c.args.program.now) in
    subst
    (λ s. OnErr c.host_behind-else-is_json.result (HasHostedSome (calls (session_seen c.args.session).caller) p c.args.node.0 (log_spelling (names_of p)) s before
    (g.S.Source.left c.args.input.now) (g.L.Sink.written c.args.log.now) (g.L.Sink.written c.host_behind-else-is_json.new.log)
    (g.O.Sink.written c.args.output.now) (g.O.Sink.written c.host_behind-else-is_json.new.output)))
    (spelled_log _ _ _ _ c.if-is_json.false
    (ap log_spelling (c.names-names.ensures ∙ ap (λ q. names_of (program_of q)) c.deref.ensures))) (c.host_behind-else-is_json.ensures.begun before keeps))

pub returns-then-is_json-clause-safe : goal.returns-then-is_json-clause-safe
returns-then-is_json-clause-safe g c = λ before keeps is.
    (let p = program_of (arc_value c.args.program.now) in
    subst
    (λ s. AreSafe (calls (session_seen c.args.session).caller) p c.args.node.0 (log_spelling (names_of p)) s before (IsSafe g.row.L.Denot g.L.Syncs.syncs g.L.Sink.written)
    (g.S.Source.left c.args.input.now) (g.L.Sink.written c.args.log.now) (g.L.Sink.written c.host_behind.new.log)
    (g.O.Sink.written c.args.output.now) (g.O.Sink.written c.host_behind.new.output))
    (spelled_json _ _ _ _ c.if-is_json.true c.json_lines-teller.ensures) (c.host_behind.ensures.safe before keeps is))

pub returns-else-is_json-clause-safe : goal.returns-else-is_json-clause-safe
returns-else-is_json-clause-safe g c = λ before keeps is.
    (let p = program_of (arc_value c.args.program.now) in
    subst
    (λ s. AreSafe (calls (session_seen c.args.session).caller) p c.args.node.0 (log_spelling (names_of p)) s before (IsSafe g.row.L.Denot g.L.Syncs.syncs g.L.Sink.written)
    (g.S.Source.left c.args.input.now) (g.L.Sink.written c.args.log.now) (g.L.Sink.written c.host_behind-else-is_json.new.log)
    (g.O.Sink.written c.args.output.now) (g.O.Sink.written c.host_behind-else-is_json.new.output))
    (spelled_log _ _ _ _ c.if-is_json.false
    (ap log_spelling (c.names-names.ensures ∙ ap (λ q. names_of (program_of q)) c.deref.ensures))) (c.host_behind-else-is_json.ensures.safe before keeps is))
