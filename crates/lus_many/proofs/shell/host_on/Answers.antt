-- Instances of a node are hosted, with a log or without one, or the program lacks it.
use Rattle.std.proofs.Common.{◌≡◌, ◌∙◌, rules, ap, inl, false, refl, subst, sym, None, Some}
use Rattle.std.specs.Arc.{arc_value}
use Rattle.std.specs.Option.{option_map}
use Rattle.lus_bursts.specs.Syncs.{IsSafe}
use Rattle.lus_cli.specs.Changes.{change}
use Rattle.lus_cli.specs.CodeSpecs.Codes.{program_of}
use Rattle.lus_cli.specs.Ends.{ReadFails}
use Rattle.lus_cli.specs.MachineSpecs.Formals.{node_named}
use Rattle.lus_hosting.proofs.LiveProofs.LiveLaws.{named_within}
use Rattle.lus_cli.specs.Programs.{IsOfFile}
use Rattle.lus_live.specs.Limits.{are_kept}
use Rattle.lus_live.proofs.EndLemmas.{costs_more}
use Rattle.lus_many.specs.CommandLine.{session_seen, sessions_seen, task_seen}
use Rattle.lus_many.specs.Ends.{IsReadied}
use Rattle.lus_many.proofs.EndLemmas.{hosted, session_stays, task_goes, task_ran}
use Rattle.lus_many.proofs.shell.host_on.Goals as goal

pub returns-in_default-clause-ends : goal.returns-in_default-clause-ends
returns-in_default-clause-ends g c =
    let none : node_named (program_of c.in_ok-program.program) c.args.task.node.now ≡ None = sym c.node.ensures ∙ ap (option_map _) c.in_default.is in
    (inl (refl, (program_of c.in_ok-program.program, c.in_ok-program.ensures.accepted, none)), refl, (refl, refl), (refl, refl))

-- the node is one of the program's
pub cost-cost-requires : goal.cost-cost-requires
cost-cost-requires g c =
    named_within (program_of c.in_ok-program.program) c.args.task.node.now c.in-Some.node.0 (sym c.node.ensures ∙ ap (option_map _) c.in-Some.is)

pub returns-then-not-are_kept-clause-ends : goal.returns-then-not-are_kept-clause-ends
returns-then-not-are_kept-clause-ends g c =
    let more : are_kept c.args.task.limits c.cost-cost.result ≡ false = search rules in (
      costs_more c.args.task.limits (g.D.Folder.known c.args.folder.now c.args.task.program.now) c.args.task.node.now c.in_ok-program.program c.in-Some.node.0
          c.cost-cost.result c.in_ok-program.ensures.accepted (sym c.node.ensures ∙ ap (option_map _) c.in-Some.is) c.cost-cost.ensures.exact more,
      refl,
      (refl, refl),
      (refl, refl),
    )

pub host_in-requires : goal.host_in-requires
host_in-requires g c =
    let same : program_of c.in_ok-program.program ≡ program_of (arc_value c.in-Ok.program) = ap program_of (sym c.in-Ok.ensures.ok) in
    let named : node_named (program_of c.in_ok-program.program) c.args.task.node.now ≡ Some c.in-Some.node.0 =
    sym c.node.ensures ∙ ap (option_map _) c.in-Some.is in
    named_within (program_of (arc_value c.in-Ok.program)) c.args.task.node.now c.in-Some.node.0
    (subst (λ p. node_named p c.args.task.node.now ≡ Some c.in-Some.node.0) same named)

pub go_on-requires : goal.go_on-requires
go_on-requires g c =
    let same : program_of c.in_ok-program.program ≡ program_of (arc_value c.in-Ok.program) = ap program_of (sym c.in-Ok.ensures.ok) in
    let named : node_named (program_of c.in_ok-program.program) c.args.task.node.now ≡ Some c.in-Some.node.0 =
    sym c.node.ensures ∙ ap (option_map _) c.in-Some.is in
    named_within (program_of (arc_value c.in-Ok.program)) c.args.task.node.now c.in-Some.node.0
    (subst (λ p. node_named p c.args.task.node.now ≡ Some c.in-Some.node.0) same named)

pub returns-in-None-clause-ends : goal.returns-in-None-clause-ends
returns-in-None-clause-ends g c =
    let same : program_of c.in_ok-program.program ≡ program_of (arc_value c.in-Ok.program) = ap program_of (sym c.in-Ok.ensures.ok) in
    let named : node_named (program_of c.in_ok-program.program) c.args.task.node.now ≡ Some c.in-Some.node.0 =
    sym c.node.ensures ∙ ap (option_map _) c.in-Some.is in
    task_ran (ReadFails g.row.D-File.Denot g.D.File.Source.left g.D.File.Source.failures) (g.D.Folder.known c.args.folder.now)
    (IsReadied g.row.L.Denot g.L.Log.opens g.L.Log.cuts c.args.log.now) (IsSafe g.row.L.Denot g.L.Syncs.syncs g.L.Sink.written) (g.S.Source.left c.args.input.now) (g.S.Source.left c.host_in.new.input)
    (change (g.L.Sink.written c.args.log.now) (g.L.Sink.written c.args.log.now) (g.L.Sink.failures c.args.log.now) (g.L.Sink.failures c.args.log.now)) (task_seen c.args.task) (program_of (arc_value c.in-Ok.program)) c.in-Some.node.0
    (change (g.O.Sink.written c.args.output.now) (g.O.Sink.written c.host_in.new.output) (g.O.Sink.failures c.args.output.now) (g.O.Sink.failures c.host_in.new.output))
    (subst (IsOfFile (g.D.Folder.known c.args.folder.now c.args.task.program.now)) same c.in_ok-program.ensures.accepted)
    (subst (λ p. node_named p c.args.task.node.now ≡ Some c.in-Some.node.0) same named) None c.host_in.result (ap sessions_seen c.in-None.is)
    (hosted _ _ _ _ _ _ _ c.host_in.ensures.all c.host_in.ensures.begun)

pub returns-clause-ends : goal.returns-clause-ends
returns-clause-ends g c =
    let same : program_of c.in_ok-program.program ≡ program_of (arc_value c.in-Ok.program) = ap program_of (sym c.in-Ok.ensures.ok) in
    let named : node_named (program_of c.in_ok-program.program) c.args.task.node.now ≡ Some c.in-Some.node.0 =
    sym c.node.ensures ∙ ap (option_map _) c.in-Some.is in
    task_goes (ReadFails g.row.D-File.Denot g.D.File.Source.left g.D.File.Source.failures) (g.D.Folder.known c.args.folder.now)
    (IsReadied g.row.L.Denot g.L.Log.opens g.L.Log.cuts c.args.log.now) (IsSafe g.row.L.Denot g.L.Syncs.syncs g.L.Sink.written) (g.S.Source.left c.args.input.now) (g.S.Source.left c.go_on.new.input)
    (change (g.L.Sink.written c.args.log.now) (g.L.Sink.written c.go_on.new.log) (g.L.Sink.failures c.args.log.now) (g.L.Sink.failures c.go_on.new.log)) (task_seen c.args.task) (program_of (arc_value c.in-Ok.program)) c.in-Some.node.0
    (change (g.O.Sink.written c.args.output.now) (g.O.Sink.written c.go_on.new.output) (g.O.Sink.failures c.args.output.now) (g.O.Sink.failures c.go_on.new.output))
    (subst (IsOfFile (g.D.Folder.known c.args.folder.now c.args.task.program.now)) same c.in_ok-program.ensures.accepted)
    (subst (λ p. node_named p c.args.task.node.now ≡ Some c.in-Some.node.0) same named) (session_seen c.in-Some-session.session) c.go_on.result (ap sessions_seen c.in-Some-session.is)
    c.go_on.ensures.ends

pub returns-clause-stays : goal.returns-clause-stays
returns-clause-stays g c = session_stays _ (session_seen c.in-Some-session.session) _ (ap sessions_seen c.in-Some-session.is)
