-- What was reported of the log is reported of the files.
use Rattle.std.proofs.Common.{◌≡◌, ◌∙◌, ap, refl, subst, sym, None, Some}
use Rattle.std.proofs.lemmas.Result.{IfErr-weaker, IfOk-weaker}
use Rattle.std.specs.Arc.{arc_value}
use Rattle.std.specs.Option.{option_map}
use Rattle.lus_cli.specs.CodeSpecs.Codes.{program_of}
use Rattle.lus_cli.specs.Ends.{ReadFails}
use Rattle.lus_cli.specs.MachineSpecs.Formals.{node_named}
use Rattle.lus_hosting.proofs.LiveProofs.LiveLaws.{named_within}
use Rattle.lus_audit.specs.Ends.{IsOfFile}
use Rattle.lus_audit.proofs.LogEnds.{lost_fails}
use Rattle.lus_audit.proofs.logs.audit_file.Goals as goal

pub returns-in_default-clause-fault : goal.returns-in_default-clause-fault
returns-in_default-clause-fault g c =
    let none : node_named (program_of c.in_ok-program.program) c.args.task.node.now ≡ None = sym c.node.ensures ∙ ap (option_map _) c.in_default.is in
    (refl, (program_of c.in_ok-program.program, c.in_ok-program.ensures.accepted, none))

pub audit_node-requires : goal.audit_node-requires
audit_node-requires g c =
    let same : program_of c.in_ok-program.program ≡ program_of (arc_value c.in-Ok.program) = ap program_of (sym c.in-Ok.ensures.ok) in
    let named : node_named (program_of c.in_ok-program.program) c.args.task.node.now ≡ Some c.in-Some.node.0 =
    sym c.node.ensures ∙ ap (option_map _) c.in-Some.is in
    named_within (program_of (arc_value c.in-Ok.program)) c.args.task.node.now c.in-Some.node.0
    (subst (λ p. node_named p c.args.task.node.now ≡ Some c.in-Some.node.0) same named)

pub returns-clause-fault : goal.returns-clause-fault
returns-clause-fault g c =
    let read_fails = ReadFails g.row.D-File.Denot g.D.File.Source.left g.D.File.Source.failures in
    let file = g.D.Folder.known c.args.folder.now c.args.task.program.now in
    let log = g.D.Folder.known c.args.folder.now c.args.task.log.now in
    let same : program_of c.in_ok-program.program ≡ program_of (arc_value c.in-Ok.program) = ap program_of (sym c.in-Ok.ensures.ok) in
    IfErr-weaker c.audit_node.result _ _
    (λ e lost. lost_fails read_fails file log c.args.task.node.now (program_of (arc_value c.in-Ok.program)) e
    (subst (IsOfFile file) same c.in_ok-program.ensures.accepted) lost)
    c.audit_node.ensures.fault

pub returns-clause-audited : goal.returns-clause-audited
returns-clause-audited g c =
    let file = g.D.Folder.known c.args.folder.now c.args.task.program.now in
    let same : program_of c.in_ok-program.program ≡ program_of (arc_value c.in-Ok.program) = ap program_of (sym c.in-Ok.ensures.ok) in
    let named : node_named (program_of c.in_ok-program.program) c.args.task.node.now ≡ Some c.in-Some.node.0 =
    sym c.node.ensures ∙ ap (option_map _) c.in-Some.is in
    IfOk-weaker c.audit_node.result _ _
    (λ r found.
    record {
      program = program_of (arc_value c.in-Ok.program);
      accepted = subst (IsOfFile file) same c.in_ok-program.ensures.accepted;
      node = c.in-Some.node.0;
      named = subst (λ q. node_named q c.args.task.node.now ≡ Some c.in-Some.node.0) same named;
      found = found;
    })
    c.audit_node.ensures.audited
