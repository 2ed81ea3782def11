-- A node is played on behind what was asked for, or the program lacks it.
use Rattle.std.proofs.Common.{rules, ◌≡◌, ◌∙◌, ◌∷◌, [], ap, inl, false, map, refl, string_bytes, subst, sym, None, Some}
use Rattle.std.proofs.lemmas.Result.{err_from_is_err_and}
use Rattle.std.specs.Arc.{arc_value}
use Rattle.std.specs.Option.{option_map}
use Rattle.lus_bursts.specs.Syncs.{WasKept}
use Rattle.lus_cli.specs.Changes.{change}
use Rattle.lus_cli.specs.CodeSpecs.Codes.{program_of}
use Rattle.lus_cli.specs.Ends.{ReadFails}
use Rattle.lus_cli.specs.MachineSpecs.Constructors.{names_of}
use Rattle.lus_cli.specs.MachineSpecs.Formals.{node_named}
use Rattle.lus_cli.specs.Programs.{IsOfFile}
use Rattle.lus_live_instance.proofs.LiveLaws.{named_within}
use Rattle.lus_live.specs.CommandLine.{task_seen}
use Rattle.lus_live.specs.Ends.{IsBeginFault, Opens, TaskEnds, parties_of}
use Rattle.lus_live.specs.Limits.{are_kept}
use Rattle.lus_live.proofs.EndLemmas.{begin_fails, costs_more, told_of}
use Rattle.lus_live.proofs.RunLaws.{lines_are}
use Rattle.lus_live.proofs.shell.play_on.Goals as goal

pub returns-in_default-clause-ends : goal.returns-in_default-clause-ends
returns-in_default-clause-ends g c =
    let none : node_named (program_of c.in_ok-program.program) c.args.task.node.now ≡ None = sym c.node.ensures ∙ ap (option_map _) c.in_default.is in
    (inl (refl, (program_of c.in_ok-program.program, c.in_ok-program.ensures.accepted, none)), refl, (refl, refl), (refl, refl))

-- the node is one of the program's
pub cost-cost-requires : goal.cost-cost-requires
cost-cost-requires g c =
    named_within (program_of c.in_ok-program.program) c.args.task.node.now c.in-Some.node.0 (sym c.node.ensures ∙ ap (option_map _) c.in-Some.is)

pub returns-then-not-are_kept-clause-ends : goal.returns-then-not-are_kept-clause-ends
returns-then-not-are_kept-clause-ends g c =
    let more : are_kept c.args.task.limits c.cost-cost.result ≡ false = search rules in (
      costs_more c.args.task.limits (g.D.Folder.known c.args.folder.now c.args.task.program.now) c.args.task.node.now c.in_ok-program.program c.in-Some.node.0
          c.cost-cost.result c.in_ok-program.ensures.accepted (sym c.node.ensures ∙ ap (option_map _) c.in-Some.is) c.cost-cost.ensures.exact more,
      refl,
      (refl, refl),
      (refl, refl),
    )

pub begin-requires : goal.begin-requires
begin-requires g c =
    let p = program_of (arc_value c.in-Ok.program) in
    let same : program_of c.in_ok-program.program ≡ p = ap program_of (sym c.in-Ok.ensures.ok) in
    let found : node_named (program_of c.in_ok-program.program) c.args.task.node.now ≡ Some c.in-Some.node.0 =
    sym c.node.ensures ∙ ap (option_map _) c.in-Some.is in
    let named : node_named p c.args.task.node.now ≡ Some c.in-Some.node.0 = subst (λ q. node_named q c.args.task.node.now ≡ Some c.in-Some.node.0) same found in
    named_within p c.args.task.node.now c.in-Some.node.0 named

pub run-requires-clause-scribe : goal.run-requires-clause-scribe
run-requires-clause-scribe g c =
    let p = program_of (arc_value c.in-Ok.program) in
    let named : c.names.result.now ≡ names_of p = search rules in
    let one : map string_bytes c.deref-2.result.now ≡ c.args.task.caller.now ∷ [] = ap (map string_bytes) c.deref-2.ensures.value ∙ c.in-Ok-callers.ensures in
    lines_are c.names.result.now (names_of p) c.args.task.node.now (map string_bytes c.deref-2.result.now) (parties_of (task_seen c.args.task)) named refl one

pub returns-in_err-begun-clause-ends : goal.returns-in_err-begun-clause-ends
returns-in_err-begun-clause-ends g c =
    let p = program_of (arc_value c.in-Ok.program) in
    let same : program_of c.in_ok-program.program ≡ p = ap program_of (sym c.in-Ok.ensures.ok) in
    let found : node_named (program_of c.in_ok-program.program) c.args.task.node.now ≡ Some c.in-Some.node.0 =
    sym c.node.ensures ∙ ap (option_map _) c.in-Some.is in
    let named : node_named p c.args.task.node.now ≡ Some c.in-Some.node.0 = subst (λ q. node_named q c.args.task.node.now ≡ Some c.in-Some.node.0) same found in
    let accepted : IsOfFile (g.D.Folder.known c.args.folder.now c.args.task.program.now) p =
    subst (IsOfFile (g.D.Folder.known c.args.folder.now c.args.task.program.now)) same c.in_ok-program.ensures.accepted in
    let e = err_from_is_err_and c.from_residual-in_err-begun.result c.from_residual-in_err-begun.ensures.1 in
    let fault : IsBeginFault (task_seen c.args.task).file e.0 = subst (IsBeginFault (task_seen c.args.task).file) (sym e.2) c.in_err-begun.ensures.fault in
    subst (λ r. TaskEnds (ReadFails g.row.D-File.Denot g.D.File.Source.left g.D.File.Source.failures) (g.D.Folder.known c.args.folder.now)
    (Opens g.row.L.Denot g.L.Log.opens c.args.log.now) (λ s. WasKept s g.row.L.Denot g.L.Syncs.syncs g.L.Sink.written) (g.S.Source.left c.args.input.now)
    (g.S.Source.left c.args.input.now) (change (g.L.Sink.written c.args.log.now) (g.L.Sink.written c.begin.new.log) (g.L.Sink.failures c.args.log.now) (g.L.Sink.failures c.begin.new.log)) (task_seen c.args.task) r
    (change (g.O.Sink.written c.args.output.now) (g.O.Sink.written c.args.output.now) (g.O.Sink.failures c.args.output.now) (g.O.Sink.failures c.args.output.now))) (sym e.1) (
      begin_fails (ReadFails g.row.D-File.Denot g.D.File.Source.left g.D.File.Source.failures) c.args.task.limits (g.D.Folder.known c.args.folder.now c.args.task.program.now)
          c.args.task.node.now (task_seen c.args.task).file e.0 p c.in-Some.node.0 accepted named fault,
      refl,
      (c.begin.ensures.written, c.begin.ensures.failures),
      (refl, refl),
    )

pub returns-clause-ends : goal.returns-clause-ends
returns-clause-ends g c =
    let p = program_of (arc_value c.in-Ok.program) in
    let same : program_of c.in_ok-program.program ≡ p = ap program_of (sym c.in-Ok.ensures.ok) in
    let found : node_named (program_of c.in_ok-program.program) c.args.task.node.now ≡ Some c.in-Some.node.0 =
    sym c.node.ensures ∙ ap (option_map _) c.in-Some.is in
    let named : node_named p c.args.task.node.now ≡ Some c.in-Some.node.0 = subst (λ q. node_named q c.args.task.node.now ≡ Some c.in-Some.node.0) same found in
    let accepted : IsOfFile (g.D.Folder.known c.args.folder.now c.args.task.program.now) p =
    subst (IsOfFile (g.D.Folder.known c.args.folder.now c.args.task.program.now)) same c.in_ok-program.ensures.accepted in
    let asked = task_seen c.args.task in record {
      program = p;
      accepted = accepted;
      node = c.in-Some.node.0;
      named = named;
      holds = record {
        start = c.in_ok-begun.begun.start;
        before = c.in_ok-begun.begun.instance.reactor.history;
        begins = c.in_ok-begun.ensures.begins;
        opened = c.in_ok-begun.ensures.opened;
        tells =
            told_of asked.form asked.file (WasKept asked.is_synced g.row.L.Denot g.L.Syncs.syncs g.L.Sink.written) p c.in-Some.node.0 asked c.in_ok-begun.begun.start
            (g.S.Source.left c.args.input.now) (g.S.Source.left c.run.new.input) c.in_ok-begun.begun.instance.reactor.history
            (g.L.Sink.written c.args.log.now) (g.L.Sink.written c.begin.new.log) (g.L.Sink.written c.run.new.log)
            (g.L.Sink.failures c.args.log.now) (g.L.Sink.failures c.begin.new.log) (g.L.Sink.failures c.run.new.log)
            (change (g.O.Sink.written c.args.output.now) (g.O.Sink.written c.run.new.output) (g.O.Sink.failures c.args.output.now) (g.O.Sink.failures c.run.new.output))
            c.run.result c.begin.ensures.written c.begin.ensures.failures c.run.ensures.tells;
      };
    }
