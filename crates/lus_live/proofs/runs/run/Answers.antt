-- Runs are told in the form that is asked for.
use Rattle.std.proofs.Common.{rules, ◌≡◌, ap, map, refl, List, ℕ, Bor, None, Some}
use Rattle.std.specs.Arc.{arc_value}
use Rattle.std.specs.Option.{option_map}
use Rattle.lus_bursts.specs.Syncs.{Safety, WasKept}
use Rattle.lus_cli.specs.Changes.{Change, change}
use Rattle.lus_program.specs.Programs.{node_at}
use Rattle.lus_program.specs.View.{program_seen, variable_of}
use Rattle.lus_live.specs.CommandLine.{task_seen}
use Rattle.lus_live.specs.Ends.{parties_of}
use Rattle.lus_live_instance.specs.MachineSpecs.CodeSpecs.Codes.{program_of}
use Rattle.lus_live_instance.specs.MachineSpecs.Constructors.{names_of}
use Rattle.lus_live_instance.specs.MachineSpecs.Formals.{outputs_of}
use Rattle.lus_live.proofs.RunLaws.{journal_told, json_kept, json_told}
use Rattle.lus_live.proofs.TableLaws.{csv_kept, csv_told}
use Rattle.lus_live.proofs.runs.run.Goals as goal

pub returns-in-Journal-default-clause-tells : goal.returns-in-Journal-default-clause-tells
returns-in-Journal-default-clause-tells g c =
    let p = program_of (arc_value c.args.program.now) in
    let same : program_seen c.source-source.result.now ≡ p = search rules in
    let named : c.names-names.result.now ≡ names_of p = search rules in
    let those : map variable_of c.outputs.result.now ≡ outputs_of (node_at p c.args.node.0) = search rules in
    let was_synced : Safety = WasKept c.args.task.is_synced g.row.L.Denot g.L.Syncs.syncs g.L.Sink.written in
    let log : Change = change (g.L.Sink.written c.args.log.now) (g.L.Sink.written c.args.log.now) (g.L.Sink.failures c.args.log.now) (g.L.Sink.failures c.args.log.now) in
    let output : Change = change (g.O.Sink.written c.args.output.now) (g.O.Sink.written c.drive.new.log) (g.O.Sink.failures c.args.output.now) (g.O.Sink.failures c.drive.new.log) in
    journal_told p (program_seen c.source-source.result.now) c.names-names.result.now c.args.node.0 (map variable_of c.outputs.result.now) same named those
    _ (c.drive.ensures.same _ _ c.requires.live) _ _ _ _ (parties_of (task_seen c.args.task)) was_synced log output _ _ _ _ _ c.in-Journal-default.is-0 c.requires.scribe
    c.drive.ensures.all c.drive.ensures.some

pub returns-in-Json-None-clause-tells : goal.returns-in-Json-None-clause-tells
returns-in-Json-None-clause-tells g c =
    let p = program_of (arc_value c.args.program.now) in
    let same : program_seen c.source-source.result.now ≡ p = search rules in
    let named : c.names-names.result.now ≡ names_of p = search rules in
    let those : map variable_of c.outputs.result.now ≡ outputs_of (node_at p c.args.node.0) = search rules in
    let none : option_map {T = Bor (List ℕ)} {U = List ℕ} (λ f. f.now) c.args.task.journal ≡ None = ap (option_map {T = Bor (List ℕ)} {U = List ℕ} (λ f. f.now)) c.in-Json-None.is-1 in
    let was_synced : Safety = WasKept c.args.task.is_synced g.row.L.Denot g.L.Syncs.syncs g.L.Sink.written in
    let log : Change = change (g.L.Sink.written c.args.log.now) (g.L.Sink.written c.args.log.now) (g.L.Sink.failures c.args.log.now) (g.L.Sink.failures c.args.log.now) in
    let output : Change = change (g.O.Sink.written c.args.output.now) (g.O.Sink.written c.drive-in-Json-None.new.output) (g.O.Sink.failures c.args.output.now) (g.O.Sink.failures c.drive-in-Json-None.new.output) in
    json_told p (program_seen c.source-source.result.now) c.names-names.result.now c.args.node.0 (map variable_of c.outputs.result.now) same named those
    _ (c.drive-in-Json-None.ensures.same _ _ c.requires.live) _ _ _ _ (parties_of (task_seen c.args.task)) was_synced log output _ _ _ _ _ c.in-Json-None.is-0 none refl
    c.drive-in-Json-None.ensures.all c.drive-in-Json-None.ensures.some

pub returns-in-Json-Some-clause-tells : goal.returns-in-Json-Some-clause-tells
returns-in-Json-Some-clause-tells g c =
    let p = program_of (arc_value c.args.program.now) in
    let same : program_seen c.source-source.result.now ≡ p = search rules in
    let named : c.names-names.result.now ≡ names_of p = search rules in
    let those : map variable_of c.outputs.result.now ≡ outputs_of (node_at p c.args.node.0) = search rules in
    let some : option_map {T = Bor (List ℕ)} {U = List ℕ} (λ f. f.now) c.args.task.journal ≡ Some c.in-Json-Some.field-0-1.now = ap (option_map {T = Bor (List ℕ)} {U = List ℕ} (λ f. f.now)) c.in-Json-Some.is-1 in
    let was_synced : Safety = WasKept c.args.task.is_synced g.row.L.Denot g.L.Syncs.syncs g.L.Sink.written in
    let log : Change = change (g.L.Sink.written c.args.log.now) (g.L.Sink.written c.drive-in-Json-Some.new.log) (g.L.Sink.failures c.args.log.now) (g.L.Sink.failures c.drive-in-Json-Some.new.log) in
    let output : Change = change (g.O.Sink.written c.args.output.now) (g.O.Sink.written c.drive-in-Json-Some.new.output) (g.O.Sink.failures c.args.output.now) (g.O.Sink.failures c.drive-in-Json-Some.new.output) in
    json_kept p (program_seen c.source-source.result.now) c.names-names.result.now c.args.node.0 (map variable_of c.outputs.result.now) same named those
    _ (c.drive-in-Json-Some.ensures.same _ _ c.requires.live) _ _ _ _ (parties_of (task_seen c.args.task)) was_synced log output _ _ _ _ _ c.in-Json-Some.is-0 some c.requires.scribe
    c.drive-in-Json-Some.ensures.all c.drive-in-Json-Some.ensures.some

pub returns-in-Csv-None-clause-tells : goal.returns-in-Csv-None-clause-tells
returns-in-Csv-None-clause-tells g c =
    let p = program_of (arc_value c.args.program.now) in
    let none : option_map {T = Bor (List ℕ)} {U = List ℕ} (λ f. f.now) c.args.task.journal ≡ None = ap (option_map {T = Bor (List ℕ)} {U = List ℕ} (λ f. f.now)) c.in-Csv-None.is-1 in
    let was_synced : Safety = WasKept c.args.task.is_synced g.row.L.Denot g.L.Syncs.syncs g.L.Sink.written in
    let log : Change = change (g.L.Sink.written c.args.log.now) (g.L.Sink.written c.args.log.now) (g.L.Sink.failures c.args.log.now) (g.L.Sink.failures c.args.log.now) in
    let output : Change = change (g.O.Sink.written c.args.output.now) (g.O.Sink.written c.tell_table.new.output) (g.O.Sink.failures c.args.output.now) (g.O.Sink.failures c.tell_table.new.output) in
    csv_told p c.args.node.0 (parties_of (task_seen c.args.task)) was_synced _ _ _ _ log output _ _ _ _ _ c.in-Csv-None.is-0 none refl
    c.tell_table.ensures.all c.tell_table.ensures.some

pub returns-clause-tells : goal.returns-clause-tells
returns-clause-tells g c =
    let p = program_of (arc_value c.args.program.now) in
    let some : option_map {T = Bor (List ℕ)} {U = List ℕ} (λ f. f.now) c.args.task.journal ≡ Some c.in-Csv-Some.field-0-1.now = ap (option_map {T = Bor (List ℕ)} {U = List ℕ} (λ f. f.now)) c.in-Csv-Some.is-1 in
    let was_synced : Safety = WasKept c.args.task.is_synced g.row.L.Denot g.L.Syncs.syncs g.L.Sink.written in
    let log : Change = change (g.L.Sink.written c.args.log.now) (g.L.Sink.written c.tell_table-in-Csv-Some.new.log) (g.L.Sink.failures c.args.log.now) (g.L.Sink.failures c.tell_table-in-Csv-Some.new.log) in
    let output : Change = change (g.O.Sink.written c.args.output.now) (g.O.Sink.written c.tell_table-in-Csv-Some.new.output) (g.O.Sink.failures c.args.output.now) (g.O.Sink.failures c.tell_table-in-Csv-Some.new.output) in
    csv_kept p c.args.node.0 (parties_of (task_seen c.args.task)) was_synced _ _ _ _ log output _ _ _ _ _ c.in-Csv-Some.is-0 some c.requires.scribe
    c.tell_table-in-Csv-Some.ensures.all c.tell_table-in-Csv-Some.ensures.some
