-- A table is told under the head that was read, and behind the head that was written.
use Rattle.std.proofs.Common.{rules, ◌≡◌, subst, None, Some, map, option_map, string_bytes}
use Rattle.std.proofs.lemmas.Result.{IfOk-weaker, on_err_weaker}
use Rattle.std.specs.Arc.{arc_value}
use Rattle.lus_devices.proofs.Lines.{on_err}
use Rattle.lus_program.specs.Programs.{node_at}
use Rattle.lus_program.specs.View.{program_seen, variable_of}
use Rattle.lus_live_instance.specs.MachineSpecs.CodeSpecs.Codes.{program_of}
use Rattle.lus_live_instance.specs.MachineSpecs.Constructors.{names_of}
use Rattle.lus_live_instance.specs.MachineSpecs.Formals.{inputs_of, outputs_of}
use Rattle.lus_live.specs.Tables.{HasHead}
use Rattle.lus_live.proofs.TableLaws.{head_begun, table_told, table_told_some}
use Rattle.lus_live.proofs.tables.tell_table.Goals as goal

pub returns-in_err-write_outputs_head-clause-some : goal.returns-in_err-write_outputs_head-clause-some
returns-in_err-write_outputs_head-clause-some g c =
    let p = program_of (arc_value c.args.program.now) in
    let headed : HasHead p c.args.node.0 (g.S.Source.left c.args.input.now) (g.S.Source.left c.read_node_head.new.input) (Some (map string_bytes c.in-Some.head.keys)) =
    subst (λ o. HasHead p c.args.node.0 (g.S.Source.left c.args.input.now) (g.S.Source.left c.read_node_head.new.input) (option_map (λ h. map string_bytes h.keys) o))
    c.in-Some.is c.in_ok-head.ensures in
    on_err c.from_residual-in_err-write_outputs_head.result _ (head_begun p _ _ _ _ _ _ _ _ _ _ _ headed c.in_err-write_outputs_head.ensures.beginning)

pub returns-clause-all : goal.returns-clause-all
returns-clause-all g c =
    let p = program_of (arc_value c.args.program.now) in
    let headed : HasHead p c.args.node.0 (g.S.Source.left c.args.input.now) (g.S.Source.left c.read_node_head.new.input) (Some (map string_bytes c.in-Some.head.keys)) =
    subst (λ o. HasHead p c.args.node.0 (g.S.Source.left c.args.input.now) (g.S.Source.left c.read_node_head.new.input) (option_map (λ h. map string_bytes h.keys) o))
    c.in-Some.is c.in_ok-head.ensures in
    let same : program_seen c.source-source.result.now ≡ p = search rules in
    let named : c.names-names.result.now ≡ names_of p = search rules in
    let given : map variable_of c.inputs-inputs.result.now ≡ inputs_of (node_at p c.args.node.0) = search rules in
    let those : map variable_of c.outputs-outputs.result.now ≡ outputs_of (node_at p c.args.node.0) = search rules in
    IfOk-weaker c.drive.result _ _
    (λ score d. table_told p (program_seen c.source-source.result.now) c.names-names.result.now _ (map variable_of c.inputs-inputs.result.now)
    (map variable_of c.outputs-outputs.result.now) (map string_bytes c.in-Some.head.keys) same named given those _ (c.drive.ensures.same _ _ c.requires.live) _ _ _ _ _ _ _ _ _ _ _ _
    headed c.in_ok-write_outputs_head.ensures.whole score d)
    c.drive.ensures.all

pub returns-clause-some : goal.returns-clause-some
returns-clause-some g c =
    let p = program_of (arc_value c.args.program.now) in
    let headed : HasHead p c.args.node.0 (g.S.Source.left c.args.input.now) (g.S.Source.left c.read_node_head.new.input) (Some (map string_bytes c.in-Some.head.keys)) =
    subst (λ o. HasHead p c.args.node.0 (g.S.Source.left c.args.input.now) (g.S.Source.left c.read_node_head.new.input) (option_map (λ h. map string_bytes h.keys) o))
    c.in-Some.is c.in_ok-head.ensures in
    let same : program_seen c.source-source.result.now ≡ p = search rules in
    let named : c.names-names.result.now ≡ names_of p = search rules in
    let given : map variable_of c.inputs-inputs.result.now ≡ inputs_of (node_at p c.args.node.0) = search rules in
    let those : map variable_of c.outputs-outputs.result.now ≡ outputs_of (node_at p c.args.node.0) = search rules in
    on_err_weaker c.drive.result
    (table_told_some p (program_seen c.source-source.result.now) c.names-names.result.now _ (map variable_of c.inputs-inputs.result.now)
    (map variable_of c.outputs-outputs.result.now) (map string_bytes c.in-Some.head.keys) same named given those _ (c.drive.ensures.same _ _ c.requires.live) _ _ _ _ _ None _ _ _ _ _ _
    headed c.in_ok-write_outputs_head.ensures.whole)
    c.drive.ensures.some
