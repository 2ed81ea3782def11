-- The program, its names and the outputs of the node are those of the code.
use Rattle.std.proofs.Common.{rules, ◌≡◌, map}
use Rattle.std.specs.Arc.{arc_value}
use Rattle.lus_program.specs.Programs.{node_at}
use Rattle.lus_program.specs.View.{program_seen, variable_of}
use Rattle.lus_cli.specs.CodeSpecs.Codes.{program_of}
use Rattle.lus_hosting.specs.LiveSpecs.MachineSpecs.Constructors.{names_of}
use Rattle.lus_hosting.specs.LiveSpecs.MachineSpecs.Formals.{outputs_of}
use Rattle.lus_many.proofs.ObjectLaws.{spelled_so}
use Rattle.lus_many.proofs.objects.json_lines.Goals as goal

pub returns : goal.returns
returns c =
    let p = program_of (arc_value c.args.program.now) in
    let same : program_seen c.source-source.result.now ≡ program_of (arc_value c.args.program.now) = search rules in
    let named : c.names-names.result.now ≡ names_of (program_of (arc_value c.args.program.now)) = search rules in
    let those : map variable_of c.outputs-outputs.result.now ≡ outputs_of (node_at (program_of (arc_value c.args.program.now)) c.args.node.0) = search rules in
    spelled_so p (program_seen c.source-source.result.now) c.names-names.result.now c.args.node.0 (map variable_of c.outputs-outputs.result.now) same named those
