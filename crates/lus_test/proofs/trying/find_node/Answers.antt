-- The node of a name is one of the program's.
use Rattle.std.proofs.Common.{rules, ◌≡◌, Some}
use Rattle.std.specs.Arc.{arc_value}
use Rattle.lus_cli.specs.CodeSpecs.Codes.{program_of}
use Rattle.lus_cli.specs.MachineSpecs.Formals.{node_named}
use Rattle.lus_live_instance.proofs.LiveLaws.{named_within}
use Rattle.lus_test.proofs.trying.find_node.Goals as goal

pub returns-in-Some-clause-within : goal.returns-in-Some-clause-within
returns-in-Some-clause-within c =
    let named : node_named (program_of (arc_value c.args.program.now)) c.args.name.now ≡ Some c.in-Some.node.0 = search rules in
    named_within (program_of (arc_value c.args.program.now)) c.args.name.now c.in-Some.node.0 named
