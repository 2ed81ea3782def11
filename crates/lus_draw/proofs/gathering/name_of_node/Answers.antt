-- The node is one of the source's nodes.
use Rattle.std.proofs.Common.{◌≡◌, ◌∙◌, ◌<◌, ap, arith, length, rules, subst, sym}
use Rattle.std.proofs.lemmas.List.{length-map}
use Rattle.lus_program.specs.Programs.{Program}
use Rattle.lus_program.specs.View.{node_of}
use Rattle.lus_cli.specs.CodeSpecs.Codes.{program_of}
use Rattle.lus_draw.proofs.gathering.name_of_node.Goals as goal

pub index-requires : goal.index-requires
index-requires c =
    let nodes = c.source.result.now.nodes.items in
    let count : length (program_of c.args.program.now).nodes ≡ length nodes = ap (λ (p : Program). length p.nodes) (sym c.source.ensures.same) ∙ length-map nodes node_of in
    let within : c.args.node.0 < length nodes = subst (λ n. c.args.node.0 < n) count c.requires in
    first_of (search rules, omega arith)
