-- The node of the name is one of the source's nodes; where there is none, that is said.
use Rattle.std.proofs.Common.{◌≡◌, ◌∙◌, ◌<◌, ap, arith, rules, subst, sym, true, Some, None, is_some, length, option_map}
use Rattle.std.proofs.lemmas.Result.{IfOk-weaker}
use Rattle.std.proofs.lemmas.List.{length-map}
use Rattle.lus_program.specs.Programs.{Program}
use Rattle.lus_program.specs.View.{node_of}
use Rattle.lus_syntax.specs.declared.tree.NodeId.{NodeId}
use Rattle.lus_reports.specs.CliSpecs.CodeSpecs.Codes.{program_of}
use Rattle.lus_reports.specs.CliSpecs.MachineSpecs.Formals.{node_named}
use Rattle.lus_explain.specs.Skeletons.{is_tried, is_unknown}
use Rattle.lus_explain.proofs.NodePlaces.{named_within}
use Rattle.lus_explain.proofs.script.script_of.Goals as goal

pub returns-in_default-clause-answer : goal.returns-in_default-clause-answer
returns-in_default-clause-answer c =
    let none : node_named (program_of c.args.program.now) c.args.node.now ≡ None = sym c.node.ensures ∙ ap (option_map (λ (n : NodeId). n.0)) c.in_default.is in
    is_unknown c.in_ok-unknown_node.field-0 none c.in_ok-unknown_node.ensures.status

pub index-requires : goal.index-requires
index-requires c =
    let p = program_of c.args.program.now in
    let named : node_named p c.args.node.now ≡ Some c.in-Some.place.0 = sym c.node.ensures ∙ ap (option_map (λ (n : NodeId). n.0)) c.in-Some.is in
    let count : length p.nodes ≡ length c.source-source.result.now.nodes.items =
    ap (λ (q : Program). length q.nodes) (sym c.source-source.ensures.same) ∙ length-map c.source-source.result.now.nodes.items node_of in
    let within : c.in-Some.place.0 < length c.source-source.result.now.nodes.items =
    subst (λ n. c.in-Some.place.0 < n) count (named_within p c.args.node.now c.in-Some.place.0 named) in
    first_of (search rules, omega arith)

pub returns-in-Ok-clause-answer : goal.returns-in-Ok-clause-answer
returns-in-Ok-clause-answer c =
    let named : is_some (node_named (program_of c.args.program.now) c.args.node.now) ≡ true =
    ap is_some (sym c.node.ensures ∙ ap (option_map (λ (n : NodeId). n.0)) c.in-Some.is) in
    IfOk-weaker c.tried.result _ _ (λ s tried. is_tried named tried) c.tried.ensures.tried
