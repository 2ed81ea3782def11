-- The scripts' instances are of nodes of the program, and what a run leaves of these nodes it leaves of the instances.
use Rattle.std.proofs.Common.{◌≡◌, ◌∙◌, ◌<◌, sym, ap, subst, List, length, map}
use Rattle.std.specs.Arc.{arc_value}
use Rattle.std.specs.List.{All, AllZip}
use Rattle.lus_syntax.specs.declared.tree.NodeId.{NodeId}
use Rattle.lus_callers.specs.CodeSpecs.Codes.{program_of}
use Rattle.lus_callers.specs.Served.{IsHistoryOf}
use Rattle.lus_host.proofs.Histories.{ok_then, known_nodes, legal_of}
use Rattle.lus_host.proofs.answering.run_callers.Goals as goal

pub run_callers-requires-clause-nodes : goal.run_callers-requires-clause-nodes
run_callers-requires-clause-nodes g c κs within =
    let n = length (program_of (arc_value c.args.program.now)).nodes in
    let is = c.args.scripts.now.instances.items in
    let same : c.deref-2.result.now ≡ map (λ i. i.id) is = c.deref-2.ensures.value ∙ c.in-Ok.ensures ∙ ap (map (λ i. i.id)) c.deref.ensures.value in
    subst (λ (fs : List NodeId). All (λ f. f.0 < n) fs) (sym same) (known_nodes n is c.requires)

pub returns-clause-legal : goal.returns-clause-legal
returns-clause-legal g c tells =
    let p = program_of (arc_value c.args.program.now) in
    let is = c.args.scripts.now.instances.items in
    let same : c.deref-2.result.now ≡ map (λ i. i.id) is = c.deref-2.ensures.value ∙ c.in-Ok.ensures ∙ ap (map (λ i. i.id)) c.deref.ensures.value in
    ok_then c.run_callers.result (c.run_callers.ensures.legal tells) (λ r legal.
    legal_of p is r.journals.items (subst (λ (fs : List NodeId). AllZip (λ f j. IsHistoryOf p f.0 j.entries.items) fs r.journals.items) same legal))
