-- The calls among a node's parts are those of its sites.
use Rattle.std.proofs.Common.{◌≡◌, ◌∙◌, [], ap, filter, flat_map, map, refl, subst, sym}
use Rattle.std.proofs.lemmas.Result.{IfOk-weaker}
use Rattle.lus_program.specs.Programs.{Node, node_at}
use Rattle.lus_program.specs.View.{program_seen}
use Rattle.lus_streams.specs.Equations.{node_parts, sites}
use Rattle.lus_parts.specs.Parts.{part_of}
use Rattle.lus_sketches.specs.Paths.{called_by, called_seen, calls_at, is_of}
use Rattle.lus_sketches.proofs.Calls.{calls_are}
use Rattle.lus_sketches.proofs.paths.calls_of.Goals as goal

pub returns-in_ok-parts-in-Some : goal.returns-in_ok-parts-in-Some
returns-in_ok-parts-in-Some c =
    let p = program_seen c.args.program.now in
    let name = c.args.name.now in
    let parts : map part_of c.deref.result.now ≡ node_parts p (node_at p c.args.node) =
    ap (map part_of) c.deref.ensures.value ∙ c.in_ok-parts-in-Some.ensures.parts ∙ ap (node_parts p) c.in-Some.ensures in
    IfOk-weaker c.calls_in.result _ _ (λ v are. are ∙ ap (flat_map (calls_at p name)) parts ∙ calls_are p name (node_parts p (node_at p c.args.node))) c.calls_in.ensures

pub returns-in-None : goal.returns-in-None
returns-in-None c =
    let p = program_seen c.args.program.now in
    ap (map called_seen) c.new.ensures.items
    ∙ subst (λ (f : Node). [] ≡ map called_by (filter (is_of p c.args.name.now) (sites p f))) (sym c.in-None.ensures) refl
