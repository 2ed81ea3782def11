-- The instance of the name has an entry more.
use Rattle.std.proofs.Common.{rules, sym}
use Rattle.std.specs.Arc.{arc_value}
use Rattle.std.proofs.lemmas.Map.Text.{hash_map_updates_text}
use Rattle.std.proofs.lemmas.Result.{IfOk-weaker}
use Rattle.indexmap.specs.IndexMap.{get_by_text}
use Rattle.lus_live_instance.specs.MachineSpecs.CodeSpecs.Codes.{program_of}
use Rattle.lus_hosting.proofs.HostLaws.{called_on}
use Rattle.lus_hosting.proofs.instances.call_on.Goals as goal

pub returns-in-Some : goal.returns-in-Some
returns-in-Some c = λ log keeps.
    (let kept = c.in_ok-open.ensures log keeps in
    let updates = hash_map_updates_text c.args.name.now c.open.new.instances.by_name (c.get_mut.follows.lender c.call.new.hosted) _
    ((c.get_mut.follows.holds c.call.new.hosted).3 (search rules)) in
    IfOk-weaker c.call.result _ _
    (λ r called. called_on (program_of (arc_value c.args.host.program.now)) c.args.host.node.0 log (get_by_text c.open.new.instances.by_name)
    (get_by_text (c.get_mut.follows.lender c.call.new.hosted)) kept c.args.name.now c.in-Some.hosted.now c.call.new.hosted
    (sym c.in-Some.ensures.value) updates (c.call.ensures.live (program_of (arc_value c.args.host.program.now)) c.args.host.node.0)
    c.args.request r.0 r.1 called)
    c.call.ensures.called)
