-- The instance of the name has an entry more, where that is right, and the last entry is that one.
use Rattle.std.proofs.Common.{rules, ◌∙◌, ◌+◌, ◌++◌, ◌∷◌, [], ap, string_bytes, subst, sym}
use Rattle.std.specs.Arc.{arc_value}
use Rattle.std.proofs.lemmas.Map.Text.{hash_map_updates_text}
use Rattle.lus_replay.specs.Replays.{IsJudged}
use Rattle.indexmap.specs.IndexMap.{get_by_text}
use Rattle.lus_live_instance.specs.MachineSpecs.CodeSpecs.Codes.{program_of}
use Rattle.lus_live_instance.specs.MachineSpecs.Constructors.{names_of}
use Rattle.lus_hosting.specs.declared.instances.Instances.{Instances}
use Rattle.lus_hosting.proofs.HostLaws.{replayed_so}
use Rattle.lus_hosting.proofs.instances.replay_on.Goals as goal

pub returns-in_ok-verdict-in-Some : goal.returns-in_ok-verdict-in-Some
returns-in_ok-verdict-in-Some c = λ log keeps.
    (let p = program_of (arc_value c.args.host.program.now) in
    let f = c.args.host.node.0 in
    let kept = c.in_ok-open.ensures log keeps in
    let updates = hash_map_updates_text c.args.name.now c.open.new.instances.by_name (c.get_mut.follows.lender c.replay.new.hosted) _
    ((c.get_mut.follows.holds c.replay.new.hosted).3 (search rules)) in
    let h = c.in-Some.hosted.now in
    let after = c.replay.new.hosted in
    let replayed = c.in_ok-verdict-in-Some in
    let new : Instances = record { by_name = c.get_mut.follows.lender after; recalls = c.open.new.instances.recalls; last = c.named.result } in
    replayed_so p f log (get_by_text c.open.new.instances.by_name) new kept c.args.name.now h after (sym c.in-Some.ensures.value) updates
    (c.replay.ensures.live p f) (c.args.entry.now ++ 10 ∷ []) (string_bytes c.replay.new.right) replayed.verdict replayed.ensures.counted
    (subst (λ names. IsJudged replayed.verdict names (h.entries + 1) (c.args.entry.now ++ 10 ∷ []) (string_bytes c.replay.new.right)
    h.instance.reactor.history after.instance.reactor.history)
    (c.names.ensures ∙ ap (λ q. names_of (program_of q)) c.deref.ensures) replayed.ensures.judged)
    replayed.last (replayed.ensures.last p f) c.named.ensures)
