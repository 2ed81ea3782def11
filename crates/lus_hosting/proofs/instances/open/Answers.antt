-- An instance is there, or is made new.
use Rattle.std.proofs.Common.{◌≡◌, ◌∙◌, false, Option, Some, None, is_some, refl, sym, string_bytes, true≢false}
use Rattle.std.specs.Arc.{arc_value}
use Rattle.std.proofs.lemmas.Map.Text.{hash_map_updates_text}
use Rattle.std.proofs.lemmas.Result.{IfOk-at_ok}
use Rattle.indexmap.specs.IndexMap.{get_by_text}
use Rattle.lus_live_instance.specs.MachineSpecs.CodeSpecs.Codes.{program_of}
use Rattle.lus_hosting.proofs.HostLaws.{opened}
use Rattle.lus_hosting.proofs.instances.open.Goals as goal

absent : {X : Type 0} (o : Option X) → is_some o ≡ false → o ≡ None
absent None none = refl
absent (Some x) none = absurd (true≢false none)

pub returns : goal.returns
returns c = λ log keeps.
    (let key_is = IfOk-at_ok (λ s. string_bytes s ≡ c.args.name.now) c.in_ok-key.was c.from_str.ensures.ok in
    let sets = hash_map_updates_text (string_bytes c.in_ok-key.key) c.args.instances.now.by_name c.insert.new.self _ c.in_ok-insert.ensures.updates in
    opened (program_of (arc_value c.args.host.program.now)) c.args.host.node.0 log (get_by_text c.args.instances.now.by_name) (get_by_text c.insert.new.self) keeps
    c.args.name.now _ (absent _ (sym c.contains_key.ensures ∙ c.if-contains_key.false)) (rw key_is at sets) c.in_ok-instance.ensures.live c.in_ok-instance.ensures.empty refl)
