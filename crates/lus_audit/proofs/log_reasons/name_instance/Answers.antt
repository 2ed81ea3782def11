-- An instance is named, or is named new, without entries.
use Rattle.std.proofs.Common.{◌≡◌, string_bytes}
use Rattle.std.proofs.lemmas.Map.Text.{hash_map_updates_text}
use Rattle.std.proofs.lemmas.Result.{IfOk-at_ok}
use Rattle.indexmap.specs.IndexMap.{get_by_text}
use Rattle.lus_cli.specs.CodeSpecs.Codes.{program_of}
use Rattle.lus_audit.proofs.LogLaws.{follows_new}
use Rattle.lus_audit.proofs.log_reasons.name_instance.Goals as goal

pub returns : goal.returns
returns c = λ follows.
    (let key_is = IfOk-at_ok (λ s. string_bytes s ≡ c.args.instance.now) c.in_ok-key.was c.from_str.ensures.ok in
    let sets = hash_map_updates_text (string_bytes c.in_ok-key.key) c.args.explainers.now c.insert.new.self _ c.in_ok-insert.ensures.updates in
    follows_new (program_of c.args.program.now) c.args.node.0 c.args.instance.now c.in_ok-explainer.explainer (get_by_text c.args.explainers.now)
    (get_by_text c.insert.new.self) (rw key_is at sets) c.in_ok-explainer.ensures follows)
