-- Instances of scripts are of nodes that there are, and scripts of a JSON value are never refused as no JSON.
use Rattle.std.proofs.Common.{◌≡◌, ◌∙◌, ap, ◌⊎◌, inl, inr, IfErr, Ok, Err, Result}
use Rattle.std.proofs.lemmas.Result.{IfOk-weaker}
use Rattle.serde_json.specs.View.{view}
use Rattle.lus_program.specs.View.{program_seen}
use Rattle.lus_scripts.specs.Scripts.{scripts_of}
use Rattle.lus_scripts.specs.View.{scripts_seen}
use Rattle.lus_scripts.specs.declared.scripts.Scripts.{Scripts}
use Rattle.lus_scripts.specs.declared.refusal.ScriptRefusal.{ScriptRefusal}
use Rattle.lus_scripts.specs.declared.refusal.ScriptRefusal.TheVariants as refusal
use Rattle.lus_scripts.proofs.Checks.{never_json}
use Rattle.lus_scripts.proofs.ReadScripts.{instances_known}
use Rattle.lus_scripts.proofs.reading.read_scripts.Goals as goal

pub returns-in-Ok-clause-nodes : goal.returns-in-Ok-clause-nodes
returns-in-Ok-clause-nodes c =
    IfOk-weaker c.from_json.result _ _ (λ s means. instances_known (program_seen c.args.program.now) c.args.names.now (scripts_seen s) (view c.in-Ok.json) means) c.from_json.ensures.ok

pub returns-in-Ok-clause-json : goal.returns-in-Ok-clause-json
returns-in-Ok-clause-json c = λ same utf8. absurd (go c.from_json.result c.from_json.ensures.refused same)
  where
    go : (r : Result Scripts ScriptRefusal)
        → IfErr r (λ e. (e ≡ refusal.Memory) ⊎ (scripts_of (program_seen c.args.program.now) c.args.names.now (view c.in-Ok.json) ≡ Err e))
        → r ≡ Err refusal.Json → ⊥
    go (Ok s) h same = cc
    go (Err e) (inl memory) same = cc
    go (Err e) (inr refused) same =
        let json : e ≡ refusal.Json = cc in
        never_json (program_seen c.args.program.now) c.args.names.now (view c.in-Ok.json) (refused ∙ ap (λ x. Err x) json)
