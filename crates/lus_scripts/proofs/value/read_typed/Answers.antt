-- A value of JSON is one in which objects nest as deep as structures may.
use Rattle.std.proofs.Common.{◌∙◌, refl}
use Rattle.std.proofs.lemmas.Result.{IfOk-weaker}
use Rattle.serde_json.specs.View.{view}
use Rattle.lus_program.specs.View.{program_seen}
use Rattle.lus_scripts.proofs.Values.{value_of_json-is}
use Rattle.lus_scripts.proofs.value.read_typed.Goals as goal

pub returns-clause-ok : goal.returns-clause-ok
returns-clause-ok c =
    IfOk-weaker c.read_value.result _ _
    (λ v ok. value_of_json-is _ (program_seen c.args.program.now) c.args.names.now c.args.kind (view c.args.json.now) refl ∙ ok) c.read_value.ensures.ok

pub returns-clause-form : goal.returns-clause-form
returns-clause-form c = λ refused.
    value_of_json-is _ (program_seen c.args.program.now) c.args.names.now c.args.kind (view c.args.json.now) refl ∙ c.read_value.ensures.form refused
