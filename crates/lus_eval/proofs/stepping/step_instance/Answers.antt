-- The step of an instance follows the streams of its source.
use Rattle.std.proofs.Common.{◌≡◌, ◌∙◌, List, sym, ap, subst, Some, Result, Ok, Err}
use Rattle.std.specs.Prelude.{slice_get}
use Rattle.std.specs.Result.{IfOk}
use Rattle.lus_program.specs.Programs.{Node, node_at}
use Rattle.lus_instructions.specs.declared.class.Class.{Class}
use Rattle.lus_orders.specs.declared.class.Class.{Class as Emitted}
use Rattle.lus_code.specs.Codes.{program_of}
use Rattle.lus_running.specs.Instances.{HasFormals, TakesStep, seen}
use Rattle.lus_eval.specs.Objects.{kept_by}
use Rattle.lus_eval.proofs.Following.{has_formals, presence_told, step_follows, fault_follows}
use Rattle.lus_eval.proofs.KeptRows.{instance_shaped, shaped_in_code, source_node}
use Rattle.lus_eval.proofs.stepping.step_instance.Goals as goal

pub step-requires-clause-shaped : goal.step-requires-clause-shaped
step-requires-clause-shaped c =
    let on = c.running-on in
    instance_shaped c.args.code.now on.result.classes.now on.result.emitted.now on.ensures.classes on.ensures.emitted c.args.instance.now c.requires.even c.requires.shaped

pub step-requires-clause-formals : goal.step-requires-clause-formals
step-requires-clause-formals c k found =
    let code = c.args.code.now in
    let o = kept_by c.args.instance.now in
    let correct = c.running-on.ensures.correct in
    let there : slice_get code.classes o.node ≡ Some k = ap (λ (l : List Class). slice_get l o.node) (sym c.running-on.ensures.classes) ∙ found in
    let node = source_node code o c.requires.shaped correct c.program.result.now c.program.ensures.same c.index-node.result.now c.index-node.ensures in
    subst (λ (n : Node). HasFormals n.outputs c.args.inputs.now k) node (has_formals code correct o.node k there c.args.inputs.now c.requires.shape c.requires.presence)

pub step-requires-clause-presence : goal.step-requires-clause-presence
step-requires-clause-presence c k found =
    let code = c.args.code.now in
    let o = kept_by c.args.instance.now in
    let there : slice_get code.classes o.node ≡ Some k = ap (λ (l : List Class). slice_get l o.node) (sym c.running-on.ensures.classes) ∙ found in
    (presence_told code c.running-on.ensures.correct o.node k there c.args.inputs.now).0 c.requires.presence

-- what the instance did, by the code's own classes and the node's own outputs
taken : (c : goal.After-step) → TakesStep c.args.code.now.classes c.args.code.now.emitted c.running-on.result.depth (node_at (program_of c.args.code.now) c.args.instance.now.node).outputs
    (seen c.args.instance.now) c.args.inputs.now c.step.result (seen c.step.new.self)
taken c =
    let code = c.args.code.now in
    let i = c.args.inputs.now in
    let before = seen c.args.instance.now in
    let after = seen c.step.new.self in
    let o = kept_by c.args.instance.now in
    let on = c.running-on.result in
    let node = source_node code o c.requires.shaped c.running-on.ensures.correct c.program.result.now c.program.ensures.same c.index-node.result.now c.index-node.ensures in
    subst (λ (l : List Class). TakesStep l code.emitted on.depth (node_at (program_of code) o.node).outputs before i c.step.result after) c.running-on.ensures.classes
    (subst (λ (l : List Emitted). TakesStep on.classes.now l on.depth (node_at (program_of code) o.node).outputs before i c.step.result after) c.running-on.ensures.emitted
    (subst (λ (n : Node). TakesStep on.classes.now on.emitted.now on.depth n.outputs before i c.step.result after) (sym node) c.step.ensures.step))

pub returns-clause-fault : goal.returns-clause-fault
returns-clause-fault c =
    let on = c.running-on in
    let shaped = c.requires.shaped in
    fault_follows c.args.code.now on.ensures.correct (seen c.args.instance.now) (seen c.step.new.self) shaped.class shaped.found c.args.inputs.now on.result.depth on.ensures.deep c.step.result (taken c)

each_ok : {X E : Type 0} {P Q : X → Type 0} (r : Result X E) → ((x : X) → P x → Q x) → IfOk r P → IfOk r Q
each_ok (Ok x) h p = h x p
each_ok (Err e) h p = tt

pub returns-clause-ok : goal.returns-clause-ok
returns-clause-ok c =
    let code = c.args.code.now in
    let on = c.running-on in
    let shaped = c.requires.shaped in
    let o' = c.step.new.self in
    each_ok c.step.result (λ outputs goes. record {
      node = c.step.ensures.node;
      shaped = shaped_in_code code on.result.classes.now on.result.emitted.now on.ensures.classes on.ensures.emitted o' on.ensures.correct c.step.ensures.shaped;
      steps = goes;
    })
    (step_follows code on.ensures.correct (seen c.args.instance.now) (seen o') shaped.class shaped.found c.args.inputs.now on.result.depth on.ensures.deep c.step.result c.requires.shape c.requires.presence (taken c))
