-- An object steps as its instance does, or goes back to its last instant.
use Rattle.std.proofs.Common.{◌∙◌, subst, sym, IsTrue}
use Rattle.lus_code.specs.SimulationSpecs.Fitting.{has_shape, has_presence}
use Rattle.lus_code.specs.Codes.{program_of}
use Rattle.lus_eval.specs.Objects.{Kept, kept_by, IsObjectOf, MakesStep}
use Rattle.lus_eval.proofs.KeptRows.{back_to}
use Rattle.lus_eval.proofs.object.Object.step_twice.Goals as goal

pub step_instance-requires-clause-shaped : goal.step_instance-requires-clause-shaped
step_instance-requires-clause-shaped c = subst (IsObjectOf c.args.code.now) (sym c.self.view_is) c.requires.shaped

pub step_instance-requires-clause-shape : goal.step_instance-requires-clause-shape
step_instance-requires-clause-shape c = subst (λ (k : Kept). IsTrue (has_shape (program_of c.args.code.now) k.node c.args.inputs.now)) (sym c.self.view_is) c.requires.shape

pub step_instance-requires-clause-presence : goal.step_instance-requires-clause-presence
step_instance-requires-clause-presence c = subst (λ (k : Kept). IsTrue (has_presence (program_of c.args.code.now) k.node c.args.inputs.now)) (sym c.self.view_is) c.requires.presence

pub returns-in-Ok-clause-ok : goal.returns-in-Ok-clause-ok
returns-in-Ok-clause-ok c =
    rw c.in-Ok.ensures.row
    (subst (λ (k : Kept). MakesStep c.args.code.now k (kept_by c.step_instance.new.instance) c.args.inputs.now c.in_ok-outputs.outputs) c.self.view_is c.in_ok-outputs.ensures.ok)

pub returns-in-Err-clause-err : goal.returns-in-Err-clause-err
returns-in-Err-clause-err c =
    let shaped = subst (IsObjectOf c.args.code.now) (sym c.self.view_is) c.requires.shaped in
    back_to c.step_instance.new.instance c.go_back.new.self c.go_back.ensures c.args.code.now c.self.inside.instance c.args.inputs.now c.in_ok-outputs.outputs shaped c.in_ok-outputs.ensures.ok c.in_ok-outputs.ensures.behind
    ∙ c.self.view_is
