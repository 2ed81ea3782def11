-- An object steps as its instance does.
use Rattle.std.proofs.Common.{◌≡◌, subst, sym, IsTrue}
use Rattle.std.specs.Result.{IfOk, IfErr}
use Rattle.lus_code.specs.SimulationSpecs.Fitting.{has_shape, has_presence}
use Rattle.lus_code.specs.Codes.{program_of}
use Rattle.lus_running.specs.declared.error.StepError.TheVariants as errors
use Rattle.lus_eval.specs.Objects.{Kept, kept_by, IsFault, IsObjectOf, MakesStep}
use Rattle.lus_eval.proofs.object.Object.step.Goals as goal

pub step_instance-requires-clause-shaped : goal.step_instance-requires-clause-shaped
step_instance-requires-clause-shaped c = subst (IsObjectOf c.args.code.now) (sym c.self.view_is) c.requires.shaped

pub step_instance-requires-clause-shape : goal.step_instance-requires-clause-shape
step_instance-requires-clause-shape c = subst (λ (k : Kept). IsTrue (has_shape (program_of c.args.code.now) k.node c.args.inputs.now)) (sym c.self.view_is) c.requires.shape

pub step_instance-requires-clause-presence : goal.step_instance-requires-clause-presence
step_instance-requires-clause-presence c = subst (λ (k : Kept). IsTrue (has_presence (program_of c.args.code.now) k.node c.args.inputs.now)) (sym c.self.view_is) c.requires.presence

pub returns-clause-ok : goal.returns-clause-ok
returns-clause-ok c =
    subst (λ (k : Kept). IfOk c.step_instance.result (λ outputs. MakesStep c.args.code.now k (kept_by c.step_instance.new.instance) c.args.inputs.now outputs)) c.self.view_is c.step_instance.ensures.ok

pub returns-clause-fault : goal.returns-clause-fault
returns-clause-fault c =
    subst (λ (k : Kept). IfErr c.step_instance.result (λ e. e ≡ errors.Fault → IsFault c.args.code.now k c.args.inputs.now)) c.self.view_is c.step_instance.ensures.fault
