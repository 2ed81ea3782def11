use Rattle.std.proofs.Common.{◌≡◌, ◌↔◌, ◌∙◌, ◌<◌, ℕ, List, sym, ap, subst, refl, length, get_or, Some, IsTrue}
use Rattle.std.specs.Prelude.{slice_get}
use Rattle.std.proofs.lemmas.Option.{slice_get_read}
use Rattle.lus_values.specs.Values.{Row}
use Rattle.lus_instructions.specs.declared.class.Class.{Class}
use Rattle.lus_code.specs.SimulationSpecs.Fitting.{has_presence}
use Rattle.lus_code.specs.Codes.{ProgramCode, program_of}
use Rattle.lus_running.specs.Fits.{FitsPresence}
use Rattle.lus_eval.specs.Objects.{IsObjectOf, Kept}
use Rattle.lus_eval.proofs.Following.{one_test, presence_told}
use Rattle.lus_eval.proofs.KeptRows.{node_within}
use Rattle.lus_eval.proofs.InputClocks.{inputs_test_inputs}
use Rattle.lus_eval.proofs.object.Object.fits_presence.Goals as goal

-- the class that is read is that of the object's node
class_read : (code : ProgramCode) (o : Kept) → IsObjectOf code o → (classes : List Class) → classes ≡ code.classes → (g : ℕ) → g ≡ o.node → (k : Class) → k ≡ get_or classes g k
    → slice_get code.classes g ≡ Some k
class_read code o shaped classes same g node k is =
    let within : g < length code.classes = subst (λ n. n < length code.classes) (sym node) (node_within code o shaped) in
    slice_get_read code.classes (length code.classes) g k refl within (subst (λ (l : List Class). k ≡ get_or l g k) same is)

pub fits_presence-requires : goal.fits_presence-requires
fits_presence-requires c =
    let code = c.args.code.now in
    let classes = c.classes.result.now in
    let g = c.self.inside.instance.node in
    let k = c.index-classes-self.result in
    let found = class_read code c.args.self.now c.requires classes c.classes.ensures.same g (ap (λ (o : Kept). o.node) c.self.view_is) k c.index-classes-self.is in
    inputs_test_inputs (program_of code) code.classes c.classes.ensures.correct.belong g k found

pub returns : goal.returns
returns c =
    let code = c.args.code.now in
    let p = program_of code in
    let i = c.args.inputs.now in
    let classes = c.classes.result.now in
    let g = c.self.inside.instance.node in
    let k = c.index-classes-self.result in
    let found = class_read code c.args.self.now c.requires classes c.classes.ensures.same g (ap (λ (o : Kept). o.node) c.self.view_is) k c.index-classes-self.is in
    let told = subst (λ (r : Row). IsTrue c.fits_presence.result ↔ FitsPresence k r) c.items.ensures c.fits_presence.ensures in
    one_test c.fits_presence.result (has_presence p g i) (FitsPresence k i) told (presence_told code c.classes.ensures.correct g k found i) ∙ ap (λ (o : Kept). has_presence p o.node i) c.self.view_is
