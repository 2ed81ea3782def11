-- In a program's code the clocks of inputs test inputs alone.
use Rattle.std.proofs.Common.{◌≡◌, ◌∙◌, ℕ, ◌<◌, List, Some, slice_get, sym, ap, subst}
use Rattle.lus_values.specs.Lists.{Each}
use Rattle.lus_program.specs.Programs.{Program, node_at}
use Rattle.lus_streams.specs.Order.{clock_variables}
use Rattle.lus_classes.specs.ClassesOf.{IsClassOf}
use Rattle.lus_instructions.specs.declared.class.Class.{Class}
use Rattle.lus_classes.specs.View.{clock_from, class_of, classes_of}
use Rattle.lus_code.specs.Codes.{IsCodeOf}
use Rattle.lus_running.specs.Fits.{InputsTestInputs}
use Rattle.lus_running.proofs.Placed.{class_found}
use Rattle.lus_classes.proofs.ShortTurns.{whole_clock_at}

module _ (p : Program) (classes : List Class) (code : IsCodeOf p (classes_of classes)) where
  belongs : (g : ℕ) (c : Class) → slice_get classes g ≡ Some c → IsClassOf code.0 (node_at code.0 g) (class_of c)
  belongs g c found = subst (IsClassOf code.0 (node_at code.0 g)) (class_found classes g c found) (code.1.belong g)

  pub inputs_test_inputs : (g : ℕ) (c : Class) → slice_get classes g ≡ Some c → InputsTestInputs c
  inputs_test_inputs g c found x t lt e =
      let own = belongs g c found in
      let inputs = own.inputs in
      let clock = sym (own.clocks x) ∙ whole_clock_at c x ∙ ap (clock_from c.tests.items) e in
      let tests = subst (λ k. Each (λ y. y < (node_at code.0 g).inputs) (clock_variables k)) clock (own.input_clocks x (subst (λ n. x < n) inputs lt)) in
      subst (λ n. t.variable < n) (sym inputs) tests.0
