-- One test of a call's clock: a formal that no variable stands for is skipped, another is one test of the clock.
use Rattle.std.proofs.Common.{◌≡◌, ℕ, ◌&&◌, ◌∷◌, Option, Some, None, sym, ap, ◌∙◌}
use Rattle.lus_values.specs.declared.test.Test.{Test}
use Rattle.lus_program.specs.Programs.{Node}
use Rattle.lus_streams.specs.Clocks.{Clock}
use Rattle.lus_streams.specs.OnClock.{test_of}
use Rattle.lus_clocks.specs.Fitting.{same_test, test_on, leads_by, leads_to}

module _ (f : Node) (names : ℕ → Option ℕ) (t : Test) (k : Clock) (base o : Option Test) where
  pub skipped_test : (r : Option ℕ) → r ≡ names t.variable → r ≡ None → leads_to f names (t ∷ k) base o ≡ leads_to f names k base o
  skipped_test r e n = ap (λ s. leads_by f names s t.constructor (leads_to f names k base) o) (sym e ∙ n)

  pub renamed_test_is : (r : Option ℕ) (y : ℕ) → r ≡ names t.variable → r ≡ Some y → leads_to f names (t ∷ k) base o ≡ (same_test o (test_on y t.constructor) && leads_to f names k base (test_of f y))
  renamed_test_is r y e n = ap (λ s. leads_by f names s t.constructor (leads_to f names k base) o) (sym e ∙ n)
