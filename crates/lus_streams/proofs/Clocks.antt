-- One step of a variable's clock, and the operands that clocks of outputs are renamed after.
use Rattle.std.proofs.Common.{◌≡◌, ℕ, zero, suc, List, [], ◌∷◌, Option, Some, None, refl, ap, ◌∙◌}
use Rattle.lus_values.specs.Lists.{item}
use Rattle.lus_values.specs.declared.test.Test.{Test}
use Rattle.lus_program.specs.Programs.{Operands, none, more, Variable, no_variable}
use Rattle.lus_streams.specs.Clocks.{Clock, chain}
use Rattle.lus_streams.specs.OnClock.{actuals}

step_of : ℕ → List Variable → Option Test → Clock
step_of n vs o = elim o [ None ↦ [] | Some t ↦ t ∷ chain n vs t.variable ]

pub chain_some : (m n : ℕ) (vs : List Variable) (x : ℕ) (t : Test) → n ≡ suc m → (item no_variable vs x).test ≡ Some t → chain n vs x ≡ t ∷ chain m vs t.variable
unfolding step_of
chain_some m n vs x t e h = ap (λ k. chain k vs x) e ∙ ap (step_of m vs) h

pub chain_none : (n : ℕ) (vs : List Variable) (x : ℕ) → (item no_variable vs x).test ≡ None → chain n vs x ≡ []
unfolding step_of
chain_none zero vs x h = refl
chain_none (suc n) vs x h = ap (step_of n vs) h

-- a call with no variables on its left has its arguments alone
pub actuals_none : (args : Operands) → actuals args [] ≡ args
actuals_none none = refl
actuals_none (more e es) = ap (more e) (actuals_none es)
