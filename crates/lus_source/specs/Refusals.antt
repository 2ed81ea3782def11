-- Which trees are programs, and what the first failing pass answers.
use Rattle.std.specs.Prelude.{◌⊎◌}
use Rattle.lus_syntax.specs.declared.refusal.RefusalNumber.{RefusalNumber}
use Rattle.lus_syntax.specs.declared.refusal.RefusalNumber.TheVariants as numbers
use Rattle.lus_syntax.specs.Trees.{Tree}
use Rattle.lus_source.specs.Named.{Named}
use Rattle.lus_source.specs.Loopless.{Loopless}
use Rattle.lus_source.specs.Sized.{Counted, Bounded}
use Rattle.lus_source.specs.WellTyped.{IsTyped}

-- within the limits, its names right, without recursion, and well typed: in the order of the passes
pub record WellFormed (p : Tree) : Type 0 where
  pub counted : Counted p
  pub named : Named p
  pub loopless : Loopless p
  pub bounded : Bounded p
  pub typed : IsTyped p

-- the passes before it hold, and it doesn't; other numbers are no answers of these passes
abbrev pub FirstFails : Tree → RefusalNumber → Type 0
FirstFails p numbers.Limit = (Counted p → ⊥) ⊎ (Counted p × Named p × Loopless p × (Bounded p → ⊥))
FirstFails p numbers.Name = Counted p × (Named p → ⊥)
FirstFails p numbers.Recursion = Counted p × Named p × (Loopless p → ⊥)
FirstFails p numbers.Type = Counted p × Named p × Loopless p × Bounded p × (IsTyped p → ⊥)
FirstFails p n = ⊥
