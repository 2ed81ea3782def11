-- Equations as they are stored: their calls have no numbers yet.
use Rattle.std.specs.Prelude.{ℕ, List}
use Rattle.lus_program.specs.declared.node.Equation.{Equation as StoredEquation}
use Rattle.lus_program.specs.Programs.{Expression}
use Rattle.lus_program.specs.View.{expression_of}

pub record Stored : Type 0 where
  pub targets : List ℕ
  pub right : Expression

abbrev pub stored : StoredEquation → Stored
stored q = record { targets = q.targets.items; right = expression_of q.right }
