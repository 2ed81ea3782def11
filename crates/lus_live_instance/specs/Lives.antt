-- An instance that is live: its history is one that its node may have.
use Rattle.std.specs.Prelude.{◌≡◌, ℕ}
use Rattle.lus_program.specs.Programs.{Program}
use Rattle.lus_machine.specs.Machines.{IsLawful, Told}

-- an instance of this node, with a lawful history
pub record IsLive (p : Program) (f : ℕ) (m : Told) : Type 0 where
  pub program : m.program ≡ p
  pub node : m.node ≡ f
  pub lawful : IsLawful m
