-- Instances that are observed while they are replayed.
use Rattle.std.specs.Prelude.{◌≡◌, ℕ, Bool, false, List}
use Rattle.lus_program.specs.Programs.{Program}
use Rattle.lus_requests.specs.declared.request.Entry.{Entry}
use Rattle.lus_live_instance.specs.Lives.{IsLive}
use Rattle.lus_live_instance.specs.MachineSpecs.Machines.{Told}

-- an instance of this node, whose program and node those are; its history was observed, unless there was no memory for that
pub record IsObserved (p : Program) (f : ℕ) (Seen : List Entry → Type 0) (m : Told) (program : Program) (node : ℕ) (is_lost : Bool) : Type 0 where
  pub live : IsLive p f m
  pub program_is : program ≡ p
  pub node_is : node ≡ f
  pub seen : is_lost ≡ false → Seen m.history
