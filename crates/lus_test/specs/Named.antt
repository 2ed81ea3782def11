-- What words name of a program: a node, and an output that is a claim.
use Rattle.std.specs.Prelude.{◌≡◌, ◌<◌, ℕ, length, Option, Some, None, ⊤}
use Rattle.lus_values.specs.Names.{Text}
use Rattle.lus_program.specs.Programs.{Program}
use Rattle.lus_live_instance.specs.MachineSpecs.Formals.{node_named}
use Rattle.lus_scripts.specs.Scripts.{place_of}
use Rattle.lus_test.specs.Tables.{output_columns}
use Rattle.lus_test.specs.declared.claims.Claim.{Claim}

-- an output's column of this name of one of the program's nodes
pub record IsClaim (p : Program) (name : Text) (c : Claim) : Type 0 where
  pub within : c.node.0 < length p.nodes
  pub place : Some c.place ≡ place_of (output_columns p c.node.0) name

-- the node of the name that is given, or any where none is
abbrev pub IsNodeNamed : Program → Option Text → ℕ → Type 0
IsNodeNamed p None f = ⊤
IsNodeNamed p (Some name) f = node_named p name ≡ Some f
