-- Nodes whose claims are tried, as the code has them.
use Rattle.std.specs.Prelude.{◌≡◌, ◌<◌, ℕ, List, length, map, Option, Some, string_bytes}
use Rattle.std.specs.Arc.{arc_value}
use Rattle.csv.specs.Records.{fields_of}
use Rattle.lus_values.specs.Names.{Text}
use Rattle.lus_program.specs.Programs.{Program}
use Rattle.lus_requests.specs.declared.request.Request.{Request}
use Rattle.lus_requests.specs.declared.request.Reply.{Reply}
use Rattle.lus_live_instance.specs.MachineSpecs.CodeSpecs.Codes.{program_of}
use Rattle.lus_test.specs.Claims.{HaveHeld as HaveHeldIn, IsTrial}
use Rattle.lus_test.specs.Tables.{IsHead}
use Rattle.lus_test.specs.declared.claims.Claim.{Claim}
use Rattle.lus_test.specs.declared.failing.Failure.{Failure}
use Rattle.lus_test.specs.declared.trial.Subject.{Subject}

abbrev pub program_in : Subject → Program
program_in s = program_of (arc_value s.program.now)

abbrev pub names_in : Subject → List Text
names_in s = fields_of s.names

-- it is the node of a claim of a program, and that claim
pub record IsSubjectOf (p : Program) (c : Claim) (s : Subject) : Type 0 where
  pub program : program_in s ≡ p
  pub node : s.node ≡ c.node
  pub claim : s.claim ≡ c.place

-- the node is one of the program's, and the names are the head of a table of it
pub record IsReady (s : Subject) : Type 0 where
  pub within : s.node.0 < length (program_in s).nodes
  pub headed : IsHead (program_in s) s.node.0 (names_in s)
  pub same : map string_bytes s.head.keys ≡ names_in s

abbrev pub IsTrialOf : Subject → List (List Text) → List Request → List Reply → Option ℕ → Type 0
IsTrialOf s rows steps replies broken = IsTrial (program_in s) s.node.0 (names_in s) s.claim rows steps replies broken

abbrev pub HaveHeld : Subject → (runs count : ℕ) → Type 0
HaveHeld s runs count = HaveHeldIn (program_in s) s.node.0 s.claim runs count

-- in this run the claim fails first at this place
pub record IsFailure (s : Subject) (f : Failure) : Type 0 where
  pub trial : IsTrialOf s (map fields_of f.trial.rows.items) f.trial.steps.items f.trial.replies.items f.trial.broken
  pub broken : f.trial.broken ≡ Some f.row
