-- When the command ends with status 0.
use Rattle.std.specs.Prelude.{◌≡◌, ◌⊎◌, ℕ, Bool, List, true, false, [], ◌∷◌, Option, Some, None, codes, eqb, unwrap_or, ⊤}
use Rattle.std.specs.List.{All, ends_with}
use Rattle.lus_program.specs.Programs.{Program}
use Rattle.lus_requests.specs.declared.request.Reply.{Reply}
use Rattle.lus_devices.specs.Folders.{Known, WithFile}
use Rattle.lus_cli.specs.CommandLine.{Text}
use Rattle.lus_cli.specs.MachineSpecs.Formals.{node_named}
use Rattle.lus_cli.specs.Programs.{IsOfFile}
use Rattle.lus_test.specs.Claims.{HaveHeld}
use Rattle.lus_test.specs.CommandLine.{Asked, asked}
use Rattle.lus_test.specs.Named.{IsClaim, IsNodeNamed}
use Rattle.lus_test.specs.Options.{Wanted, asked_claim}
use Rattle.lus_test.specs.Tables.{AreRecordsOf}
use Rattle.lus_test.specs.Tests.{HasTested, Passes}
use Rattle.lus_test.specs.declared.claims.Claim.{Claim}
use Rattle.lus_test.specs.declared.finding.Finding.{Finding}
use Rattle.lus_test.specs.declared.finding.Finding.TheVariants.{Passed, Refused, Differs}

abbrev pub IsPassed : Finding → Type 0
IsPassed Passed = ⊤
IsPassed (Refused row) = ⊥
IsPassed (Differs row cell) = ⊥

-- the rows of a file of this name are objects of JSON
abbrev pub has_objects : Text → Bool
has_objects file = ends_with eqb file (codes ".jsonl")

-- The records of a file: those of its text, where that has comma-separated values. Which records objects make is said nowhere.
abbrev pub HasRecords : Bool → Known → List (List Text) → Type 0
HasRecords true file records = ⊤
HasRecords false file records = WithFile file (λ text. AreRecordsOf text records)

-- records pass as a table of the node
abbrev pub RecordsPass : Program → ℕ → List (List Text) → Type 0
RecordsPass p f records =
    (names : List Text) × (rows : List (List Text)) × (replies : List Reply) × (records ≡ names ∷ rows)
    × HasTested p f names rows replies Passed

-- a file passes as a table of the node of this name: its text, or some records where it has objects
abbrev pub FilePasses : Program → Text → Bool → Known → Type 0
FilePasses p name true file = (f : ℕ) × (node_named p name ≡ Some f) × (records : List (List Text)) × RecordsPass p f records
FilePasses p name false file = (f : ℕ) × (node_named p name ≡ Some f) × WithFile file (Passes p f)

-- the name is the one that is given, if one is
abbrev pub IsNamed : Option Text → Text → Type 0
IsNamed None name = ⊤
IsNamed (Some given) name = name ≡ given

-- the file of this name passes, as a table of the node that is named, or of one that its own name begins with
abbrev pub TablePasses : (Text → Known) → Program → Option Text → Text → Type 0
TablePasses known p (Some name) file = FilePasses p name (has_objects file) (known file)
TablePasses known p None file = (name : Text) × FilePasses p name (has_objects file) (known file)

-- each table that is asked for passes, unless one is to be written anew
abbrev pub AllPass : (Text → Known) → Option Asked → Type 0
AllPass known None = ⊥
AllPass known (Some asked) = asked.is_written ≡ false
    → (p : Program) × IsOfFile (known asked.program) p × All (TablePasses known p asked.node) (unwrap_or asked.tables [])

-- ---- claims

-- an output of a node of a program holds in so many runs, each of so many instants
pub record HoldsIn (p : Program) (w : Wanted) : Type 0 where
  pub claim : Claim
  pub named : IsNodeNamed p w.node claim.node.0
  pub is_claim : IsClaim p w.claim claim
  pub held : HaveHeld p claim.node.0 claim.place w.runs w.steps

-- the same of the program of a file
abbrev pub Holds : (Text → Known) → Option Wanted → Type 0
Holds known None = ⊥
Holds known (Some w) = (p : Program) × IsOfFile (known w.program) p × HoldsIn p w

-- ---- all

-- what the words ask for is so: of tables that they pass, of a claim that it holds
abbrev pub IsWell : (Text → Known) → List Text → Type 0
IsWell known words = AllPass known (asked words) ⊎ Holds known (asked_claim words)
