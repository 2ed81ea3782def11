-- Which reasons are told of journals.
use Rattle.std.specs.Prelude.{◌≡◌, ℕ, Bool, true, false, List, [], Some}
use Rattle.std.specs.List.{AllZip, concat}
use Rattle.lus_values.specs.Names.{Text}
use Rattle.lus_program.specs.Programs.{Program}
use Rattle.lus_requests.specs.declared.request.Entry.{Entry}
use Rattle.lus_windows.specs.Reasons.{HasNoted, Tells}
use Rattle.lus_windows.specs.declared.reasons.Reasons.{Reasons}
use Rattle.lus_cli.specs.MachineSpecs.Constructors.{names_of}
use Rattle.lus_cli.specs.MachineSpecs.Formals.{node_named}
use Rattle.lus_hosting.specs.LawfulSpecs.Journals.{Journal, entries_of}

-- these are the reasons of an instance's entries so far
abbrev pub IsTold : Program → ℕ → List Entry → Reasons → Type 0
IsTold p f h r = (instance : Text) × (first : ℕ) × HasNoted p f (names_of p) instance first h r

-- the reasons of a journal's entries, a line for each that was refused
pub record TellsJournal (p : Program) (j : Journal) (text : Text) : Type 0 where
  pub node : ℕ
  pub named : node_named p j.node ≡ Some node
  pub instance : Text
  pub first : ℕ
  pub last : ℕ
  pub tells : Tells p node (names_of p) instance first (entries_of j) last text

-- those of journals, one behind another
abbrev pub TellsJournals : Program → List Journal → Text → Type 0
TellsJournals p js text = (texts : List Text) × AllZip (TellsJournal p) js texts × (text ≡ concat texts)

-- reasons of journals, where they are asked
abbrev pub AreReasons : Bool → Program → Text → List Journal → Type 0
AreReasons true p text js = TellsJournals p js text
AreReasons false p text js = text ≡ []
