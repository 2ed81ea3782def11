-- How drawing ends: what was drawn of the files, or which fault ended it.
use Rattle.std.specs.Prelude.{◌⊎◌, Result, Some, ⊤}
use Rattle.lus_program.specs.Programs.{Program}
use Rattle.lus_devices.specs.Folders.{Known, WithFile}
use Rattle.lus_lawful.specs.Journals.{BeginsJournals}
use Rattle.lus_cli.specs.HostSpecs.Sources.{ProgramRefused}
use Rattle.lus_cli.specs.Changes.{Change}
use Rattle.lus_cli.specs.CommandLine.{Text}
use Rattle.lus_cli.specs.Ends.{IsLost, SaysEnds}
use Rattle.lus_cli.specs.Programs.{IsOfFile}
use Rattle.lus_cli.specs.declared.fault.Fault.{Fault}
use Rattle.lus_cli.specs.declared.fault.Fault.TheVariants as faults
use Rattle.lus_draw.specs.CommandLine.{Asked, Drawing, drawing_of, page_of}
use Rattle.lus_draw.specs.Drawings.{Draws, IsJournalFault, IsLinePage, LacksSignal}

-- a drawing of the journals of a file, of nodes of the program of another
abbrev pub IsDrawing : Known → Known → Drawing → Text → Type 0
IsDrawing program journal d drawn = (p : Program) × IsOfFile program p × WithFile journal (λ bytes. Draws p d (Some bytes) drawn)

-- what is drawn is what was asked for
abbrev pub IsDrawn : (Text → Known) → Asked → Text → Type 0
IsDrawn known (page_of journal) drawn = WithFile (known journal) (λ bytes. IsLinePage bytes drawn)
IsDrawn known (drawing_of d) drawn = IsDrawing (known d.program) (known d.journal) d drawn

-- why the journals of a file aren't drawn: it is lost, they are at fault, or one is of a node that lacks a signal
abbrev pub JournalFails : (Known → Type 0) → Known → Program → Drawing → Fault → Type 0
JournalFails read_fails journal p d faults.File = IsLost read_fails journal
JournalFails read_fails journal p d (faults.Journal n) = WithFile journal (λ bytes. IsJournalFault p (Some bytes) n)
JournalFails read_fails journal p d (faults.Signal place) = WithFile journal (λ bytes. LacksSignal d.selection p (Some bytes) place)
JournalFails read_fails journal p d faults.Memory = ⊤
JournalFails read_fails journal p d _ = ⊥

-- why journals aren't drawn: a file is lost, or the program is refused; or it is accepted, and the journals are at fault, or one is of a
-- node that lacks a signal
abbrev pub DrawingFails : (Known → Type 0) → Known → Known → Drawing → Fault → Type 0
DrawingFails read_fails program journal d faults.File = IsLost read_fails program ⊎ IsLost read_fails journal
DrawingFails read_fails program journal d (faults.Program e) = WithFile program (λ text. ProgramRefused text e)
DrawingFails read_fails program journal d (faults.Journal n) =
    (p : Program) × IsOfFile program p × WithFile journal (λ bytes. IsJournalFault p (Some bytes) n)
DrawingFails read_fails program journal d (faults.Signal place) =
    (p : Program) × IsOfFile program p × WithFile journal (λ bytes. LacksSignal d.selection p (Some bytes) place)
DrawingFails read_fails program journal d faults.Memory = ⊤
DrawingFails read_fails program journal d _ = ⊥

-- why there is no page of a file's lines: it is lost, or doesn't begin as journals do
abbrev pub PageFails : (Known → Type 0) → Known → Fault → Type 0
PageFails read_fails journal faults.File = IsLost read_fails journal
PageFails read_fails journal (faults.Journal n) = WithFile journal (λ bytes. BeginsJournals bytes → ⊥)
PageFails read_fails journal faults.Memory = ⊤
PageFails read_fails journal _ = ⊥

abbrev pub DrawFails : (Known → Type 0) → (Text → Known) → Asked → Fault → Type 0
DrawFails read_fails known (page_of journal) f = PageFails read_fails (known journal) f
DrawFails read_fails known (drawing_of d) f = DrawingFails read_fails (known d.program) (known d.journal) d f

-- the drawing is written; where there is none, nothing is
abbrev pub TaskEnds : (Known → Type 0) → (Text → Known) → Asked → Result (Unit {0}) Fault → Change → Type 0
TaskEnds read_fails known asked = SaysEnds (λ done drawn. IsDrawn known asked drawn) (DrawFails read_fails known asked)
