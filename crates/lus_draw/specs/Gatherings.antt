-- What is drawn of the journals that an audit finds lawful.
use Rattle.std.specs.Prelude.{◌≡◌, ◌++◌, ℕ, List, [], ◌∷◌, map, Option, Some, MatchOption, ⊤}
use Rattle.lus_values.specs.Names.{Text}
use Rattle.lus_program.specs.Programs.{Program}
use Rattle.lus_requests.specs.declared.request.Entry.{Entry}
use Rattle.lus_diagrams.specs.Columns.{Column}
use Rattle.lus_diagrams.specs.Parts.{part_of}
use Rattle.lus_diagrams.specs.declared.parts.Part.{Part}
use Rattle.lus_traces.specs.Tables.{table_text}
use Rattle.lus_traces.specs.Traces.{Trace, name_of}
use Rattle.lus_lawful.specs.Journals.{Journal, entries_of}
use Rattle.lus_cli.specs.MachineSpecs.Constructors.{names_of}
use Rattle.lus_cli.specs.MachineSpecs.Formals.{node_named}
use Rattle.lus_sketches.specs.Selections.{Selection}
use Rattle.lus_sketches.specs.Sketches.{HasSketched, IsFailure, IsTable}
use Rattle.lus_sketches.specs.declared.sketches.Failure.{Failure}
use Rattle.lus_sketches.specs.declared.sketches.Sketch.{Sketch}
use Rattle.lus_draw.specs.CommandLine.{Drawing}
use Rattle.lus_draw.specs.declared.words.Format.{Format}
use Rattle.lus_draw.specs.declared.words.Format.TheVariants as formats

-- a table of a journal: the instance's name, the names of its rows, and its columns
pub record IsTableOf (s : Selection) (p : Program) (j : Journal) (t : Trace) : Type 0 where
  pub node : ℕ
  pub named : node_named p j.node ≡ Some node
  pub called : t.instance ≡ j.instance
  pub table : IsTable s p node (entries_of j) t.names t.columns

-- the trace of a part of a journal's table
pub record IsTrace (s : Selection) (p : Program) (part : Part) (j : Journal) (t : Trace) : Type 0 where
  pub whole : Trace
  pub table : IsTableOf s p j whole
  pub cut : t ≡ record whole { columns = part_of part whole.columns }

-- journals have these traces, in their order
abbrev pub AreTraces : Selection → Program → Part → List Journal → List Trace → Type 0
AreTraces s p part [] [] = ⊤
AreTraces s p part (j ∷ js) (t ∷ ts) = IsTrace s p part j t × AreTraces s p part js ts
AreTraces s p part _ _ = ⊥

-- why one of these journals isn't drawn
pub record FailsIn (s : Selection) (p : Program) (js : List Journal) (failure : Failure) : Type 0 where
  pub before : List Journal
  pub journal : Journal
  pub behind : List Journal
  pub stands : js ≡ before ++ journal ∷ behind
  pub node : ℕ
  pub named : node_named p journal.node ≡ Some node
  pub fails : IsFailure s p node (entries_of journal) failure

-- ---- as journals come

-- where it is drawn as CSV, this holds
abbrev pub AsCsv : Format → Type 0 → Type 0
AsCsv formats.Csv P = P
AsCsv _ P = ⊤

module _ (d : Drawing) (p : Program) where
  -- these are the tables of journals
  pub record AreDrawn (js : List Journal) (tables : List Text) : Type 0 where
    pub traces : List Trace
    pub are : AreTraces d.selection p d.part js traces
    pub written : AsCsv d.format (tables ≡ map (table_text (names_of p)) traces)

  -- these journals are drawn, or it is known why one isn't
  abbrev pub HasGathered : List Journal → Option Failure → List Text → Type 0
  HasGathered js failure tables = MatchOption failure (AreDrawn js tables) (FailsIn d.selection p js)

  -- of a sketch of an instance's entries this is the table so far
  pub record HasDrawn (node : ℕ) (h : List Entry) (k : Sketch) (instance table : Text) : Type 0 where
    pub columns : List Column
    pub sketched : HasSketched d.selection p node h columns k
    pub written :
        AsCsv d.format (table ≡ table_text (names_of p) (record { instance = instance; names = map name_of k.signals.items; columns = columns }))
