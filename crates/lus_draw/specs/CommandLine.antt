-- What the words of the command line ask for, by the meaning that clap's own specification gives to the command.
use Rattle.std.specs.Prelude.{◌&&◌, ◌||◌, ◌-◌, ◌==◌, ◌^◌, ℕ, Bool, List, Option, Some, None, nat_le, codes, true, false, if◌then◌else◌}
use Rattle.clap.specs.Words.{App, Row, first_of}
use Rattle.lus_cli.specs.CommandLine.{Text, asked_of, bare, is_set, with_flag, with_optional, with_required, with_value}
use Rattle.lus_asked.specs.Reading.{number_below}
use Rattle.lus_sketches.specs.Selections.{Selection, formals, named, selection_seen}
use Rattle.lus_diagrams.specs.declared.parts.Part.{Part}
use Rattle.lus_draw.specs.declared.words.Drawing.{Drawing as StoredDrawing}
use Rattle.lus_draw.specs.declared.words.Format.{Format}
use Rattle.lus_draw.specs.declared.words.Format.TheVariants as formats
use Rattle.lus_draw.specs.declared.words.Task.{Task}
use Rattle.lus_draw.specs.declared.words.Task.TheVariants as tasks

-- the command with its flags: one for each format but text, and one for all variables
abbrev pub flagged : App
flagged = with_flag (codes "all") (with_flag (codes "vcd") (with_flag (codes "csv") (with_flag (codes "html") (with_flag (codes "waves") (bare (codes "lus_draw"))))))

-- the flags, the places of the first and the last instant that are shown, names of signals, a required file and an optional JOURNAL
abbrev pub the_command : App
the_command =
    with_optional (codes "JOURNAL") (with_required (codes "FILE") (with_value (codes "signals") (with_value (codes "to") (with_value (codes "from") flagged))))

-- the format that the flags for waves, a page, CSV and VCD ask for: of more than one there is none
abbrev pub format_of : Bool → Bool → Bool → Bool → Option Format
format_of false false false false = Some formats.Text
format_of true false false false = Some formats.Waves
format_of false true false false = Some formats.Html
format_of false false true false = Some formats.Csv
format_of false false false true = Some formats.Vcd
format_of waves html csv vcd = None

-- the place that an option gives, or this one where it isn't given
abbrev pub place_in : ℕ → Option Text → Option ℕ
place_in other None = Some other
place_in other (Some text) = number_below (2 ^ 64) text

-- from a place, counted from 1, to one that isn't before it
abbrev pub part_between : ℕ → ℕ → Option Part
part_between from to = if nat_le 1 from && nat_le from to then Some (record { from = from; to = to }) else None

abbrev pub part_by : Option ℕ → Option ℕ → Option Part
part_by (Some from) (Some to) = part_between from to
part_by _ _ = None

abbrev pub part_in : List Row → Option Part
part_in m = part_by (place_in 1 (first_of (codes "from") m)) (place_in (2 ^ 64 - 1) (first_of (codes "to") m))

abbrev pub is_whole : Part → Bool
is_whole p = (p.from == 1) && (p.to == 2 ^ 64 - 1)

-- whether a format shows parts
abbrev pub has_parts : Format → Bool
has_parts formats.Html = false
has_parts formats.Vcd = false
has_parts _ = true

-- not all and some by name; all are those of the name `*`
abbrev pub selected : Bool → Option Text → Option Selection
selected false None = Some formals
selected true None = Some (named (codes "*"))
selected false (Some names) = Some (named names)
selected true (Some names) = None

abbrev pub selection_in : List Row → Option Selection
selection_in m = selected (is_set (codes "all") m) (first_of (codes "signals") m)

-- in a format, of a part of a file of journals of a program's nodes, these signals
pub record Drawing : Type 0 where
  pub format : Format
  pub part : Part
  pub selection : Selection
  pub program : Text
  pub journal : Text

-- a page of the lines of a file of journals, or a drawing
pub data Asked : Type 0 where
  page_of : Text → Asked
  drawing_of : Drawing → Asked

-- journals are drawn in parts in the formats that have them
abbrev pub drawing : Drawing → Option Asked
drawing d = if is_whole d.part || has_parts d.format then Some (drawing_of d) else None

-- without a program there is only a page, of all that journals say
abbrev pub page : Format → Part → Selection → Text → Option Asked
page formats.Html p formals journal = if is_whole p then Some (page_of journal) else None
page _ p s journal = None

-- the first file is the program's where a second one is named, else that of the journals
abbrev pub of_files : Format → Part → Selection → Text → Option Text → Option Asked
of_files f p s file None = page f p s file
of_files f p s file (Some journal) = drawing (record { format = f; part = p; selection = s; program = file; journal = journal })

abbrev pub chosen : Option Format → Option Part → Option Selection → Option Text → Option Text → Option Asked
chosen (Some f) (Some p) (Some s) (Some file) journal = of_files f p s file journal
chosen _ _ _ _ journal = None

abbrev pub format_in : List Row → Option Format
format_in m = format_of (is_set (codes "waves") m) (is_set (codes "html") m) (is_set (codes "csv") m) (is_set (codes "vcd") m)

abbrev pub said : List Row → Option Asked
said m = chosen (format_in m) (part_in m) (selection_in m) (first_of (codes "FILE") m) (first_of (codes "JOURNAL") m)

-- what the words after the program's own name ask for, where they are well formed
unfoldable pub asked : List Text → Option Asked
asked = asked_of the_command said

-- a task as plain data
abbrev pub drawing_seen : StoredDrawing → Drawing
drawing_seen d = record { format = d.format; part = d.part; selection = selection_seen d.selection; program = d.program.now; journal = d.journal.now }

abbrev pub task_seen : Task → Asked
task_seen (tasks.Page journal) = page_of journal.now
task_seen (tasks.Drawing d) = drawing_of (drawing_seen d)
