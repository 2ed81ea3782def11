-- What the words of the command line ask for, by the meaning that clap's own specification gives to the command.
use Rattle.std.specs.Prelude.{◌&&◌, Bool, List, Option, Some, None, is_some, option_map, codes, true, false, if◌then◌else◌}
use Rattle.clap.specs.Words.{App, Row, first_of}
use Rattle.lus_scripts.specs.Forms.{is_name}
use Rattle.lus_cli.specs.CommandLine.{Text, asked_of, bare, is_set, with_flag, with_optional, with_required, with_value}
use Rattle.lus_live.specs.Limits.{limits_of, with_limits}
use Rattle.lus_live.specs.declared.limits.Limits.{Limits}
use Rattle.lus_live.specs.declared.words.Form.{Form}
use Rattle.lus_live.specs.declared.words.Form.TheVariants.{Journal, Json, Csv}
use Rattle.lus_live.specs.declared.words.Task.{Task}

-- the flags `--json`, `--csv` and `--sync`, an option `--caller NAME`, and those of limits
abbrev pub flagged : App
flagged =
    with_limits (with_value (codes "caller") (with_flag (codes "sync") (with_flag (codes "csv") (with_flag (codes "json") (bare (codes "lus_live"))))))

-- these, a required PROGRAM, a required NODE, and perhaps a JOURNAL
abbrev pub the_command : App
the_command = with_optional (codes "JOURNAL") (with_required (codes "NODE") (with_required (codes "PROGRAM") flagged))

-- a node of a program, the name of the one caller, what is told of calls, the journal of which file a run goes on in, whether that is synced
-- before anything is told, and what the node may cost
pub record Asked : Type 0 where
  pub program : Text
  pub node : Text
  pub caller : Text
  pub form : Form
  pub file : Option Text
  pub is_synced : Bool
  pub limits : Limits

-- of the two flags there is one at most
abbrev pub form_of : Bool → Bool → Option Form
form_of false false = Some Journal
form_of true false = Some Json
form_of false true = Some Csv
form_of true true = None

-- whether a run itself writes on in the journal of a file: where something else is told
abbrev pub writes_file : Form → Option Text → Bool
writes_file Journal file = false
writes_file Json file = is_some file
writes_file Csv file = is_some file

-- whether a journal is written
abbrev pub has_journal : Form → Option Text → Bool
has_journal Journal file = true
has_journal Json file = is_some file
has_journal Csv file = is_some file

-- the caller is `user`, unless it is given another name, which only a journal has
abbrev pub caller_of : Form → Option Text → Option Text → Option Text
caller_of form file None = Some (codes "user")
caller_of form file (Some name) = if has_journal form file && is_name name then Some name else None

-- only a journal that a run itself writes is synced
abbrev pub sync_of : Form → Option Text → Bool → Option Bool
sync_of form file false = Some false
sync_of form file true = if writes_file form file then Some true else None

abbrev pub with_parts : Limits → Form → Option Text → Option Bool → Option Text → Option Text → Option Text → Option Asked
with_parts limits form file None _ _ _ = None
with_parts limits form file (Some is_synced) None _ _ = None
with_parts limits form file (Some is_synced) (Some caller) None _ = None
with_parts limits form file (Some is_synced) (Some caller) (Some program) None = None
with_parts limits form file (Some is_synced) (Some caller) (Some program) (Some node) =
    Some (record { program = program; node = node; caller = caller; form = form; file = file; is_synced = is_synced; limits = limits })

abbrev pub chosen : Option Limits → Option Form → Option Text → Bool → Option Text → Option Text → Option Text → Option Asked
chosen None _ _ _ _ _ _ = None
chosen (Some limits) None _ _ _ _ _ = None
chosen (Some limits) (Some form) file is_synced given program node =
    with_parts limits form file (sync_of form file is_synced) (caller_of form file given) program node

abbrev pub said : List Row → Option Asked
said m =
    chosen (limits_of m) (form_of (is_set (codes "json") m) (is_set (codes "csv") m)) (first_of (codes "JOURNAL") m) (is_set (codes "sync") m)
    (first_of (codes "caller") m) (first_of (codes "PROGRAM") m) (first_of (codes "NODE") m)

-- what the words after the program's own name ask for, where they are well formed
unfoldable pub asked : List Text → Option Asked
asked = asked_of the_command said

-- a task as plain data
abbrev pub task_seen : Task → Asked
task_seen t = record {
  program = t.program.now;
  node = t.node.now;
  caller = t.caller.now;
  form = t.form;
  file = option_map (λ f. f.now) t.journal;
  is_synced = t.is_synced;
  limits = t.limits;
}
