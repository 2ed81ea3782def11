-- What the words of the command line ask for, by the meaning that clap's own specification gives to the command.
use Rattle.std.specs.Prelude.{Bool, true, false, List, Option, Some, None, option_map, codes, if◌then◌else◌}
use Rattle.clap.specs.Words.{App, Row, first_of}
use Rattle.lus_scripts.specs.Forms.{is_name}
use Rattle.lus_cli.specs.CommandLine.{Text, asked_of, bare, is_set, with_flag, with_optional, with_required, with_value}
use Rattle.lus_live.specs.Limits.{limits_of, with_limits}
use Rattle.lus_live.specs.declared.limits.Limits.{Limits}
use Rattle.lus_many.specs.declared.words.Session.{Session as StoredSession}
use Rattle.lus_many.specs.declared.words.Task.{Task}

-- the flags `--many`, `--json` and `--sync`, an option `--caller NAME`, and those of limits
abbrev pub flagged : App
flagged =
    with_limits (with_value (codes "caller") (with_flag (codes "sync") (with_flag (codes "json") (with_flag (codes "many") (bare (codes "lus_live"))))))

-- these, a required PROGRAM, a required NODE, and perhaps a LOG
abbrev pub the_command : App
the_command = with_optional (codes "LOG") (with_required (codes "NODE") (with_required (codes "PROGRAM") flagged))

-- a log that is gone on in, by the name of its file, perhaps the name of the one caller, and whether the log is synced before answers
pub record Session : Type 0 where
  pub log : Text
  pub caller : Option Text
  pub is_synced : Bool

-- a node of a program, whether answers are objects of JSON, perhaps a log that is gone on in, and what the node may cost
pub record Asked : Type 0 where
  pub program : Text
  pub node : Text
  pub is_json : Bool
  pub session : Option Session
  pub limits : Limits

-- the log of a file
abbrev pub with_log : Bool → Text → Option Text → Option (Option Session)
with_log is_synced log caller = Some (Some (record { log = log; caller = caller; is_synced = is_synced }))

-- a caller is named, and syncs are asked for, only beside a log
abbrev pub session_of : Bool → Option Text → Option Text → Option (Option Session)
session_of false None None = Some None
session_of true None None = None
session_of is_synced None (Some caller) = None
session_of is_synced (Some log) None = with_log is_synced log None
session_of is_synced (Some log) (Some caller) = if is_name caller then with_log is_synced log (Some caller) else None

abbrev pub with_limit : Text → Text → Bool → Option Session → Option Limits → Option Asked
with_limit program node is_json session None = None
with_limit program node is_json session (Some limits) =
    Some (record { program = program; node = node; is_json = is_json; session = session; limits = limits })

abbrev pub chosen : Bool → Option (Option Session) → Option Limits → Option Text → Option Text → Option Asked
chosen is_json session limits None _ = None
chosen is_json session limits (Some program) None = None
chosen is_json None limits (Some program) (Some node) = None
chosen is_json (Some session) limits (Some program) (Some node) = with_limit program node is_json session limits

abbrev pub said : List Row → Option Asked
said m =
    chosen (is_set (codes "json") m) (session_of (is_set (codes "sync") m) (first_of (codes "LOG") m) (first_of (codes "caller") m)) (limits_of m)
    (first_of (codes "PROGRAM") m) (first_of (codes "NODE") m)

-- what the words after the program's own name ask for, where they are well formed
unfoldable pub asked : List Text → Option Asked
asked = asked_of the_command said

-- a log that is gone on in as plain data
abbrev pub session_seen : StoredSession → Session
session_seen k = record { log = k.log.now; caller = option_map (λ t. t.now) k.caller; is_synced = k.is_synced }

abbrev pub sessions_seen : Option StoredSession → Option Session
sessions_seen session = option_map session_seen session

-- a task as plain data
abbrev pub task_seen : Task → Asked
task_seen t = record { program = t.program.now; node = t.node.now; is_json = t.is_json; session = sessions_seen t.session; limits = t.limits }
