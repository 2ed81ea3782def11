-- What the words of the command line ask for, by the meaning that clap's own specification gives to the command.
use Rattle.std.specs.Prelude.{Bool, true, false, List, Option, Some, None, codes, option_map}
use Rattle.clap.specs.Words.{App, Row, all_of, found_of, new_rule, rows_of, with_rule}
use Rattle.clap.specs.declared.builder.ArgAction.TheVariants.{Append}
use Rattle.lus_cli.specs.CommandLine.{Text, asked_of, bare, is_set, with_flag}
use Rattle.lus_formatter.specs.declared.words.Mode.{Mode}
use Rattle.lus_formatter.specs.declared.words.Mode.TheVariants.{Check, Print, Write}
use Rattle.lus_formatter.specs.declared.words.Task.{Task}

abbrev pub flagged : App
flagged = with_flag (codes "write") (with_flag (codes "check") (bare (codes "lus_format")))

-- the flags `--check` and `--write`, and one FILE or more
abbrev pub the_command : App
the_command = with_rule flagged (record (new_rule (codes "FILE")) { required = true; action = Some Append })

-- a mode, and the names of files
pub record Asked : Type 0 where
  pub mode : Mode
  pub files : Option (List Text)

abbrev pub mode_of : Bool → Bool → Option Mode
mode_of false false = Some Print
mode_of true false = Some Check
mode_of false true = Some Write
mode_of true true = None

abbrev pub mode_in : List Row → Option Mode
mode_in m = mode_of (is_set (codes "check") m) (is_set (codes "write") m)

abbrev pub said : List Row → Option Asked
said m = option_map (λ mode. record { mode = mode; files = all_of (codes "FILE") m }) (mode_in m)

-- what the words after the program's own name ask for, where they are well formed
unfoldable pub asked : List Text → Option Asked
asked = asked_of the_command said

-- a task as plain data
abbrev pub task_seen : Task → Asked
task_seen t = record { mode = t.mode; files = all_of (codes "FILE") (rows_of (found_of t.matches)) }
