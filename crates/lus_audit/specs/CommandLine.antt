-- What the words of the command line ask for, by the meaning that clap's own specification gives to the command.
use Rattle.std.specs.Prelude.{Bool, List, Option, Some, None, codes}
use Rattle.clap.specs.Words.{App, Row, first_of}
use Rattle.lus_cli.specs.CommandLine.{Text, asked_of, bare, is_set, with_flag, with_required}
use Rattle.lus_audit.specs.declared.words.Task.{Task}

-- the flag `--why`, a required PROGRAM and a required JOURNAL
abbrev pub the_command : App
the_command = with_required (codes "JOURNAL") (with_required (codes "PROGRAM") (with_flag (codes "why") (bare (codes "lus_audit"))))

-- journals of nodes of a program, and whether reasons of refusals are asked
pub record Asked : Type 0 where
  pub is_why : Bool
  pub program : Text
  pub journal : Text

abbrev pub chosen : Bool → Option Text → Option Text → Option Asked
chosen is_why None journal = None
chosen is_why (Some program) None = None
chosen is_why (Some program) (Some journal) = Some (record { is_why = is_why; program = program; journal = journal })

abbrev pub said : List Row → Option Asked
said m = chosen (is_set (codes "why") m) (first_of (codes "PROGRAM") m) (first_of (codes "JOURNAL") m)

-- what the words after the program's own name ask for, where they are well formed
unfoldable pub asked : List Text → Option Asked
asked = asked_of the_command said

-- a task as plain data
abbrev pub task_seen : Task → Asked
task_seen t = record { is_why = t.is_why; program = t.program.now; journal = t.journal.now }
