-- What the words of the command line ask for, by the meaning that clap's own specification gives to the command.
use Rattle.std.specs.Prelude.{true, Bool, List, Option, Some, codes, option_map}
use Rattle.clap.specs.Words.{App, Row, all_of, first_of, found_of, new_rule, rows_of, with_rule}
use Rattle.clap.specs.declared.builder.ArgAction.TheVariants.{Append}
use Rattle.lus_cli.specs.CommandLine.{Text, asked_of, bare, is_set, with_flag, with_required, with_value}
use Rattle.lus_test.specs.declared.words.Task.{Task}

-- the flags `--write`, `--journal`, `--coverage` and `--json`
abbrev pub flagged : App
flagged =
    with_flag (codes "json") (with_flag (codes "coverage") (with_flag (codes "journal") (with_flag (codes "write") (bare (codes "lus_test")))))

-- these, an option `--node NODE`, and a required PROGRAM
abbrev pub optioned : App
optioned = with_required (codes "PROGRAM") (with_value (codes "node") flagged)

-- these, and one TABLE or more
abbrev pub the_command : App
the_command = with_rule optioned (record (new_rule (codes "TABLE")) { required = true; action = Some Append })

-- tables of a program, perhaps of one of its nodes, and whether they are written anew
pub record Asked : Type 0 where
  pub program : Text
  pub node : Option Text
  pub is_written : Bool
  pub tables : Option (List Text)

abbrev pub said : List Row → Option Asked
said m = option_map
    (λ program. record {
      program = program;
      node = first_of (codes "node") m;
      is_written = is_set (codes "write") m;
      tables = all_of (codes "TABLE") m;
    })
    (first_of (codes "PROGRAM") m)

-- what the words after the program's own name ask for, where they are well formed
unfoldable pub asked : List Text → Option Asked
asked = asked_of the_command said

-- a task as plain data
abbrev pub task_seen : Task → Asked
task_seen t = record {
  program = t.program.now;
  node = option_map (λ name. name.now) t.node;
  is_written = t.mode.is_written;
  tables = all_of (codes "TABLE") (rows_of (found_of t.matches));
}
