-- What the words of the command line ask for, by the meaning that clap's own specification gives to the command.
use Rattle.std.specs.Prelude.{◌==◌, ℕ, Bool, true, false, List, length, Option, Some, None, codes, if◌then◌else◌}
use Rattle.std.specs.Str.{bytes_eq}
use Rattle.clap.specs.Words.{App, Row, new_app, new_rule, with_rule, first_of, matches_of, fault_of}
use Rattle.clap.specs.declared.builder.ArgAction.TheVariants.{SetTrue}
use Rattle.lus_cli.specs.declared.words.Task.{Task}
use Rattle.lus_cli.specs.declared.words.Task.TheVariants as tasks

abbrev pub Text : Type 0
Text = List ℕ

-- a command before its arguments: no name of the program among the words, no help, no version
abbrev pub bare : Text → App
bare name = record (new_app name) {
  top = record ((new_app name).top) {
    no_binary_name = true;
    disable_help_flag = true;
    disable_version_flag = true;
  };
}

-- a command with a flag, with an option that has a value, with an argument that has to stand, or with one that may
abbrev pub with_flag : Text → App → App
with_flag name app = with_rule app (record (new_rule name) { long = Some name; action = Some SetTrue })

abbrev pub with_value : Text → App → App
with_value name app = with_rule app (record (new_rule name) { long = Some name })

abbrev pub with_required : Text → App → App
with_required name app = with_rule app (record (new_rule name) { required = true })

abbrev pub with_optional : Text → App → App
with_optional name app = with_rule app (new_rule name)

-- a flag `--check`, a required PROGRAM and an optional SCRIPTS
abbrev pub lus : App
lus = with_optional (codes "SCRIPTS") (with_required (codes "PROGRAM") (with_flag (codes "check") (bare (codes "lus"))))

-- a well formed line asks for a check of a program, or for a run of a program with scripts
pub data Asked : Type 0 where
  check : Text → Asked
  run : Text → Text → Asked

-- SCRIPTS stands exactly where `--check` doesn't
abbrev pub chosen : Bool → Option Text → Option Text → Option Asked
chosen true (Some program) None = Some (check program)
chosen false (Some program) (Some scripts) = Some (run program scripts)
chosen true None None = None
chosen true None (Some scripts) = None
chosen true (Some program) (Some scripts) = None
chosen false None None = None
chosen false None (Some scripts) = None
chosen false (Some program) None = None

abbrev pub is_true : Option Text → Bool
is_true None = false
is_true (Some t) = bytes_eq t (codes "true")

-- whether a flag is among the words
abbrev pub is_set : Text → List Row → Bool
is_set name m = is_true (first_of name m)

-- what words ask of a command, by what they give its arguments: nothing where they don't fit it
unfoldable pub asked_of : {X : Type 0} → App → (List Row → Option X) → List Text → Option X
asked_of app said ws = if length (fault_of app ws) == 0 then said (matches_of app ws) else None

abbrev pub said : List Row → Option Asked
said m = chosen (is_set (codes "check") m) (first_of (codes "PROGRAM") m) (first_of (codes "SCRIPTS") m)

-- what the words after the program's own name ask for, where they are well formed
unfoldable pub asked : List Text → Option Asked
asked = asked_of lus said

-- a task as plain data
abbrev pub task_seen : Task → Asked
task_seen (tasks.Check program) = check program.now
task_seen (tasks.Run program scripts) = run program.now scripts.now
