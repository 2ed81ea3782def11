-- What the words of the command line ask for, by the meaning that clap's own specification gives to the command.
use Rattle.std.specs.Prelude.{Bool, List, Option, Some, None, option_map, codes, true, false}
use Rattle.clap.specs.Words.{App, Row, first_of}
use Rattle.lus_syntax.specs.Lexemes.{Text}
use Rattle.lus_reports.specs.CliSpecs.CommandLine.{asked_of, bare, is_set, with_flag, with_optional, with_required, with_value}
use Rattle.lus_explain.specs.declared.words.Form.{Form}
use Rattle.lus_explain.specs.declared.words.Task.{Task}
use Rattle.lus_explain.specs.declared.words.Task.TheVariants as tasks

-- flags `--json`, `--no-warnings`, `--deny-warnings` and `--cost`, an option `--script NODE`, a required PROGRAM and an optional SCRIPTS
abbrev pub the_command : App
the_command =
    with_optional (codes "SCRIPTS") (with_required (codes "PROGRAM") (with_value (codes "script") (with_flag (codes "cost")
    (with_flag (codes "deny-warnings") (with_flag (codes "no-warnings") (with_flag (codes "json") (bare (codes "lus_explain"))))))))

-- a well formed line asks what there is to say of a program, and perhaps of scripts for it, in this form; or for scripts to begin from,
-- for the node of this name of a program
pub data Asked : Type 0 where
  explain : (form : Form) → (program : Text) → (scripts : Option Text) → Asked
  script : (node program : Text) → Asked

-- warnings are told unless they are left out, and then they can't be denied
abbrev pub form_of : Bool → Bool → Bool → Option Form
form_of is_json true true = None
form_of is_json true false = Some (record { is_json = is_json; warns = false; denies = false; costs = false })
form_of is_json false denies = Some (record { is_json = is_json; warns = true; denies = denies; costs = false })

-- costs are said without warnings
abbrev pub cost_form : Bool → Form
cost_form is_json = record { is_json = is_json; warns = false; denies = false; costs = true }

-- where costs are asked for, or scripts to begin from, there are no others, and nothing is said of warnings; nor of the form of a script
abbrev pub chosen : Bool → Bool → Bool → Bool → Option Text → Option Text → Option Text → Option Asked
chosen is_cost is_json is_quiet denies asked_node None scripts = None
chosen false is_json is_quiet denies None (Some program) scripts = option_map (λ form. explain form program scripts) (form_of is_json is_quiet denies)
chosen false false false false (Some node) (Some program) None = Some (script node program)
chosen false false false false (Some node) (Some program) (Some scripts) = None
chosen false false false true (Some node) (Some program) scripts = None
chosen false false true denies (Some node) (Some program) scripts = None
chosen false true is_quiet denies (Some node) (Some program) scripts = None
chosen true is_json false false None (Some program) None = Some (explain (cost_form is_json) program None)
chosen true is_json false false None (Some program) (Some scripts) = None
chosen true is_json false false (Some node) (Some program) scripts = None
chosen true is_json false true asked_node (Some program) scripts = None
chosen true is_json true denies asked_node (Some program) scripts = None

abbrev pub said : List Row → Option Asked
said m =
    chosen (is_set (codes "cost") m) (is_set (codes "json") m) (is_set (codes "no-warnings") m) (is_set (codes "deny-warnings") m) (first_of (codes "script") m)
    (first_of (codes "PROGRAM") m) (first_of (codes "SCRIPTS") m)

-- what the words after the program's own name ask for, where they are well formed
unfoldable pub asked : List Text → Option Asked
asked = asked_of the_command said

-- a task as plain data
abbrev pub task_seen : Task → Asked
task_seen (tasks.Explain form program scripts) = explain form program.now (option_map (λ s. s.now) scripts)
task_seen (tasks.Script node program) = script node.now program.now
