-- Tables of a node: comma-separated values (RFC 4180) below the names of their columns, a row for each instant.
use Rattle.std.specs.Prelude.{◌≡◌, ◌++◌, ℕ, Bool, true, List, map, Option, Some, option_map, is_some}
use Rattle.std.specs.List.{list_all}
use Rattle.csv.specs.Reading.{AreRecords, default_config, strip_bom}
use Rattle.csv.specs.declared.parser.State.TheVariants.{StartRecord}
use Rattle.lus_values.specs.Names.{Text}
use Rattle.lus_program.specs.Programs.{Program, node_at}
use Rattle.lus_requests.specs.declared.request.Request.{Request}
use Rattle.lus_requests.specs.declared.request.Request.TheVariants.{Step}
use Rattle.lus_requests.specs.declared.request.Reply.{Reply}
use Rattle.lus_requests.specs.declared.request.Entry.{Entry}
use Rattle.lus_live_instance.specs.MachineSpecs.Constructors.{names_of}
use Rattle.lus_live_instance.specs.MachineSpecs.Formals.{inputs_of, outputs_of}
use Rattle.lus_live_instance.specs.MachineSpecs.HistorySpecs.Histories.{History}
use Rattle.lus_scripts.specs.Scripts.{place_of}
use Rattle.lus_records.specs.Columns.{all_columns}
use Rattle.lus_records.specs.Heads.{head_of}
use Rattle.lus_records.specs.Records.{row_of}

-- these are the records of a text, without a byte order mark at its start
abbrev pub AreRecordsOf : Text → List (List Text) → Type 0
AreRecordsOf text records = AreRecords default_config StartRecord (strip_bom text) records

-- ---- heads

abbrev pub input_columns : Program → ℕ → List Text
input_columns p f = all_columns p (inputs_of (node_at p f))

abbrev pub output_columns : Program → ℕ → List Text
output_columns p f = all_columns p (outputs_of (node_at p f))

abbrev pub columns_of : Program → ℕ → List Text
columns_of p f = input_columns p f ++ output_columns p f

-- all columns stand among the names
abbrev pub has_all : (names columns : List Text) → Bool
has_all names columns = list_all (λ c. is_some (place_of names c)) columns

-- names of columns of the node's inputs and outputs, none of them twice, and each column of an input is among them
pub record IsHead (p : Program) (f : ℕ) (names : List Text) : Type 0 where
  pub known : Some names ≡ head_of (columns_of p f) names
  pub complete : has_all names (input_columns p f) ≡ true

-- ---- rows

-- the step that a row is under the names of a head: each input absent, where its cells are empty, or with the value that they spell
abbrev pub step_under : Program → ℕ → (names cells : List Text) → Option Request
step_under p f names cells = option_map Step (row_of p (names_of p) (inputs_of (node_at p f)) names cells)

-- the node's right replies to these requests, one behind another from its first instant on
pub record IsRun (p : Program) (f : ℕ) (requests : List Request) (replies : List Reply) : Type 0 where
  pub history : List Entry
  pub lawful : History p f history
  pub asked : map (λ e. e.request) history ≡ requests
  pub answered : map (λ e. e.reply) history ≡ replies
