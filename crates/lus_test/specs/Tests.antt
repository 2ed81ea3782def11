-- Tables on which a node is tried.
use Rattle.std.specs.Prelude.{◌≡◌, ℕ, List, ◌∷◌, map, Option, Some}
use Rattle.lus_values.specs.Names.{Text}
use Rattle.lus_program.specs.Programs.{Program, node_at}
use Rattle.lus_requests.specs.declared.request.Request.{Request}
use Rattle.lus_requests.specs.declared.request.Reply.{Reply}
use Rattle.lus_live_instance.specs.MachineSpecs.Constructors.{names_of}
use Rattle.lus_live_instance.specs.MachineSpecs.Formals.{outputs_of}
use Rattle.lus_scripts.specs.Forms.{each}
use Rattle.lus_scripts.specs.Scripts.{place_of}
use Rattle.lus_test.specs.Tables.{AreRecordsOf, IsHead, IsRun, output_columns, step_under}
use Rattle.lus_test.specs.Findings.{finding_from, told_in}
use Rattle.lus_test.specs.declared.finding.Finding.{Finding}
use Rattle.lus_test.specs.declared.finding.Finding.TheVariants.{Passed}

-- the cells of a reply of the node
abbrev pub told_of : Program → ℕ → Reply → Option (List Text)
told_of p f = told_in p (names_of p) (outputs_of (node_at p f))

-- what is found of a table with these names and rows, whose rows have these replies
abbrev pub finding_of : Program → ℕ → List Text → List (List Text) → List Reply → Finding
finding_of p f names rows replies = finding_from 0 (told_of p f) (map (place_of (output_columns p f)) names) rows replies

-- The names are the head of a table of the node, and each row is a step under it; these are the right replies to the steps, and this is
-- found of them.
pub record HasTested (p : Program) (f : ℕ) (names : List Text) (rows : List (List Text)) (replies : List Reply) (finding : Finding) : Type 0 where
  pub headed : IsHead p f names
  pub steps : List Request
  pub asked : Some steps ≡ each (step_under p f names) rows
  pub run : IsRun p f steps replies
  pub found : finding ≡ finding_of p f names rows replies

-- A table passes: its rows are steps, and each output of the node's run on them is the one that is expected.
abbrev pub Passes : Program → ℕ → Text → Type 0
Passes p f text = (names : List Text) × (rows : List (List Text)) × (replies : List Reply)
    × AreRecordsOf text (names ∷ rows) × HasTested p f names rows replies Passed
