-- What the words of the command line ask for where a claim is tried, by the meaning that clap's own specification gives to the command.
use Rattle.std.specs.Prelude.{◌&&◌, ◌^◌, ◌-◌, ℕ, List, Option, Some, None, codes, nat_le, option_map, if◌then◌else◌}
use Rattle.clap.specs.Words.{App, Row, first_of, new_rule, with_rule}
use Rattle.clap.specs.declared.builder.ArgAction.TheVariants.{Append}
use Rattle.lus_asked.specs.Reading.{number_below}
use Rattle.lus_cli.specs.CommandLine.{Text, asked_of, bare, with_optional, with_value}
use Rattle.lus_test.specs.declared.options.Wanted.{Wanted as StoredWanted}

-- how many runs, of which output, of which node
abbrev pub claimed : App
claimed = with_value (codes "node") (with_value (codes "check") (with_value (codes "random") (bare (codes "lus_test"))))

-- how many instants, from which seed
abbrev pub counted : App
counted = with_value (codes "seed") (with_value (codes "steps") claimed)

-- any number of ranges, and a PROGRAM
abbrev pub claim_command : App
claim_command = with_optional (codes "PROGRAM") (with_rule counted (record (new_rule (codes "range")) { long = Some (codes "range"); action = Some Append }))

-- so many runs, each of so many instants, of a node of a program, in which an output is to hold
pub record Wanted : Type 0 where
  pub program : Text
  pub node : Option Text
  pub claim : Text
  pub runs : ℕ
  pub steps : ℕ

abbrev pub between : ℕ → ℕ → Option ℕ → Option ℕ
between least most None = None
between least most (Some n) = if nat_le least n && nat_le n most then Some n else None

-- the number that an option gives, or this one where it isn't given
abbrev pub count_in : Option ℕ → ℕ → ℕ → Option Text → Option ℕ
count_in other least most None = other
count_in other least most (Some text) = between least most (number_below (2 ^ 64) text)

abbrev pub wanted_by : Option Text → Option Text → Option ℕ → Option ℕ → Option ℕ → Option Text → Option Wanted
wanted_by (Some program) (Some claim) (Some runs) (Some steps) (Some seed) of_node =
    Some (record { program = program; node = of_node; claim = claim; runs = runs; steps = steps })
wanted_by _ _ _ _ _ of_node = None

abbrev pub said_of : List Row → Option Wanted
said_of m =
    wanted_by (first_of (codes "PROGRAM") m) (first_of (codes "check") m) (count_in None 1 1000000000 (first_of (codes "random") m))
    (count_in (Some 100) 1 100000 (first_of (codes "steps") m)) (count_in (Some 1) 0 (2 ^ 64 - 1) (first_of (codes "seed") m)) (first_of (codes "node") m)

-- what the words after the program's own name ask for, where they are well formed
unfoldable pub asked_claim : List Text → Option Wanted
asked_claim = asked_of claim_command said_of

-- a task as plain data
abbrev pub wanted_seen : StoredWanted → Wanted
wanted_seen w = record {
  program = w.program.now;
  node = option_map (λ name. name.now) w.node;
  claim = w.claim.now;
  runs = w.runs;
  steps = w.steps;
}
