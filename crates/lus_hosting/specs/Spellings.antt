-- How what becomes of a line is spelled.
use Rattle.std.specs.Prelude.{◌++◌, ℕ, [], codes}
use Rattle.lus_values.specs.Names.{Names, Text}
use Rattle.lus_requests.specs.declared.request.Entry.{Entry}
use Rattle.lus_replay.specs.Replays.{line_of}

-- the nth entry of an instance, by its name and its caller's; and why a line with these names is no call
pub record Spelling : Type 0 where
  pub tells : Text → Text → ℕ → Entry → Text
  pub denies : Text → Text → Text → Text

-- by nothing
abbrev pub no_spelling : Spelling
no_spelling = record { tells = λ instance caller n e. []; denies = λ instance caller reason. [] }

-- as the lines of a log
abbrev pub log_spelling : Names → Spelling
log_spelling names = record {
  tells = λ instance caller n e. instance ++ codes " " ++ line_of names caller n e;
  denies = λ instance caller reason. instance ++ codes " # " ++ caller ++ codes " " ++ reason ++ codes "\n";
}
