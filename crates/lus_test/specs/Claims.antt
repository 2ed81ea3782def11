-- Claims: outputs that say whether something holds, and runs in which they do: synchronous observers (Halbwachs, Lagnier and Raymond 1993).
use Rattle.std.specs.Prelude.{◌≡◌, ◌+◌, ℕ, Bool, true, List, [], ◌∷◌, length, Option, Some, None, codes, if◌then◌else◌}
use Rattle.std.specs.List.{All}
use Rattle.std.specs.Str.{bytes_eq}
use Rattle.lus_values.specs.Names.{Text}
use Rattle.lus_program.specs.Programs.{Program}
use Rattle.lus_requests.specs.declared.request.Request.{Request}
use Rattle.lus_requests.specs.declared.request.Reply.{Reply}
use Rattle.lus_scripts.specs.Forms.{each}
use Rattle.lus_test.specs.Findings.{cell_at}
use Rattle.lus_test.specs.Tables.{IsHead, IsRun, step_under}
use Rattle.lus_test.specs.Tests.{told_of}

-- A claim fails where its word is `false`, and where the step is refused; it doesn't where it is absent.
abbrev pub is_broken : ℕ → Option (List Text) → Bool
is_broken claim None = true
is_broken claim (Some told) = bytes_eq (cell_at told claim) (codes "false")

-- the place of the first of these replies, from a place on, in which the claim fails
abbrev pub broken_from : ℕ → (Reply → Option (List Text)) → ℕ → List Reply → Option ℕ
broken_from n told claim [] = None
broken_from n told claim (r ∷ rs) = if is_broken claim (told r) then Some n else broken_from (n + 1) told claim rs

-- rows of cells under the names of a head are these steps, these are the right replies to them, and there the claim fails first, if it does
pub record IsTrial (p : Program) (f : ℕ) (names : List Text) (claim : ℕ) (rows : List (List Text)) (steps : List Request) (replies : List Reply)
    (broken : Option ℕ) : Type 0 where
  pub headed : IsHead p f names
  pub asked : Some steps ≡ each (step_under p f names) rows
  pub run : IsRun p f steps replies
  pub found : broken ≡ broken_from 0 (told_of p f) claim replies

-- a run on so many steps, in which the claim fails nowhere
pub record HasHeld (p : Program) (f claim count : ℕ) (steps : List Request) : Type 0 where
  pub long : length steps ≡ count
  pub replies : List Reply
  pub run : IsRun p f steps replies
  pub holds : broken_from 0 (told_of p f) claim replies ≡ None

-- so many of these
pub record HaveHeld (p : Program) (f claim runs count : ℕ) : Type 0 where
  pub asked : List (List Request)
  pub many : length asked ≡ runs
  pub all : All (HasHeld p f claim count) asked
