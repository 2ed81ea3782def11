-- How the command ends where the words were refused.
use Rattle.std.proofs.Common.{◌≡◌, refl, inl, inr, ℕ, Option, Some, None, Err}
use Rattle.lus_syntax.specs.Lexemes.{Text}
use Rattle.lus_devices.specs.Folders.{Known}
use Rattle.lus_reports.specs.CliSpecs.Changes.{Change, IsUntouched}
use Rattle.lus_reports.specs.CliSpecs.Faults.{IsToldBy, words_fault}
use Rattle.lus_reports.specs.CliSpecs.declared.fault.Fault.TheVariants as faults
use Rattle.lus_reports.specs.CliSpecs.declared.words.WordsError.{WordsError}
use Rattle.lus_reports.specs.CliSpecs.declared.words.WordsError.TheVariants as words
use Rattle.lus_explain.specs.CommandLine.{Asked, explain, script}
use Rattle.lus_explain.specs.Ends.{CommandEnds, is_lost}

-- words that ask for nothing are told, and so is out of memory, whatever the words ask for
pub words_end : (read_fails : Known → Type 0) (known : Text → Known) (output told : Change) (status : ℕ) (e : WordsError) (asked : Option Asked)
    → (e ≡ words.Mistaken → asked ≡ None) → IsUntouched output → IsToldBy status (words_fault e) told
    → CommandEnds read_fails known output told status asked
words_end read_fails known output told status words.Mistaken None nothing untouched line = (untouched, inl line)
words_end read_fails known output told status words.Memory None nothing untouched line = (untouched, inr line)
words_end read_fails known output told status words.Mistaken (Some asked) nothing untouched line = let no : Some asked ≡ None = nothing refl in cc
words_end read_fails known output told status words.Memory (Some (explain form program scripts)) nothing untouched line = record {
  outcome = Err faults.Memory;
  ends = (tt, untouched);
  told = line;
}
words_end read_fails known output told status words.Memory (Some (script node program)) nothing untouched line = is_lost faults.Memory tt untouched line
