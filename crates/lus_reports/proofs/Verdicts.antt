-- What errors tell of a program.
use Rattle.std.proofs.Common.{◌≡◌, ◌≢◌, List, [], ◌∷◌, length, arith}
use Rattle.lus_syntax.specs.Lexemes.{Text}
use Rattle.lus_syntax.specs.declared.refusal.Refusal.{Refusal}
use Rattle.lus_diagnostics.specs.Errors.{AreErrors, BeginWith}
use Rattle.lus_diagnostics.specs.declared.diagnostic.Diagnostic.{Diagnostic}
use Rattle.lus_reports.specs.Diagnoses.{IsAccepted, IsRefused}

pub accepted_by : (bytes : Text) (errors : List Diagnostic) → length errors ≡ 0 → AreErrors IsAccepted IsRefused bytes errors → IsAccepted bytes
accepted_by bytes [] none accepted = accepted
accepted_by bytes (d ∷ ds) none refused = absurd (omega (arith, none))

pub refused_by : (bytes : Text) (errors : List Diagnostic) → length errors ≢ 0 → AreErrors IsAccepted IsRefused bytes errors → (r : Refusal) × IsRefused bytes r
refused_by bytes [] some accepted = absurd (omega (arith, some))
refused_by bytes (d ∷ ds) some refused = (refused.0, refused.1)

pub errors_by : (bytes : Text) (r : Refusal) (errors : List Diagnostic) → IsRefused bytes r → BeginWith r errors → AreErrors IsAccepted IsRefused bytes errors
errors_by bytes r [] refused first = absurd first
errors_by bytes r (d ∷ ds) refused first = (r, refused, first)
