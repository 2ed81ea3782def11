-- What C is told of a text that is refused.
use Rattle.std.specs.Prelude.{ℕ}
use Rattle.lus_syntax.specs.Lexemes.{Text}
use Rattle.lus_syntax.specs.declared.refusal.Refusal.{Refusal}
use Rattle.lus_reports.specs.Diagnoses.{IsAccepted, IsRefused}
use Rattle.lus_c.specs.Served.{IsNone}
use Rattle.lus_c.specs.Texts.{TextIsTold}

-- a program is refused, and C is told why in some words; or it is accepted
pub data ExplanationIsTold (program : Text) (status bytes : ℕ) (olds news : Text) : Type 0 where
  is_refused : (r : Refusal) → IsRefused program r → (said : Text) → TextIsTold said status bytes olds news
      → ExplanationIsTold program status bytes olds news
  is_accepted : IsAccepted program → IsNone status → ExplanationIsTold program status bytes olds news
