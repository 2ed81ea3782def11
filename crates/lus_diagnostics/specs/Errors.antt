-- Errors of a program, and why it is refused.
use Rattle.std.specs.Prelude.{◌≡◌, List, [], ◌∷◌}
use Rattle.lus_syntax.specs.Lexemes.{Text}
use Rattle.lus_syntax.specs.declared.refusal.Refusal.{Refusal}
use Rattle.lus_diagnostics.specs.declared.diagnostic.Code.TheVariants as kinds
use Rattle.lus_diagnostics.specs.declared.diagnostic.Diagnostic.{Diagnostic}

-- an error with the number, the place and the cycle of a refusal
pub record IsErrorOf (r : Refusal) (d : Diagnostic) : Type 0 where
  pub code : d.code ≡ kinds.Error r.number
  pub line : d.place.line ≡ r.line
  pub column : d.place.column ≡ r.column
  pub cycle : d.cycle ≡ r.cycle

-- there are errors, and the first is that of a refusal
abbrev pub BeginWith : Refusal → List Diagnostic → Type 0
BeginWith r [] = ⊥
BeginWith r (d ∷ ds) = IsErrorOf r d

-- a source is accepted where it has no errors, and else refused for the first
abbrev pub AreErrors : (Text → Type 0) → (Text → Refusal → Type 0) → Text → List Diagnostic → Type 0
AreErrors accepts refuses source [] = accepts source
AreErrors accepts refuses source (d ∷ ds) = (r : Refusal) × refuses source r × IsErrorOf r d
