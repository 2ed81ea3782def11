-- Why an audit stops.
use Rattle.std.specs.Prelude.{◌≡◌, ℕ}
use Rattle.lus_lawful.specs.declared.error.AuditError.{AuditError}
use Rattle.lus_lawful.specs.declared.error.AuditError.TheVariants as errors

-- a line is none of a journal only where this holds
abbrev pub BlamesIf : Type 0 → AuditError → Type 0
BlamesIf P e = (n : ℕ) → e ≡ errors.Line n → P

-- no line is: a read failed, or memory is out
abbrev pub IsOutside : AuditError → Type 0
IsOutside e = (n : ℕ) → e ≡ errors.Line n → ⊥
