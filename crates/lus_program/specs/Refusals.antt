-- What a refusal of a pass says.
use Rattle.std.specs.Prelude.{◌≡◌, ◌≢◌}
use Rattle.lus_syntax.specs.declared.refusal.Refusal.{Refusal}
use Rattle.lus_syntax.specs.declared.refusal.RefusalNumber.{RefusalNumber}
use Rattle.lus_syntax.specs.declared.refusal.RefusalNumber.TheVariants as numbers

-- a refusal by this number, which comes only where the fact fails; out of memory may come anywhere
abbrev pub RefusesFor : RefusalNumber → Type 0 → Refusal → Type 0
RefusesFor number fact e = e.number ≢ numbers.Memory → (fact → ⊥) × (e.number ≡ number)
