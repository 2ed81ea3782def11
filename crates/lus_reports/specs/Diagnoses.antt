-- Which programs are accepted, and for what others are refused.
use Rattle.std.specs.Prelude.{◌≢◌, ℕ, Bool, true, false}
use Rattle.lus_syntax.specs.Lexemes.{Text}
use Rattle.lus_syntax.specs.declared.refusal.Refusal.{Refusal}
use Rattle.lus_syntax.specs.declared.refusal.RefusalNumber.TheVariants as numbers
use Rattle.lus_cli.specs.HostSpecs.Sources.{ProgramRefused}
use Rattle.lus_cli.specs.MachineSpecs.Acceptance.{AcceptedWith}

-- the text of a program, of whatever number of nodes
abbrev pub IsAccepted : Text → Type 0
IsAccepted bytes = (nodes : ℕ) × AcceptedWith bytes nodes

-- no text, or one that a pass refuses so
abbrev pub IsRefused : Text → Refusal → Type 0
IsRefused bytes r = (r.number ≢ numbers.Memory) × ProgramRefused bytes r

-- there is something to say of why bytes are refused, or they are accepted
abbrev pub IsExplained : Text → Bool → Type 0
IsExplained bytes true = (r : Refusal) × IsRefused bytes r
IsExplained bytes false = IsAccepted bytes
