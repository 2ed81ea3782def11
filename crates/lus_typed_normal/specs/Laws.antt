-- The law that values of a normal form have their types.
use Rattle.std.specs.Prelude.{◌≡◌, ℕ, List, IsTrue}
use Rattle.lus_values.specs.Lists.{Each}
use Rattle.lus_values.specs.Values.{Row}
use Rattle.lus_program.specs.declared.node.Program.{Program as StoredProgram}
use Rattle.lus_program.specs.Literals.{HasDeclaredLiterals}
use Rattle.lus_program.specs.Resolved.{Resolved}
use Rattle.lus_program.specs.View.{program_seen}
use Rattle.lus_streams.specs.Order.{IsCausal}
use Rattle.lus_streams.specs.Streams.{World, Satisfies, Streams}
use Rattle.lus_typed_streams.specs.Laws.{EquationsFit, InputsHaveTypes, TypesHoldOver}
use Rattle.lus_typed_streams.specs.Types.{any_number, declares, has_shape}
use Rattle.lus_normal.specs.Laws.{AreMadeOf}

-- p' is what the code makes of p, which is resolved
pub record IsMadeOfResolved (p p' : StoredProgram) : Type 0 where
  pub resolved : Resolved (program_seen p)
  pub types : (program_seen p').types ≡ (program_seen p).types
  pub made : AreMadeOf (program_seen p) p.nodes.items p'.nodes.items

-- then each right side of p' gives the types of its left
abbrev pub NormalEquationsFit : Type 0
NormalEquationsFit = (p p' : StoredProgram) → IsMadeOfResolved p p' → EquationsFit (program_seen p')

-- and where it is causal, types hold in each of its worlds in which those of inputs do
abbrev pub NormalValuesHaveTypes : Type 0
NormalValuesHaveTypes =
    (p p' : StoredProgram) → IsMadeOfResolved p p' → IsCausal (program_seen p')
    → (f : ℕ) (w : World) → Satisfies (program_seen p') f w → Each (InputsHaveTypes (program_seen p') any_number f) w → TypesHoldOver (program_seen p') any_number f w

-- the constructors in the text of p' are those of p
abbrev pub NormalLiteralsAreDeclared : Type 0
NormalLiteralsAreDeclared = (p p' : StoredProgram) → IsMadeOfResolved p p' → HasDeclaredLiterals (program_seen p) → HasDeclaredLiterals (program_seen p')

-- so where p, as each sound program, declares its own, each value is one of a type that is declared
abbrev pub NormalValuesHaveDeclaredTypes : Type 0
NormalValuesHaveDeclaredTypes =
    (p p' : StoredProgram) → IsMadeOfResolved p p' → HasDeclaredLiterals (program_seen p) → IsCausal (program_seen p')
    → (f : ℕ) (w : World) → Satisfies (program_seen p') f w → Each (InputsHaveTypes (program_seen p') (declares (program_seen p')) f) w
    → TypesHoldOver (program_seen p') (declares (program_seen p')) f w

-- and so in its streams for inputs of its types
abbrev pub NormalStreamsHaveDeclaredTypes : Type 0
NormalStreamsHaveDeclaredTypes =
    (p p' : StoredProgram) → IsMadeOfResolved p p' → HasDeclaredLiterals (program_seen p) → IsCausal (program_seen p')
    → (f : ℕ) (lineage : List Row) (w : World) → Streams (program_seen p') f lineage w → Each (λ r. IsTrue (has_shape (program_seen p') f r)) lineage
    → TypesHoldOver (program_seen p') (declares (program_seen p')) f w
