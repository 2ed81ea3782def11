-- Steps that make calls.
use Rattle.std.specs.Prelude.{ℕ, ◌<◌, List, [], ◌∷◌, length}
use Rattle.lus_instructions.specs.declared.class.Step.{Step}
use Rattle.lus_instructions.specs.declared.class.Step.TheVariants.{Give, Call}

-- a step that makes a call gives some variable
abbrev pub GivesAny : Step → Type 0
GivesAny (Give x d) = Unit {0}
GivesAny (Call n ts) = 0 < length ts.items

-- the calls that steps make, in their order
abbrev pub calls_made : List Step → List ℕ
calls_made [] = []
calls_made (Give x d ∷ ss) = calls_made ss
calls_made (Call n ts ∷ ss) = n ∷ calls_made ss
