-- The order in which the steps of a class are made.
use Rattle.std.specs.Prelude.{◌≡◌, ℕ, ◌<◌, ◌⊎◌, nat_lt, List, [], ◌∷◌, length}
use Rattle.lus_values.specs.Lists.{Each}
use Rattle.lus_classes.specs.ClassesOf.{InTurn}
use Rattle.lus_instructions.specs.declared.class.Class.{Class}
use Rattle.lus_instructions.specs.declared.class.Step.{Step}
use Rattle.lus_instructions.specs.declared.class.Step.TheVariants.{Give, Call}
use Rattle.lus_classes.specs.View.{steps_of, class_of}

-- a step makes call n
abbrev pub Makes : ℕ → Step → Type 0
Makes n (Give x d) = ⊥
Makes n (Call m ts) = n ≡ m

-- some step makes call n
abbrev pub AreMaking : ℕ → List Step → Type 0
AreMaking n [] = ⊥
AreMaking n (s ∷ ss) = Makes n s ⊎ AreMaking n ss

-- a step that makes a call makes one of so many, and gives some variable
abbrev pub GivesSome : ℕ → Step → Type 0
GivesSome count (Give x d) = Unit {0}
GivesSome count (Call n ts) = (n < count) × (0 < length ts.items)

-- each call is made by one step alone
abbrev pub AreOnce : List Step → Type 0
AreOnce [] = Unit {0}
AreOnce (Give x d ∷ ss) = AreOnce ss
AreOnce (Call n ts ∷ ss) = (AreMaking n ss → ⊥) × AreOnce ss

-- each step of a class reads what is known before it and gives what isn't; and each call is made, once
pub record HasTurns (c : Class) : Type 0 where
  pub turns : InTurn (class_of c) (steps_of c.steps.items) (λ x. nat_lt x c.inputs)
  pub given : Each (GivesSome (length c.calls.items)) c.steps.items
  pub every : (n : ℕ) → n < length c.calls.items → AreMaking n c.steps.items
  pub once : AreOnce c.steps.items
