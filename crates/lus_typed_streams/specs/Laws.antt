-- The law that values of streams have their types.
use Rattle.std.specs.Prelude.{ℕ, List, [], ◌∷◌, take, IsTrue}
use Rattle.lus_values.specs.Lists.{Each}
use Rattle.lus_values.specs.Values.{Row, enum}
use Rattle.lus_program.specs.Programs.{literal, Node, Program, node_at}
use Rattle.lus_program.specs.Given.{variable_given, given}
use Rattle.lus_program.specs.Literals.{HasDeclaredLiterals}
use Rattle.lus_program.specs.Resolved.{EquationFits, Resolved, input_kinds}
use Rattle.lus_streams.specs.Clocks.{Part, at}
use Rattle.lus_streams.specs.Equations.{node_parts}
use Rattle.lus_streams.specs.Order.{IsCausal}
use Rattle.lus_streams.specs.Streams.{Instant, World, row_of, entry, value, Satisfies, Streams}
use Rattle.lus_streams.specs.Throughout.{Throughout}
use Rattle.lus_typed_streams.specs.Types.{Constructors, declares, any_number, HasType, HaveTypes, has_shape}

-- a literal in the text that is a constructor is one of these
abbrev pub IsLiteralOf : Constructors → Part → Type 0
IsLiteralOf constructors (at k (literal (enum t c))) = IsTrue (constructors t c)
IsLiteralOf constructors _ = Unit {0}

-- the literals of a program are these constructors
abbrev pub HasLiteralsOf : Program → Constructors → Type 0
HasLiteralsOf p constructors = Each (λ f. Each (IsLiteralOf constructors) (node_parts p f)) p.nodes

-- each right side gives the types of its left, in each node
abbrev pub EquationsFit : Program → Type 0
EquationsFit p = Each (λ f. Each (EquationFits p f) f.equations) p.nodes

module _ (p : Program) (constructors : Constructors) where
  -- the value of an expression has the expression's type
  abbrev pub PartHasType : Node → Instant → World → Part → Type 0
  PartHasType f now past (at k e) = HasType p constructors (given p f e) (value p e k now past)

  -- at an instant of node f its variables have their types, and so has each expression in its text
  pub record TypesHold (f : ℕ) (now : Instant) (past : World) : Type 0 where
    pub variables : (x : ℕ) → HasType p constructors (variable_given (node_at p f) x) (entry now x)
    pub parts : Each (PartHasType (node_at p f) now past) (node_parts p (node_at p f))

  -- at each instant of a world of node f, and at those of every node that it calls, directly or round
  abbrev pub TypesHoldOver : ℕ → World → Type 0
  TypesHoldOver f [] = Unit {0}
  TypesHoldOver f (now ∷ past) = Throughout p TypesHold now f past × TypesHoldOver f past

  -- the inputs of node f have their types at an instant
  abbrev pub InputsHaveTypes : ℕ → Instant → Type 0
  InputsHaveTypes f now = HaveTypes p constructors (input_kinds (node_at p f)) (take (node_at p f).inputs (row_of now))

-- in each world of a causal program whose equations fit types hold, where those of inputs do
abbrev pub ValuesHaveTypes : Type 0
ValuesHaveTypes =
    (p : Program) (constructors : Constructors) → EquationsFit p → HasLiteralsOf p constructors → IsCausal p
    → (f : ℕ) (w : World) → Satisfies p f w → Each (InputsHaveTypes p constructors f) w → TypesHoldOver p constructors f w

-- in streams of a resolved program for inputs of its types each value has its type, but that a constructor's number may be any
abbrev pub StreamsHaveTypes : Type 0
StreamsHaveTypes =
    (p : Program) → Resolved p → IsCausal p
    → (f : ℕ) (lineage : List Row) (w : World) → Streams p f lineage w → Each (λ r. IsTrue (has_shape p f r)) lineage → TypesHoldOver p any_number f w

-- where literals are constructors that the program declares, as those of a sound program are, each value is one of them
abbrev pub StreamsHaveDeclaredTypes : Type 0
StreamsHaveDeclaredTypes =
    (p : Program) → Resolved p → HasDeclaredLiterals p → IsCausal p
    → (f : ℕ) (lineage : List Row) (w : World) → Streams p f lineage w → Each (λ r. IsTrue (has_shape p f r)) lineage → TypesHoldOver p (declares p) f w
