-- Flags, by which a program shows where nil can stand: false (0), never nil; true (1), nil at most at the first instant of
-- the clock. They make exact what Halbwachs, Caspi, Raymond and Pilaud 1991 ask of `pre` and `->` on initial values.
use Rattle.std.specs.Prelude.{◌≡◌, ℕ, ◌+◌, ◌<◌, Bool, true, false, ◌&&◌, ◌||◌, [], ◌∷◌, length, Option, Some, None, IsTrue, IsFalse}
use Rattle.lus_values.specs.Lists.{Each, Below}
use Rattle.lus_values.specs.Values.{Value, struct, nil, Fields, end, field}
use Rattle.lus_program.specs.Programs.{Expression, literal, variable, operate, pre, arrow, when, merge, call, Operands, none, more, Node, Program, node_at}
use Rattle.lus_streams.specs.Clocks.{Clock, clock_of, Part, at}
use Rattle.lus_streams.specs.Equations.{Definition, given_by, definition_of, node_parts}
use Rattle.lus_streams.specs.Order.{clock_variables}
use Rattle.lus_streams.specs.Streams.{Instant, World, entry, is_on, value}

-- no nil in it, at any depth
abbrev mutual
  pub nil_free : Value → Bool
  nil_free (struct fs) = nil_free_fields fs
  nil_free nil = false
  nil_free _ = true

  pub nil_free_fields : Fields → Bool
  nil_free_fields end = true
  nil_free_fields (field v fs) = nil_free v && nil_free_fields fs

-- absent, or a value with no nil in it
abbrev pub IsNilFree : Option Value → Type 0
IsNilFree None = Unit {0}
IsNilFree (Some v) = IsTrue (nil_free v)

module _ (flags : ℕ → Bool) where
  -- the flag of an expression, where each variable has the one that it is assigned
  abbrev mutual
    pub flag : Expression → Bool
    flag (literal v) = false
    flag (variable x) = flags x
    flag (operate o es) = greatest es
    flag (pre a) = true
    flag (arrow a b) = flag a
    flag (when t a) = flag a
    flag (merge x bs) = false
    flag (call g c args) = false

    -- the greatest flag of the operands
    pub greatest : Operands → Bool
    greatest none = false
    greatest (more e es) = flag e || greatest es

  -- what a part requires: 0 of the operand of `pre`, a variable that is tested, a branch of a merge
  -- and an argument; a literal isn't nil
  abbrev pub Required : Part → Type 0
  Required (at k (literal v)) = IsTrue (nil_free v)
  Required (at k (pre a)) = IsFalse (flag a)
  Required (at k (when t a)) = IsFalse (flags t.variable)
  Required (at k (merge x bs)) = IsFalse (flags x) × IsFalse (greatest bs)
  Required (at k (call g c args)) = IsFalse (greatest args)
  Required _ = Unit {0}

  -- a defined variable has its right side's flag, so 0 on the left of a call
  abbrev pub DefinedFlag : ℕ → Option Definition → Type 0
  DefinedFlag x None = Unit {0}
  DefinedFlag x (Some (given_by e n xs k)) = flags x ≡ flag e

  -- an assignment of flags to the variables of f meets all requirements: inputs, outputs and clock variables have 0
  pub record AreFlagsOf (p : Program) (f : Node) : Type 0 where
    pub public : Below (f.inputs + f.outputs) (λ x. IsFalse (flags x))
    pub tested : Below (length f.variables) (λ x. Each (λ y. IsFalse (flags y)) (clock_variables (clock_of f x)))
    pub defined : Below (length f.variables) (λ x. DefinedFlag x (definition_of f x))
    pub parts : Each Required (node_parts p f)

-- each node has an assignment of flags
abbrev pub IsFlagged : Program → Type 0
IsFlagged p = Each (λ f. (flags : ℕ → Bool) × AreFlagsOf flags p f) p.nodes

-- the clock was present before
abbrev pub was_on : Clock → World → Bool
was_on k [] = false
was_on k (i ∷ past) = is_on k i || was_on k past

-- a flag holds of an entry, of which we know whether its clock was present before: where the flag is 0 it isn't nil, and
-- where the clock was present it isn't either
abbrev pub FlagHolds : Bool → Bool → Option Value → Type 0
FlagHolds b later o = (b ≡ false → IsNilFree o) × (later ≡ true → IsNilFree o)

module _ (p : Program) (flags : ℕ → Bool) (now : Instant) (past : World) where
  abbrev pub VariableFlagHolds : Node → ℕ → Type 0
  VariableFlagHolds f x = FlagHolds (flags x) (was_on (clock_of f x) past) (entry now x)

  abbrev pub PartFlagHolds : Part → Type 0
  PartFlagHolds (at k e) = FlagHolds (flag flags e) (was_on k past) (value p e k now past)

  -- the flags of the variables and of every expression of f hold at an instant
  pub record FlagsHold (f : Node) : Type 0 where
    pub variables : (x : ℕ) → VariableFlagHolds f x
    pub parts : Each PartFlagHolds (node_parts p f)

-- a called node has an output, and each variable on the left of a call one of its own, as types promise
abbrev pub OutputIs : Program → Option Definition → Type 0
OutputIs p None = Unit {0}
OutputIs p (Some (given_by (call g c args) n xs k)) = n < (node_at p g).outputs
OutputIs p (Some (given_by e n xs k)) = Unit {0}

abbrev pub HasOutput : Program → Part → Type 0
HasOutput p (at k (call g c args)) = 0 < (node_at p g).outputs
HasOutput p _ = Unit {0}

pub record CallsHaveOutputs (p : Program) (f : Node) : Type 0 where
  pub parts : Each (HasOutput p) (node_parts p f)
  pub defined : Below (length f.variables) (λ x. OutputIs p (definition_of f x))
