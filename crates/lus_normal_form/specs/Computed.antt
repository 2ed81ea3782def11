-- What is computed of a node is its normal form.
use Rattle.std.specs.Prelude.{ℕ, suc, ◌<◌, ◌≤◌, List}
use Rattle.lus_values.specs.Lists.{Each}
use Rattle.lus_program.specs.Programs.{Expression, call, Operands, none, more, Node, Program, node_at}
use Rattle.lus_program.specs.Parts.{node_parts as parts_in}
use Rattle.lus_streams.specs.Clocks.{Clock, clock_of, Part, at, operand, parts}
use Rattle.lus_streams.specs.Equations.{node_parts}
use Rattle.lus_streams.specs.OnClock.{IsName, ProgramOnClocks}
use Rattle.lus_program.specs.Resolved.{Resolved}
use Rattle.lus_normal_form.specs.NormalForm.{IsRight, StandsFor}
use Rattle.lus_normal_form.specs.NormalNodes.{EachFrom, IsNormalOf, IsWithin}
use Rattle.lus_normal_form.specs.Forms.{right_form, equations_count}
use Rattle.lus_normal_form.specs.Nodes.{IsMadeFrom}
use Rattle.lus_normal_form.specs.Parts.{right_taken, node_taken}

-- the arguments from formal m on stand for inputs of g, and names for what the clocks of these test
abbrev pub HaveFormals : Node → Operands → Operands → ℕ → Type 0
HaveFormals g args none m = Unit {0}
HaveFormals g args (more e es) m =
    (m < g.inputs) × Each (λ t. IsName (operand args t.variable)) (clock_of g m) × HaveFormals g args es (suc m)

-- the arguments of a part that is a call stand for the inputs of the called node
abbrev pub HasFormals : Program → Part → Type 0
HasFormals p (at k (call g c args)) = HaveFormals (node_at p g) args args 0
HasFormals p e = Unit {0}

-- New y k a says that y is the new variable for a on k
module _ (p : Program) (New : ℕ → Clock → Expression → Type 0) where
  -- y is the new variable of a part
  abbrev pub IsNew : ℕ → Part → Type 0
  IsNew y (at k a) = New y k a

  -- what is computed of a part with variable y is its normal form
  abbrev pub IsRightOf : ℕ → Part → Type 0
  IsRightOf y (at k a) = IsRight p New a (right_form (suc y) a) k

-- the normal form that is computed of a right side is one, and so are those of all that is taken out of it, where the
-- variables from w on are for all these parts, and those from n on for what is taken out of it
abbrev pub RightsAreNormal : Type 0
RightsAreNormal =
    (p : Program) (w : ℕ) (all : List Part) (e : Expression) (k : Clock) (n : ℕ)
    → Each (HasFormals p) (parts p e k) → EachFrom (IsNew p (StandsFor w all)) n (right_taken p e k)
    → IsRight p (StandsFor w all) e (right_form n e) k × EachFrom (IsRightOf p (StandsFor w all)) n (right_taken p e k)

-- what is taken out of a node is among its parts
abbrev pub TakenAreWithin : Type 0
TakenAreWithin = (p : Program) (f : Node) → Each (IsWithin p (node_parts p f)) (node_taken p f)

-- a node's normal form has no more new variables than the node has parts
abbrev pub NewAreFew : Type 0
NewAreFew = (f : Node) → equations_count f.equations ≤ parts_in f

-- a program each of whose nodes is made from that of a resolved program on clocks is its normal form
abbrev pub MadeAreNormal : Type 0
MadeAreNormal =
    (p p' : Program) → Resolved p → ProgramOnClocks p → ((g : ℕ) → IsMadeFrom p (node_at p g) (node_at p' g))
    → IsNormalOf p p' (λ g. node_taken p (node_at p g))
