-- Classes, in the way of object code (Biernacki, Colaço, Hamon and Pouzet 2008): for each node the steps that give its
-- variables at an instant, the memories and first-flags that are kept from one instant to the next, and the calls.
use Rattle.std.specs.Prelude.{ℕ, List, [], ◌∷◌, ◌++◌, Option, Some, None, slice_get}
use Rattle.lus_values.specs.declared.operator.Operator.{Operator}
use Rattle.lus_values.specs.Lists.{item}
use Rattle.lus_values.specs.Values.{Value}
use Rattle.lus_streams.specs.Clocks.{Clock}
use Rattle.lus_streams.specs.Order.{clock_variables}

-- a constant or a variable
pub data Atom : Type 0 where
  constant : Value → Atom
  named : ℕ → Atom

-- what a step computes: a value, what a variable holds, the result of an operator, what a cell keeps, the first code or the
-- later one as a first-flag says, the code of the constructor that a variable holds, or a variable of a called node
mutual
  pub data Code : Type 0 where
    fixed : Value → Code
    fetch : ℕ → Code
    compute : Operator → Codes → Code
    recall : (cell : ℕ) → Code
    choose : (flag : ℕ) → (first later : Code) → Code
    select : ℕ → Codes → Code
    answer : (call place : ℕ) → Code

  pub data Codes : Type 0 where
    no_code : Codes
    also_code : Code → Codes → Codes

-- a variable and its code, which is run where the variable's clock is present
pub record Step : Type 0 where
  pub target : ℕ
  pub code : Code

-- a cell keeps what its operand held at the last instant of its clock
pub record Memory : Type 0 where
  pub clock : Clock
  pub operand : Atom

-- what is passed to an input of a called node, on the clock of that input
pub record Argument : Type 0 where
  pub clock : Clock
  pub atom : Atom

-- a call of a node, which runs where the base is present
pub record Call : Type 0 where
  pub node : ℕ
  pub base : Clock
  pub arguments : List Argument

-- a class: how many of the variables are inputs, the clock of each variable, the steps in the order in which they are made,
-- the memory of each cell, the clock of each first-flag, and the calls by their numbers
pub record Class : Type 0 where
  pub inputs : ℕ
  pub clocks : List Clock
  pub steps : List Step
  pub memories : List Memory
  pub firsts : List Clock
  pub calls : List Call

-- a class without variables, for a number that no node has
abbrev pub empty_class : Class
empty_class = record { inputs = 0; clocks = []; steps = []; memories = []; firsts = []; calls = [] }

-- the class of a node, by the node's number
abbrev pub class_at : List Class → ℕ → Class
class_at classes g = item empty_class classes g

-- the clock of a variable
abbrev pub clock_in : Class → ℕ → Clock
clock_in c x = item [] c.clocks x

-- the variables that an atom reads at the same instant
abbrev pub atom_reads : Atom → List ℕ
atom_reads (constant v) = []
atom_reads (named x) = x ∷ []

-- the variables that arguments read, and those of their clocks
abbrev pub argument_reads : List Argument → List ℕ
argument_reads [] = []
argument_reads (a ∷ rest) = clock_variables a.clock ++ (atom_reads a.atom ++ argument_reads rest)

-- the variables that a call reads
abbrev pub call_reads : Option Call → List ℕ
call_reads None = []
call_reads (Some q) = clock_variables q.base ++ argument_reads q.arguments

-- the variables that a code reads at the same instant
abbrev mutual
  pub reads : Class → Code → List ℕ
  reads c (fixed v) = []
  reads c (fetch x) = x ∷ []
  reads c (compute o ds) = reads_all c ds
  reads c (recall j) = []
  reads c (choose j a b) = reads c a ++ reads c b
  reads c (select x ds) = x ∷ reads_all c ds
  reads c (answer n m) = call_reads (slice_get c.calls n)

  pub reads_all : Class → Codes → List ℕ
  reads_all c no_code = []
  reads_all c (also_code d ds) = reads c d ++ reads_all c ds
