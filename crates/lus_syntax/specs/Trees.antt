-- The tree of a source as plain data, in the grammar's order and words.
use Rattle.std.specs.Prelude.{ℤ, Bool, List, [], ◌∷◌, Option}
use Rattle.lus_syntax.specs.declared.token.Span.{Span}
use Rattle.lus_syntax.specs.declared.tree.Prefix.{Prefix}
use Rattle.lus_syntax.specs.declared.tree.Infix.{Infix}
use Rattle.lus_syntax.specs.declared.tree.ListOperator.{ListOperator}
use Rattle.lus_syntax.specs.declared.tree.NodeKind.{NodeKind}
use Rattle.lus_syntax.specs.Lexemes.{Text}

-- a name where it stands
pub record Named : Type 0 where
  pub text : Text
  pub span : Span

abbrev pub named : Text → Span → Named
named text span = record { text = text; span = span }

-- a constructor, or a truth value
pub data Label : Type 0 where
  Constructor : Named → Label
  Boolean : Bool → Span → Label

-- when a clock ticks: `c`, `not c`, or `A(c)`, `true(c)`, `false(c)`
pub data Test : Type 0 where
  Holds : Named → Test
  Fails : Span → Named → Test
  Is : Label → Named → Test

-- what stands before the value of a part: nothing, a field's name, or a branch's parenthesis and label
pub data Lead : Type 0 where
  Plain : Lead
  Of : Named → Lead
  Branch : Span → Label → Lead

mutual
  pub data Expression : Type 0 where
    Numeral : ℤ → Span → Expression
    Truth : Bool → Span → Expression
    Name : Named → Expression
    Call : Named → Parts → Expression
    Structure : Named → Parts → Expression
    Merge : Span → Named → Parts → Expression
    Variadic : ListOperator → Span → Parts → Expression
    Field : Expression → Named → Expression
    Parentheses : Span → Expression → Expression
    When : Expression → Test → Expression
    Unary : Prefix → Span → Expression → Expression
    Binary : Infix → Expression → Expression → Expression
    If : Span → Expression → Expression → Expression → Expression

  -- arguments, operands, fields with their values, or branches
  pub data Parts : Type 0 where
    End : Parts
    More : Lead → Expression → Parts → Parts

abbrev pub parts_of : List (Lead × Expression) → Parts
parts_of [] = End
parts_of (p ∷ ps) = More p.0 p.1 (parts_of ps)

-- `bool`, `int`, or a declared type's name
pub data TypeName : Type 0 where
  BoolName : Span → TypeName
  IntName : Span → TypeName
  DeclaredName : Named → TypeName

-- fields of one type
pub record Fields : Type 0 where
  pub names : List Named
  pub type_name : TypeName

-- what a type's name stands for
pub data Definition : Type 0 where
  Alias : TypeName → Definition
  Enumeration : List Named → Definition
  StructureOf : List Fields → Definition

pub record TypeDeclaration : Type 0 where
  pub name : Named
  pub definition : Definition

-- the right side of a constant: a number, a minus and a number, a truth value, a constructor
pub data Literal : Type 0 where
  Positive : ℤ → Span → Literal
  Negative : Span → ℤ → Span → Literal
  TruthValue : Bool → Span → Literal
  ConstructorName : Named → Literal

pub record Constant : Type 0 where
  pub name : Named
  pub type_name : Option TypeName
  pub value : Literal

-- variables of one type on one clock
pub record Group : Type 0 where
  pub names : List Named
  pub type_name : TypeName
  pub test : Option Test

pub record Equation : Type 0 where
  pub left : List Named
  pub right : Expression

pub record Node : Type 0 where
  pub kind : NodeKind
  pub name : Named
  pub inputs : List Group
  pub outputs : List Group
  pub locals : List Group
  pub equations : List Equation

-- the declarations of a source, each kind in the order in which they stand
pub record Tree : Type 0 where
  pub types : List TypeDeclaration
  pub constants : List Constant
  pub nodes : List Node
