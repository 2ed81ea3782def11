-- Which literals stand in a program: each constructor among them is one that its enumeration declares.
use Rattle.std.specs.Prelude.{ℕ, Bool, nat_lt, IsTrue}
use Rattle.lus_values.specs.Lists.{Each}
use Rattle.lus_values.specs.Values.{Value, enum}
use Rattle.lus_program.specs.Programs.{Expression, literal, variable, operate, pre, arrow, when, merge, call, Operands, none, more, Program}
use Rattle.lus_program.specs.Kinds.{constructors_in}
use Rattle.lus_program.specs.Resolved.{declared_in}

-- something holds of each literal of an expression
module _ (Q : Value → Type 0) where
  abbrev mutual
    pub LiteralsAre : Expression → Type 0
    LiteralsAre (literal v) = Q v
    LiteralsAre (variable x) = Unit {0}
    LiteralsAre (operate o es) = AllLiteralsAre es
    LiteralsAre (pre a) = LiteralsAre a
    LiteralsAre (arrow a b) = LiteralsAre a × LiteralsAre b
    LiteralsAre (when t a) = LiteralsAre a
    LiteralsAre (merge x bs) = AllLiteralsAre bs
    LiteralsAre (call g c es) = AllLiteralsAre es

    pub AllLiteralsAre : Operands → Type 0
    AllLiteralsAre none = Unit {0}
    AllLiteralsAre (more e es) = LiteralsAre e × AllLiteralsAre es

-- a type's number and a constructor's own are those of one that the program declares
abbrev pub declares : Program → ℕ → ℕ → Bool
declares p t c = nat_lt c (constructors_in (declared_in p t))

-- a constructor is declared
abbrev pub IsDeclared : Program → Value → Type 0
IsDeclared p (enum t c) = IsTrue (declares p t c)
IsDeclared p v = Unit {0}

-- each constructor in the text of a program is declared
abbrev pub HasDeclaredLiterals : Program → Type 0
HasDeclaredLiterals p = Each (λ f. Each (λ q. LiteralsAre (IsDeclared p) q.right) f.equations) p.nodes
