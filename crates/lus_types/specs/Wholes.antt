-- What is elaborated: expressions of the program, with the types that they have by what the names in their text stand for.
use Rattle.std.specs.Prelude.{◌≡◌, ℕ, Box, List, Option, Some, None, Result, MatchResult, map, option_map}
use Rattle.std.specs.Global.{Global}
use Rattle.std.specs.Option.{option_and_then}
use Rattle.lus_syntax.specs.declared.tree.Part.{Part}
use Rattle.lus_syntax.specs.Lexemes.{Text}
use Rattle.lus_syntax.specs.Trees as tree
use Rattle.lus_syntax.specs.Trees.{Parts, parts_of}
use Rattle.lus_syntax.specs.View.{part_seen}
use Rattle.lus_program.specs.declared.expr.Expr.{Expr}
use Rattle.lus_program.specs.declared.types.Kind.{Kind}
use Rattle.lus_program.specs.Programs.{Expression, Operands}
use Rattle.lus_program.specs.View.{expression_of, operands_of}
use Rattle.lus_program.specs.Kinds.{where_true}
use Rattle.lus_program.specs.Resolved.{kind_of_variable, kinds_given_in, results, EquationFits}
use Rattle.lus_source.specs.Scopes.{Scope, entry}
use Rattle.lus_source.specs.Heads.{heads, head, kind_by, kinds_by}
use Rattle.lus_source.specs.Labels.{branch_place, branch_places, field_asked, fields_asked}
use Rattle.lus_source.specs.Meaning.{are_arguments, meant, targets_meant}
use Rattle.lus_source.specs.declared.fault.Fault.{Fault}
use Rattle.lus_source.specs.ScopeView.{Faulty}
use Rattle.lus_types.specs.declared.elaboration.forms.Elaborated.{Elaborated}
use Rattle.lus_types.specs.declared.elaboration.operands.Operands.{Operands as StoredOperands}
use Rattle.lus_types.specs.declared.elaboration.parts.Members.{Members}
use Rattle.lus_types.specs.declared.elaboration.parts.Members.TheVariants as members

-- the parts of a form, in the order of the text
abbrev pub parts_seen : List Part → Parts
parts_seen ps = parts_of (map part_seen ps)

-- what an elaborated expression means
abbrev pub meaning : Elaborated → Expression
meaning x = expression_of x.expr.value

-- what is sought is given, seen by `look`, and a fault at a place where there is nothing
abbrev pub Finds : {X A : Type 0} → Result X Fault → (X → A) → Option A → Type 0
Finds result look sought = MatchResult result (λ x. sought ≡ Some (look x)) (Faulty (sought ≡ None))

-- an expression of this type and meaning, or a fault at a place where there is no type
abbrev pub Elaborates : Result Elaborated Fault → Option Kind → Expression → Type 0
Elaborates result kind means = MatchResult result (λ x. (kind ≡ Some x.kind) × (meaning x ≡ means)) (Faulty (kind ≡ None))

module _ (s : Scope) where
  -- an expression with its type, or a fault at a place where it has none
  abbrev pub IsElaborated : Result Elaborated Fault → Expression → Type 0
  IsElaborated result means = Elaborates result (kind_by s means) means

  -- what is elaborated means this, and has the type beside it
  abbrev pub Means : Elaborated → Expression → Type 0
  Means x means = (kind_by s means ≡ Some x.kind) × (meaning x ≡ means)

  -- the operands mean these, and have the types beside them
  abbrev pub AllMean : StoredOperands → Operands → Type 0
  AllMean x means = (kinds_by s means ≡ Some x.kinds.items) × (operands_of x.exprs.items ≡ means)

  -- the place of the constructor or the field that a part names
  abbrev pub member_place : Members → Kind → tree.Lead → Option ℕ
  member_place members.Constructors k l = branch_place s k l
  member_place members.Fields k l = option_map (λ x. x.place) (field_asked s k l)

  -- the places of those that all parts name
  abbrev pub member_places : Members → Kind → Parts → Option (List ℕ)
  member_places members.Constructors k ps = branch_places s k ps
  member_places members.Fields k ps = option_map (map (λ x. x.place)) (fields_asked s k ps)

  -- the node that is called, with arguments alone
  abbrev pub callee : Text → Parts → Option ℕ
  callee f ps = option_and_then (λ g. where_true (are_arguments ps) (Some g.place)) (entry s.nodes f)

  -- that node and what it gives for arguments of these types
  abbrev pub called : Text → Parts → List Kind → Option (ℕ × List Kind)
  called f ps ks = option_and_then (λ n. option_map (λ ls. (n, ls)) (results (heads s) n ks)) (callee f ps)

  -- what a whole right side gives
  abbrev pub given_by : Expression → Option (List Kind)
  given_by means = kinds_given_in (heads s) (head s) means

  -- the variables have these types
  abbrev pub Take : List ℕ → List Kind → Type 0
  Take xs ks = map Some ks ≡ map (kind_of_variable (heads s) (head s)) xs

  -- the right side gives what the variables have
  abbrev pub Fits : List ℕ → Expression → Type 0
  Fits xs means = EquationFits (heads s) (head s) (record { targets = xs; right = means })

  -- a right side that gives what the variables have, or a fault at a place where it doesn't
  abbrev pub GivesTo : Result (Box Expr Global) Fault → List ℕ → Expression → Type 0
  GivesTo result xs means = MatchResult result (λ x. Fits xs means × (expression_of x.value ≡ means)) (Faulty (Fits xs means → ⊥))

  -- by what the names in its text stand for, its right side gives what the left has
  abbrev pub EquationTyped : tree.Equation → Type 0
  EquationTyped q = Fits (targets_meant s q.left) (meant s q.right)
