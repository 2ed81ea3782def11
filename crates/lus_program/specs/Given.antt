-- The type of an expression that has one, found without its tests: bool where nothing says which.
use Rattle.std.specs.Prelude.{ℕ, unwrap_or}
use Rattle.lus_values.specs.declared.operator.Operator.{Operator}
use Rattle.lus_values.specs.declared.operator.Operator.TheVariants as operators
use Rattle.lus_values.specs.Lists.{item}
use Rattle.lus_program.specs.declared.types.Kind.{Kind}
use Rattle.lus_program.specs.declared.types.Kind.TheVariants as kinds
use Rattle.lus_program.specs.Programs.{Expression, literal, variable, operate, pre, arrow, when, merge, call, Operands, none, more, Node, Program, no_variable, node_at}
use Rattle.lus_program.specs.Kinds.{value_kind}
use Rattle.lus_program.specs.Resolved.{field_kinds, operation_kind}

abbrev pub variable_given : Node → ℕ → Kind
variable_given f x = (item no_variable f.variables x).kind

-- the first output of a node
abbrev pub output_given : Program → ℕ → Kind
output_given p g = variable_given (node_at p g) (node_at p g).inputs

-- what an operator gives whose last operand is of this type
abbrev pub operator_given : Program → Operator → Kind → Kind
operator_given p (operators.Compute op) k = operation_kind op
operator_given p operators.If k = k
operator_given p (operators.Structure t) k = kinds.Struct t
operator_given p (operators.Field n) k = item kinds.Bool (field_kinds p k) n

module _ (p : Program) (f : Node) where
  abbrev mutual
    pub given : Expression → Kind
    given (literal v) = unwrap_or (value_kind v) kinds.Bool
    given (variable x) = variable_given f x
    given (operate o es) = operator_given p o (last_given kinds.Bool es)
    given (pre a) = given a
    given (arrow a b) = given a
    given (when t a) = given a
    given (merge x bs) = last_given kinds.Bool bs
    given (call g n es) = output_given p g

    -- the last of operands, k where there are none
    pub last_given : Kind → Operands → Kind
    last_given k none = k
    last_given k (more e es) = last_given (given e) es
