-- What a program keeps that a well-formed tree means. Passes after types rely on this, and on nothing of the tree.
use Rattle.std.specs.Prelude.{◌≡◌, ◌+◌, ◌++◌, ◌<◌, ◌≤◌, ℕ, Bool, true, false, List, [], ◌∷◌, Option, Some, None, map, flat_map, length, nat_eq, nat_lt, take, drop, slice_get, option_map, IsTrue}
use Rattle.std.specs.List.{list_all}
use Rattle.std.specs.Option.{option_and_then}
use Rattle.lus_values.specs.declared.operator.Op.{Op}
use Rattle.lus_values.specs.declared.operator.Shape.{Shape}
use Rattle.lus_values.specs.declared.operator.Shape.TheVariants as shapes
use Rattle.lus_values.specs.declared.operator.Operator.{Operator}
use Rattle.lus_values.specs.declared.operator.Operator.TheVariants as operators
use Rattle.lus_values.specs.Lists.{item, Each, Below}
use Rattle.lus_values.specs.Operators.{shape}
use Rattle.lus_values.specs.declared.test.Test.{Test}
use Rattle.lus_program.specs.declared.types.Kind.{Kind}
use Rattle.lus_program.specs.declared.types.Kind.TheVariants as kinds
use Rattle.lus_program.specs.Programs.{Expression, literal, variable, operate, pre, arrow, when, merge, call, Operands, none, more, calls, numbered, Declared, Variable, Equation, Node, Program}
use Rattle.lus_graph.specs.Ways.{Uses, HasNoWayBack}
use Rattle.lus_program.specs.Kinds.{same, all_same, where_true, alike, choice_kind, value_kind, the_one, common_kind, count, fields_in, constructors_in, nothing_declared}

-- whether an operator of this shape takes operands of these types (Lustre V6 reference manual, "Predefined operators")
abbrev pub takes : Shape → List Kind → Bool
takes shapes.Int ks = all_same (kinds.Int ∷ []) ks
takes shapes.Ints ks = all_same (kinds.Int ∷ kinds.Int ∷ []) ks
takes shapes.Comparison ks = all_same (kinds.Int ∷ kinds.Int ∷ []) ks
takes shapes.Bool ks = all_same (kinds.Bool ∷ []) ks
takes shapes.Bools ks = all_same (kinds.Bool ∷ kinds.Bool ∷ []) ks
takes shapes.Alike (k ∷ l ∷ []) = same k l
takes shapes.Count (k ∷ ks) = list_all (same kinds.Bool) (k ∷ ks)
takes s ks = false

-- what one of this shape gives
abbrev pub shape_kind : Shape → Kind
shape_kind shapes.Int = kinds.Int
shape_kind shapes.Ints = kinds.Int
shape_kind s = kinds.Bool

-- what an operation gives, whatever its operands
abbrev pub operation_kind : Op → Kind
operation_kind op = shape_kind (shape op)

-- what it gives for operands of these types
abbrev pub op_kind : Op → List Kind → Option Kind
op_kind op ks = where_true (takes (shape op) ks) (Some (operation_kind op))

abbrev pub if_kind : List Kind → Option Kind
if_kind (c ∷ k ∷ l ∷ []) = choice_kind c k l
if_kind ks = None

abbrev pub input_kinds : Node → List Kind
input_kinds f = map (λ v. v.kind) (take f.inputs f.variables)

abbrev pub output_kinds : Node → List Kind
output_kinds f = map (λ v. v.kind) (take f.outputs (drop f.inputs f.variables))

module _ (p : Program) where
  abbrev pub declared_in : ℕ → Declared
  declared_in t = item nothing_declared p.types t

  -- how many values a clock of this type may hold: those of bool or of an enumeration
  abbrev pub values_of : Kind → ℕ
  values_of kinds.Bool = 2
  values_of (kinds.Enum t) = constructors_in (declared_in t)
  values_of k = 0

  abbrev pub field_kinds : Kind → List Kind
  field_kinds (kinds.Struct t) = map (λ f. f.kind) (fields_in (declared_in t))
  field_kinds k = []

  abbrev pub projected : ℕ → List Kind → Option Kind
  projected n (k ∷ []) = slice_get (field_kinds k) n
  projected n ks = None

  abbrev pub operator_kind : Operator → List Kind → Option Kind
  operator_kind (operators.Compute op) ks = op_kind op ks
  operator_kind operators.If ks = if_kind ks
  operator_kind (operators.Structure t) ks = where_true (all_same (field_kinds (kinds.Struct t)) ks) (Some (kinds.Struct t))
  operator_kind (operators.Field n) ks = projected n ks

  abbrev pub call_results : List Kind → Node → Option (List Kind)
  call_results ks g = where_true (all_same (input_kinds g) ks) (Some (output_kinds g))

  -- what a call of a node of the program gives, for arguments of these types
  abbrev pub results : ℕ → List Kind → Option (List Kind)
  results g ks = option_and_then (call_results ks) (slice_get p.nodes g)

  module _ (f : Node) where
    abbrev pub kind_of_variable : ℕ → Option Kind
    kind_of_variable x = option_map (λ v. v.kind) (slice_get f.variables x)

    -- the test's variable may hold its constructor
    abbrev pub test_fits : Test → Bool
    test_fits t = elim (kind_of_variable t.variable) [ Some k ↦ nat_lt t.constructor (values_of k) | None ↦ false ]

    -- branches of one type, one for each value of the variable
    abbrev pub merged : List Kind → Kind → Option Kind
    merged ks k = where_true (nat_eq (length ks) (values_of k)) (common_kind ks)

    -- the types of a program's expressions
    abbrev mutual
      pub kind_in : Expression → Option Kind
      kind_in (literal v) = value_kind v
      kind_in (variable x) = kind_of_variable x
      kind_in (operate o es) = option_and_then (operator_kind o) (kinds_in es)
      kind_in (pre a) = kind_in a
      kind_in (arrow a b) = option_and_then (λ k. option_and_then (alike k) (kind_in b)) (kind_in a)
      kind_in (when t a) = option_and_then (λ k. where_true (test_fits t) (Some k)) (kind_in a)
      kind_in (merge x bs) = option_and_then (λ ks. option_and_then (merged ks) (kind_of_variable x)) (kinds_in bs)
      kind_in (call g c es) = option_and_then (λ ks. option_and_then the_one (results g ks)) (kinds_in es)

      pub kinds_in : Operands → Option (List Kind)
      kinds_in none = Some []
      kinds_in (more e es) = option_and_then (λ k. option_map (λ ks. k ∷ ks) (kinds_in es)) (kind_in e)

    -- what a whole right side gives
    abbrev pub kinds_given_in : Expression → Option (List Kind)
    kinds_given_in (call g c es) = option_and_then (results g) (kinds_in es)
    kinds_given_in e = option_map (λ k. k ∷ []) (kind_in e)

    -- the right side gives what the left has
    abbrev pub EquationFits : Equation → Type 0
    EquationFits q = option_map (map Some) (kinds_given_in q.right) ≡ Some (map kind_of_variable q.targets)

    abbrev pub VariableFits : Variable → Type 0
    VariableFits v = elim v.test [ None ↦ Unit {0} | Some t ↦ IsTrue (test_fits t) ]

-- the calls of equations are numbered by their places, from n on
abbrev pub AreNumbered : ℕ → List Equation → Type 0
AreNumbered n [] = Unit {0}
AreNumbered n (q ∷ qs) = (numbered n q.right ≡ q.right) × AreNumbered (n + calls q.right) qs

abbrev pub targets_of : Node → List ℕ
targets_of f = flat_map (λ q. q.targets) f.equations

abbrev pub definitions : Node → ℕ → ℕ
definitions f x = elim (nat_lt x f.inputs) [ true ↦ 0 | false ↦ 1 ]

-- outputs and locals are defined, each once; inputs aren't
abbrev pub IsDefined : Node → ℕ → Type 0
IsDefined f x = count x (targets_of f) ≡ definitions f x

pub record NodeResolved (p : Program) (f : Node) : Type 0 where
  pub formals : f.inputs + f.outputs ≤ length f.variables
  pub variables : Each (VariableFits p f) f.variables
  pub targets : Each (λ x. x < length f.variables) (targets_of f)
  pub defined : Below (length f.variables) (IsDefined f)
  pub lefts : Each (λ q. 0 < length q.targets) f.equations
  pub equations : Each (EquationFits p f) f.equations
  pub numbered : AreNumbered 0 f.equations

-- the nodes that an expression calls
abbrev mutual
  pub nodes_called : Expression → List ℕ
  nodes_called (literal v) = []
  nodes_called (variable x) = []
  nodes_called (operate o es) = all_nodes_called es
  nodes_called (pre a) = nodes_called a
  nodes_called (arrow a b) = nodes_called a ++ nodes_called b
  nodes_called (when t a) = nodes_called a
  nodes_called (merge x bs) = all_nodes_called bs
  nodes_called (call g c es) = g ∷ all_nodes_called es

  pub all_nodes_called : Operands → List ℕ
  all_nodes_called none = []
  all_nodes_called (more e es) = nodes_called e ++ all_nodes_called es

-- the nodes that each node calls
abbrev pub program_uses : Program → Uses
program_uses p = map (λ f. flat_map (λ q. nodes_called q.right) f.equations) p.nodes

-- each node is well typed and defines its variables, and none calls itself, directly or round
pub record Resolved (p : Program) : Type 0 where
  pub nodes : Each (NodeResolved p) p.nodes
  pub loopless : HasNoWayBack (program_uses p)
