-- The program that a tree means: names become places (Halbwachs, Caspi, Raymond and Pilaud 1991, on variables and equations; Lustre V6
-- reference manual, "Nodes"). What has no meaning, as a field that its structure hasn't, means nil, which has no type.
use Rattle.std.specs.Prelude.{◌&&◌, ◌+◌, ℕ, zero, suc, Bool, true, false, List, [], ◌∷◌, Option, Some, None, cond, map, flat_map, length, nat_eq, option_map, unwrap_or}
use Rattle.std.specs.Option.{option_and_then}
use Rattle.lus_syntax.specs.Lexemes.{Text}
use Rattle.lus_syntax.specs.declared.tree.Prefix.{Prefix}
use Rattle.lus_syntax.specs.declared.tree.Prefix.TheVariants as prefixes
use Rattle.lus_syntax.specs.declared.tree.Infix.{Infix}
use Rattle.lus_syntax.specs.declared.tree.Infix.TheVariants as infixes
use Rattle.lus_syntax.specs.declared.tree.ListOperator.{ListOperator}
use Rattle.lus_syntax.specs.declared.tree.ListOperator.TheVariants as list_operators
use Rattle.lus_syntax.specs.Trees as tree
use Rattle.lus_syntax.specs.Trees.{Named, Numeral, Truth, Name, Call, Structure, Merge, Variadic, Field, Parentheses, When, Unary, Binary, If, Lead, Plain, Parts, End, More, Group, Tree}
use Rattle.lus_values.specs.declared.operator.Op.{Op}
use Rattle.lus_values.specs.declared.operator.Op.TheVariants as ops
use Rattle.lus_values.specs.declared.operator.Operator.TheVariants as operators
use Rattle.lus_values.specs.Values.{bool, int, nil}
use Rattle.lus_values.specs.declared.test.Test.{Test}
use Rattle.lus_program.specs.declared.types.Kind.{Kind}
use Rattle.lus_program.specs.declared.types.Kind.TheVariants as kinds
use Rattle.lus_program.specs.Programs.{Expression, literal, variable, operate, pre, arrow, fby, when, merge, call, Operands, none, more, calls, numbered, Variable, Equation, Node, Program}
use Rattle.lus_program.specs.Kinds.{where_true}
use Rattle.lus_source.specs.Scopes.{Scope, entry}
use Rattle.lus_source.specs.Heads.{kind_by}
use Rattle.lus_source.specs.Tables.{scope, groups, group_kinds, kind_named, declared_as}
use Rattle.lus_source.specs.Labels.{each_once, name_value, size_of, fields_of, field_named, branch_places, fields_asked, test_placed}

-- what a found thing means
abbrev pub where_found : {X : Type 0} → Option X → (X → Expression) → Expression
where_found found means = elim found [ Some x ↦ means x | None ↦ literal nil ]

abbrev pub one : Expression → Operands
one e = more e none

abbrev pub two : Expression → Expression → Operands
two a b = more a (one b)

abbrev pub prefix_meant : Prefix → Expression → Expression
prefix_meant prefixes.Not a = operate (operators.Compute ops.Not) (one a)
prefix_meant prefixes.Negate a = operate (operators.Compute ops.Negate) (one a)
prefix_meant prefixes.Pre a = pre a

abbrev pub infix_meant : Infix → Expression → Expression → Expression
infix_meant infixes.Fby a b = fby a b
infix_meant infixes.Arrow a b = arrow a b
infix_meant (infixes.Compute op) a b = operate (operators.Compute op) (two a b)

abbrev pub is_argument : Lead → Bool
is_argument Plain = true
is_argument l = false

-- operands and arguments have nothing before them
abbrev pub are_arguments : Parts → Bool
are_arguments End = true
are_arguments (More l e ps) = is_argument l && are_arguments ps

abbrev pub list_operation : ListOperator → Op
list_operation list_operators.AtMostOne = ops.AtMostOne
list_operation list_operators.Nor = ops.Nor

abbrev pub variadic_meant : ListOperator → Parts → Operands → Expression
variadic_meant op ps es = cond (are_arguments ps) (operate (operators.Compute (list_operation op)) es) (literal nil)

-- the operand beside the number c
abbrev pub beside : ℕ → List ℕ → Operands → Expression
beside c (n ∷ ns) (more e es) = cond (nat_eq c n) e (beside c ns es)
beside c ns es = literal nil

-- n operands, in the order of the numbers beside them, from c on
abbrev pub in_order_from : ℕ → ℕ → List ℕ → Operands → Operands
in_order_from c zero ns es = none
in_order_from c (suc n) ns es = more (beside c ns es) (in_order_from (suc c) n ns es)

abbrev pub in_order : ℕ → List ℕ → Operands → Operands
in_order n ns es = in_order_from 0 n ns es

-- operands in the order of the numbers beside them, where each below n stands exactly once and no other does
abbrev pub arranged : ℕ → Operands → List ℕ → Option Operands
arranged n es ns = where_true (each_once n ns) (Some (in_order n ns es))

module _ (s : Scope) where
  abbrev pub variable_place : Text → ℕ
  variable_place n = elim (entry s.variables n) [ Some x ↦ x.place | None ↦ 0 ]

  -- a variable hides a value of its name
  abbrev pub name_meant : Text → Expression
  name_meant n = elim (entry s.variables n) [ Some x ↦ variable x.place | None ↦ literal (unwrap_or (name_value s n) nil) ]

  abbrev pub call_meant : Text → Parts → Operands → Expression
  call_meant f ps es = where_found (entry s.nodes f) (λ g. cond (are_arguments ps) (call g.place 0 es) (literal nil))

  -- a field by its place among those of its structure's type
  abbrev pub field_meant : Option Kind → Text → Expression → Expression
  field_meant k x a = where_found (option_and_then (λ l. field_named (fields_of s l) x) k) (λ f. operate (operators.Field f.place) (one a))

  -- each constructor of the type stands before exactly one branch: branches in the order of the constructors
  abbrev pub branches_meant : Kind → Parts → Operands → Option Operands
  branches_meant k bs es = option_and_then (arranged (size_of s k) es) (branch_places s k bs)

  abbrev pub merge_meant : Text → Parts → Operands → Expression
  merge_meant c bs es = where_found (entry s.variables c) (λ x. where_found (branches_meant x.kind bs es) (merge x.place))

  -- each field of the type stands exactly once: fields in the order of their declaration
  abbrev pub fields_meant : Kind → Parts → Operands → Option Operands
  fields_meant k fs es = option_and_then (λ xs. arranged (length (fields_of s k)) es (map (λ x. x.place) xs)) (fields_asked s k fs)

  -- only a structure's type has values written as structures
  abbrev pub structure_of : Kind → Parts → Operands → Expression
  structure_of (kinds.Struct t) fs es = where_found (fields_meant (kinds.Struct t) fs es) (operate (operators.Structure t))
  structure_of k fs es = literal nil

  abbrev pub structure_meant : Text → Parts → Operands → Expression
  structure_meant t fs es = where_found (entry s.types t) (λ k. structure_of k fs es)

  abbrev mutual
    pub meant : tree.Expression → Expression
    meant (Numeral z p) = literal (int z)
    meant (Truth b p) = literal (bool b)
    meant (Name n) = name_meant n.text
    meant (Call f es) = call_meant f.text es (all_meant es)
    meant (Structure t fs) = structure_meant t.text fs (all_meant fs)
    meant (Merge p c bs) = merge_meant c.text bs (all_meant bs)
    meant (Variadic op p es) = variadic_meant op es (all_meant es)
    meant (Field a x) = field_meant (kind_by s (meant a)) x.text (meant a)
    meant (Parentheses p a) = meant a
    meant (When a t) = where_found (test_placed s t) (λ u. when u (meant a))
    meant (Unary op p a) = prefix_meant op (meant a)
    meant (Binary op a b) = infix_meant op (meant a) (meant b)
    meant (If p c a b) = operate operators.If (more (meant c) (two (meant a) (meant b)))

    -- the values of parts, in the order of the text
    pub all_meant : Parts → Operands
    all_meant End = none
    all_meant (More l e ps) = more (meant e) (all_meant ps)

  -- a test that has no place asks of no variable of the node
  abbrev pub test_meant : tree.Test → Test
  test_meant t = unwrap_or (test_placed s t) (record { variable = length s.variables; constructor = 0 })

-- the variables that a group declares
abbrev pub variables_of : Tree → Scope → Group → List Variable
variables_of p s g = map (λ n. record { name = n.text; kind = kind_named p g.type_name; test = option_map (test_meant s) g.test }) g.names

-- the variables of a left side
abbrev pub targets_meant : Scope → List Named → List ℕ
targets_meant s ns = map (λ x. variable_place s x.text) ns

-- an equation with its calls numbered from n on
abbrev pub equation_meant : Scope → ℕ → tree.Equation → Equation
equation_meant s n q = record { targets = targets_meant s q.left; right = numbered n (meant s q.right) }

-- equations with their calls numbered from n on
abbrev pub equations_meant : Scope → ℕ → List tree.Equation → List Equation
equations_meant s n [] = []
equations_meant s n (q ∷ qs) = equation_meant s n q ∷ equations_meant s (n + calls (meant s q.right)) qs

abbrev pub node_meant : Tree → tree.Node → Node
node_meant p f = record {
  kind = f.kind;
  name = f.name.text;
  inputs = length (group_kinds p f.inputs);
  outputs = length (group_kinds p f.outputs);
  variables = flat_map (variables_of p (scope p f)) (groups f);
  equations = equations_meant (scope p f) 0 f.equations;
}

-- the program that a tree means
abbrev pub program_of : Tree → Program
program_of p = record { types = map (λ d. declared_as p d.definition) p.types; nodes = map (node_meant p) p.nodes }
