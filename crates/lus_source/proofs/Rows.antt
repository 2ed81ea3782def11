-- Small sources: what they mean, and which rules they keep and break.
use Rattle.std.proofs.Common.{rules, ◌≡◌, ℕ, refl, List, [], ◌∷◌, Option, Some, None, true, false, pos, negsuc}
use Rattle.lus_syntax.specs.declared.token.Place.{Place}
use Rattle.lus_syntax.specs.declared.token.Span.{Span}
use Rattle.lus_syntax.specs.declared.tree.NodeKind.TheVariants as node_kinds
use Rattle.lus_syntax.specs.declared.tree.Infix.TheVariants as infixes
use Rattle.lus_syntax.specs.declared.tree.ListOperator.TheVariants as list_operators
use Rattle.lus_syntax.specs.declared.tree.Prefix.TheVariants as prefixes
use Rattle.lus_syntax.specs.Trees as tree
use Rattle.lus_values.specs.declared.operator.Op.TheVariants as ops
use Rattle.lus_values.specs.declared.operator.Operator.TheVariants as operators
use Rattle.lus_values.specs.Values as values
use Rattle.lus_program.specs.declared.types.Kind.TheVariants as kinds
use Rattle.lus_program.specs.Programs as program
use Rattle.lus_source.specs.Tables.{scope, kind_named}
use Rattle.lus_source.specs.Named.{Named, all_new}
use Rattle.lus_graph.specs.Ways.{Leads, step}
use Rattle.lus_source.specs.Loopless.{node_uses}
use Rattle.lus_source.specs.Sized.{Counted, Bounded, leaves_at, nesting_at, call_depth_at}
use Rattle.lus_source.specs.Scopes.{Scope}
use Rattle.lus_source.specs.Heads.{heads, head, kind_by}
use Rattle.lus_source.specs.Meaning.{meant, equation_meant, program_of}
use Rattle.lus_source.specs.WellTyped.{memory_fits, IsTyped}
use Rattle.lus_values.specs.Lists.{Each}
use Rattle.lus_program.specs.declared.types.Kind.{Kind}
use Rattle.lus_program.specs.Resolved.{EquationFits, NodeResolved}

-- the type of an expression of a text
abbrev kind_of : Scope → tree.Expression → Option Kind
kind_of s e = kind_by s (meant s e)

abbrev start : Place
start = record { byte = 0; line = 1; column = 1 }

abbrev here : Span
here = record { start = start; length = 1 }

-- a name of one letter
abbrev n : ℕ → tree.Named
n c = tree.named (c ∷ []) here

abbrev var : ℕ → tree.Expression
var c = tree.Name (n c)

abbrev digit : ℕ → tree.Expression
digit d = tree.Numeral (pos d) here

abbrev int_name : tree.TypeName
int_name = tree.IntName here

abbrev bool_name : tree.TypeName
bool_name = tree.BoolName here

abbrev declared : ℕ → tree.TypeName
declared c = tree.DeclaredName (n c)

abbrev group : List tree.Named → tree.TypeName → tree.Group
group ns y = record { names = ns; type_name = y; test = None }

abbrev branch : ℕ → tree.Expression → tree.Parts → tree.Parts
branch c e bs = tree.More (tree.Branch here (tree.Constructor (n c))) e bs

abbrev argument : tree.Expression → tree.Parts → tree.Parts
argument e es = tree.More tree.Plain e es

abbrev field : ℕ → tree.Expression → tree.Parts → tree.Parts
field c e fs = tree.More (tree.Of (n c)) e fs

abbrev equation : List tree.Named → tree.Expression → tree.Equation
equation ns e = record { left = ns; right = e }

abbrev node : ℕ → List tree.Group → List tree.Group → List tree.Equation → tree.Node
node c is os qs = record { kind = node_kinds.Node; name = n c; inputs = is; outputs = os; locals = []; equations = qs }

abbrev function : ℕ → List tree.Group → List tree.Group → List tree.Equation → tree.Node
function c is os qs = record { kind = node_kinds.Function; name = n c; inputs = is; outputs = os; locals = []; equations = qs }

-- Branches stand in the order of the constructors, calls are numbered in the order of the program:
-- type e = enum { A, B }; node g(k: e; a, b: int) returns (y: int); let y = merge k (B -> b) (A -> a); tel
-- node h(k: e) returns (y: int); let y = g(k, 1, g(k, 2, 3)) + g(k, 4, 5); tel

abbrev merged : tree.Expression
merged = tree.Merge here (n 107) (branch 66 (var 98) (branch 65 (var 97) tree.End))

abbrev g : tree.Node
g = node 103 (group (n 107 ∷ []) (declared 101) ∷ group (n 97 ∷ n 98 ∷ []) int_name ∷ []) (group (n 121 ∷ []) int_name ∷ []) (equation (n 121 ∷ []) merged ∷ [])

abbrev call_g : tree.Expression → tree.Expression → tree.Expression
call_g a b = tree.Call (n 103) (argument (var 107) (argument a (argument b tree.End)))

abbrev summed : tree.Expression
summed = tree.Binary (infixes.Compute ops.Add) (call_g (digit 1) (call_g (digit 2) (digit 3))) (call_g (digit 4) (digit 5))

abbrev h : tree.Node
h = node 104 (group (n 107 ∷ []) (declared 101) ∷ []) (group (n 121 ∷ []) int_name ∷ []) (equation (n 121 ∷ []) summed ∷ [])

abbrev calls : tree.Tree
calls = record { types = record { name = n 101; definition = tree.Enumeration (n 65 ∷ n 66 ∷ []) } ∷ []; constants = []; nodes = g ∷ h ∷ [] }

merge_has_a_type : kind_of (scope calls g) merged ≡ Some kinds.Int
merge_has_a_type = refl

calls_have_a_type : kind_of (scope calls h) summed ≡ Some kinds.Int
calls_have_a_type = refl

-- a branch is missing; a branch stands twice; an argument is missing
half_has_none : kind_of (scope calls g) (tree.Merge here (n 107) (branch 66 (var 98) tree.End)) ≡ None
half_has_none = refl

doubled_has_none : kind_of (scope calls g) (tree.Merge here (n 107) (branch 66 (var 98) (branch 66 (var 98) tree.End))) ≡ None
doubled_has_none = refl

short_call_has_none : kind_of (scope calls h) (tree.Call (n 103) (argument (var 107) tree.End)) ≡ None
short_call_has_none = refl

-- a part that no source spells: a branch among the arguments
strange_call_has_none : kind_of (scope calls h) (tree.Call (n 103) (branch 65 (var 107) (argument (digit 1) (argument (digit 2) tree.End)))) ≡ None
strange_call_has_none = refl

abbrev number : ℕ → program.Expression
number d = program.literal (values.int (pos d))

abbrev int_variable : ℕ → program.Variable
int_variable c = record { name = c ∷ []; kind = kinds.Int; test = None }

abbrev enum_variable : ℕ → program.Variable
enum_variable c = record { name = c ∷ []; kind = kinds.Enum 0; test = None }

abbrev called_g : ℕ → program.Expression → program.Expression → program.Expression
called_g c a b = program.call 0 c (program.more (program.variable 0) (program.more a (program.more b program.none)))

calls_mean : program_of calls ≡ record {
  types = program.enumeration ((65 ∷ []) ∷ (66 ∷ []) ∷ []) ∷ [];
  nodes =
      record {
        kind = node_kinds.Node;
        name = 103 ∷ [];
        inputs = 3;
        outputs = 1;
        variables = enum_variable 107 ∷ int_variable 97 ∷ int_variable 98 ∷ int_variable 121 ∷ [];
        equations = record { targets = 3 ∷ []; right = program.merge 0 (program.more (program.variable 1) (program.more (program.variable 2) program.none)) } ∷ [];
      }
      ∷ record {
        kind = node_kinds.Node;
        name = 104 ∷ [];
        inputs = 1;
        outputs = 1;
        variables = enum_variable 107 ∷ int_variable 121 ∷ [];
        equations = record { targets = 1 ∷ []; right = program.operate (operators.Compute ops.Add) (program.more (called_g 0 (number 1) (called_g 1 (number 2) (number 3))) (program.more (called_g 2 (number 4) (number 5)) program.none)) } ∷ [];
      } ∷ [];
}
calls_mean = refl

calls_named : Named calls
calls_named = search rules

calls_typed : IsTyped calls
calls_typed = search rules

h_calls_two_deep : call_depth_at calls 1 ≡ 2
h_calls_two_deep = refl

-- A variable hides a constant, and a constant is its value:
-- const n = -4; node f(n: bool; x: int) returns (y: bool); let y = n; tel  node k(x: int) returns (y: int); let y = n; tel

abbrev f : tree.Node
f = node 102 (group (n 110 ∷ []) bool_name ∷ group (n 120 ∷ []) int_name ∷ []) (group (n 121 ∷ []) bool_name ∷ []) (equation (n 121 ∷ []) (var 110) ∷ [])

abbrev k : tree.Node
k = node 107 (group (n 120 ∷ []) int_name ∷ []) (group (n 121 ∷ []) int_name ∷ []) (equation (n 121 ∷ []) (var 110) ∷ [])

abbrev hidden : tree.Tree
hidden = record { types = []; constants = record { name = n 110; type_name = None; value = tree.Negative here (pos 4) here } ∷ []; nodes = f ∷ k ∷ [] }

variable_hides : meant (scope hidden f) (var 110) ≡ program.variable 0
variable_hides = refl

variable_is_bool : kind_of (scope hidden f) (var 110) ≡ Some kinds.Bool
variable_is_bool = refl

constant_is_its_value : meant (scope hidden k) (var 110) ≡ program.literal (values.int (negsuc 3))
constant_is_its_value = refl

hidden_named : Named hidden
hidden_named = search rules

-- Fields stand in the order of their declaration, and an alias is the type it names:
-- type q = p; type p = struct { a, b: int; c: e }; type e = enum { A };
-- function s(x: int) returns (y: q; z: int); let y = q { c = A; b = 2; a = x }; z = y.b; tel

abbrev structures : List tree.TypeDeclaration
structures =
    record { name = n 113; definition = tree.Alias (declared 112) }
    ∷ record { name = n 112; definition = tree.StructureOf (record { names = n 97 ∷ n 98 ∷ []; type_name = int_name } ∷ record { names = n 99 ∷ []; type_name = declared 101 } ∷ []) }
    ∷ record { name = n 101; definition = tree.Enumeration (n 65 ∷ []) } ∷ []

abbrev built : tree.Expression
built = tree.Structure (n 113) (field 99 (var 65) (field 98 (digit 2) (field 97 (var 120) tree.End)))

abbrev s : tree.Node
s = function 115 (group (n 120 ∷ []) int_name ∷ []) (group (n 121 ∷ []) (declared 113) ∷ group (n 122 ∷ []) int_name ∷ []) (equation (n 121 ∷ []) built ∷ equation (n 122 ∷ []) (tree.Field (var 121) (n 98)) ∷ [])

-- node t(x: int) returns (y: q; z: int); let y, z = (s(x)); tel
abbrev t : tree.Node
t = node 116 (group (n 120 ∷ []) int_name ∷ []) (group (n 121 ∷ []) (declared 113) ∷ group (n 122 ∷ []) int_name ∷ []) (equation (n 121 ∷ n 122 ∷ []) (tree.Parentheses here (tree.Call (n 115) (argument (var 120) tree.End))) ∷ [])

abbrev fields : tree.Tree
fields = record { types = structures; constants = []; nodes = s ∷ t ∷ [] }

alias_is_its_type : kind_named fields (declared 113) ≡ kinds.Struct 1
alias_is_its_type = refl

structure_has_its_type : kind_of (scope fields s) built ≡ Some (kinds.Struct 1)
structure_has_its_type = refl

structure_means : meant (scope fields s) built ≡ program.operate (operators.Structure 1) (program.more (program.variable 0) (program.more (number 2) (program.more (program.literal (values.enum 2 0)) program.none)))
structure_means = refl

field_means : meant (scope fields s) (tree.Field (var 121) (n 98)) ≡ program.operate (operators.Field 1) (program.more (program.variable 1) program.none)
field_means = refl

-- a field is missing; a field is unknown
short_structure_has_none : kind_of (scope fields s) (tree.Structure (n 113) (field 99 (var 65) (field 98 (digit 2) tree.End))) ≡ None
short_structure_has_none = refl

unknown_field_has_none : kind_of (scope fields s) (tree.Field (var 121) (n 120)) ≡ None
unknown_field_has_none = refl

-- a call with several outputs is a whole right side, and no expression
two_outputs_are_given : EquationFits (heads (scope fields t)) (head (scope fields t)) (equation_meant (scope fields t) 0 (equation (n 121 ∷ n 122 ∷ []) (tree.Call (n 115) (argument (var 120) tree.End))))
two_outputs_are_given = refl

two_outputs_have_no_type : kind_of (scope fields t) (tree.Call (n 115) (argument (var 120) tree.End)) ≡ None
two_outputs_have_no_type = refl

fields_named : Named fields
fields_named = search rules

fields_typed : IsTyped fields
fields_typed = search rules

fields_counted : Counted fields
fields_counted = search rules

fields_bounded : Bounded fields
fields_bounded = search rules

three_leaves : leaves_at (program_of fields).types 0 ≡ 3
three_leaves = refl

one_deep : nesting_at (program_of fields).types 0 ≡ 1
one_deep = refl

-- type r = struct { x, y: q; z: bool }, before these types
abbrev outer : tree.Definition
outer = tree.StructureOf (
    record { names = n 120 ∷ n 121 ∷ []; type_name = declared 113 }
    ∷ record { names = n 122 ∷ []; type_name = bool_name } ∷ [])

abbrev nested : List program.Declared
nested = (program_of (record { types = record { name = n 114; definition = outer } ∷ structures; constants = []; nodes = [] })).types

seven_leaves : leaves_at nested 0 ≡ 7
seven_leaves = refl

two_deep : nesting_at nested 0 ≡ 2
two_deep = refl

-- an enumeration, and no type
one_leaf : (leaves_at nested 3 ≡ 1) × (leaves_at nested 4 ≡ 1)
one_leaf = (refl, refl)

not_deep : (nesting_at nested 3 ≡ 0) × (nesting_at nested 4 ≡ 0)
not_deep = (refl, refl)

-- the programs that they mean keep what later passes rely on
calls_resolved : Each (NodeResolved (program_of calls)) (program_of calls).nodes
calls_resolved = search rules

fields_resolved : Each (NodeResolved (program_of fields)) (program_of fields).nodes
fields_resolved = search rules

-- what breaks a rule

doubled : all_new [] ((97 ∷ []) ∷ (98 ∷ []) ∷ (97 ∷ []) ∷ []) ≡ false
doubled = refl

-- a function that calls a node, and one with `pre`
calls_a_node : memory_fits node_kinds.Function (scope fields s) (equation (n 121 ∷ []) (tree.Call (n 116) (argument (var 120) tree.End)) ∷ []) ≡ false
calls_a_node = refl

has_pre : memory_fits node_kinds.Function (scope fields s) (equation (n 121 ∷ []) (tree.Unary prefixes.Pre here (var 120)) ∷ []) ≡ false
has_pre = refl

-- node r(x: int) returns (y: int); let y = r(x); tel
abbrev looping : tree.Tree
looping = record { types = []; constants = []; nodes = node 114 (group (n 120 ∷ []) int_name ∷ []) (group (n 121 ∷ []) int_name ∷ []) (equation (n 121 ∷ []) (tree.Call (n 114) (argument (var 120) tree.End)) ∷ []) ∷ [] }

leads_back : Leads (node_uses looping) 0 0
leads_back = step (search rules)

-- `#` and `nor`: node o(a: bool; b: bool) returns (y: bool); let y = #(a, b); tel, with other right sides

abbrev listed : tree.Parts
listed = argument (var 97) (argument (var 98) tree.End)

abbrev o : tree.Node
o = node 111 (group (n 97 ∷ n 98 ∷ []) bool_name ∷ []) (group (n 121 ∷ []) bool_name ∷ []) (equation (n 121 ∷ []) (tree.Variadic list_operators.AtMostOne here listed) ∷ [])

abbrev listing : tree.Tree
listing = record { types = []; constants = []; nodes = o ∷ [] }

at_most_one_is_a_truth_value : kind_of (scope listing o) (tree.Variadic list_operators.AtMostOne here listed) ≡ Some kinds.Bool
at_most_one_is_a_truth_value = refl

at_most_one_means : meant (scope listing o) (tree.Variadic list_operators.AtMostOne here listed) ≡ program.operate (operators.Compute ops.AtMostOne) (program.more (program.variable 0) (program.more (program.variable 1) program.none))
at_most_one_means = refl

-- of a number; of no operand; with a part that no source spells
at_most_one_of_a_number : kind_of (scope listing o) (tree.Variadic list_operators.AtMostOne here (argument (digit 1) tree.End)) ≡ None
at_most_one_of_a_number = refl

none_of_nothing : kind_of (scope listing o) (tree.Variadic list_operators.Nor here tree.End) ≡ None
none_of_nothing = refl

none_of_a_branch : kind_of (scope listing o) (tree.Variadic list_operators.Nor here (branch 65 (var 97) tree.End)) ≡ None
none_of_a_branch = refl

-- lawful in a function
none_of_is_pure : memory_fits node_kinds.Function (scope listing o) (equation (n 121 ∷ []) (tree.Variadic list_operators.Nor here listed) ∷ []) ≡ true
none_of_is_pure = refl
