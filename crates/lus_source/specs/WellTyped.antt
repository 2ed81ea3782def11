-- What is well typed: constants, the tests and equations of the nodes that are meant, and functions, which have no memory. The types of
-- expressions are those of the program (lus_program, Resolved).
use Rattle.std.specs.Prelude.{◌&&◌, Bool, true, false, not, Some, None, List, IsTrue}
use Rattle.std.specs.List.{list_all}
use Rattle.lus_syntax.specs.declared.tree.NodeKind.{NodeKind}
use Rattle.lus_syntax.specs.declared.tree.NodeKind.TheVariants as node_kinds
use Rattle.lus_syntax.specs.declared.tree.Prefix.{Prefix}
use Rattle.lus_syntax.specs.declared.tree.Prefix.TheVariants as prefixes
use Rattle.lus_syntax.specs.declared.tree.Infix.{Infix}
use Rattle.lus_syntax.specs.declared.tree.Infix.TheVariants as infixes
use Rattle.lus_syntax.specs.Lexemes.{Text}
use Rattle.lus_syntax.specs.Trees.{Expression, Numeral, Truth, Name, Call, Structure, Merge, Variadic, Field, Parentheses, When, Unary, Binary, If, Parts, End, More, Constant, Equation, Node, Tree}
use Rattle.lus_values.specs.Lists.{Each}
use Rattle.lus_values.specs.Values.{Value}
use Rattle.lus_program.specs.declared.types.Kind.{Kind}
use Rattle.lus_program.specs.Kinds.{same, value_kind}
use Rattle.lus_program.specs.Resolved.{VariableFits, EquationFits}
use Rattle.lus_source.specs.Scopes.{Scope, entry}
use Rattle.lus_source.specs.Tables.{scope, literal_value, kind_named}
use Rattle.lus_source.specs.Meaning.{node_meant, program_of}

abbrev pub value_is : Value → Kind → Bool
value_is v k = elim (value_kind v) [ Some l ↦ same l k | None ↦ false ]

-- a constant with a declared type has that type
abbrev pub constant_typed : Tree → Constant → Bool
constant_typed p c = elim c.type_name [ None ↦ true | Some y ↦ value_is (literal_value p c.value) (kind_named p y) ]

abbrev pub remembers : Prefix → Bool
remembers prefixes.Pre = true
remembers op = false

abbrev pub recalls : Infix → Bool
recalls (infixes.Compute op) = false
recalls op = true

abbrev pub is_function : NodeKind → Bool
is_function node_kinds.Function = true
is_function node_kinds.Node = false

abbrev pub calls_function : Scope → Text → Bool
calls_function s f = elim (entry s.nodes f) [ Some g ↦ is_function g.kind | None ↦ false ]

-- without `pre`, `->` and `fby`, and calling functions alone
abbrev mutual
  pub is_pure : Scope → Expression → Bool
  is_pure s (Numeral z p) = true
  is_pure s (Truth b p) = true
  is_pure s (Name n) = true
  is_pure s (Call f es) = calls_function s f.text && are_pure s es
  is_pure s (Structure t fs) = are_pure s fs
  is_pure s (Merge p c bs) = are_pure s bs
  is_pure s (Variadic op p es) = are_pure s es
  is_pure s (Field a x) = is_pure s a
  is_pure s (Parentheses p a) = is_pure s a
  is_pure s (When a t) = is_pure s a
  is_pure s (Unary op p a) = not (remembers op) && is_pure s a
  is_pure s (Binary op a b) = not (recalls op) && (is_pure s a && is_pure s b)
  is_pure s (If p c a b) = is_pure s c && (is_pure s a && is_pure s b)

  pub are_pure : Scope → Parts → Bool
  are_pure s End = true
  are_pure s (More l e ps) = is_pure s e && are_pure s ps

-- a node may keep memory, a function none
abbrev pub memory_fits : NodeKind → Scope → List Equation → Bool
memory_fits node_kinds.Node s qs = true
memory_fits node_kinds.Function s qs = list_all (λ q. is_pure s q.right) qs

-- the node that it means, in the program that its source means, has tests that fit and equations that do, and it keeps no memory that
-- it may not
pub record NodeTyped (p : Tree) (f : Node) : Type 0 where
  pub variables : Each (VariableFits (program_of p) (node_meant p f)) (node_meant p f).variables
  pub equations : Each (EquationFits (program_of p) (node_meant p f)) (node_meant p f).equations
  pub memory : IsTrue (memory_fits f.kind (scope p f) f.equations)

pub record IsTyped (p : Tree) : Type 0 where
  pub constants : IsTrue (list_all (constant_typed p) p.constants)
  pub nodes : Each (NodeTyped p) p.nodes
