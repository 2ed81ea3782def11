-- The plain tokens and the plain tree that the code's values are.
use Rattle.std.specs.Prelude.{List, map, option_map, string_bytes}
use Rattle.lus_syntax.specs.declared.token.TokenKind.{TokenKind}
use Rattle.lus_syntax.specs.declared.token.TokenKind.TheVariants as kinds
use Rattle.lus_syntax.specs.declared.token.Token.{Token}
use Rattle.lus_syntax.specs.declared.tree.Name.{Name}
use Rattle.lus_syntax.specs.declared.tree.Label.{Label}
use Rattle.lus_syntax.specs.declared.tree.Label.TheVariants as labels
use Rattle.lus_syntax.specs.declared.tree.Test.{Test}
use Rattle.lus_syntax.specs.declared.tree.Test.TheVariants as tests
use Rattle.lus_syntax.specs.declared.tree.Lead.{Lead}
use Rattle.lus_syntax.specs.declared.tree.Lead.TheVariants as leads
use Rattle.lus_syntax.specs.declared.tree.Part.{Part}
use Rattle.lus_syntax.specs.declared.tree.Expr.{Expr, Row_of-Part, end_of-Part, more_of-Part}
use Rattle.lus_syntax.specs.declared.tree.Expr.TheVariants as exprs
use Rattle.lus_syntax.specs.declared.tree.TypeName.{TypeName}
use Rattle.lus_syntax.specs.declared.tree.TypeName.TheVariants as type_names
use Rattle.lus_syntax.specs.declared.tree.Fields.{Fields}
use Rattle.lus_syntax.specs.declared.tree.Definition.{Definition}
use Rattle.lus_syntax.specs.declared.tree.Definition.TheVariants as definitions
use Rattle.lus_syntax.specs.declared.tree.TypeDeclaration.{TypeDeclaration}
use Rattle.lus_syntax.specs.declared.tree.Literal.{Literal}
use Rattle.lus_syntax.specs.declared.tree.Literal.TheVariants as literals
use Rattle.lus_syntax.specs.declared.tree.Constant.{Constant}
use Rattle.lus_syntax.specs.declared.tree.Group.{Group}
use Rattle.lus_syntax.specs.declared.tree.Equation.{Equation}
use Rattle.lus_syntax.specs.declared.tree.Node.{Node}
use Rattle.lus_syntax.specs.declared.tree.Tree.{Tree}
use Rattle.lus_syntax.specs.Lexemes.{Kind, Identifier, Number, Sign, Keyword, Lexeme}
use Rattle.lus_syntax.specs.Trees as plain

abbrev pub kind_seen : TokenKind → Kind
kind_seen (kinds.Identifier s) = Identifier s.now
kind_seen (kinds.Number n) = Number n
kind_seen (kinds.Punctuation c) = Sign c
kind_seen (kinds.Keyword w) = Keyword w

abbrev pub token_seen : Token → Lexeme
token_seen t = record { kind = kind_seen t.kind; span = t.span }

abbrev pub tokens_seen : List Token → List Lexeme
tokens_seen ts = map token_seen ts

abbrev pub name_seen : Name → plain.Named
name_seen n = plain.named (string_bytes n.text) n.span

abbrev pub label_seen : Label → plain.Label
label_seen (labels.Constructor n) = plain.Constructor (name_seen n)
label_seen (labels.Truth b s) = plain.Boolean b s

abbrev pub test_seen : Test → plain.Test
test_seen (tests.Holds n) = plain.Holds (name_seen n)
test_seen (tests.Fails s n) = plain.Fails s (name_seen n)
test_seen (tests.Is l n) = plain.Is (label_seen l) (name_seen n)

abbrev pub lead_seen : Lead → plain.Lead
lead_seen leads.Plain = plain.Plain
lead_seen (leads.Field n) = plain.Of (name_seen n)
lead_seen (leads.Branch s l) = plain.Branch s (label_seen l.value)

abbrev mutual
  pub expression_seen : Expr → plain.Expression
  expression_seen (exprs.Number n s) = plain.Numeral n s
  expression_seen (exprs.Truth b s) = plain.Truth b s
  expression_seen (exprs.Name n) = plain.Name (name_seen n)
  expression_seen (exprs.Call' n shape row) = plain.Call (name_seen n.value) (parts_in row)
  expression_seen (exprs.Structure' n shape row) = plain.Structure (name_seen n.value) (parts_in row)
  expression_seen (exprs.Merge' s n shape row) = plain.Merge s (name_seen n.value) (parts_in row)
  expression_seen (exprs.Variadic' op s shape row) = plain.Variadic op s (parts_in row)
  expression_seen (exprs.Field' p t n) = plain.Field (expression_seen t) (name_seen n)
  expression_seen (exprs.Parentheses' s p t) = plain.Parentheses s (expression_seen t)
  expression_seen (exprs.When' p t c) = plain.When (expression_seen t) (test_seen c.value)
  expression_seen (exprs.Unary' op s p t) = plain.Unary op s (expression_seen t)
  expression_seen (exprs.Binary' op p a q b) = plain.Binary op (expression_seen a) (expression_seen b)
  expression_seen (exprs.If' s p c q a r b) = plain.If s (expression_seen c) (expression_seen a) (expression_seen b)

  pub parts_in : {m : _} → Row_of-Part m → plain.Parts
  parts_in end_of-Part = plain.End
  parts_in (more_of-Part l e rest) = plain.More (lead_seen l) (expression_seen e) (parts_in rest)

abbrev pub part_seen : Part → plain.Lead × plain.Expression
part_seen p = (lead_seen p.lead, expression_seen p.value)

abbrev pub names_seen : List Name → List plain.Named
names_seen ns = map name_seen ns

abbrev pub type_name_seen : TypeName → plain.TypeName
type_name_seen (type_names.Bool s) = plain.BoolName s
type_name_seen (type_names.Int s) = plain.IntName s
type_name_seen (type_names.Declared n) = plain.DeclaredName (name_seen n)

abbrev pub fields_seen : Fields → plain.Fields
fields_seen f = record { names = names_seen f.names.items; type_name = type_name_seen f.type_name }

abbrev pub definition_seen : Definition → plain.Definition
definition_seen (definitions.Alias t) = plain.Alias (type_name_seen t)
definition_seen (definitions.Enumeration ns) = plain.Enumeration (names_seen ns.items)
definition_seen (definitions.Structure fs) = plain.StructureOf (map fields_seen fs.items)

abbrev pub type_seen : TypeDeclaration → plain.TypeDeclaration
type_seen d = record { name = name_seen d.name; definition = definition_seen d.definition }

abbrev pub literal_seen : Literal → plain.Literal
literal_seen (literals.Number n s) = plain.Positive n s
literal_seen (literals.Negative m n s) = plain.Negative m n s
literal_seen (literals.Truth b s) = plain.TruthValue b s
literal_seen (literals.Constructor n) = plain.ConstructorName (name_seen n)

abbrev pub constant_seen : Constant → plain.Constant
constant_seen c = record { name = name_seen c.name; type_name = option_map type_name_seen c.type_name; value = literal_seen c.value }

abbrev pub group_seen : Group → plain.Group
group_seen g = record { names = names_seen g.names.items; type_name = type_name_seen g.type_name; test = option_map test_seen g.test }

abbrev pub equation_seen : Equation → plain.Equation
equation_seen q = record { left = names_seen q.left.items; right = expression_seen q.right }

abbrev pub node_seen : Node → plain.Node
node_seen f = record {
  kind = f.kind;
  name = name_seen f.name;
  inputs = map group_seen f.inputs.items;
  outputs = map group_seen f.outputs.items;
  locals = map group_seen f.locals.items;
  equations = map equation_seen f.equations.items;
}

abbrev pub tree_seen : Tree → plain.Tree
tree_seen t = record {
  types = map type_seen t.types.items;
  constants = map constant_seen t.constants.items;
  nodes = map node_seen t.nodes.items;
}
