-- Nothing leads back to itself. Lustre V6 reference manual, "Nodes": nodes aren't recursive, nor are types.
use Rattle.std.specs.Prelude.{◌++◌, ℕ, List, [], Option, map, flat_map}
use Rattle.std.specs.List.{position_from}
use Rattle.std.specs.Option.{option_to_list}
use Rattle.std.specs.Str.{bytes_eq}
use Rattle.lus_graph.specs.Ways.{Uses, HasNoWayBack}
use Rattle.lus_syntax.specs.Lexemes.{Text}
use Rattle.lus_syntax.specs.Trees.{Expression, Numeral, Truth, Name, Call, Structure, Merge, Variadic, Field, Parentheses, When, Unary, Binary, If, Parts, End, More, TypeName, DeclaredName, Definition, Alias, Enumeration, StructureOf, Node, Tree}

-- the place of a name among these
abbrev pub place_in : List Text → Text → Option ℕ
place_in names n = position_from (λ m. bytes_eq n m) 0 names

abbrev pub type_names : Tree → List Text
type_names p = map (λ d. d.name.text) p.types

abbrev pub node_names : Tree → List Text
node_names p = map (λ f. f.name.text) p.nodes

-- the declared type that a type's name names, among these
abbrev pub named_type : List Text → TypeName → List ℕ
named_type types (DeclaredName n) = option_to_list (place_in types n.text)
named_type types y = []

abbrev pub definition_uses : List Text → Definition → List ℕ
definition_uses types (Alias y) = named_type types y
definition_uses types (Enumeration cs) = []
definition_uses types (StructureOf fs) = flat_map (λ g. named_type types g.type_name) fs

-- the types that each type's declaration names
abbrev pub type_uses : Tree → Uses
type_uses p = map (λ d. definition_uses (type_names p) d.definition) p.types

-- the nodes that an expression calls, among these
abbrev mutual
  pub called : List Text → Expression → List ℕ
  called nodes (Numeral z s) = []
  called nodes (Truth b s) = []
  called nodes (Name n) = []
  called nodes (Call f es) = option_to_list (place_in nodes f.text) ++ called_in nodes es
  called nodes (Structure t fs) = called_in nodes fs
  called nodes (Merge s c bs) = called_in nodes bs
  called nodes (Variadic op s es) = called_in nodes es
  called nodes (Field a x) = called nodes a
  called nodes (Parentheses s a) = called nodes a
  called nodes (When a t) = called nodes a
  called nodes (Unary op s a) = called nodes a
  called nodes (Binary op a b) = called nodes a ++ called nodes b
  called nodes (If s c a b) = called nodes c ++ (called nodes a ++ called nodes b)

  pub called_in : List Text → Parts → List ℕ
  called_in nodes End = []
  called_in nodes (More l e ps) = called nodes e ++ called_in nodes ps

abbrev pub calls_of : List Text → Node → List ℕ
calls_of nodes f = flat_map (λ q. called nodes q.right) f.equations

-- the nodes that each node calls
abbrev pub node_uses : Tree → Uses
node_uses p = map (calls_of (node_names p)) p.nodes

pub record Loopless (p : Tree) : Type 0 where
  pub types : HasNoWayBack (type_uses p)
  pub nodes : HasNoWayBack (node_uses p)
