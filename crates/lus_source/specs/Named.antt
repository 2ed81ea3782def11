-- The rules of names. Lustre V6 reference manual, "Lexical aspects" and "Nodes": types, values (constants and
-- constructors) and nodes are three spaces of names; what is used is declared, and nothing twice.
use Rattle.std.specs.Prelude.{◌++◌, ◌&&◌, ◌||◌, Bool, true, false, not, List, [], ◌∷◌, Option, Some, None, length, map, flat_map, nat_lt, IsTrue}
use Rattle.std.specs.List.{list_all}
use Rattle.std.specs.Str.{bytes_eq}
use Rattle.lus_syntax.specs.Lexemes.{Text}
use Rattle.lus_syntax.specs.Trees.{Label, Constructor, Boolean, Test, Holds, Fails, Is, Lead, Branch, Expression, Numeral, Truth, Name, Call, Structure, Merge, Variadic, Field, Parentheses, When, Unary, Binary, If, Parts, End, More, TypeName, DeclaredName, Fields, Definition, Alias, Enumeration, StructureOf, TypeDeclaration, Literal, ConstructorName, Constant, Group, Equation, Node, Tree}
use Rattle.lus_values.specs.Lists.{Each}
use Rattle.lus_source.specs.Tables.{text_of, groups}

abbrev pub is_in : List Text → Text → Bool
is_in [] n = false
is_in (m ∷ ms) n = bytes_eq n m || is_in ms n

-- none is among those before it
abbrev pub all_new : List Text → List Text → Bool
all_new before [] = true
all_new before (n ∷ ns) = not (is_in before n) && all_new (before ++ n ∷ []) ns

-- no name stands twice
abbrev pub Distinct : List Text → Type 0
Distinct ns = IsTrue (all_new [] ns)

-- the names of each space that stand for something in a node's text
pub record Known : Type 0 where
  pub variables : List Text
  pub constants : List Text
  pub constructors : List Text
  pub types : List Text
  pub nodes : List Text

abbrev pub constructor_names : Definition → List Text
constructor_names (Enumeration cs) = map text_of cs
constructor_names d = []

abbrev pub all_constructor_names : List TypeDeclaration → List Text
all_constructor_names ds = flat_map (λ d. constructor_names d.definition) ds

abbrev pub names_in : List Group → List Text
names_in gs = flat_map (λ g. map text_of g.names) gs

abbrev pub known : Tree → List Group → Known
known p gs = record {
  variables = names_in gs;
  constants = map (λ c. c.name.text) p.constants;
  constructors = all_constructor_names p.types;
  types = map (λ d. d.name.text) p.types;
  nodes = map (λ f. f.name.text) p.nodes;
}

abbrev pub type_known : List Text → TypeName → Bool
type_known types (DeclaredName n) = is_in types n.text
type_known types y = true

module _ (k : Known) where
  -- a label is always a constructor
  abbrev pub knows_label : Label → Bool
  knows_label (Constructor n) = is_in k.constructors n.text
  knows_label (Boolean b p) = true

  -- a test's variable is a variable of the node
  abbrev pub knows_test : Test → Bool
  knows_test (Holds c) = is_in k.variables c.text
  knows_test (Fails p c) = is_in k.variables c.text
  knows_test (Is l c) = is_in k.variables c.text && knows_label l

  -- which fields a structure has is a question of types
  abbrev pub knows_lead : Lead → Bool
  knows_lead (Branch p l) = knows_label l
  knows_lead l = true

  -- a variable, a constant or a constructor
  abbrev pub knows_name : Text → Bool
  knows_name n = is_in k.variables n || (is_in k.constants n || is_in k.constructors n)

  -- each name in an expression is declared
  abbrev mutual
    pub knows : Expression → Bool
    knows (Numeral z p) = true
    knows (Truth b p) = true
    knows (Name n) = knows_name n.text
    knows (Call f es) = is_in k.nodes f.text && knows_parts es
    knows (Structure t fs) = is_in k.types t.text && knows_parts fs
    knows (Merge p c bs) = is_in k.variables c.text && knows_parts bs
    knows (Variadic op p es) = knows_parts es
    knows (Field a x) = knows a
    knows (Parentheses p a) = knows a
    knows (When a t) = knows a && knows_test t
    knows (Unary op p a) = knows a
    knows (Binary op a b) = knows a && knows b
    knows (If p c a b) = knows c && (knows a && knows b)

    pub knows_parts : Parts → Bool
    knows_parts End = true
    knows_parts (More l e ps) = knows_lead l && (knows e && knows_parts ps)

abbrev pub test_known : Known → Option Test → Bool
test_known k None = true
test_known k (Some t) = knows_test k t

-- what equations define: outputs and locals
abbrev pub defined_names : Node → List Text
defined_names f = names_in (f.outputs ++ f.locals)

-- what stands on the left sides
abbrev pub left_names : Node → List Text
left_names f = flat_map (λ q. map text_of q.left) f.equations

-- a variable stands on the left
abbrev pub has_left : Equation → Bool
has_left q = nat_lt 0 (length q.left)

-- each output and each local stands on exactly one left side, once, and no left side is empty
pub record NodeNamed (k : Known) (f : Node) : Type 0 where
  pub distinct : Distinct k.variables
  pub types : IsTrue (list_all (λ g. type_known k.types g.type_name) (groups f))
  pub tests : IsTrue (list_all (λ g. test_known k g.test) (groups f))
  pub left_distinct : Distinct (left_names f)
  pub left_defined : IsTrue (list_all (is_in (defined_names f)) (left_names f))
  pub left_whole : IsTrue (list_all (is_in (left_names f)) (defined_names f))
  pub left_some : IsTrue (list_all has_left f.equations)
  pub rights : IsTrue (list_all (λ q. knows k q.right) f.equations)

abbrev pub field_names : List Fields → List Text
field_names fs = flat_map (λ g. map text_of g.names) fs

-- the fields of one structure are distinct
abbrev pub DefinitionNamed : List Text → Definition → Type 0
DefinitionNamed types (Alias y) = IsTrue (type_known types y)
DefinitionNamed types (Enumeration cs) = Unit {0}
DefinitionNamed types (StructureOf fs) = IsTrue (list_all (λ g. type_known types g.type_name) fs) × Distinct (field_names fs)

abbrev pub maybe_known : List Text → Option TypeName → Bool
maybe_known types None = true
maybe_known types (Some y) = type_known types y

-- the right side of a constant is a literal or a constructor
abbrev pub literal_known : List Text → Literal → Bool
literal_known constructors (ConstructorName c) = is_in constructors c.text
literal_known constructors v = true

abbrev pub constant_known : Known → Constant → Bool
constant_known k c = maybe_known k.types c.type_name && literal_known k.constructors c.value

-- the names of a source
pub record Named (p : Tree) : Type 0 where
  pub types : Distinct (known p []).types
  pub values : Distinct ((known p []).constants ++ (known p []).constructors)
  pub nodes : Distinct (known p []).nodes
  pub definitions : Each (λ d. DefinitionNamed (known p []).types d.definition) p.types
  pub constants : IsTrue (list_all (constant_known (known p [])) p.constants)
  pub each : Each (λ f. NodeNamed (known p (groups f)) f) p.nodes
