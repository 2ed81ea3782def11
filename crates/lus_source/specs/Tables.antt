-- The tables of a source: what its declarations give each name, in the order of the text.
use Rattle.std.specs.Prelude.{◌≡◌, ◌++◌, ℕ, suc, ℤ, pos, negsuc, neg_ℤ, List, [], ◌∷◌, Some, None, map, flat_map, length}
use Rattle.lus_syntax.specs.declared.token.Span.{Span}
use Rattle.lus_syntax.specs.declared.tree.NodeKind.TheVariants as node_kinds
use Rattle.lus_syntax.specs.Lexemes.{Text}
use Rattle.lus_syntax.specs.Trees.{Named, named, TypeName, BoolName, IntName, DeclaredName, Fields, Definition, Alias, Enumeration, StructureOf, TypeDeclaration, Literal, Positive, Negative, TruthValue, ConstructorName, Constant, Group, Node, Tree}
use Rattle.lus_values.specs.Lists.{item, Below}
use Rattle.lus_values.specs.Values.{Value, bool, int, enum, nil}
use Rattle.lus_program.specs.declared.types.Kind.{Kind}
use Rattle.lus_program.specs.declared.types.Kind.TheVariants as kinds
use Rattle.lus_program.specs.Programs.{Field, Declared, alias, enumeration, structure}
use Rattle.lus_graph.specs.Along.{within}
use Rattle.lus_source.specs.declared.entries.Placed.{Placed}
use Rattle.lus_source.specs.declared.entries.Constructor.{Constructor}
use Rattle.lus_source.specs.Scopes.{Scope, Signature, entry}
use Rattle.lus_source.specs.Loopless.{place_in, type_names}

-- each thing beside its number, from n on
abbrev pub numbered_from : {X : Type 0} → ℕ → List X → List (X × ℕ)
numbered_from n [] = []
numbered_from n (x ∷ xs) = (x, n) ∷ numbered_from (suc n) xs

abbrev pub text_of : Named → Text
text_of n = n.text

-- names of one type, one by one
abbrev pub each_of : {X : Type 0} → List Named → X → List (Text × X)
each_of ns x = map (λ n. (n.text, x)) ns

-- types: a declared type is the place of its declaration among the source's types

-- nothing of a text
abbrev no_span : Span
no_span = record { start = record { byte = 0; line = 1; column = 1 }; length = 0 }

-- where nothing is declared, bool
abbrev pub no_definition : Definition
no_definition = Alias (BoolName no_span)

abbrev pub definition_at : Tree → ℕ → Definition
definition_at p t = item no_definition (map (λ d. d.definition) p.types) t

-- what a type's name means, these being the declared types and these what they are; bool for an unknown one
abbrev pub of_type : List Text → (ℕ → Kind) → TypeName → Kind
of_type types at (BoolName s) = kinds.Bool
of_type types at (IntName s) = kinds.Int
of_type types at (DeclaredName n) = elim (place_in types n.text) [ Some t ↦ at t | None ↦ kinds.Bool ]

-- an alias is the type it names
abbrev pub definition_kind : List Text → (ℕ → Kind) → ℕ → Definition → Kind
definition_kind types at t (Alias y) = of_type types at y
definition_kind types at t (Enumeration cs) = kinds.Enum t
definition_kind types at t (StructureOf fs) = kinds.Struct t

abbrev pub kind_at : Tree → ℕ → Kind
kind_at p = within (length p.types) kinds.Bool (λ at t. definition_kind (type_names p) at t (definition_at p t))

-- the types that the declarations of a source declare, one by one
pub record AreKinds (p : Tree) (ks : List Kind) : Type 0 where
  pub size : length ks ≡ length p.types
  pub each : Below (length p.types) (λ t. item kinds.Bool ks t ≡ kind_at p t)

-- the type that a name means
abbrev pub kind_named : Tree → TypeName → Kind
kind_named p = of_type (type_names p) (kind_at p)

-- the table of declared types, by the types that their declarations declare
abbrev pub types_by : (ℕ → Kind) → List TypeDeclaration → List (Text × Kind)
types_by at ds = map (λ e. (e.0.name.text, at e.1)) (numbered_from 0 ds)

-- values: constructors and constants

-- constructors of one type, placed from n on
abbrev pub constructors_from : ℕ → ℕ → List Named → List (Text × Constructor)
constructors_from t n cs = map (λ e. (e.0.text, record { enumeration = t; place = e.1 })) (numbered_from n cs)

abbrev pub constructors_of : Definition → ℕ → List (Text × Constructor)
constructors_of (Enumeration cs) t = constructors_from t 0 cs
constructors_of d t = []

-- the table of constructors
abbrev pub constructors_by : List TypeDeclaration → List (Text × Constructor)
constructors_by ds = flat_map (λ e. constructors_of e.0.definition e.1) (numbered_from 0 ds)

abbrev pub all_constructors : Tree → List (Text × Constructor)
all_constructors p = constructors_by p.types

-- a number after a minus; no token is a number below 0
abbrev pub minus : ℤ → ℤ
minus (pos n) = neg_ℤ (pos n)
minus (negsuc n) = negsuc n

-- the value of a constant's right side; nil for an unknown constructor
abbrev pub value_in : List (Text × Constructor) → Literal → Value
value_in constructors (Positive z s) = int z
value_in constructors (Negative m z s) = int (minus z)
value_in constructors (TruthValue b s) = bool b
value_in constructors (ConstructorName c) = elim (entry constructors c.text) [ Some k ↦ enum k.enumeration k.place | None ↦ nil ]

abbrev pub literal_value : Tree → Literal → Value
literal_value p = value_in (all_constructors p)

-- the table of constants
abbrev pub constants_by : List (Text × Constructor) → List Constant → List (Text × Value)
constants_by constructors cs = map (λ c. (c.name.text, value_in constructors c.value)) cs

-- declarations: fields, variables and nodes

-- fields of one type
abbrev pub fields_of_kind : List Named → Kind → List Field
fields_of_kind ns k = map (λ n. record { name = n.text; kind = k }) ns

-- variables, placed from n on
abbrev pub placed_from : ℕ → List (Text × Kind) → List (Text × Placed)
placed_from n xs = map (λ e. (e.0.0, record { place = e.1; kind = e.0.1 })) (numbered_from n xs)

abbrev pub placed : List (Text × Kind) → List (Text × Placed)
placed = placed_from 0

-- where there is no node, one of nothing
abbrev pub no_node : Node
no_node = record { kind = node_kinds.Node; name = named [] no_span; inputs = []; outputs = []; locals = []; equations = [] }

abbrev pub node_at : Tree → ℕ → Node
node_at p x = item no_node p.nodes x

-- the declarations of a node's variables: inputs, outputs, locals
abbrev pub groups : Node → List Group
groups f = f.inputs ++ (f.outputs ++ f.locals)

-- by the type that each type's name means
module _ (kind : TypeName → Kind) where
  abbrev pub fields_by : List Fields → List Field
  fields_by fs = flat_map (λ g. fields_of_kind g.names (kind g.type_name)) fs

  abbrev pub declared_by : Definition → Declared
  declared_by (Alias y) = alias (kind y)
  declared_by (Enumeration cs) = enumeration (map text_of cs)
  declared_by (StructureOf fs) = structure (fields_by fs)

  -- what type declarations declare, one by one
  abbrev pub all_declared_by : List TypeDeclaration → List Declared
  all_declared_by ds = map (λ d. declared_by d.definition) ds

  -- variables with their types
  abbrev pub kinds_by : List Group → List (Text × Kind)
  kinds_by gs = flat_map (λ g. each_of g.names (kind g.type_name)) gs

  abbrev pub signature_by : Node → ℕ → Signature
  signature_by f n = record {
    place = n;
    kind = f.kind;
    inputs = map (λ e. e.1) (kinds_by f.inputs);
    outputs = map (λ e. e.1) (kinds_by f.outputs);
  }

  -- the table of nodes
  abbrev pub signatures_by : List Node → List (Text × Signature)
  signatures_by fs = map (λ e. (e.0.name.text, signature_by e.0 e.1)) (numbered_from 0 fs)

-- by the types of the source

abbrev pub fields_declared : Tree → List Fields → List Field
fields_declared p = fields_by (kind_named p)

abbrev pub declared_as : Tree → Definition → Declared
declared_as p = declared_by (kind_named p)

abbrev pub group_kinds : Tree → List Group → List (Text × Kind)
group_kinds p = kinds_by (kind_named p)

abbrev pub signature : Tree → Node → ℕ → Signature
signature p = signature_by (kind_named p)

-- what the names of a source stand for, its nodes' variables aside
abbrev pub tables : Tree → Scope
tables p = record {
  variables = [];
  constants = constants_by (all_constructors p) p.constants;
  constructors = all_constructors p;
  types = types_by (kind_at p) p.types;
  declared = all_declared_by (kind_named p) p.types;
  nodes = signatures_by (kind_named p) p.nodes;
}

-- what the names in a node's text stand for
abbrev pub scope : Tree → Node → Scope
scope p f = record (tables p) { variables = placed (group_kinds p (groups f)) }
