-- Which tokens spell which declaration: one constructor a rule, over the rule that it says.
-- Lustre V6 reference manual, "Syntax".
use Rattle.std.specs.Prelude.{ℕ, max, true, false, List, [], ◌∷◌, ◌++◌, Option, Some, None}
use Rattle.lus_syntax.specs.declared.token.Span.{Span}
use Rattle.lus_syntax.specs.declared.token.Symbol.TheVariants as symbols
use Rattle.lus_syntax.specs.declared.token.Word.{Word}
use Rattle.lus_syntax.specs.declared.token.Word.TheVariants as words
use Rattle.lus_syntax.specs.declared.tree.NodeKind.{NodeKind}
use Rattle.lus_syntax.specs.declared.tree.NodeKind.TheVariants as kinds
use Rattle.lus_syntax.specs.Lexemes.{Number, Sign, Keyword, Lexeme, tok}
use Rattle.lus_syntax.specs.Trees.{Named, Test, TypeName, BoolName, IntName, DeclaredName, Fields, Definition, Alias, Enumeration, StructureOf, TypeDeclaration, Literal, Positive, Negative, TruthValue, ConstructorName, Constant, Group, Equation, Expression, Node, Tree}
use Rattle.lus_spelling.specs.Expressions.{ident, SpellsTest, Whole, Spells, depth}
use Rattle.lus_spelling.specs.Lists.{Mark, Nothing, Optional, Repeated, Listed}

-- ---- names

-- IDENT
pub data SpellsName : Named → List Lexeme → Type 0 where
  name : (n : Named) → SpellsName n (ident n ∷ [])

-- IDENT { "," IDENT }
abbrev pub SpellsNames : List Named → List Lexeme → Type 0
SpellsNames = Listed (Mark (Sign symbols.Comma)) SpellsName

-- ---- types

-- type = "bool" | "int" | IDENT
abbrev pub type_token : TypeName → Lexeme
type_token (BoolName s) = tok (Keyword words.Bool) s
type_token (IntName s) = tok (Keyword words.Int) s
type_token (DeclaredName n) = ident n

-- fields = IDENT { "," IDENT } ":" type
pub data SpellsFields : Fields → List Lexeme → Type 0 where
  fields : (c : Span) (t : TypeName) {ns : List Named} {xs : List Lexeme} → SpellsNames ns xs → SpellsFields (record { names = ns; type_name = t }) (xs ++ tok (Sign symbols.Colon) c ∷ type_token t ∷ [])

-- typedef = type | "enum" "{" IDENT { "," IDENT } "}" | [ "struct" ] "{" fields { ";" fields } [ ";" ] "}"
pub data SpellsDefinition : Definition → List Lexeme → Type 0 where
  alias : (t : TypeName) → SpellsDefinition (Alias t) (type_token t ∷ [])
  enumeration : (e o c : Span) {ns : List Named} {xs : List Lexeme} → SpellsNames ns xs
      → SpellsDefinition (Enumeration ns) (tok (Keyword words.Enum) e ∷ tok (Sign symbols.OpenBrace) o ∷ (xs ++ tok (Sign symbols.CloseBrace) c ∷ []))
  structure : (o c : Span) {fs : List Fields} {ws xs ss : List Lexeme} → Optional (Keyword words.Struct) ws → Listed (Mark (Sign symbols.Semicolon)) SpellsFields fs xs → Optional (Sign symbols.Semicolon) ss
      → SpellsDefinition (StructureOf fs) (ws ++ tok (Sign symbols.OpenBrace) o ∷ (xs ++ (ss ++ tok (Sign symbols.CloseBrace) c ∷ [])))

-- IDENT "=" typedef ";"
pub data SpellsType : TypeDeclaration → List Lexeme → Type 0 where
  type_declaration : (n : Named) (e s : Span) {d : Definition} {xs : List Lexeme} → SpellsDefinition d xs
      → SpellsType (record { name = n; definition = d }) (ident n ∷ tok (Sign symbols.Equal) e ∷ (xs ++ tok (Sign symbols.Semicolon) s ∷ []))

-- types = "type" IDENT "=" typedef ";" { IDENT "=" typedef ";" }
pub data SpellsTypes : List TypeDeclaration → List Lexeme → Type 0 where
  types : (w : Span) {ds : List TypeDeclaration} {xs : List Lexeme} → Listed Nothing SpellsType ds xs → SpellsTypes ds (tok (Keyword words.Type) w ∷ xs)

-- ---- constants

-- NUMBER | "-" NUMBER | "true" | "false" | IDENT
abbrev pub literal : Literal → List Lexeme
literal (Positive n s) = tok (Number n) s ∷ []
literal (Negative m n s) = tok (Sign symbols.Minus) m ∷ tok (Number n) s ∷ []
literal (TruthValue true s) = tok (Keyword words.True) s ∷ []
literal (TruthValue false s) = tok (Keyword words.False) s ∷ []
literal (ConstructorName n) = ident n ∷ []

-- [ ":" type ]
pub data SpellsTypeOf : Option TypeName → List Lexeme → Type 0 where
  untyped : SpellsTypeOf None []
  typed : (c : Span) (t : TypeName) → SpellsTypeOf (Some t) (tok (Sign symbols.Colon) c ∷ type_token t ∷ [])

-- const = IDENT [ ":" type ] "=" ( NUMBER | "-" NUMBER | "true" | "false" | IDENT ) ";"
pub data SpellsConstant : Constant → List Lexeme → Type 0 where
  constant : (n : Named) (e s : Span) (v : Literal) {t : Option TypeName} {xs : List Lexeme} → SpellsTypeOf t xs
      → SpellsConstant (record { name = n; type_name = t; value = v }) (ident n ∷ (xs ++ tok (Sign symbols.Equal) e ∷ (literal v ++ tok (Sign symbols.Semicolon) s ∷ [])))

-- consts = "const" const { const }
pub data SpellsConstants : List Constant → List Lexeme → Type 0 where
  constants : (w : Span) {cs : List Constant} {xs : List Lexeme} → Listed Nothing SpellsConstant cs xs → SpellsConstants cs (tok (Keyword words.Const) w ∷ xs)

-- ---- variables

-- [ "when" test ]
pub data SpellsClock : Option Test → List Lexeme → Type 0 where
  always : SpellsClock None []
  sampled : (w : Span) {c : Test} {xs : List Lexeme} → SpellsTest c xs → SpellsClock (Some c) (tok (Keyword words.When) w ∷ xs)

-- group = IDENT { "," IDENT } ":" type [ "when" test ]
pub data SpellsGroup : Group → List Lexeme → Type 0 where
  group : (k : Span) (t : TypeName) {ns : List Named} {c : Option Test} {xs ys : List Lexeme} → SpellsNames ns xs → SpellsClock c ys
      → SpellsGroup (record { names = ns; type_name = t; test = c }) (xs ++ tok (Sign symbols.Colon) k ∷ type_token t ∷ ys)

-- vars = group { ";" group } [ ";" ]
pub data SpellsVariables : List Group → List Lexeme → Type 0 where
  variables : {gs : List Group} {xs ss : List Lexeme} → Listed (Mark (Sign symbols.Semicolon)) SpellsGroup gs xs → Optional (Sign symbols.Semicolon) ss → SpellsVariables gs (xs ++ ss)

-- "(" [ vars ] ")"
pub data SpellsInputs : List Group → List Lexeme → Type 0 where
  no_inputs : (o c : Span) → SpellsInputs [] (tok (Sign symbols.Open) o ∷ tok (Sign symbols.Close) c ∷ [])
  inputs : (o c : Span) {gs : List Group} {xs : List Lexeme} → SpellsVariables gs xs → SpellsInputs gs (tok (Sign symbols.Open) o ∷ (xs ++ tok (Sign symbols.Close) c ∷ []))

-- "returns" "(" vars ")" [ ";" ]
pub data SpellsOutputs : List Group → List Lexeme → Type 0 where
  outputs : (r o c : Span) {gs : List Group} {xs ss : List Lexeme} → SpellsVariables gs xs → Optional (Sign symbols.Semicolon) ss
      → SpellsOutputs gs (tok (Keyword words.Returns) r ∷ tok (Sign symbols.Open) o ∷ (xs ++ tok (Sign symbols.Close) c ∷ ss))

-- group ";"
pub data SpellsLocal : Group → List Lexeme → Type 0 where
  local : (s : Span) {g : Group} {xs : List Lexeme} → SpellsGroup g xs → SpellsLocal g (xs ++ tok (Sign symbols.Semicolon) s ∷ [])

-- { "var" group ";" { group ";" } }
pub data SpellsLocals : List Group → List Lexeme → Type 0 where
  no_locals : SpellsLocals [] []
  locals : (w : Span) {gs hs : List Group} {xs ys : List Lexeme} → Listed Nothing SpellsLocal gs xs → SpellsLocals hs ys → SpellsLocals (gs ++ hs) (tok (Keyword words.Var) w ∷ (xs ++ ys))

-- ---- equations and nodes

-- left = IDENT { "," IDENT } | "(" IDENT { "," IDENT } ")"
pub data SpellsLeft : List Named → List Lexeme → Type 0 where
  left : {ns : List Named} {xs : List Lexeme} → SpellsNames ns xs → SpellsLeft ns xs
  left_in : (o c : Span) {ns : List Named} {xs : List Lexeme} → SpellsNames ns xs → SpellsLeft ns (tok (Sign symbols.Open) o ∷ (xs ++ tok (Sign symbols.Close) c ∷ []))

-- equation = left "=" whole ";"
pub data SpellsEquation : Equation → List Lexeme → Type 0 where
  equation : (e s : Span) {ns : List Named} {t : Expression} {xs ys : List Lexeme} → SpellsLeft ns xs → Spells Whole t ys
      → SpellsEquation (record { left = ns; right = t }) (xs ++ tok (Sign symbols.Equal) e ∷ (ys ++ tok (Sign symbols.Semicolon) s ∷ []))

-- [ ";" | "." ]
pub data SpellsEnd : List Lexeme → Type 0 where
  unmarked : SpellsEnd []
  semicolon : (s : Span) → SpellsEnd (tok (Sign symbols.Semicolon) s ∷ [])
  dot : (s : Span) → SpellsEnd (tok (Sign symbols.Dot) s ∷ [])

-- "let" { equation } "tel" [ ";" | "." ]
pub data SpellsBody : List Equation → List Lexeme → Type 0 where
  body : (l t : Span) {qs : List Equation} {xs es : List Lexeme} → Repeated Nothing SpellsEquation qs xs → SpellsEnd es → SpellsBody qs (tok (Keyword words.Let) l ∷ (xs ++ tok (Keyword words.Tel) t ∷ es))

abbrev pub kind_word : NodeKind → Word
kind_word kinds.Node = words.Node
kind_word kinds.Function = words.Function

-- node = ( "node" | "function" ) IDENT "(" [ vars ] ")" "returns" "(" vars ")" [ ";" ] { "var" group ";" { group ";" } } "let" { equation } "tel" [ ";" | "." ]
pub data SpellsNode : Node → List Lexeme → Type 0 where
  node : (k : NodeKind) (w : Span) (n : Named) {is os vs : List Group} {qs : List Equation} {ws xs ys zs : List Lexeme} → SpellsInputs is ws → SpellsOutputs os xs → SpellsLocals vs ys → SpellsBody qs zs
      → SpellsNode (record { kind = k; name = n; inputs = is; outputs = os; locals = vs; equations = qs }) (tok (Keyword (kind_word k)) w ∷ ident n ∷ (ws ++ (xs ++ (ys ++ zs))))

-- ---- the whole source

abbrev pub tree : List TypeDeclaration → List Constant → List Node → Tree
tree ds cs ns = record { types = ds; constants = cs; nodes = ns }

-- program = { types | consts | node }
pub data SpellsProgram : Tree → List Lexeme → Type 0 where
  empty : SpellsProgram (tree [] [] []) []
  with_types : {more ds : List TypeDeclaration} {cs : List Constant} {ns : List Node} {xs ys : List Lexeme} → SpellsTypes more xs → SpellsProgram (tree ds cs ns) ys → SpellsProgram (tree (more ++ ds) cs ns) (xs ++ ys)
  with_constants : {more cs : List Constant} {ds : List TypeDeclaration} {ns : List Node} {xs ys : List Lexeme} → SpellsConstants more xs → SpellsProgram (tree ds cs ns) ys → SpellsProgram (tree ds (more ++ cs) ns) (xs ++ ys)
  with_node : {n : Node} {ns : List Node} {ds : List TypeDeclaration} {cs : List Constant} {xs ys : List Lexeme} → SpellsNode n xs → SpellsProgram (tree ds cs ns) ys → SpellsProgram (tree ds cs (n ∷ ns)) (xs ++ ys)

-- the greatest of some depths
abbrev pub greatest_by : {A : Type 0} → (A → ℕ) → List A → ℕ
greatest_by f [] = 0
greatest_by f (a ∷ bs) = max (f a) (greatest_by f bs)

abbrev pub equation_depth : Equation → ℕ
equation_depth q = depth q.right

abbrev pub node_depth : Node → ℕ
node_depth n = greatest_by equation_depth n.equations

-- the greatest depth of the right sides of its equations
abbrev pub tree_depth : Tree → ℕ
tree_depth t = greatest_by node_depth t.nodes
