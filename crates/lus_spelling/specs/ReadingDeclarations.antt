-- Reading declarations from left to right, as expressions are read.
use Rattle.std.specs.Prelude.{ℕ, zero, suc, Bool, true, false, List, [], ◌∷◌, ◌++◌, Option, Some, None, Result, Ok, Err, length, if◌then◌else◌}
use Rattle.lus_syntax.specs.declared.token.Span.{Span}
use Rattle.lus_syntax.specs.declared.token.Symbol.{Symbol}
use Rattle.lus_syntax.specs.declared.token.Symbol.TheVariants as symbols
use Rattle.lus_syntax.specs.declared.token.Word.TheVariants as words
use Rattle.lus_syntax.specs.declared.tree.NodeKind.{NodeKind}
use Rattle.lus_syntax.specs.declared.tree.NodeKind.TheVariants as kinds
use Rattle.lus_syntax.specs.Lexemes.{Kind, Identifier, Number, Sign, Keyword, Lexeme}
use Rattle.lus_syntax.specs.Trees.{Named, named, Test, TypeName, BoolName, IntName, DeclaredName, Fields, Definition, Alias, Enumeration, StructureOf, TypeDeclaration, Literal, Positive, Negative, TruthValue, ConstructorName, Constant, Group, Equation, Node, Tree}
use Rattle.lus_spelling.specs.Expressions.{Whole}
use Rattle.lus_spelling.specs.Reading.{Fault, Syntax, ◌>>=◌, front, expect, identifier_at, test_at, read}
use Rattle.lus_spelling.specs.Declarations.{tree}

-- what is read, and the tokens after it
abbrev pub Reads : Type 0 → Type 0
Reads A = Result (A × List Lexeme) Fault

-- ---- lists

-- as long as `turn` says where to go on, `step` reads from there
module _ {S : Type 0} (turn : List Lexeme → Option (List Lexeme)) (step : S → List Lexeme → Reads S) where
  abbrev pub repeat_on : (S → List Lexeme → Reads S) → S → List Lexeme → Option (List Lexeme) → Reads S
  repeat_on others s ts None = Ok (s, ts)
  repeat_on others s ts (Some r) = step s r >>= λ x. others x.0 x.1

  -- at most `count` steps, which are never used up where there are more than tokens
  unfoldable pub repeat_at : ℕ → S → List Lexeme → Reads S
  repeat_at zero s ts = Err Syntax
  repeat_at (suc count) s ts = repeat_on (repeat_at count) s ts (turn ts)

module _ {A : Type 0} (turn : List Lexeme → Option (List Lexeme)) (item : List Lexeme → Reads A) where
  -- one more item
  abbrev pub push_at : List A → List Lexeme → Reads (List A)
  push_at us ts = item ts >>= λ x. Ok (us ++ x.0 ∷ [], x.1)

  abbrev pub others_at : List A → List Lexeme → Reads (List A)
  others_at us ts = repeat_at turn push_at (suc (length ts)) us ts

  -- one item and more
  unfoldable pub several_at : List A → List Lexeme → Reads (List A)
  several_at us ts = push_at us ts >>= λ x. others_at x.0 x.1

abbrev pub rest_of : Option (Span × List Lexeme) → Option (List Lexeme)
rest_of None = None
rest_of (Some x) = Some x.1

-- after a token of a kind
abbrev pub after : Kind → List Lexeme → Option (List Lexeme)
after kind ts = rest_of (front kind ts)

abbrev pub not_last : List Lexeme → Option (Span × List Lexeme) → Option (List Lexeme)
not_last ts None = Some ts
not_last ts (Some x) = None

abbrev pub further_on : Symbol → Option (Span × List Lexeme) → Option (List Lexeme)
further_on end None = None
further_on end (Some x) = not_last x.1 (front (Sign end) x.1)

-- after a semicolon that isn't the last before `end`
abbrev pub further : Symbol → List Lexeme → Option (List Lexeme)
further end ts = further_on end (front (Sign symbols.Semicolon) ts)

abbrev pub named_kind : Kind → Bool
named_kind (Identifier n) = true
named_kind _ = false

-- whether a name stands at the front
abbrev pub begins_named : List Lexeme → Bool
begins_named [] = false
begins_named (t ∷ ts) = named_kind t.kind

abbrev pub at_name : List Lexeme → Option (List Lexeme)
at_name ts = if begins_named ts then Some ts else None

abbrev pub left_kind : Kind → Bool
left_kind (Identifier n) = true
left_kind (Sign symbols.Open) = true
left_kind _ = false

-- whether an equation may stand at the front
abbrev pub begins_equation : List Lexeme → Bool
begins_equation [] = false
begins_equation (t ∷ ts) = left_kind t.kind

abbrev pub at_equation : List Lexeme → Option (List Lexeme)
at_equation ts = if begins_equation ts then Some ts else None

-- whether a token is left
abbrev pub at_token : List Lexeme → Option (List Lexeme)
at_token [] = None
at_token (t ∷ ts) = Some (t ∷ ts)

abbrev pub skipped : List Lexeme → Option (Span × List Lexeme) → List Lexeme
skipped ts None = ts
skipped ts (Some x) = x.1

-- the tokens after one that may stand
abbrev pub skip : Kind → List Lexeme → List Lexeme
skip kind ts = skipped ts (front kind ts)

-- ---- names and types

abbrev pub names_at : List Lexeme → Reads (List Named)
names_at ts = several_at (after (Sign symbols.Comma)) identifier_at [] ts

abbrev pub type_name_on : Span → Kind → List Lexeme → Reads TypeName
type_name_on s (Keyword words.Bool) ts = Ok (BoolName s, ts)
type_name_on s (Keyword words.Int) ts = Ok (IntName s, ts)
type_name_on s (Identifier n) ts = Ok (DeclaredName (named n s), ts)
type_name_on s _ ts = Err Syntax

unfoldable pub type_name_at : List Lexeme → Reads TypeName
type_name_at [] = Err Syntax
type_name_at (t ∷ ts) = type_name_on t.span t.kind ts

unfoldable pub fields_at : List Lexeme → Reads Fields
fields_at ts = do
  ns ← names_at ts
  r ← expect (Sign symbols.Colon) ns.1
  t ← type_name_at r
  Ok (record { names = ns.0; type_name = t.0 }, t.1)

unfoldable pub enumeration_at : List Lexeme → Reads Definition
enumeration_at ts = do
  r ← expect (Sign symbols.OpenBrace) ts
  ns ← names_at r
  s ← expect (Sign symbols.CloseBrace) ns.1
  Ok (Enumeration ns.0, s)

unfoldable pub structure_at : List Lexeme → Reads Definition
structure_at ts = do
  r ← expect (Sign symbols.OpenBrace) ts
  fs ← several_at (further symbols.CloseBrace) fields_at [] r
  s ← expect (Sign symbols.CloseBrace) (skip (Sign symbols.Semicolon) fs.1)
  Ok (StructureOf fs.0, s)

abbrev pub brace_or : List Lexeme → Option (Span × List Lexeme) → Reads Definition
brace_or ts (Some x) = structure_at ts
brace_or ts None = type_name_at ts >>= λ t. Ok (Alias t.0, t.1)

abbrev pub struct_or : List Lexeme → Option (Span × List Lexeme) → Reads Definition
struct_or ts (Some x) = structure_at x.1
struct_or ts None = brace_or ts (front (Sign symbols.OpenBrace) ts)

abbrev pub enum_or : List Lexeme → Option (Span × List Lexeme) → Reads Definition
enum_or ts (Some x) = enumeration_at x.1
enum_or ts None = struct_or ts (front (Keyword words.Struct) ts)

unfoldable pub definition_at : List Lexeme → Reads Definition
definition_at ts = enum_or ts (front (Keyword words.Enum) ts)

unfoldable pub type_at : List Lexeme → Reads TypeDeclaration
type_at ts = do
  n ← identifier_at ts
  r ← expect (Sign symbols.Equal) n.1
  d ← definition_at r
  s ← expect (Sign symbols.Semicolon) d.1
  Ok (record { name = n.0; definition = d.0 }, s)

-- ---- constants

abbrev pub negative_on : Span → Span → Kind → List Lexeme → Reads Literal
negative_on m s (Number n) ts = Ok (Negative m n s, ts)
negative_on m s _ ts = Err Syntax

-- the number after a minus
unfoldable pub negative_at : Span → List Lexeme → Reads Literal
negative_at m [] = Err Syntax
negative_at m (t ∷ ts) = negative_on m t.span t.kind ts

abbrev pub literal_on : Span → Kind → List Lexeme → Reads Literal
literal_on s (Number n) ts = Ok (Positive n s, ts)
literal_on s (Sign symbols.Minus) ts = negative_at s ts
literal_on s (Keyword words.True) ts = Ok (TruthValue true s, ts)
literal_on s (Keyword words.False) ts = Ok (TruthValue false s, ts)
literal_on s (Identifier n) ts = Ok (ConstructorName (named n s), ts)
literal_on s _ ts = Err Syntax

unfoldable pub literal_at : List Lexeme → Reads Literal
literal_at [] = Err Syntax
literal_at (t ∷ ts) = literal_on t.span t.kind ts

abbrev pub type_of_on : List Lexeme → Option (Span × List Lexeme) → Reads (Option TypeName)
type_of_on ts None = Ok (None, ts)
type_of_on ts (Some x) = type_name_at x.1 >>= λ t. Ok (Some t.0, t.1)

unfoldable pub type_of_at : List Lexeme → Reads (Option TypeName)
type_of_at ts = type_of_on ts (front (Sign symbols.Colon) ts)

unfoldable pub constant_at : List Lexeme → Reads Constant
constant_at ts = do
  n ← identifier_at ts
  t ← type_of_at n.1
  r ← expect (Sign symbols.Equal) t.1
  v ← literal_at r
  s ← expect (Sign symbols.Semicolon) v.1
  Ok (record { name = n.0; type_name = t.0; value = v.0 }, s)

-- ---- variables

abbrev pub clock_on : List Lexeme → Option (Span × List Lexeme) → Reads (Option Test)
clock_on ts None = Ok (None, ts)
clock_on ts (Some x) = test_at x.1 >>= λ c. Ok (Some c.0, c.1)

unfoldable pub clock_at : List Lexeme → Reads (Option Test)
clock_at ts = clock_on ts (front (Keyword words.When) ts)

unfoldable pub group_at : List Lexeme → Reads Group
group_at ts = do
  f ← fields_at ts
  c ← clock_at f.1
  Ok (record { names = f.0.names; type_name = f.0.type_name; test = c.0 }, c.1)

unfoldable pub variables_at : List Lexeme → Reads (List Group)
variables_at ts = several_at (further symbols.Close) group_at [] ts >>= λ gs. Ok (gs.0, skip (Sign symbols.Semicolon) gs.1)

abbrev pub inputs_on : List Lexeme → Option (Span × List Lexeme) → Reads (List Group)
inputs_on ts (Some x) = Ok ([], x.1)
inputs_on ts None = variables_at ts >>= λ gs. expect (Sign symbols.Close) gs.1 >>= λ r. Ok (gs.0, r)

unfoldable pub inputs_at : List Lexeme → Reads (List Group)
inputs_at ts = expect (Sign symbols.Open) ts >>= λ r. inputs_on r (front (Sign symbols.Close) r)

unfoldable pub outputs_at : List Lexeme → Reads (List Group)
outputs_at ts = do
  r ← expect (Keyword words.Returns) ts
  s ← expect (Sign symbols.Open) r
  gs ← variables_at s
  u ← expect (Sign symbols.Close) gs.1
  Ok (gs.0, skip (Sign symbols.Semicolon) u)

unfoldable pub local_at : List Lexeme → Reads Group
local_at ts = group_at ts >>= λ g. expect (Sign symbols.Semicolon) g.1 >>= λ r. Ok (g.0, r)

abbrev pub locals_at : List Lexeme → Reads (List Group)
locals_at ts = repeat_at (after (Keyword words.Var)) (several_at at_name local_at) (suc (length ts)) [] ts

-- ---- equations and nodes

abbrev pub left_on : List Lexeme → Option (Span × List Lexeme) → Reads (List Named)
left_on ts None = names_at ts
left_on ts (Some x) = names_at x.1 >>= λ ns. expect (Sign symbols.Close) ns.1 >>= λ r. Ok (ns.0, r)

unfoldable pub left_at : List Lexeme → Reads (List Named)
left_at ts = left_on ts (front (Sign symbols.Open) ts)

abbrev pub ended_on : List Lexeme → Option (Span × List Lexeme) → List Lexeme
ended_on ts (Some x) = x.1
ended_on ts None = skip (Sign symbols.Dot) ts

-- the tokens after what may follow `tel`
abbrev pub ended : List Lexeme → List Lexeme
ended ts = ended_on ts (front (Sign symbols.Semicolon) ts)

-- `limit` is what a right side may have
module _ (limit : ℕ) where
  unfoldable pub equation_at : List Lexeme → Reads Equation
  equation_at ts = do
    l ← left_at ts
    r ← expect (Sign symbols.Equal) l.1
    f ← read limit Whole r
    s ← expect (Sign symbols.Semicolon) f.rest
    Ok (record { left = l.0; right = f.tree }, s)

  unfoldable pub body_at : List Lexeme → Reads (List Equation)
  body_at ts = do
    r ← expect (Keyword words.Let) ts
    qs ← others_at at_equation equation_at [] r
    s ← expect (Keyword words.Tel) qs.1
    Ok (qs.0, ended s)

  -- what stands after `node` or `function`
  unfoldable pub node_at : NodeKind → List Lexeme → Reads Node
  node_at kind ts = do
    n ← identifier_at ts
    is ← inputs_at n.1
    os ← outputs_at is.1
    vs ← locals_at os.1
    qs ← body_at vs.1
    Ok (record { kind = kind; name = n.0; inputs = is.0; outputs = os.0; locals = vs.0; equations = qs.0 }, qs.1)

  -- ---- the whole source

  abbrev pub add_node : Tree → Node × List Lexeme → Reads Tree
  add_node t n = Ok (tree t.types t.constants (t.nodes ++ n.0 ∷ []), n.1)

  -- one node more
  abbrev pub more_node : NodeKind → Tree → List Lexeme → Reads Tree
  more_node kind t ts = node_at kind ts >>= add_node t

  abbrev pub declaration_on : Tree → Kind → List Lexeme → Reads Tree
  declaration_on t (Keyword words.Type) ts = several_at at_name type_at t.types ts >>= λ ds. Ok (tree ds.0 t.constants t.nodes, ds.1)
  declaration_on t (Keyword words.Const) ts = several_at at_name constant_at t.constants ts >>= λ cs. Ok (tree t.types cs.0 t.nodes, cs.1)
  declaration_on t (Keyword words.Node) ts = more_node kinds.Node t ts
  declaration_on t (Keyword words.Function) ts = more_node kinds.Function t ts
  declaration_on t _ ts = Err Syntax

  -- one declaration more
  unfoldable pub declaration_at : Tree → List Lexeme → Reads Tree
  declaration_at t [] = Err Syntax
  declaration_at t (k ∷ ts) = declaration_on t k.kind ts

  -- the tree that all the tokens spell, within the limit
  unfoldable pub program_at : List Lexeme → Result Tree Fault
  program_at ts = repeat_at at_token declaration_at (suc (length ts)) (tree [] [] []) ts >>= λ x. Ok x.0
