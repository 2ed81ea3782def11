-- Reading expressions from left to right, with a limit on the depth and the first fault that is met.
use Rattle.std.specs.Prelude.{ℕ, zero, suc, max, Bool, true, false, List, [], ◌∷◌, Option, Some, None, Result, Ok, Err, nat_lt, nat_le, length, ◌++◌, ◌+◌, if◌then◌else◌}
use denote.Enum.Bare.{sameb as same}
use Rattle.lus_syntax.specs.contracts.token.Symbol.{the_type as symbol_type}
use Rattle.lus_syntax.specs.contracts.token.Word.{the_type as word_type}
use Rattle.lus_syntax.specs.declared.token.Span.{Span}
use Rattle.lus_syntax.specs.declared.token.Symbol.TheVariants as symbols
use Rattle.lus_syntax.specs.declared.token.Word.{Word}
use Rattle.lus_syntax.specs.declared.token.Word.TheVariants as words
use Rattle.lus_syntax.specs.declared.tree.Infix.{Infix}
use Rattle.lus_syntax.specs.declared.tree.Infix.TheVariants as operators
use Rattle.lus_syntax.specs.declared.tree.ListOperator.{ListOperator}
use Rattle.lus_syntax.specs.declared.tree.Prefix.{Prefix}
use Rattle.lus_syntax.specs.Lexemes.{Kind, Identifier, Number, Sign, Keyword, Lexeme}
use Rattle.lus_syntax.specs.Trees.{Named, named, Label, Constructor, Boolean, Test, Holds, Fails, Is, Lead, Plain, Of, Branch, Expression, Numeral, Truth, Name, Call, Structure, Merge, Variadic, Field, Parentheses, When, Unary, Binary, If, Parts, End, parts_of}
use Rattle.lus_spelling.specs.declared.form.Form.{Form}
use Rattle.lus_spelling.specs.declared.form.Form.TheVariants as forms
use Rattle.lus_spelling.specs.Expressions.{Level, Whole, Arrow, Else, Choice, Implication, Disjunction, Conjunction, Negation, Negated, Comparison, Sum, Term, Signed, Primary, Dotted, Atom, infix_of, may_join, prefix_of, list_operator_of}

pub data Fault : Type 0 where
  Syntax : Fault
  Deep : Fault

-- a tree, its depth, and the tokens after it
pub record Found : Type 0 where
  pub tree : Expression
  pub depth : ℕ
  pub rest : List Lexeme

abbrev pub found : Expression → ℕ → List Lexeme → Found
found t d rest = record { tree = t; depth = d; rest = rest }

abbrev pub Read : Type 0
Read = Result Found Fault

abbrev pub Reader : Type 0
Reader = List Lexeme → Result Found Fault

infixl 10 ◌>>=◌
abbrev pub ◌>>=◌ : {A B : Type 0} → Result A Fault → (A → Result B Fault) → Result B Fault
(Ok x) >>= f = f x
(Err e) >>= f = Err e

-- whether a token is this symbol or word
abbrev pub is_lexeme : Kind → Kind → Bool
is_lexeme (Sign c) (Sign d) = same symbol_type d c
is_lexeme (Keyword v) (Keyword w) = same word_type w v
is_lexeme _ _ = false

-- a symbol or word at the front: its span, and the tokens after it
abbrev pub front : Kind → List Lexeme → Option (Span × List Lexeme)
front l [] = None
front l (t ∷ ts) = if is_lexeme l t.kind then Some (t.span, ts) else None

abbrev pub expected : Option (Span × List Lexeme) → Result (List Lexeme) Fault
expected None = Err Syntax
expected (Some x) = Ok x.1

-- the tokens after a word that has to stand
abbrev pub expect : Kind → List Lexeme → Result (List Lexeme) Fault
expect l ts = expected (front l ts)

-- ---- names, labels and tests

abbrev pub named_on : Span → Kind → List Lexeme → Result (Named × List Lexeme) Fault
named_on s (Identifier n) ts = Ok (named n s, ts)
named_on s _ ts = Err Syntax

unfoldable pub identifier_at : List Lexeme → Result (Named × List Lexeme) Fault
identifier_at [] = Err Syntax
identifier_at (t ∷ ts) = named_on t.span t.kind ts

abbrev pub label_on : Span → Kind → List Lexeme → Result (Label × List Lexeme) Fault
label_on s (Identifier n) ts = Ok (Constructor (named n s), ts)
label_on s (Keyword words.True) ts = Ok (Boolean true s, ts)
label_on s (Keyword words.False) ts = Ok (Boolean false s, ts)
label_on s _ ts = Err Syntax

unfoldable pub label_at : List Lexeme → Result (Label × List Lexeme) Fault
label_at [] = Err Syntax
label_at (t ∷ ts) = label_on t.span t.kind ts

-- a name and a closing parenthesis
unfoldable pub closed_name_at : List Lexeme → Result (Named × List Lexeme) Fault
closed_name_at ts = identifier_at ts >>= λ x. expect (Sign symbols.Close) x.1 >>= λ r. Ok (x.0, r)

abbrev pub denied : Span → List Lexeme → Option (Span × List Lexeme) → Result (Test × List Lexeme) Fault
denied s ts None = identifier_at ts >>= λ x. Ok (Fails s x.0, x.1)
denied s ts (Some o) = closed_name_at o.1 >>= λ x. Ok (Fails s x.0, x.1)

abbrev pub tested : Label → List Lexeme → Option (Span × List Lexeme) → Result (Test × List Lexeme) Fault
tested l ts (Some o) = closed_name_at o.1 >>= λ x. Ok (Is l x.0, x.1)
tested (Constructor n) ts None = Ok (Holds n, ts)
tested (Boolean b s) ts None = Err Syntax

abbrev pub test_on : List Lexeme → Option (Span × List Lexeme) → Result (Test × List Lexeme) Fault
test_on ts (Some x) = denied x.0 x.1 (front (Sign symbols.Open) x.1)
test_on ts None = label_at ts >>= λ l. tested l.0 l.1 (front (Sign symbols.Open) l.1)

unfoldable pub test_at : List Lexeme → Result (Test × List Lexeme) Fault
test_at ts = test_on ts (front (Keyword words.Not) ts)

-- ---- what may begin

-- how tight the rule is that a token may begin
abbrev pub opening_of : Kind → ℕ
opening_of (Keyword words.If) = 1
opening_of (Keyword words.Not) = 2
opening_of (Keyword words.Pre) = 3
opening_of (Sign symbols.Minus) = 3
opening_of (Keyword words.Merge) = 4
opening_of (Number n) = 5
opening_of (Identifier n) = 5
opening_of (Keyword words.True) = 5
opening_of (Keyword words.False) = 5
opening_of (Sign symbols.Open) = 5
opening_of (Sign symbols.Sharp) = 5
opening_of (Keyword words.Nor) = 5
opening_of _ = 0

abbrev pub opening : List Lexeme → ℕ
opening [] = 0
opening (t ∷ ts) = opening_of t.kind

-- how tight a rule must be, at least, to begin a level
abbrev pub entry : Level → ℕ
entry Whole = 1
entry Arrow = 1
entry Else = 1
entry Choice = 1
entry Implication = 2
entry Disjunction = 2
entry Conjunction = 2
entry Negation = 2
entry Negated = 2
entry Comparison = 3
entry Sum = 3
entry Term = 3
entry Signed = 3
entry Primary = 4
entry Dotted = 5
entry Atom = 5

-- where no depth is left: what begins a rule that is tight enough is too deep
abbrev pub deep_at : ℕ → List Lexeme → Read
deep_at wanted ts = if nat_le wanted (opening ts) then Err Deep else Err Syntax

-- ---- parts

-- whether another part follows, and the tokens where it begins; or the tokens after the parts
abbrev pub Turn : Type 0
Turn = Result (Bool × List Lexeme) Fault

abbrev pub after_argument : List Lexeme → Option (Span × List Lexeme) → Turn
after_argument ts (Some x) = Ok (true, x.1)
after_argument ts None = expect (Sign symbols.Close) ts >>= λ r. Ok (false, r)

abbrev pub after_semicolon : List Lexeme → Option (Span × List Lexeme) → Turn
after_semicolon ts (Some x) = Ok (false, x.1)
after_semicolon ts None = Ok (true, ts)

abbrev pub after_init : List Lexeme → Option (Span × List Lexeme) → Turn
after_init ts (Some x) = after_semicolon x.1 (front (Sign symbols.CloseBrace) x.1)
after_init ts None = expect (Sign symbols.CloseBrace) ts >>= λ r. Ok (false, r)

abbrev pub after_branch : List Lexeme → Option (Span × List Lexeme) → Turn
after_branch ts (Some x) = Ok (true, ts)
after_branch ts None = Ok (false, ts)

abbrev pub turn_at : Form → List Lexeme → Turn
turn_at forms.Call ts = after_argument ts (front (Sign symbols.Comma) ts)
turn_at forms.Structure ts = after_init ts (front (Sign symbols.Semicolon) ts)
turn_at forms.Merge ts = after_branch ts (front (Sign symbols.Open) ts)

pub record Item : Type 0 where
  pub lead : Lead
  pub tree : Expression
  pub depth : ℕ
  pub rest : List Lexeme

abbrev pub item : Lead → Expression → ℕ → List Lexeme → Item
item l t d rest = record { lead = l; tree = t; depth = d; rest = rest }

-- the lead of a part, and the tokens after it
abbrev pub lead_on : Option (Span × List Lexeme) → Result (Lead × List Lexeme) Fault
lead_on None = Err Syntax
lead_on (Some o) = label_at o.1 >>= λ l. expect (Sign symbols.Arrow) l.1 >>= λ r. Ok (Branch o.0 l.0, r)

unfoldable pub lead_at : Form → List Lexeme → Result (Lead × List Lexeme) Fault
lead_at forms.Call ts = Ok (Plain, ts)
lead_at forms.Structure ts = identifier_at ts >>= λ x. expect (Sign symbols.Equal) x.1 >>= λ r. Ok (Of x.0, r)
lead_at forms.Merge ts = lead_on (front (Sign symbols.Open) ts)

-- what stands after the value of a part
abbrev pub tail_at : Form → List Lexeme → Result (List Lexeme) Fault
tail_at forms.Merge ts = expect (Sign symbols.Close) ts
tail_at _ ts = Ok ts

unfoldable pub part_at : Form → Reader → List Lexeme → Result Item Fault
part_at form whole ts = lead_at form ts >>= λ l. whole l.1 >>= λ f. tail_at form f.rest >>= λ r. Ok (item l.0 f.tree f.depth r)

-- parts, the greatest depth, and the tokens after what closes them
abbrev pub Several : Type 0
Several = Result (List (Lead × Expression) × ℕ × List Lexeme) Fault

abbrev pub onward : (List (Lead × Expression) → ℕ → List Lexeme → Several) → List (Lead × Expression) → ℕ → Bool × List Lexeme → Several
onward others us d (true, r) = others us d r
onward others us d (false, r) = Ok (us, d, r)

-- the parts after `us`, at most `count` of them
unfoldable pub parts_at : ℕ → Form → Reader → List (Lead × Expression) → ℕ → List Lexeme → Several
parts_at zero form whole us d ts = Err Syntax
parts_at (suc count) form whole us d ts = part_at form whole ts >>= λ i. turn_at form i.rest >>= λ t. onward (parts_at count form whole) (us ++ (i.lead, i.tree) ∷ []) (max d i.depth) t

unfoldable pub listed_at : (Parts → Expression) → Form → Reader → Reader
listed_at make form whole ts = parts_at (length ts + 1) form whole [] 0 ts >>= λ a. Ok (found (make (parts_of a.0)) (suc a.1) a.2)

-- ---- atom

abbrev pub after_open : Span → Found → Result (List Lexeme) Fault → Read
after_open s inner (Ok rest) = Ok (found (Parentheses s inner.tree) (suc inner.depth) rest)
after_open s inner (Err e) = Err e

abbrev pub parentheses_on : Reader → Option (Span × List Lexeme) → Read
parentheses_on whole None = Err Syntax
parentheses_on whole (Some x) = whole x.1 >>= λ inner. after_open x.0 inner (expect (Sign symbols.Close) inner.rest)

-- `whole` reads within what a part may have
unfoldable pub parentheses_at : Reader → Reader
parentheses_at whole ts = parentheses_on whole (front (Sign symbols.Open) ts)

abbrev pub truth_on : Word → Span → List Lexeme → Read
truth_on words.True s ts = Ok (found (Truth true s) 1 ts)
truth_on words.False s ts = Ok (found (Truth false s) 1 ts)
truth_on _ s ts = Err Syntax

abbrev pub call_on : Reader → Named → List Lexeme → Option (Span × List Lexeme) → Read
call_on whole n ts (Some x) = Ok (found (Call n End) 1 x.1)
call_on whole n ts None = listed_at (Call n) forms.Call whole ts

abbrev pub brace_on : Reader → Named → List Lexeme → Option (Span × List Lexeme) → Read
brace_on whole n ts None = Ok (found (Name n) 1 ts)
brace_on whole n ts (Some x) = listed_at (Structure n) forms.Structure whole x.1

abbrev pub name_on : Reader → Named → List Lexeme → Option (Span × List Lexeme) → Read
name_on whole n ts (Some x) = call_on whole n x.1 (front (Sign symbols.Close) x.1)
name_on whole n ts None = brace_on whole n ts (front (Sign symbols.OpenBrace) ts)

-- a name, and what belongs to it
unfoldable pub name_at : Reader → Named → Reader
name_at whole n ts = name_on whole n ts (front (Sign symbols.Open) ts)

abbrev pub with_operator : Lexeme → List Lexeme → Option ListOperator → Option (ListOperator × Span × List Lexeme)
with_operator t ts None = None
with_operator t ts (Some op) = Some (op, t.span, ts)

-- an operator before a list of operands at the front, its span, and the tokens after it
abbrev pub list_operator_at : List Lexeme → Option (ListOperator × Span × List Lexeme)
list_operator_at [] = None
list_operator_at (t ∷ ts) = with_operator t ts (list_operator_of t.kind)

abbrev pub operands_on : Reader → ListOperator → Span → Option (Span × List Lexeme) → Read
operands_on whole op s None = Err Syntax
operands_on whole op s (Some x) = listed_at (Variadic op s) forms.Call whole x.1

-- the operands after an operator
unfoldable pub operands_at : Reader → ListOperator → Span → Reader
operands_at whole op s ts = operands_on whole op s (front (Sign symbols.Open) ts)

abbrev pub atom_on : Reader → Lexeme → Kind → List Lexeme → Read
atom_on whole t (Number n) ts = Ok (found (Numeral n t.span) 1 ts)
atom_on whole t (Identifier n) ts = name_at whole (named n t.span) ts
atom_on whole t (Keyword w) ts = truth_on w t.span ts
atom_on whole t (Sign c) ts = parentheses_at whole (t ∷ ts)

-- an atom that begins with no operator
unfoldable pub plain_at : Reader → Reader
plain_at whole [] = Err Syntax
plain_at whole (t ∷ ts) = atom_on whole t t.kind ts

abbrev pub atom_or : Reader → List Lexeme → Option (ListOperator × Span × List Lexeme) → Read
atom_or whole ts None = plain_at whole ts
atom_or whole ts (Some x) = operands_at whole x.0 x.1 x.2

unfoldable pub atom_at : Reader → Reader
atom_at whole ts = atom_or whole ts (list_operator_at ts)

-- ---- fields and merge

abbrev pub no_dot : Found → Option (Span × List Lexeme) → Read
no_dot left None = Ok left
no_dot left (Some x) = identifier_at x.1 >>= λ n. Err Deep

abbrev pub one_dot : ℕ → (Found → Read) → Found → Option (Span × List Lexeme) → Read
one_dot limit more left None = Ok left
one_dot limit more left (Some x) = identifier_at x.1 >>= λ n. if nat_lt limit left.depth then Err Deep else more (found (Field left.tree n.0) (suc left.depth) n.1)

-- the fields after `left`
unfoldable pub dots_at : ℕ → ℕ → Found → Read
dots_at zero limit left = no_dot left (front (Sign symbols.Dot) left.rest)
dots_at (suc turns) limit left = one_dot limit (dots_at turns limit) left (front (Sign symbols.Dot) left.rest)

unfoldable pub dotted_at : ℕ → Reader → Reader
dotted_at limit atom ts = atom ts >>= dots_at (suc limit) limit

abbrev pub merge_on : Reader → Reader → List Lexeme → Option (Span × List Lexeme) → Read
merge_on whole dotted ts None = dotted ts
merge_on whole dotted ts (Some x) = identifier_at x.1 >>= λ n. listed_at (Merge x.0 n.0) forms.Merge whole n.1

unfoldable pub primary_at : Reader → Reader → Reader
primary_at whole dotted ts = merge_on whole dotted ts (front (Keyword words.Merge) ts)

-- ---- prefixes

abbrev pub with_operand : Lexeme → List Lexeme → Option Prefix → Option (Prefix × Span × List Lexeme)
with_operand t ts None = None
with_operand t ts (Some op) = Some (op, t.span, ts)

abbrev pub prefix_at : Level → List Lexeme → Option (Prefix × Span × List Lexeme)
prefix_at level [] = None
prefix_at level (t ∷ ts) = with_operand t ts (prefix_of level t.kind)

abbrev pub prefixed_on : Reader → Reader → List Lexeme → Option (Prefix × Span × List Lexeme) → Read
prefixed_on operand other ts None = other ts
prefixed_on operand other ts (Some x) = operand x.2 >>= λ inner. Ok (found (Unary x.0 x.1 inner.tree) (suc inner.depth) inner.rest)

unfoldable pub prefixed_at : Level → Reader → Reader → Reader
prefixed_at level operand other ts = prefixed_on operand other ts (prefix_at level ts)

-- ---- operators between two operands

abbrev pub join : Infix → Found → Found → Found
join op left right = found (Binary op left.tree right.tree) (suc (max left.depth right.depth)) right.rest

-- the right operand, where a part may have the depth `limit`, and what `more` reads after it
abbrev pub two_on : ℕ → Infix → Reader → (Found → Read) → Found → List Lexeme → Read
two_on limit op operand more left ts = operand ts >>= λ right. if nat_lt limit left.depth then Err Deep else more (join op left right)

abbrev pub allowed : Expression → List Lexeme → Option Infix → Option (Infix × List Lexeme)
allowed left ts None = None
allowed left ts (Some op) = if may_join op left then Some (op, ts) else None

-- an operator of the level at the front, that may stand after the left operand
abbrev pub infix_at : Level → Expression → List Lexeme → Option (Infix × List Lexeme)
infix_at level left [] = None
infix_at level left (t ∷ ts) = allowed left ts (infix_of level t.kind)

-- no turn is left for an operator
abbrev pub no_turn : Reader → Found → Option (Infix × List Lexeme) → Read
no_turn operand left None = Ok left
no_turn operand left (Some x) = operand x.1 >>= λ right. Err Deep

abbrev pub one_turn : ℕ → Reader → (Found → Read) → Found → Option (Infix × List Lexeme) → Read
one_turn limit operand more left None = Ok left
one_turn limit operand more left (Some x) = two_on limit x.0 operand more left x.1

-- the operands after `left`, where a part may have the depth `limit`; more turns than that are never made
unfoldable pub more_at : ℕ → Level → ℕ → Reader → Found → Read
more_at zero level limit operand left = no_turn operand left (infix_at level left.tree left.rest)
more_at (suc turns) level limit operand left = one_turn limit operand (more_at turns level limit operand) left (infix_at level left.tree left.rest)

-- `first` reads the first operand within what the whole may have, `operand` the others within what a part may
unfoldable pub chain_at : Level → ℕ → Reader → Reader → Reader
chain_at level limit operand first ts = first ts >>= more_at (suc limit) level limit operand

-- ---- choice, arrow and whole

-- what follows an `if`
unfoldable pub branches_at : Reader → Reader → Span → Reader
branches_at whole otherwise s ts = do
  c ← whole ts
  after_then ← expect (Keyword words.Then) c.rest
  a ← whole after_then
  after_else ← expect (Keyword words.Else) a.rest
  b ← otherwise after_else
  Ok (found (If s c.tree a.tree b.tree) (suc (max c.depth (max a.depth b.depth))) b.rest)

-- an `if`, and else what `other` reads
abbrev pub choice_on : (Span → Reader) → Reader → List Lexeme → Option (Span × List Lexeme) → Read
choice_on branches other ts None = other ts
choice_on branches other ts (Some x) = branches x.0 x.1

unfoldable pub choice_at : (Span → Reader) → Reader → Reader
choice_at branches other ts = choice_on branches other ts (front (Keyword words.If) ts)

abbrev pub arrow_on : ℕ → Reader → Found → Option (Span × List Lexeme) → Read
arrow_on limit arrow left None = Ok left
arrow_on limit arrow left (Some x) = two_on limit operators.Arrow arrow (λ f. Ok f) left x.1

unfoldable pub arrow_at : ℕ → Reader → Reader → Reader
arrow_at limit arrow value ts = value ts >>= λ left. arrow_on limit arrow left (front (Sign symbols.Arrow) left.rest)

abbrev pub is_primary : Expression → Bool
is_primary (When t c) = false
is_primary (Unary op s t) = false
is_primary (Binary op a b) = false
is_primary (If s c a b) = false
is_primary _ = true

abbrev pub sampled : ℕ → Expression → ℕ → Test → List Lexeme → Read
sampled limit t d c ts = if nat_lt limit d then Err Deep else Ok (found (When t c) (suc d) ts)

-- the test after a tree of the depth `d`, where a part may have the depth `limit`
abbrev pub sampled_at : ℕ → Expression → ℕ → Reader
sampled_at limit t d ts = test_at ts >>= λ c. sampled limit t d c.0 c.1

abbrev pub when_on : ℕ → Found → Option (Span × List Lexeme) → Read
when_on limit left None = Ok left
when_on limit left (Some x) = if is_primary left.tree then sampled_at limit left.tree left.depth x.1 else Err Syntax

abbrev pub fby_on : ℕ → Reader → Found → Option (Span × List Lexeme) → Read
fby_on limit primary left None = when_on limit left (front (Keyword words.When) left.rest)
fby_on limit primary left (Some x) = if is_primary left.tree then two_on limit operators.Fby primary (λ f. Ok f) left x.1 else Err Syntax

unfoldable pub whole_at : ℕ → Reader → Reader → Reader
whole_at limit primary arrow ts = arrow ts >>= λ left. fby_on limit primary left (front (Keyword words.Fby) left.rest)

abbrev pub refuse : Reader
refuse ts = Err Syntax

-- reads a level, where a part may have the depth `limit`, and `part` reads parts
module _ (limit : ℕ) (part : Level → Reader) where
  unfoldable pub read_atom : Reader
  read_atom ts = atom_at (part Whole) ts

  unfoldable pub read_dotted : Reader
  read_dotted ts = dotted_at limit read_atom ts

  unfoldable pub read_primary : Reader
  read_primary ts = primary_at (part Whole) read_dotted ts

  unfoldable pub read_signed : Reader
  read_signed ts = prefixed_at Signed (part Signed) read_primary ts

  unfoldable pub read_term : Reader
  read_term ts = chain_at Term limit (part Signed) read_signed ts

  unfoldable pub read_sum : Reader
  read_sum ts = chain_at Sum limit (part Term) read_term ts

  unfoldable pub read_comparison : Reader
  read_comparison ts = chain_at Comparison limit (part Sum) read_sum ts

  unfoldable pub read_negated : Reader
  read_negated ts = prefixed_at Negated (part Negated) read_signed ts

  unfoldable pub read_negation : Reader
  read_negation ts = prefixed_at Negation (part Negated) read_comparison ts

  unfoldable pub read_conjunction : Reader
  read_conjunction ts = chain_at Conjunction limit (part Negation) read_negation ts

  unfoldable pub read_disjunction : Reader
  read_disjunction ts = chain_at Disjunction limit (part Conjunction) read_conjunction ts

  unfoldable pub read_implication : Reader
  read_implication ts = chain_at Implication limit (part Disjunction) read_disjunction ts

  unfoldable pub read_choice : Reader
  read_choice ts = choice_at (branches_at (part Whole) (part Else)) refuse ts

  unfoldable pub read_else : Reader
  read_else ts = choice_at (branches_at (part Whole) (part Else)) read_implication ts

  unfoldable pub read_arrow : Reader
  read_arrow ts = choice_at (branches_at (part Whole) (part Else)) (arrow_at limit (part Arrow) read_implication) ts

  unfoldable pub read_whole : Reader
  read_whole ts = whole_at limit (part Primary) read_arrow ts

  abbrev pub level_at : Level → Reader
  level_at Atom = read_atom
  level_at Dotted = read_dotted
  level_at Primary = read_primary
  level_at Signed = read_signed
  level_at Term = read_term
  level_at Sum = read_sum
  level_at Comparison = read_comparison
  level_at Negated = read_negated
  level_at Negation = read_negation
  level_at Conjunction = read_conjunction
  level_at Disjunction = read_disjunction
  level_at Implication = read_implication
  level_at Choice = read_choice
  level_at Else = read_else
  level_at Arrow = read_arrow
  level_at Whole = read_whole

-- reads a level, where the whole may have the depth `limit`
unfoldable pub read : ℕ → Level → Reader
read zero level ts = deep_at (entry level) ts
read (suc limit) level ts = level_at limit (read limit) level ts
