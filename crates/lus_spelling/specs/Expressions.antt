-- Which tokens spell which expression: one constructor a rule, over the rule that it says.
-- Lustre V6 reference manual, "Syntax".
use Rattle.std.specs.Prelude.{◌≡◌, ℕ, ℤ, suc, max, Bool, true, false, List, [], ◌∷◌, ◌++◌, Option, Some, None}
use Rattle.lus_values.specs.declared.operator.Op.{Op}
use Rattle.lus_values.specs.declared.operator.Op.TheVariants as ops
use Rattle.lus_syntax.specs.declared.token.Span.{Span}
use Rattle.lus_syntax.specs.declared.token.Symbol.TheVariants as symbols
use Rattle.lus_syntax.specs.declared.token.Word.TheVariants as words
use Rattle.lus_syntax.specs.declared.tree.Infix.{Infix}
use Rattle.lus_syntax.specs.declared.tree.Infix.TheVariants as operators
use Rattle.lus_syntax.specs.declared.tree.ListOperator.{ListOperator}
use Rattle.lus_syntax.specs.declared.tree.ListOperator.TheVariants as list_operators
use Rattle.lus_syntax.specs.declared.tree.Prefix.{Prefix}
use Rattle.lus_syntax.specs.declared.tree.Prefix.TheVariants as prefixes
use Rattle.lus_syntax.specs.Lexemes.{Kind, Identifier, Number, Sign, Keyword, Lexeme, tok}
use Rattle.lus_syntax.specs.Trees.{Named, Label, Constructor, Boolean, Test, Holds, Fails, Is, Lead, Plain, Of, Branch, Expression, Numeral, Truth, Name, Call, Structure, Merge, Variadic, Field, Parentheses, When, Unary, Binary, If, Parts, End, More}
use Rattle.lus_spelling.specs.declared.form.Form.{Form}
use Rattle.lus_spelling.specs.declared.form.Form.TheVariants as forms
use Rattle.lus_spelling.specs.declared.mixing.Mixing.{Mixing}
use Rattle.lus_spelling.specs.declared.mixing.Mixing.TheVariants as mixings

-- the token of a name
abbrev pub ident : Named → Lexeme
ident n = tok (Identifier n.text) n.span

-- the token of a label
abbrev pub label : Label → Lexeme
label (Constructor n) = ident n
label (Boolean true s) = tok (Keyword words.True) s
label (Boolean false s) = tok (Keyword words.False) s

-- one for a leaf, and else one more than the deepest part
abbrev mutual
  pub depth : Expression → ℕ
  depth (Call n us) = suc (deepest us)
  depth (Structure n us) = suc (deepest us)
  depth (Merge s n us) = suc (deepest us)
  depth (Variadic op s us) = suc (deepest us)
  depth (Field t n) = suc (depth t)
  depth (Parentheses s t) = suc (depth t)
  depth (When t c) = suc (depth t)
  depth (Unary op s t) = suc (depth t)
  depth (Binary op a b) = suc (max (depth a) (depth b))
  depth (If s c a b) = suc (max (depth c) (max (depth a) (depth b)))
  depth _ = 1

  pub deepest : Parts → ℕ
  deepest End = 0
  deepest (More l t us) = max (depth t) (deepest us)

-- the rules of the grammar
pub data Level : Type 0 where
  Whole : Level
  Arrow : Level
  Else : Level
  Choice : Level
  Implication : Level
  Disjunction : Level
  Conjunction : Level
  Negation : Level
  Negated : Level
  Comparison : Level
  Sum : Level
  Term : Level
  Signed : Level
  Primary : Level
  Dotted : Level
  Atom : Level

-- ---- operators

-- the operator that a token is between operands, and the level whose operands it joins
abbrev pub joined_at : Kind → Option (Level × Op)
joined_at (Sign symbols.Implies) = Some (Implication, ops.Implies)
joined_at (Keyword words.Or) = Some (Disjunction, ops.Or)
joined_at (Keyword words.Xor) = Some (Disjunction, ops.Xor)
joined_at (Keyword words.And) = Some (Conjunction, ops.And)
joined_at (Sign symbols.Equal) = Some (Comparison, ops.Equal)
joined_at (Sign symbols.NotEqual) = Some (Comparison, ops.NotEqual)
joined_at (Sign symbols.Less) = Some (Comparison, ops.Less)
joined_at (Sign symbols.AtMost) = Some (Comparison, ops.AtMost)
joined_at (Sign symbols.Greater) = Some (Comparison, ops.Greater)
joined_at (Sign symbols.AtLeast) = Some (Comparison, ops.AtLeast)
joined_at (Sign symbols.Plus) = Some (Sum, ops.Add)
joined_at (Sign symbols.Minus) = Some (Sum, ops.Subtract)
joined_at (Sign symbols.Star) = Some (Term, ops.Multiply)
joined_at (Sign symbols.Slash) = Some (Term, ops.Divide)
joined_at (Keyword words.Div) = Some (Term, ops.Divide)
joined_at (Keyword words.Mod) = Some (Term, ops.Remainder)
joined_at _ = None

-- an operator, if it joins the operands of a level
abbrev pub joins_at : Level → Option (Level × Op) → Option Infix
joins_at Implication (Some (Implication, op)) = Some (operators.Compute op)
joins_at Disjunction (Some (Disjunction, op)) = Some (operators.Compute op)
joins_at Conjunction (Some (Conjunction, op)) = Some (operators.Compute op)
joins_at Comparison (Some (Comparison, op)) = Some (operators.Compute op)
joins_at Sum (Some (Sum, op)) = Some (operators.Compute op)
joins_at Term (Some (Term, op)) = Some (operators.Compute op)
joins_at _ _ = None

-- which operators join the operands of a level
abbrev pub infix_of : Level → Kind → Option Infix
infix_of level l = joins_at level (joined_at l)

-- how operators mix
abbrev pub mixing_of : Infix → Mixing
mixing_of (operators.Compute ops.Implies) = mixings.Implication
mixing_of (operators.Compute ops.Or) = mixings.Or
mixing_of (operators.Compute ops.Xor) = mixings.Xor
mixing_of (operators.Compute ops.Equal) = mixings.Comparison
mixing_of (operators.Compute ops.NotEqual) = mixings.Comparison
mixing_of (operators.Compute ops.Less) = mixings.Comparison
mixing_of (operators.Compute ops.AtMost) = mixings.Comparison
mixing_of (operators.Compute ops.Greater) = mixings.Comparison
mixing_of (operators.Compute ops.AtLeast) = mixings.Comparison
mixing_of _ = mixings.Free

-- `=>` and the comparisons don't chain, `or` and `xor` don't mix
abbrev pub mixes : Mixing → Mixing → Bool
mixes mixings.Implication mixings.Implication = false
mixes mixings.Or mixings.Xor = false
mixes mixings.Xor mixings.Or = false
mixes mixings.Comparison mixings.Comparison = false
mixes _ _ = true

-- whether an operator may stand after a left operand
abbrev pub may_join : Infix → Expression → Bool
may_join op (Binary before a b) = mixes (mixing_of before) (mixing_of op)
may_join op _ = true

-- a level of operands and operators, and the level of its operands
pub data Joins : Level → Level → Type 0 where
  implication : Joins Implication Disjunction
  disjunction : Joins Disjunction Conjunction
  conjunction : Joins Conjunction Negation
  comparison : Joins Comparison Sum
  sum : Joins Sum Term
  term : Joins Term Signed

-- which operators stand before the operand of a level
abbrev pub prefix_of : Level → Kind → Option Prefix
prefix_of Negation (Keyword words.Not) = Some prefixes.Not
prefix_of Negated (Keyword words.Not) = Some prefixes.Not
prefix_of Signed (Keyword words.Pre) = Some prefixes.Pre
prefix_of Signed (Sign symbols.Minus) = Some prefixes.Negate
prefix_of _ _ = None

-- which operators stand before a list of operands
abbrev pub list_operator_of : Kind → Option ListOperator
list_operator_of (Sign symbols.Sharp) = Some list_operators.AtMostOne
list_operator_of (Keyword words.Nor) = Some list_operators.Nor
list_operator_of _ = None

-- a level with prefixes, the level of the operand after one, and the level without
pub data Heads : Level → Level → Level → Type 0 where
  negation : Heads Negation Negated Comparison
  negated : Heads Negated Negated Signed
  signed : Heads Signed Signed Primary

-- ---- the rules

-- test = IDENT | "not" IDENT | "not" "(" IDENT ")" | ( IDENT | "true" | "false" ) "(" IDENT ")"
pub data SpellsTest : Test → List Lexeme → Type 0 where
  holds : (n : Named) → SpellsTest (Holds n) (ident n ∷ [])
  fails : (s : Span) (n : Named) → SpellsTest (Fails s n) (tok (Keyword words.Not) s ∷ ident n ∷ [])
  fails_in : (s o c : Span) (n : Named) → SpellsTest (Fails s n) (tok (Keyword words.Not) s ∷ tok (Sign symbols.Open) o ∷ ident n ∷ tok (Sign symbols.Close) c ∷ [])
  labelled : (l : Label) (o c : Span) (n : Named) → SpellsTest (Is l n) (label l ∷ tok (Sign symbols.Open) o ∷ ident n ∷ tok (Sign symbols.Close) c ∷ [])

-- what stands between parts, and after the last
pub data Separates : Form → List Lexeme → Type 0 where
  comma : (s : Span) → Separates forms.Call (tok (Sign symbols.Comma) s ∷ [])
  semicolon : (s : Span) → Separates forms.Structure (tok (Sign symbols.Semicolon) s ∷ [])
  unparted : Separates forms.Merge []

pub data Closes : Form → List Lexeme → Type 0 where
  closed : (e : Span) → Closes forms.Call (tok (Sign symbols.Close) e ∷ [])
  braced : (e : Span) → Closes forms.Structure (tok (Sign symbols.CloseBrace) e ∷ [])
  late : (s e : Span) → Closes forms.Structure (tok (Sign symbols.Semicolon) s ∷ tok (Sign symbols.CloseBrace) e ∷ [])
  unclosed : Closes forms.Merge []

mutual
  pub data Spells : Level → Expression → List Lexeme → Type 0 where
    -- atom = NUMBER | "true" | "false" | IDENT | IDENT "(" [ whole { "," whole } ] ")" | IDENT "{" init { ";" init } [ ";" ] "}" | ( "#" | "nor" ) "(" whole { "," whole } ")" | "(" whole ")"
    number : (n : ℤ) (s : Span) → Spells Atom (Numeral n s) (tok (Number n) s ∷ [])
    truth : (s : Span) → Spells Atom (Truth true s) (tok (Keyword words.True) s ∷ [])
    falsity : (s : Span) → Spells Atom (Truth false s) (tok (Keyword words.False) s ∷ [])
    name : (n : Named) → Spells Atom (Name n) (ident n ∷ [])
    call_empty : (n : Named) (o e : Span) → Spells Atom (Call n End) (ident n ∷ tok (Sign symbols.Open) o ∷ tok (Sign symbols.Close) e ∷ [])
    call : (n : Named) (o : Span) {us : Parts} {ts : List Lexeme} → SpellsAll forms.Call us ts → Spells Atom (Call n us) (ident n ∷ tok (Sign symbols.Open) o ∷ ts)
    structure : (n : Named) (o : Span) {us : Parts} {ts : List Lexeme} → SpellsAll forms.Structure us ts → Spells Atom (Structure n us) (ident n ∷ tok (Sign symbols.OpenBrace) o ∷ ts)
    variadic : (l : Kind) (op : ListOperator) (s o : Span) {us : Parts} {ts : List Lexeme} → list_operator_of l ≡ Some op → SpellsAll forms.Call us ts → Spells Atom (Variadic op s us) (tok l s ∷ tok (Sign symbols.Open) o ∷ ts)
    parentheses : (s e : Span) {t : Expression} {ts : List Lexeme} → Spells Whole t ts → Spells Atom (Parentheses s t) (tok (Sign symbols.Open) s ∷ (ts ++ tok (Sign symbols.Close) e ∷ []))
    -- primary = atom { "." IDENT } | merge, merge = "merge" IDENT branch { branch }
    undotted : {t : Expression} {ts : List Lexeme} → Spells Atom t ts → Spells Dotted t ts
    dotted : (d : Span) (x : Named) {t : Expression} {ts : List Lexeme} → Spells Dotted t ts → Spells Dotted (Field t x) (ts ++ tok (Sign symbols.Dot) d ∷ ident x ∷ [])
    primary : {t : Expression} {ts : List Lexeme} → Spells Dotted t ts → Spells Primary t ts
    merge : (s : Span) (n : Named) {us : Parts} {ts : List Lexeme} → SpellsAll forms.Merge us ts → Spells Primary (Merge s n us) (tok (Keyword words.Merge) s ∷ ident n ∷ ts)
    -- neg = "not" negated | cmp, negated = "not" negated | unary, unary = "pre" unary | "-" unary | primary
    prefixed : {level operand other : Level} (l : Kind) (op : Prefix) (s : Span) {t : Expression} {ts : List Lexeme} → Heads level operand other → prefix_of level l ≡ Some op → Spells operand t ts → Spells level (Unary op s t) (tok l s ∷ ts)
    bare : {level operand other : Level} {t : Expression} {ts : List Lexeme} → Heads level operand other → Spells other t ts → Spells level t ts
    -- imp = disj [ "=>" disj ]
    -- disj = conj { "or" conj } | conj "xor" conj { "xor" conj }
    -- conj = neg { "and" neg }
    -- cmp = sum [ ( "=" | "<>" | "<" | "<=" | ">" | ">=" ) sum ]
    -- sum = term { ( "+" | "-" ) term }
    -- term = unary { ( "*" | "/" | "div" | "mod" ) unary }
    first : {level operand : Level} {t : Expression} {ts : List Lexeme} → Joins level operand → Spells operand t ts → Spells level t ts
    next : {level operand : Level} (l : Kind) (op : Infix) (s : Span) {a b : Expression} {xs ys : List Lexeme} → Joins level operand → infix_of level l ≡ Some op → may_join op a ≡ true
        → Spells level a xs → Spells operand b ys → Spells level (Binary op a b) (xs ++ tok l s ∷ ys)
    -- if = "if" whole "then" whole "else" ( imp | if )
    choice : (i t e : Span) {c a b : Expression} {xs ys zs : List Lexeme} → Spells Whole c xs → Spells Whole a ys → Spells Else b zs
        → Spells Choice (If i c a b) (tok (Keyword words.If) i ∷ (xs ++ tok (Keyword words.Then) t ∷ (ys ++ tok (Keyword words.Else) e ∷ zs)))
    else_choice : {t : Expression} {ts : List Lexeme} → Spells Choice t ts → Spells Else t ts
    else_value : {t : Expression} {ts : List Lexeme} → Spells Implication t ts → Spells Else t ts
    -- arrow = if | imp [ "->" arrow ]
    arrow_choice : {t : Expression} {ts : List Lexeme} → Spells Choice t ts → Spells Arrow t ts
    arrow_value : {t : Expression} {ts : List Lexeme} → Spells Implication t ts → Spells Arrow t ts
    arrow : (s : Span) {a b : Expression} {xs ys : List Lexeme} → Spells Implication a xs → Spells Arrow b ys → Spells Arrow (Binary operators.Arrow a b) (xs ++ tok (Sign symbols.Arrow) s ∷ ys)
    -- whole = arrow | primary "fby" primary | primary "when" test
    whole : {t : Expression} {ts : List Lexeme} → Spells Arrow t ts → Spells Whole t ts
    fby : (s : Span) {a b : Expression} {xs ys : List Lexeme} → Spells Primary a xs → Spells Primary b ys → Spells Whole (Binary operators.Fby a b) (xs ++ tok (Keyword words.Fby) s ∷ ys)
    when : (s : Span) {a : Expression} {c : Test} {xs ys : List Lexeme} → Spells Primary a xs → SpellsTest c ys → Spells Whole (When a c) (xs ++ tok (Keyword words.When) s ∷ ys)

  -- parts, what stands between them, and what stands after them
  pub data SpellsAll : Form → Parts → List Lexeme → Type 0 where
    final : {form : Form} {l : Lead} {t : Expression} {xs es : List Lexeme} → SpellsPart form l t xs → Closes form es → SpellsAll form (More l t End) (xs ++ es)
    further : {form : Form} {l : Lead} {t : Expression} {us : Parts} {xs ss ys : List Lexeme} → SpellsPart form l t xs → Separates form ss → SpellsAll form us ys → SpellsAll form (More l t us) (xs ++ (ss ++ ys))

  -- init = IDENT "=" whole, branch = "(" ( IDENT | "true" | "false" ) "->" whole ")"
  pub data SpellsPart : Form → Lead → Expression → List Lexeme → Type 0 where
    argument : {t : Expression} {ts : List Lexeme} → Spells Whole t ts → SpellsPart forms.Call Plain t ts
    init : (x : Named) (e : Span) {t : Expression} {ts : List Lexeme} → Spells Whole t ts → SpellsPart forms.Structure (Of x) t (ident x ∷ tok (Sign symbols.Equal) e ∷ ts)
    branch : (l : Label) (o a c : Span) {t : Expression} {ts : List Lexeme} → Spells Whole t ts
        → SpellsPart forms.Merge (Branch o l) t (tok (Sign symbols.Open) o ∷ label l ∷ tok (Sign symbols.Arrow) a ∷ (ts ++ tok (Sign symbols.Close) c ∷ []))
