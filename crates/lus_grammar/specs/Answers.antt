-- What the parser answers, against what reading gives.
use Rattle.std.specs.Prelude.{◌≡◌, ℕ, ◌≤◌, List, Result, Ok, Err, Box, Vec, map, MatchResult}
use Rattle.std.specs.Borrow.{Bor}
use Rattle.std.specs.Global.{Global}
use Rattle.lus_syntax.specs.declared.refusal.Refusal.{Refusal}
use Rattle.lus_syntax.specs.declared.refusal.RefusalNumber.{RefusalNumber}
use Rattle.lus_syntax.specs.declared.refusal.RefusalNumber.TheVariants as numbers
use Rattle.lus_syntax.specs.declared.token.Token.{Token}
use Rattle.lus_syntax.specs.declared.tree.Expr.{Expr}
use Rattle.lus_syntax.specs.declared.tree.Part.{Part}
use Rattle.lus_syntax.specs.declared.tree.Tree.{Tree as Parsed}
use Rattle.lus_syntax.specs.Lexemes.{Lexeme}
use Rattle.lus_syntax.specs.Trees.{Tree, Lead, Expression}
use Rattle.lus_syntax.specs.View.{tokens_seen, expression_seen, lead_seen, part_seen, tree_seen}
use Rattle.lus_grammar.specs.declared.fault.ParseError.{ParseError}
use Rattle.lus_grammar.specs.declared.fault.ParseError.TheVariants as errors
use Rattle.lus_spelling.specs.Reading.{Fault, Syntax, Deep, Found, found, Item, item}
use Rattle.lus_spelling.specs.Declarations.{SpellsProgram, tree_depth}

-- the same fault, unless memory ran out
abbrev pub Fails : {Y : Type 0} → ParseError → Result Y Fault → Type 0
Fails errors.Memory read = Unit {0}
Fails (errors.Syntax left) read = read ≡ Err Syntax
Fails (errors.Deep left) read = read ≡ Err Deep

-- what a function returned, seen by `look`, is what reading gives, unless memory ran out
abbrev pub Gives : {X Y : Type 0} → (X → Y) → Result X ParseError → Result Y Fault → Type 0
Gives look (Ok x) read = read ≡ Ok (look x)
Gives look (Err e) read = Fails e read

-- what was read, seen by `look`, and the tokens after it
abbrev pub read_as : {X Y : Type 0} → (X → Y) → X × Bor (List Token) → Y × List Lexeme
read_as look x = (look x.0, tokens_seen x.1.now)

-- each thing that was read, seen by `look`, and the tokens after them
abbrev pub all_read_as : {X Y : Type 0} → (X → Y) → Vec X Global × Bor (List Token) → List Y × List Lexeme
all_read_as look x = (map look x.0.items, tokens_seen x.1.now)

-- a tree that was read, its depth, and the tokens after it
abbrev pub tree_read : Box Expr Global × ℕ × Bor (List Token) → Found
tree_read x = found (expression_seen x.0.value) x.1 (tokens_seen x.2.now)

-- a part that was read, its depth, and the tokens after it
abbrev pub part_read : Part × ℕ × Bor (List Token) → Item
part_read x = item (lead_seen x.0.lead) (expression_seen x.0.value) x.1 (tokens_seen x.2.now)

-- parts that were read, the greatest depth, and the tokens after them
abbrev pub parts_read : Vec Part Global × ℕ × Bor (List Token) → List (Lead × Expression) × ℕ × List Lexeme
parts_read x = (map part_seen x.0.items, x.1, tokens_seen x.2.now)

-- this tree in a box, unless memory ran out
abbrev pub Makes : Result (Box Expr Global) ParseError → Expression → Type 0
Makes (Ok tree) wanted = expression_seen tree.value ≡ wanted
Makes (Err e) wanted = e ≡ errors.Memory

-- the number of a fault
abbrev pub Numbered : ParseError → RefusalNumber → Type 0
Numbered errors.Memory number = number ≡ numbers.Memory
Numbered (errors.Syntax left) number = number ≡ numbers.Syntax
Numbered (errors.Deep left) number = number ≡ numbers.Limit

-- the fault that reading meets, by its number
abbrev pub RefusedAs : {Y : Type 0} → RefusalNumber → Result Y Fault → Type 0
RefusedAs numbers.Memory read = Unit {0}
RefusedAs numbers.Syntax read = read ≡ Err Syntax
RefusedAs numbers.Limit read = read ≡ Err Deep
RefusedAs _ read = ⊥

-- the tree that reading gives, or its fault, unless memory ran out
abbrev pub Answers : {X Y : Type 0} → (X → Y) → Result X Refusal → Result Y Fault → Type 0
Answers look (Ok x) read = read ≡ Ok (look x)
Answers look (Err e) read = RefusedAs e.number read

-- what a refusal of tokens says, by its number
abbrev pub RefusedRightly : ℕ → List Lexeme → RefusalNumber → Type 0
RefusedRightly limit ts numbers.Memory = Unit {0}
-- they spell no tree
RefusedRightly limit ts numbers.Syntax = (t : Tree) → SpellsProgram t ts → ⊥
-- they spell no tree within the limit
RefusedRightly limit ts numbers.Limit = (t : Tree) → SpellsProgram t ts → tree_depth t ≤ limit → ⊥
RefusedRightly limit ts _ = ⊥

-- a tree within the limit that the tokens spell is the answer, unless memory ran out
abbrev pub ReadsAll : ℕ → List Lexeme → Result Parsed Refusal → Type 0
ReadsAll limit ts result = (t : Tree) → SpellsProgram t ts → tree_depth t ≤ limit
    → MatchResult result (λ parsed. tree_seen parsed ≡ t) (λ e. e.number ≡ numbers.Memory)
