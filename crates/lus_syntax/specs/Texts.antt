-- The texts of tokens, and what each stands for (Lustre V6 reference manual, "Lexical aspects").
use Rattle.std.specs.Prelude.{◌≡◌, ℕ, pos, ◌≤◌, Bool, true, false, ◌||◌, ◌&&◌, ◌==◌, nat_le, List, [], ◌∷◌, ◌++◌, length, codes, Option, Some, None, is_some, Result, Ok, Err, if◌then◌else◌}
use Rattle.std.specs.List.{list_all}
use Rattle.std.specs.Char.{is_ascii_digit, is_ascii_alphabetic, is_ascii_alphanumeric}
use Rattle.std.specs.Str.{bytes_eq}
use Rattle.std.specs.Str.Parse.{digits_value}
use Rattle.lus_syntax.specs.declared.refusal.RefusalNumber.{RefusalNumber}
use Rattle.lus_syntax.specs.declared.refusal.RefusalNumber.TheVariants.{Lexical, Unsupported, Limit}
use Rattle.lus_syntax.specs.declared.token.Word.{Word}
use Rattle.lus_syntax.specs.declared.token.Word.TheVariants as w
use Rattle.lus_syntax.specs.declared.token.Symbol.{Symbol}
use Rattle.lus_syntax.specs.declared.token.Symbol.TheVariants as s
use Rattle.lus_syntax.specs.Lexemes.{Text, Kind, Identifier, Number, Sign, Keyword}

-- the words, each with what it stands for; one without is kept back for what the language leaves out
unfoldable pub words : List (List ℕ × Option Word)
words =
    (codes "node", Some w.Node) ∷ (codes "function", Some w.Function) ∷ (codes "returns", Some w.Returns) ∷ (codes "var", Some w.Var)
    ∷ (codes "let", Some w.Let) ∷ (codes "tel", Some w.Tel) ∷ (codes "type", Some w.Type) ∷ (codes "const", Some w.Const)
    ∷ (codes "enum", Some w.Enum) ∷ (codes "struct", Some w.Struct) ∷ (codes "bool", Some w.Bool) ∷ (codes "int", Some w.Int)
    ∷ (codes "true", Some w.True) ∷ (codes "false", Some w.False) ∷ (codes "not", Some w.Not) ∷ (codes "and", Some w.And)
    ∷ (codes "or", Some w.Or) ∷ (codes "xor", Some w.Xor) ∷ (codes "if", Some w.If) ∷ (codes "then", Some w.Then)
    ∷ (codes "else", Some w.Else) ∷ (codes "div", Some w.Div) ∷ (codes "mod", Some w.Mod) ∷ (codes "pre", Some w.Pre)
    ∷ (codes "fby", Some w.Fby) ∷ (codes "when", Some w.When) ∷ (codes "merge", Some w.Merge) ∷ (codes "nor", Some w.Nor)
    -- kept back
    ∷ (codes "real", None) ∷ (codes "current", None) ∷ (codes "assert", None) ∷ (codes "extern", None) ∷ (codes "unsafe", None)
    ∷ (codes "condact", None) ∷ (codes "package", None) ∷ (codes "model", None) ∷ (codes "with", None) ∷ (codes "include", None)
    ∷ (codes "operator", None) ∷ []

-- the symbols, each with what it stands for; a longer one stands before a shorter one
unfoldable pub symbols : List (List ℕ × Symbol)
symbols =
    (codes "<>", s.NotEqual) ∷ (codes "<=", s.AtMost) ∷ (codes ">=", s.AtLeast) ∷ (codes "->", s.Arrow)
    ∷ (codes "=>", s.Implies) ∷ (codes "(", s.Open) ∷ (codes ")", s.Close) ∷ (codes "{", s.OpenBrace)
    ∷ (codes "}", s.CloseBrace) ∷ (codes ",", s.Comma) ∷ (codes ";", s.Semicolon) ∷ (codes ":", s.Colon)
    ∷ (codes ".", s.Dot) ∷ (codes "=", s.Equal) ∷ (codes "<", s.Less) ∷ (codes ">", s.Greater)
    ∷ (codes "+", s.Plus) ∷ (codes "-", s.Minus) ∷ (codes "*", s.Star) ∷ (codes "/", s.Slash)
    ∷ (codes "#", s.Sharp) ∷ []

-- what a table has for a text
abbrev pub look_up : {A : Type 0} → List ℕ → List (List ℕ × A) → Option A
look_up text [] = None
look_up text (e ∷ es) = if bytes_eq e.0 text then Some e.1 else look_up text es

-- a letter or an underscore
abbrev pub begins_name : ℕ → Bool
begins_name b = is_ascii_alphabetic b || b == 95

-- a letter, a digit or an underscore
abbrev pub continues_name : ℕ → Bool
continues_name b = is_ascii_alphanumeric b || b == 95

-- a letter or an underscore, then letters, digits, underscores
abbrev pub is_name : List ℕ → Bool
is_name [] = false
is_name (b ∷ bs) = begins_name b && list_all continues_name (b ∷ bs)

-- one or more digits
abbrev pub is_number : List ℕ → Bool
is_number [] = false
is_number (b ∷ bs) = list_all is_ascii_digit (b ∷ bs)

-- a text of the table of symbols
unfoldable pub is_symbol : List ℕ → Bool
is_symbol text = is_some (look_up text symbols)

-- a text of a token: of a name or a word, of a number, of a symbol
unfoldable pub is_text : List ℕ → Bool
is_text text = is_name text || (is_number text || is_symbol text)

-- text begins here, and no longer text of a token begins here
pub record LongestText (here text rest : List ℕ) : Type 0 where
  pub parts : here ≡ text ++ rest
  pub is_one : is_text text ≡ true
  pub longest : (other more : List ℕ) → here ≡ other ++ more → is_text other ≡ true → length other ≤ length text

-- no text of a token begins here
abbrev pub NoText : List ℕ → Type 0
NoText here = (text more : List ℕ) → here ≡ text ++ more → is_text text ≡ false

-- the greatest number that a source may write
abbrev pub limit : ℕ
limit = 9223372036854775807

-- a word of the language, one that is kept back, or a name
abbrev pub of_name : Text → Option (Option Word) → Result Kind RefusalNumber
of_name text None = Ok (Identifier text)
of_name text (Some None) = Err Unsupported
of_name text (Some (Some w)) = Ok (Keyword w)

-- the number that the digits write, within its limit
unfoldable pub number_within : List ℕ → Option ℕ
number_within text = if nat_le (digits_value 10 text) limit then Some (digits_value 10 text) else None

-- a number, or past its limit
abbrev pub of_number : Option ℕ → Result Kind RefusalNumber
of_number None = Err Limit
of_number (Some n) = Ok (Number (pos n))

-- a symbol, or none
abbrev pub of_symbol : Option Symbol → Result Kind RefusalNumber
of_symbol None = Err Lexical
of_symbol (Some s) = Ok (Sign s)

-- the token that a text spells, or what is wrong with it; its first byte tells its class
unfoldable pub meaning : List ℕ → Result Kind RefusalNumber
meaning [] = Err Lexical
meaning (b ∷ bs) =
    if begins_name b then of_name (b ∷ bs) (look_up (b ∷ bs) words)
    else (if is_ascii_digit b then of_number (number_within (b ∷ bs))
    else of_symbol (look_up (b ∷ bs) symbols))
