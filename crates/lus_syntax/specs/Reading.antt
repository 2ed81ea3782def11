-- What the lexer's own functions take and answer.
use Rattle.std.specs.Prelude.{◌≡◌, ◌≢◌, ℕ, ◌+◌, ◌^◌, ◌<◌, ◌≤◌, Bool, ◌&&◌, ◌==◌, List, [], ◌∷◌, length}
use Rattle.std.specs.Prelude.{map, take, drop, Option, Some, None, option_map, Result, Ok, Err, if◌then◌else◌}
use Rattle.std.specs.Borrow.{Bor}
use Rattle.std.specs.Str.{bytes_eq}
use Rattle.lus_syntax.specs.declared.fault.LexError.{LexError}
use Rattle.lus_syntax.specs.declared.fault.LexError.TheVariants as errors
use Rattle.lus_syntax.specs.declared.gap.Skip.{Skip}
use Rattle.lus_syntax.specs.declared.gap.Skip.TheVariants.{Nothing, Open, Bytes}
use Rattle.lus_syntax.specs.declared.refusal.RefusalNumber.{RefusalNumber}
use Rattle.lus_syntax.specs.declared.refusal.RefusalNumber.TheVariants.{Memory}
use Rattle.lus_syntax.specs.declared.refusal.Refusal.{Refusal}
use Rattle.lus_syntax.specs.declared.token.Place.{Place}
use Rattle.lus_syntax.specs.declared.token.Token.{Token}
use Rattle.lus_syntax.specs.declared.token.TokenKind.{TokenKind}
use Rattle.lus_syntax.specs.Lexemes.{Kind}
use Rattle.lus_syntax.specs.Texts.{symbols}
use Rattle.lus_syntax.specs.Gaps.{Piece, Unclosed, IsPlain, IsGap}
use Rattle.lus_syntax.specs.Tokens.{Reads, Ends, Breaks, Faulty, IsAt}
use Rattle.lus_syntax.specs.View.{kind_seen, token_seen}

-- ---- places

-- the numbers of each place within these bytes fit
pub record HasRoom (at : Place) (bytes : List ℕ) : Type 0 where
  pub byte : at.byte + length bytes < 2 ^ 64
  pub line : at.line + length bytes < 2 ^ 64
  pub column : at.column + length bytes < 2 ^ 64

-- ---- tables

-- a table of the code
abbrev pub rows : {A : Type 0} → List (Bor (List ℕ) × A) → List (List ℕ × A)
rows es = map (λ e. (e.0.now, e.1)) es

abbrev pub begins_with : List ℕ → List ℕ → Bool
begins_with here text = bytes_eq text (take (length text) here)

-- the length of the first text of the table that begins here
abbrev pub first_len : {A : Type 0} → List ℕ → List (List ℕ × A) → Option ℕ
first_len here [] = None
first_len here (e ∷ es) = if begins_with here e.0 then Some (length e.0) else first_len here es

unfoldable pub symbol_len : List ℕ → Option ℕ
symbol_len here = first_len here symbols

-- ---- gaps

-- the length of what stands before the first star and close, with these two
abbrev pub block_len : ℕ → List ℕ → Option ℕ
block_len close [] = None
block_len close (a ∷ []) = None
block_len close (a ∷ b ∷ bs) = if a == 42 && b == close then Some 2 else option_map (λ n. n + 1) (block_len close (b ∷ bs))

abbrev pub block_skip : Option ℕ → Skip
block_skip None = Open
block_skip (Some n) = Bytes (n + 2)

pub record Skips (here : List ℕ) (n : ℕ) : Type 0 where
  pub some : 0 < n
  pub within : n ≤ length here
  pub piece : Piece (take n here) (drop n here)

abbrev pub IsSkip : List ℕ → Skip → Type 0
IsSkip here Nothing = IsPlain here
IsSkip here Open = Unclosed here
IsSkip here (Bytes n) = Skips here n

-- a comment stands open at this place
abbrev pub IsOpen : Place → List ℕ → Place → Type 0
IsOpen at text to = (here : List ℕ) × IsGap at text to here × Unclosed here

-- ---- tokens

-- a kind, or what is wrong with its text
abbrev pub Gives : Result TokenKind RefusalNumber → Result Kind RefusalNumber → Type 0
Gives (Ok kind) is = is ≡ Ok (kind_seen kind)
Gives (Err number) is = is ≡ Err number

-- something is wrong behind a gap
abbrev pub IsBreak : Place → List ℕ → LexError → Type 0
IsBreak at text errors.Memory = ⊥
IsBreak at text (errors.Fault number place) = Breaks at text number place

-- a fault of the text
abbrev pub IsFault : List ℕ → LexError → Type 0
IsFault text errors.Memory = Unit {0}
IsFault text (errors.Fault number place) = Faulty text number place

-- the next token and what stands behind it, or none
abbrev pub IsNext : Place → List ℕ → Option (Token × Bor (List ℕ)) → Type 0
IsNext at text None = Ends at text
IsNext at text (Some x) = Reads at text (token_seen x.0) x.1.now

-- out of memory is no fault of a text
abbrev pub IsNumbered : LexError → Type 0
IsNumbered errors.Memory = Unit {0}
IsNumbered (errors.Fault number place) = number ≢ Memory

-- the refusal that a caller gets
abbrev pub RefusedAs : LexError → Refusal → Type 0
RefusedAs errors.Memory r = r.number ≡ Memory
RefusedAs (errors.Fault number place) r = IsAt r number place
