-- The tokens of a text, and its leftmost fault (Lustre V6 reference manual, "Lexical aspects").
use Rattle.std.specs.Prelude.{◌≡◌, ◌≢◌, ℕ, List, [], ◌∷◌, Ok, Err}
use Rattle.lus_syntax.specs.declared.token.Place.{Place}
use Rattle.lus_syntax.specs.declared.refusal.RefusalNumber.{RefusalNumber}
use Rattle.lus_syntax.specs.declared.refusal.RefusalNumber.TheVariants.{Lexical}
use Rattle.lus_syntax.specs.declared.refusal.Refusal.{Refusal}
use Rattle.lus_syntax.specs.Lexemes.{Lexeme}
use Rattle.lus_syntax.specs.Places.{past, start, end_of}
use Rattle.lus_syntax.specs.Texts.{meaning, LongestText, NoText}
use Rattle.lus_syntax.specs.Gaps.{IsPlain, Unclosed, IsGap}

-- the longest text here is that of the token
pub record Here (here : List ℕ) (t : Lexeme) (rest : List ℕ) : Type 0 where
  pub text : List ℕ
  pub longest : LongestText here text rest
  pub means : meaning text ≡ Ok t.kind
  pub ends : end_of t.span ≡ past t.span.start text

-- a gap, and the token behind it
pub record Reads (at : Place) (text : List ℕ) (t : Lexeme) (rest : List ℕ) : Type 0 where
  pub here : List ℕ
  pub gap : IsGap at text t.span.start here
  pub plain : IsPlain here
  pub token : Here here t rest

-- these tokens, each behind a gap, lead from text at one place to rest at another
abbrev pub Run : List Lexeme → Place → List ℕ → Place → List ℕ → Type 0
Run [] at text to rest = (at ≡ to) × (text ≡ rest)
Run (t ∷ ts) at text to rest = (after : List ℕ) × Reads at text t after × Run ts (end_of t.span) after to rest

-- a gap, and the text's end
pub record Ends (at : Place) (text : List ℕ) : Type 0 where
  pub to : Place
  pub gap : IsGap at text to []

-- the text is gap, token, gap, .., token, gap
pub record Tokens (text : List ℕ) (ts : List Lexeme) : Type 0 where
  pub to : Place
  pub rest : List ℕ
  pub run : Run ts start text to rest
  pub ends : Ends to rest

-- what is wrong here
pub data Wrong : List ℕ → RefusalNumber → Type 0 where
  -- an open comment
  open_comment : {here : List ℕ} → Unclosed here → Wrong here Lexical
  -- no token begins here
  no_token : {here : List ℕ} → IsPlain here → here ≢ [] → NoText here → Wrong here Lexical
  -- the longest text here stands for nothing
  no_meaning : {here text rest : List ℕ} {number : RefusalNumber} → IsPlain here → LongestText here text rest
      → meaning text ≡ Err number → Wrong here number

-- a gap, and a fault behind it
pub record Breaks (at : Place) (text : List ℕ) (number : RefusalNumber) (to : Place) : Type 0 where
  pub here : List ℕ
  pub gap : IsGap at text to here
  pub wrong : Wrong here number

-- the text's leftmost fault: some tokens, and behind them this fault at this place, where no token can be read
pub record Faulty (text : List ℕ) (number : RefusalNumber) (place : Place) : Type 0 where
  pub before : List Lexeme
  pub to : Place
  pub rest : List ℕ
  pub run : Run before start text to rest
  pub breaks : Breaks to rest number place

-- the refusal has this number at this place
abbrev pub IsAt : Refusal → RefusalNumber → Place → Type 0
IsAt e number place = (e.number ≡ number) × (e.line ≡ place.line) × (e.column ≡ place.column)

-- the refusal tells the text's leftmost fault
abbrev pub TellsFault : List ℕ → Refusal → Type 0
TellsFault text e = (place : Place) × Faulty text e.number place × IsAt e e.number place
