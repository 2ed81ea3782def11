-- Places in a text: lines and columns count from 1, and columns count characters.
use Rattle.std.specs.Prelude.{◌≡◌, ℕ, ◌+◌, ◌-◌, ◌^◌, min, not, Bool, ◌||◌, ◌==◌, nat_lt, nat_le, List, [], ◌∷◌, length, reverse}
use Rattle.std.specs.Prelude.{if◌then◌else◌}
use Rattle.std.specs.List.{count_by, take_while}
use Rattle.lus_syntax.specs.declared.token.Place.{Place}
use Rattle.lus_syntax.specs.declared.token.Span.{Span}

-- a line feed, which ends a line
abbrev pub is_feed : ℕ → Bool
is_feed b = b == 10

-- the first byte of a character, and no other byte of it
abbrev pub is_first : ℕ → Bool
is_first b = nat_lt b 128 || nat_le 192 b

-- the place before the first byte
abbrev pub start : Place
start = record { byte = 0; line = 1; column = 1 }

-- one byte on
abbrev pub past_one : Place → ℕ → Place
past_one at b =
    if is_feed b then record { byte = at.byte + 1; line = at.line + 1; column = 1 }
    else record { byte = at.byte + 1; line = at.line; column = (if is_first b then at.column + 1 else at.column) }

-- the place behind these bytes
abbrev pub past : Place → List ℕ → Place
past at [] = at
past at (b ∷ bs) = past (past_one at b) bs

-- the place behind a token: its bytes are as many characters, on one line
abbrev pub end_of : Span → Place
end_of span = record { byte = span.start.byte + span.length; line = span.start.line; column = span.start.column + span.length }

-- the place in numbers of 64 bits: past the greatest, the greatest
abbrev pub within_words : Place → Place
within_words at = record { byte = min at.byte (2 ^ 64 - 1); line = at.line; column = min at.column (2 ^ 64 - 1) }

-- the last bytes or characters that no line feed is among, the last of them first
abbrev pub last_line : List ℕ → List ℕ
last_line front = take_while (λ b. not (is_feed b)) (reverse front)

-- the place behind the front of a text: a line more than the line feeds in it, a column more than the characters since the last of them
abbrev pub place_behind : List ℕ → Place
place_behind front = record { byte = length front; line = 1 + count_by is_feed front; column = 1 + count_by is_first (last_line front) }

-- the line and the column of a place behind these characters, each of which counts one
pub record IsBehind (place : Place) (characters : List ℕ) : Type 0 where
  pub line : place.line ≡ 1 + count_by is_feed characters
  pub column : place.column ≡ 1 + length (last_line characters)
