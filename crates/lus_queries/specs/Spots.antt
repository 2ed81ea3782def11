-- Positions in a text as editors count them (Language Server Protocol 3.17, "Text Documents" and "Position").
use Rattle.std.specs.Prelude.{ℕ, zero, suc, ◌+◌, ◌==◌, ◌&&◌, ◌||◌, Bool, false, not, [], ◌∷◌, if◌then◌else◌, nat_lt}
use Rattle.lus_syntax.specs.Lexemes.{Text}
use Rattle.lus_queries.specs.declared.places.Spot.{Spot}

-- how many units of UTF-16 the character takes that begins with a byte of UTF-8; none where no character begins
abbrev pub units_at : ℕ → ℕ
units_at b = if nat_lt b 128 then 1 else (if nat_lt b 192 then 0 else (if nat_lt b 240 then 1 else 2))

abbrev pub begins_with_feed : Text → Bool
begins_with_feed [] = false
begins_with_feed (b ∷ bs) = b == 10

-- a line ends with a line feed, and with a carriage return that none follows
abbrev pub ends_line : ℕ → Text → Bool
ends_line b behind = b == 10 || (b == 13 && not (begins_with_feed behind))

-- the spot behind a byte that others follow
abbrev pub past : Spot → ℕ → Text → Spot
past s b behind =
    if ends_line b behind then record { line = s.line + 1; character = 0 } else record { line = s.line; character = s.character + units_at b }

-- the spot so many bytes on, or that at the end of the text
abbrev pub spot_after : Spot → ℕ → Text → Spot
spot_after s zero bs = s
spot_after s (suc n) [] = s
spot_after s (suc n) (b ∷ bs) = spot_after (past s b bs) n bs

-- the spot of a byte of a text
abbrev pub spot_of : Text → ℕ → Spot
spot_of text byte = spot_after (record { line = 0; character = 0 }) byte text
