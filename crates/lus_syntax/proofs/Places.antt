-- The place behind some bytes.
use Rattle.std.proofs.Common.{◌≡◌, ℕ, ◌+◌, ◌-◌, ◌^◌, ◌<◌, ◌≤◌, min, Bool, true, false, cond, List, [], ◌∷◌, ◌++◌, length, refl, arith, length-append}
use Rattle.lus_syntax.specs.declared.token.Place.{Place}
use Rattle.lus_syntax.specs.Places.{is_feed, is_first, past_one, past, within_words}
use Rattle.lus_syntax.specs.Reading.{HasRoom}

pub past_push : (at : Place) (xs : List ℕ) (b : ℕ) → past at (xs ++ b ∷ []) ≡ past_one (past at xs) b
past_push at [] b = refl
past_push at (x ∷ xs) b = past_push (past_one at x) xs b

pub past_append : (at : Place) (xs ys : List ℕ) → past at (xs ++ ys) ≡ past (past at xs) ys
past_append at [] ys = refl
past_append at (x ∷ xs) ys = past_append (past_one at x) xs ys

-- each number grows by one at most
stepped : Place → Bool → Bool → Place
stepped at f g = cond f (record { byte = at.byte + 1; line = at.line + 1; column = 1 }) (record { byte = at.byte + 1; line = at.line; column = cond g (at.column + 1) at.column })

byte_of : (at : Place) (f g : Bool) → (stepped at f g).byte ≡ at.byte + 1
unfolding stepped
byte_of at true g = refl
byte_of at false g = refl

line_of : (at : Place) (f g : Bool) → (stepped at f g).line ≤ at.line + 1
unfolding stepped
line_of at true g = omega arith
line_of at false g = omega arith

column_of : (at : Place) (f g : Bool) → (stepped at f g).column ≤ at.column + 1
unfolding stepped
column_of at true g = omega arith
column_of at false true = omega arith
column_of at false false = omega arith

pub past_one_byte : (at : Place) (b : ℕ) → (past_one at b).byte ≡ at.byte + 1
unfolding stepped
past_one_byte at b = byte_of at (is_feed b) (is_first b)

pub past_one_line : (at : Place) (b : ℕ) → (past_one at b).line ≤ at.line + 1
unfolding stepped
past_one_line at b = line_of at (is_feed b) (is_first b)

pub past_one_column : (at : Place) (b : ℕ) → (past_one at b).column ≤ at.column + 1
unfolding stepped
past_one_column at b = column_of at (is_feed b) (is_first b)

pub past_byte : (at : Place) (xs : List ℕ) → (past at xs).byte ≡ at.byte + length xs
past_byte at [] = omega arith
past_byte at (x ∷ xs) = omega (arith, past_byte (past_one at x) xs, past_one_byte at x)

pub past_line : (at : Place) (xs : List ℕ) → (past at xs).line ≤ at.line + length xs
past_line at [] = omega arith
past_line at (x ∷ xs) = omega (arith, past_line (past_one at x) xs, past_one_line at x)

pub past_column : (at : Place) (xs : List ℕ) → (past at xs).column ≤ at.column + length xs
past_column at [] = omega arith
past_column at (x ∷ xs) = omega (arith, past_column (past_one at x) xs, past_one_column at x)

pub room_after : (at : Place) (xs ys : List ℕ) → HasRoom at (xs ++ ys) → HasRoom (past at xs) ys
room_after at xs ys room = record {
  byte = omega (arith, room.byte, length-append xs ys, past_byte at xs);
  line = omega (arith, room.line, length-append xs ys, past_line at xs);
  column = omega (arith, room.column, length-append xs ys, past_column at xs);
}

-- a place whose numbers fit is itself
pub fits : (at : Place) → at.byte < 2 ^ 64 → at.column < 2 ^ 64 → within_words at ≡ at
fits at byte column =
    let same_byte : min at.byte (2 ^ 64 - 1) ≡ at.byte = omega (arith, byte) in
    let same_column : min at.column (2 ^ 64 - 1) ≡ at.column = omega (arith, column) in
    rw (same_byte, same_column) refl
