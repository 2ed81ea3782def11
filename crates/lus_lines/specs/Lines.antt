-- Lines: bytes up to a line feed.
use Rattle.std.specs.Prelude.{◌≡◌, ◌==◌, ◌++◌, ◌<◌, ◌≤◌, ℕ, Bool, true, false, not, [], ◌∷◌, length, Option}
use Rattle.std.specs.List.{list_all}
use Rattle.lus_devices.specs.Devices.{AtEnd, Bytes, with_front}
use Rattle.lus_lines.specs.declared.line.Reading.{Reading}
use Rattle.lus_lines.specs.declared.line.Reading.TheVariants.{Line, Long, Unfinished, End}
use Rattle.lus_lines.specs.declared.whole.Whole.{Whole}
use Rattle.lus_lines.specs.declared.whole.Whole.TheVariants as wholes

-- the most bytes of a line that is given
abbrev pub most_line_bytes : ℕ
most_line_bytes = 1048576

-- no line feed is among the bytes
abbrev pub IsPlain : Bytes → Type 0
IsPlain bs = list_all (λ b. not (b == 10)) bs ≡ true

-- plain bytes were read
pub record IsBegun (bs : Bytes) (left later : Option Bytes) : Type 0 where
  pub plain : IsPlain bs
  pub read : left ≡ with_front bs later

-- a line was read, and the line feed behind it
pub record IsNext (line : Bytes) (left later : Option Bytes) : Type 0 where
  pub plain : IsPlain line
  pub read : left ≡ with_front (line ++ 10 ∷ []) later

-- plain bytes were read, and then the end was met
pub record IsLast (tail : Bytes) (left later : Option Bytes) : Type 0 where
  pub plain : IsPlain tail
  pub read : left ≡ with_front tail later
  pub over : AtEnd later

-- what was read where a line begins, which is given if it isn't too long
abbrev pub HasRead : Reading → Bytes → Option Bytes → Option Bytes → Type 0
HasRead Line line left later = IsNext line left later × (length line ≤ most_line_bytes)
HasRead Long line left later = (whole : Bytes) × IsNext whole left later × (most_line_bytes < length whole)
HasRead Unfinished line left later = (tail : Bytes) × IsLast tail left later × (0 < length tail)
HasRead End line left later = IsLast [] left later

-- a line was read, or what stood before the end
abbrev pub HasSkipped : Bool → Option Bytes → Option Bytes → Type 0
HasSkipped true left later = (line : Bytes) × IsNext line left later
HasSkipped false left later = (tail : Bytes) × IsLast tail left later

abbrev pub last_reading : Bytes → Reading
last_reading [] = End
last_reading (b ∷ bs) = Unfinished

abbrev pub long_reading : Bool → Reading
long_reading true = Long
long_reading false = Unfinished

-- ---- lines of any length

-- bytes up to a line feed, and that too
pub record IsWholeLine (line : Bytes) : Type 0 where
  pub bytes : Bytes
  pub ended : line ≡ bytes ++ 10 ∷ []
  pub plain : IsPlain bytes

-- a line was read with its line feed, however long, or what stood before the end
abbrev pub HasReadWhole : Whole → Bytes → Option Bytes → Option Bytes → Type 0
HasReadWhole wholes.Line line left later = IsWholeLine line × (left ≡ with_front line later)
HasReadWhole wholes.Unfinished tail left later = IsLast tail left later × (0 < length tail)
HasReadWhole wholes.End line left later = IsLast [] left later

abbrev pub last_whole : Bytes → Whole
last_whole [] = wholes.End
last_whole (b ∷ bs) = wholes.Unfinished
