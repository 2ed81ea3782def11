-- Messages in frames: a head that says how many bytes follow, and these (Language Server Protocol 3.17, "Base Protocol").
use Rattle.std.specs.Prelude.{◌≡◌, ℕ, List, [], ◌∷◌, ◌++◌, length, map, take, drop, codes, Option, Some, None, Ok, ⊤}
use Rattle.std.specs.Char.{to_ascii_lowercase}
use Rattle.std.specs.List.{All, flat_map}
use Rattle.std.specs.Fmt.{decimal}
use Rattle.std.specs.Str.Parse.{ParsesUnsigned}
use Rattle.lus_devices.specs.Devices.{Bytes, with_front}
use Rattle.lus_lines.specs.Lines.{IsLast, IsPlain}

-- a message in its frame
abbrev pub frame_text : Bytes → Bytes
frame_text message = codes "Content-Length: " ++ decimal (length message) ++ codes "\r\n\r\n" ++ message

-- a line with its line feed
abbrev pub line_text : Bytes → Bytes
line_text line = line ++ 10 ∷ []

-- the line that ends a head: a carriage return alone
abbrev pub blank : Bytes
blank = 13 ∷ []

-- a line of a head that doesn't end it
abbrev pub IsField : Bytes → Type 0
IsField line = IsPlain line × (line ≡ blank → ⊥)

-- the name of the field that says how many bytes follow a head, with the colon and the blank behind it
abbrev pub field_name : Bytes
field_name = codes "Content-Length: "

-- a field that says how many bytes follow the head: its name in letters of any case, the number, and a carriage return
pub record SaysLength (line : Bytes) (n : ℕ) : Type 0 where
  pub digits : Bytes
  pub named : map to_ascii_lowercase (take 16 line) ≡ map to_ascii_lowercase field_name
  pub parts : drop 16 line ≡ digits ++ blank
  pub number : ParsesUnsigned {E = ⊤} 64 10 digits (Ok n)

-- one of some fields says that so many bytes follow
pub record IsSaid (fields : List Bytes) (n : ℕ) : Type 0 where
  pub before : List Bytes
  pub field : Bytes
  pub behind : List Bytes
  pub among : fields ≡ before ++ field ∷ behind
  pub says : SaysLength field n

-- a head: fields, one of which says how many bytes follow
pub record IsHead (fields : List Bytes) (n : ℕ) : Type 0 where
  pub each : All IsField fields
  pub said : IsSaid fields n

-- the bytes of a head
abbrev pub head_text : List Bytes → Bytes
head_text fields = flat_map line_text fields ++ line_text blank

-- a head was read that so many bytes follow, or the end was met in its place
abbrev pub HasReadHead : Option ℕ → Option Bytes → Option Bytes → Type 0
HasReadHead (Some n) left later = (fields : List Bytes) × IsHead fields n × (left ≡ with_front (head_text fields) later)
HasReadHead None left later = IsLast [] left later

-- a head was read, and as many bytes behind it as it says; or the end was met in its place
abbrev pub HasReadFrame : Option Bytes → Option Bytes → Option Bytes → Type 0
HasReadFrame (Some message) left later =
    (fields : List Bytes) × IsHead fields (length message) × (left ≡ with_front (head_text fields ++ message) later)
HasReadFrame None left later = IsLast [] left later

-- the first of two that there is
abbrev pub either : Option ℕ → Option ℕ → Option ℕ
either (Some n) before = Some n
either None before = before
