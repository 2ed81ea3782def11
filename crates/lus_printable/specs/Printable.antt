-- Texts as a terminal may show them.
use Rattle.std.specs.Prelude.{◌==◌, ◌&&◌, ◌||◌, ◌++◌, ℕ, Bool, false, not, List, codes, encode_utf8, flat_map, if◌then◌else◌}
use Rattle.std.specs.Char.{is_control}
use Rattle.std.specs.Fmt.{digits}
use Rattle.std.specs.Int.{is_in_range}
use Rattle.std.specs.Str.{chars}
use Rattle.std.specs.Str.Lossy.{utf8_lossy}

-- a character that has others beside it stand in another order: Unicode's Bidi_Control
abbrev pub is_turning : ℕ → Bool
is_turning c = c == 0x61C || (is_in_range 0x200E 0x200F c || (is_in_range 0x202A 0x202E c || is_in_range 0x2066 0x2069 c))

-- a character that isn't seen itself, and changes what is seen; the end of a line is none
abbrev pub is_hidden : ℕ → Bool
is_hidden c = (is_control c && not (c == 10)) || is_turning c

abbrev pub is_seen : ℕ → Bool
is_seen c = not (is_hidden c)

-- such a character by its number, another as it is
abbrev pub shown : ℕ → List ℕ
shown c = if is_hidden c then codes "\\u{" ++ digits 16 false c ++ codes "}" else encode_utf8 c

-- bytes as a text that may be printed, with U+FFFD for what is no UTF-8
unfoldable pub printable : List ℕ → List ℕ
printable bytes = flat_map shown (chars (utf8_lossy bytes))
