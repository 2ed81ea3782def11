-- Logs: the entries of many instances, each with the name of its instance in front of its journal's line.
use Rattle.std.specs.Prelude.{◌≢◌, ◌+◌, ◌<◌, ◌++◌, ◌==◌, ◌&&◌, ℕ, Bool, not, List, [], ◌∷◌, length, map, filter, get_or, codes, nat_le, nat_lt, if◌then◌else◌}
use Rattle.std.specs.Char.{is_ascii_digit, is_control}
use Rattle.std.specs.List.{list_all}
use Rattle.std.specs.Str.{bytes_eq, chars}
use Rattle.lus_values.specs.Names.{Names, Text}
use Rattle.lus_requests.specs.declared.request.Entry.{Entry}
use Rattle.lus_replay.specs.Replays.{Said, entry_said, said_line}
use Rattle.lus_hosting.specs.declared.words.Behind.{Behind}
use Rattle.lus_hosting.specs.declared.words.Behind.TheVariants as behind

-- an entry of the instance of this name
pub record Logged : Type 0 where
  pub instance : Text
  pub said : Said

abbrev pub is_of : Text → Logged → Bool
is_of name l = bytes_eq name l.instance

-- the entries of the instance of a name
abbrev pub entries_of : Text → List Logged → List Entry
entries_of name log = map (λ l. entry_said l.said) (filter (is_of name) log)

-- which number its next entry has
abbrev pub next_of : Text → List Logged → ℕ
next_of name log = length (entries_of name log) + 1

-- behind a log: the name, a blank, and the journal's line
abbrev pub logged_line : Names → List Logged → Logged → Text
logged_line names log l = l.instance ++ codes " " ++ said_line names (next_of l.instance log) l.said

-- no blank is in it
abbrev pub IsWord : Text → Type 0
IsWord w = (i : ℕ) → i < length w → get_or w i 0 ≢ 32

-- the most bytes of a name in a call
abbrev pub most_name_bytes : ℕ
most_name_bytes = 64

-- no blank is in a word
abbrev pub is_whole : Text → Bool
is_whole w = list_all (λ b. not (b == 32)) w

-- nor a control character
abbrev pub is_shown : Text → Bool
is_shown w = list_all (λ c. not (is_control c)) (chars w)

-- a word that a call may give an instance or a caller as its name
abbrev pub is_named : Text → Bool
is_named w = nat_lt 0 (length w) && (nat_le (length w) most_name_bytes && (is_whole w && is_shown w))

-- what stands behind an instance's name, by its first byte: an entry begins with a digit, a note with `#`
abbrev pub behind_of : Text → Behind
behind_of [] = behind.Call
behind_of (b ∷ bs) = if is_ascii_digit b then behind.Entry else (if b == 35 then behind.Note else behind.Call)
