-- What bytes are the text of a program, why bytes are refused, and what a check writes.
use Rattle.std.specs.Prelude.{◌≡◌, ◌≤◌, ◌<◌, ◌≢◌, ℕ, ◌++◌, codes, length, take, IsUtf8, Option, IfSome}
use Rattle.std.specs.Fmt.{decimal}
use Rattle.std.specs.Str.Lossy.{utf8_valid_len}
use Rattle.lus_syntax.specs.declared.refusal.Refusal.{Refusal}
use Rattle.lus_syntax.specs.declared.refusal.RefusalNumber.TheVariants as numbers
use Rattle.lus_syntax.specs.Places.{start, place_behind}
use Rattle.lus_syntax.specs.Tokens.{IsAt}
use Rattle.lus_syntax.specs.Limits.{most_bytes}
use Rattle.lus_program.specs.Programs.{Program}
use Rattle.lus_callers.specs.MachineSpecs.Acceptance.{Accepted, RefusedWith}
use Rattle.lus_devices.specs.Devices.{Bytes, WritesBeginning, with_text}

-- the longest front that is UTF-8
abbrev pub valid_front : Bytes → Bytes
valid_front bytes = take (utf8_valid_len bytes) bytes

-- bytes are no text of a program: they are too many, or the refusal stands where they stop being UTF-8
pub data IsNoText (bytes : Bytes) (e : Refusal) : Type 0 where
  too_long : most_bytes < length bytes → IsAt e numbers.Limit start → IsNoText bytes e
  no_utf8 : length bytes ≤ most_bytes → (IsUtf8 bytes → ⊥) → IsAt e numbers.Lexical (place_behind (valid_front bytes)) → IsNoText bytes e

-- why bytes are refused as a program: they are no text, or a text that a pass refuses
pub data ProgramRefused (bytes : Bytes) (e : Refusal) : Type 0 where
  is_no_text : IsNoText bytes e → ProgramRefused bytes e
  is_refused : length bytes ≤ most_bytes → RefusedWith bytes e → ProgramRefused bytes e

-- a program's refusal is right for the bytes that a device had left, where they are known, unless out of memory
abbrev pub IsRightRefusal : Option Bytes → Refusal → Type 0
IsRightRefusal left e = e.number ≢ numbers.Memory → IfSome left (λ bytes. ProgramRefused bytes e)

-- what a check writes of a program with n nodes
abbrev pub accepted_text : ℕ → Bytes
accepted_text n = codes "accepted " ++ decimal n ++ codes "\n"

-- the text is accepted, and that is written
abbrev pub WritesAccepted : Bytes → Option Bytes → Option Bytes → Type 0
WritesAccepted text old new = (p : Program) × Accepted text p × (new ≡ with_text old (accepted_text (length p.nodes)))

-- the text is accepted, and a beginning of that is written
abbrev pub BeginsAccepted : Bytes → Option Bytes → Option Bytes → Type 0
BeginsAccepted text old new = (p : Program) × Accepted text p × WritesBeginning old new (accepted_text (length p.nodes))
