-- What a command did to a device that it writes, where that is known.
use Rattle.std.specs.Prelude.{◌≡◌, ℕ, Option, Result, Ok, Err}
use Rattle.lus_devices.specs.Devices.{Bytes, WritesBeginning, one_more, with_text}

-- what the device took and how often it failed, before and after
pub record Change : Type 0 where
  pub old : Option Bytes
  pub new : Option Bytes
  pub before : Option ℕ
  pub after : Option ℕ

abbrev pub change : Option Bytes → Option Bytes → Option ℕ → Option ℕ → Change
change old new before after = record { old = old; new = new; before = before; after = after }

-- it didn't fail
abbrev pub IsSound : Change → Type 0
IsSound c = c.after ≡ c.before

-- it failed once
abbrev pub HasFailed : Change → Type 0
HasFailed c = c.after ≡ one_more c.before

-- it took nothing and didn't fail
abbrev pub IsUntouched : Change → Type 0
IsUntouched c = (c.new ≡ c.old) × IsSound c

-- a text is written whole, or the device failed once and a beginning of the text is written
abbrev pub Writes : {A E : Type 0} → Result A E → Bytes → Change → Type 0
Writes (Ok done) text c = (c.new ≡ with_text c.old text) × IsSound c
Writes (Err e) text c = WritesBeginning c.old c.new text × HasFailed c
