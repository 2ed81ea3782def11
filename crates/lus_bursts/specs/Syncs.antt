-- What a log had when it was synced: a log is written ahead of what it answers for (Gray and Reuter 1993, write-ahead log and group commit).
use Rattle.std.specs.Prelude.{◌≡◌, ◌⊎◌, Bool, true, [], Option}
use Rattle.lus_devices.specs.Devices.{Bytes, WritesBeginning, with_text}

-- A log of this type, which had taken so much at first, was synced when it had taken this text behind that. What it has taken at last stands
-- behind what it had then.
pub record WasSynced (L : Type 0) (syncs : L → L → Type 0) (taken : L → Option Bytes) (first : Option Bytes) (text : Bytes) (last : Option Bytes)
    : Type 0 where
  pub before : L
  pub after : L
  pub more : Bytes
  pub synced : syncs before after
  pub whole : taken before ≡ with_text first text
  pub since : last ≡ with_text (taken after) more

-- what holds of what a log had taken at first, a text, and what it has taken at last
abbrev pub Safety : Type 1
Safety = Option Bytes → Bytes → Option Bytes → Type 0

-- it was synced so, or there is no text
abbrev pub IsSafe : (L : Type 0) → (L → L → Type 0) → (L → Option Bytes) → Safety
IsSafe L syncs taken first text last = (text ≡ []) ⊎ WasSynced L syncs taken first text last

-- it was synced so, where it is to be
abbrev pub WasKept : Bool → (L : Type 0) → (L → L → Type 0) → (L → Option Bytes) → Safety
WasKept is_synced L syncs taken first text last = is_synced ≡ true → WasSynced L syncs taken first text last

-- No answer is held that is due, and nothing is written; or the log was synced, where it is to be, and all that was held is written.
abbrev pub Settles : (L : Type 0) → (L → L → Type 0) → Bool → Bool → L → L → Bytes → Bytes → Option Bytes → Option Bytes → Type 0
Settles L syncs is_due is_synced l l' held held' w w' =
    ((held' ≡ held) × (is_due ≡ true → held ≡ []) × (w' ≡ w))
    ⊎ ((is_synced ≡ true → syncs l l') × (held' ≡ []) × (w' ≡ with_text w held))

-- nothing is written, or a beginning of it is
abbrev pub SettlesSome : (L : Type 0) → (L → L → Type 0) → Bool → L → L → Bytes → Option Bytes → Option Bytes → Type 0
SettlesSome L syncs is_synced l l' held w w' = (w' ≡ w) ⊎ ((is_synced ≡ true → syncs l l') × WritesBeginning w w' held)
