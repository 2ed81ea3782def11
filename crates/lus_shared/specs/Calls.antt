-- What a call at the machine leaves to the place that made it.
use Rattle.std.specs.Prelude.{◌≡◌, ◌<◌, ℕ, List, [], ◌∷◌, ◌++◌, length}
use Rattle.lus_requests.specs.declared.request.Entry.{Entry}
use Rattle.lus_requests.specs.declared.request.Request.{Request}
use Rattle.lus_requests.specs.declared.request.Reply.{Reply}
use Rattle.lus_machine.specs.Machines.{full, entry}
use Rattle.lus_shared.specs.declared.refusal.TryError.{TryError}
use Rattle.lus_shared.specs.declared.refusal.TryError.TheVariants.{Memory, Full, Busy as IsBusy}
use Rattle.lus_shared.specs.Knowledge.{IsLegalHistory, Facts}
use Rattle.lus_shared.specs.Told.{Sat, seat_at, with_seen, Knows, given}

-- the call stands behind the history that the seat then saw
pub record Called (f : Facts) (m : Sat) (request : Request) (reply : Reply) : Type 0 where
  pub before : List Entry
  pub knows : Knows f before
  pub view : m ≡ seat_at (given f (before ++ entry f.number request reply ∷ []))
  pub legal : IsLegalHistory f.origin (before ++ entry f.number request reply ∷ [])
  pub short : length before < full

abbrev pub Counts : TryError → ℕ → Type 0
Counts Memory n = n < full
Counts Full n = n ≡ full
Counts (IsBusy b) n = b.0 ≡ n

-- no call was made, and the seat has seen the history
pub record Missed (f : Facts) (m : Sat) (e : TryError) : Type 0 where
  pub history : List Entry
  pub knows : Knows f history
  pub view : m ≡ seat_at (with_seen history f)
  pub counts : Counts e (length history)
