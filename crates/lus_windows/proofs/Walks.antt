-- What is picked of an instant that the code holds.
use Rattle.std.proofs.Common.{◌≡◌, ◌∙◌, ◌<◌, ◌≤◌, ◌-◌, ℕ, zero, suc, false, List, [], ◌∷◌, Some, None, length, get_or, drop, take, slice_get, refl, sym, ap, arith}
use Rattle.std.proofs.Math.Seq.{take-length}
use Rattle.lus_values.specs.Lists.{item}
use Rattle.lus_streams.specs.Streams.{Instant, instant, nobody, entry, called_at, called_instant}
use Rattle.lus_worlds.specs.declared.moment.Moment.{Moment}
use Rattle.lus_worlds.specs.Moments.{instant_of, called_of, row_in, moments_in}
use Rattle.lus_worlds.proofs.Moments.{instant_seen, called_get}
use Rattle.lus_windows.specs.Picks.{instant_at}

-- an instant without variables and calls
abbrev nowhere : Instant
nowhere = instant false [] nobody

at_nowhere : (way : List ℕ) → instant_at way nowhere ≡ nowhere
at_nowhere [] = refl
at_nowhere (c ∷ way) = at_nowhere way

called_seen : (c : ℕ) (m : Moment) → called_instant c (instant_of m) ≡ called_at (called_of (moments_in m)) c
called_seen c m = ap (called_instant c) (instant_seen m)

called_past : (ms : List Moment) (c : ℕ) → length ms ≤ c → called_at (called_of ms) c ≡ nowhere
called_past [] c h = refl
called_past (m ∷ ms) zero h = absurd (omega arith)
called_past (m ∷ ms) (suc c) h = called_past ms c (omega arith)

-- no call further
pub arrives : (way : List ℕ) (m : Moment) (x : ℕ) → length way < 1 → entry (instant_at way (instant_of m)) x ≡ item None (row_in m) x
arrives [] m x h = ap (λ i. entry i x) (instant_seen m)
arrives (c ∷ way) m x h = absurd (omega arith)

-- the way behind its first call, as a slice of it
abbrev pub behind : List ℕ → List ℕ
behind way = take (length way - 1) (drop 1 way)

behind_is : (c : ℕ) (way : List ℕ) → way ≡ behind (c ∷ way)
behind_is c way = let e : length way ≡ length (c ∷ way) - 1 = omega arith in sym (take-length way) ∙ ap (λ n. take n way) e

-- one call further
pub walks_on : (way : List ℕ) (m k : Moment) → 1 ≤ length way → slice_get (moments_in m) (get_or way 0 0) ≡ Some k → instant_at way (instant_of m) ≡ instant_at (behind way) (instant_of k)
walks_on [] m k h there = absurd (omega arith)
walks_on (c ∷ way) m k h there = ap (instant_at way) (called_seen c m ∙ called_get (moments_in m) c k there) ∙ ap (λ w. instant_at w (instant_of k)) (behind_is c way)

-- past the last call there is nothing
pub walks_off : (way : List ℕ) (m : Moment) (x : ℕ) → 1 ≤ length way → length (moments_in m) ≤ get_or way 0 0 → entry (instant_at way (instant_of m)) x ≡ None
walks_off [] m x h gone = absurd (omega arith)
walks_off (c ∷ way) m x h gone = ap (λ i. entry (instant_at way i) x) (called_seen c m ∙ called_past (moments_in m) c gone) ∙ ap (λ i. entry i x) (at_nowhere way)
