-- What meeting, holding and releasing leave.
use Rattle.std.specs.Prelude.{◌≡◌, Option, Some, length}
use Rattle.lus_shared.specs.Views.{Sees}
use Rattle.lus_foreign.specs.declared.content.Content.{Content as ContentType}
use Rattle.lus_foreign.specs.declared.content.Content.TheVariants.{Seat as IsSeat, Held as IsHeld}
use Rattle.lus_foreign.specs.Seated.{Seated}

-- the same seat, which may have seen more, a legal history, and made no call
abbrev pub Waits : Seated → Seated → Type 0
Waits s t = (t.id ≡ s.id) × Sees s.standing t.standing (length t.standing.seen) × (t.last ≡ s.last)

-- both seats have seen one history
abbrev pub ContentsMeet : ContentType → ContentType → ContentType → ContentType → Type 0
ContentsMeet (IsSeat s) (IsSeat t) (IsSeat u) (IsSeat v) = Waits s u × Waits t v × (u.standing.seen ≡ v.standing.seen)
ContentsMeet _ _ _ _ = ⊥

abbrev pub HeldMeet : Option ContentType → Option ContentType → Option ContentType → Option ContentType → Type 0
HeldMeet (Some a) (Some b) (Some c) (Some d) = ContentsMeet a b c d
HeldMeet _ _ _ _ = ⊥

-- the seat has the machine to itself
abbrev pub HeldHolds : Option ContentType → Option ContentType → Type 0
HeldHolds (Some (IsSeat s)) (Some (IsHeld t)) = Waits s t
HeldHolds _ _ = ⊥

-- the seat gave the machine back, and is as it was
abbrev pub HeldReleases : Option ContentType → Option ContentType → Type 0
HeldReleases (Some (IsHeld s)) (Some (IsSeat t)) = t ≡ s
HeldReleases _ _ = ⊥
