-- What the numbers of instances owe that C's layer gives: two seats with one number are of one instance.
use Rattle.std.specs.Prelude.{◌≡◌, List, Option, Some, None}
use Rattle.lus_foreign.specs.declared.content.Content.{Content as ContentType}
use Rattle.lus_foreign.specs.declared.content.Content.TheVariants.{Group as IsGroup, Seat as IsSeat}
use Rattle.lus_foreign.specs.Seated.{Seated, NumbersTell}

abbrev pub ContentTells : List Seated → ContentType → Type 0
ContentTells ss (IsSeat s) = NumbersTell ss s
ContentTells ss _ = Unit {0}

abbrev pub HeldTells : List Seated → Option ContentType → Type 0
HeldTells ss (Some t) = ContentTells ss t
HeldTells ss None = Unit {0}

abbrev pub BothTell : Option ContentType → Option ContentType → Type 0
BothTell (Some (IsGroup ss)) t = HeldTells ss t
BothTell _ t = Unit {0}

abbrev pub SeatsTell : ContentType → ContentType → Type 0
SeatsTell (IsSeat s) (IsSeat t) = s.id ≡ t.id → t.standing.instance ≡ s.standing.instance
SeatsTell _ _ = Unit {0}

abbrev pub HeldSeatsTell : Option ContentType → Option ContentType → Type 0
HeldSeatsTell (Some a) (Some b) = SeatsTell a b
HeldSeatsTell _ _ = Unit {0}
