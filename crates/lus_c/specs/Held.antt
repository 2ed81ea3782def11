-- What handles hold after calls of C's.
use Rattle.std.specs.Prelude.{◌≡◌, ◌==◌, ◌++◌, ◌∷◌, [], ℕ, List, Option, Some, IsTrue}
use Rattle.std.specs.Arc.{arc_value}
use Rattle.lus_syntax.specs.Lexemes.{Text}
use Rattle.lus_shared.specs.CodeSpecs.Codes.{program_of}
use Rattle.lus_shared.specs.MachineSpecs.Acceptance.{Accepted}
use Rattle.lus_shared.specs.Views.{Sees}
use Rattle.lus_foreign.specs.Seated.{Seated}
use Rattle.lus_foreign.specs.Closing.{Ends}
use Rattle.lus_foreign.specs.declared.content.Content.{Content as ContentType}
use Rattle.lus_foreign.specs.declared.content.Content.TheVariants.{Program as IsProgram, Seat as IsSeat, Group as IsGroup, Journal as IsJournal}

-- the number OK, and REFUSED
abbrev pub IsOkay : ℕ → Type 0
IsOkay n = IsTrue (n == 0)

abbrev pub IsRefusal : ℕ → Type 0
IsRefusal n = IsTrue (n == 4)

-- the handle holds the program that the text is accepted as
abbrev pub HeldAccepted : Text → Option ContentType → Type 0
HeldAccepted text (Some (IsProgram p)) = Accepted text (program_of (arc_value p))
HeldAccepted text _ = ⊥

-- the seat has seen so many entries
abbrev pub HeldSees : Option ContentType → Option ContentType → ℕ → Type 0
HeldSees (Some (IsSeat s)) (Some (IsSeat t)) n = Sees s.standing t.standing n
HeldSees _ _ n = ⊥

-- the handle held seats, and holds what their instance left
abbrev pub HeldEnds : Option ContentType → Option ContentType → Type 0
HeldEnds (Some (IsGroup ss)) (Some (IsJournal c)) = Ends ss c
HeldEnds _ _ = ⊥

-- a seat goes behind these seats
abbrev pub ContentJoins : List Seated → ContentType → List Seated → Type 0
ContentJoins ss (IsSeat s) ts = ts ≡ ss ++ s ∷ []
ContentJoins _ _ _ = ⊥

abbrev pub HeldJoins : List Seated → Option ContentType → List Seated → Type 0
HeldJoins ss (Some a) ts = ContentJoins ss a ts
HeldJoins _ _ _ = ⊥

-- the one handle held seats, and holds them with the seat that the other held
abbrev pub HeldGathers : Option ContentType → Option ContentType → Option ContentType → Type 0
HeldGathers (Some (IsGroup ss)) a (Some (IsGroup ts)) = HeldJoins ss a ts
HeldGathers _ _ _ = ⊥

-- the handle holds no seats yet
abbrev pub HeldIsEmpty : Option ContentType → Type 0
HeldIsEmpty (Some (IsGroup ss)) = ss ≡ []
HeldIsEmpty _ = ⊥
