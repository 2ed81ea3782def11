-- What is left of seats that are closed.
use Rattle.std.specs.Prelude.{◌≡◌, List, reverse}
use Rattle.std.specs.List.{All}
use Rattle.std.specs.Arc.{arc_value}
use Rattle.lus_shared.specs.CodeSpecs.Codes.{program_of}
use Rattle.lus_shared.specs.Knowledge.{Instance}
use Rattle.lus_shared.specs.Closing.{Closed}
use Rattle.lus_foreign.specs.Seated.{Seated, IsOf, standings}
use Rattle.lus_foreign.specs.declared.seat_group.ClosedNode.{ClosedNode}
use Rattle.lus_foreign.specs.declared.seat_group.Ended.{Ended as EndedType}
use Rattle.lus_foreign.specs.declared.seat_group.Ended.TheVariants.{Closed as IsClosed}

-- what was closed is the history of the instance of these seats, with their calls and no others, and its node (the seats are told
-- the last first)
abbrev pub Ends : List Seated → ClosedNode → Type 0
Ends ss c = (i : Instance) × (All (λ (s : Seated). s.standing.instance ≡ i) ss × Closed i (standings (reverse ss)) c.entries.items
    × IsOf i (program_of (arc_value c.program)) c.kind.0)

abbrev pub EndLeaves : List Seated → EndedType → Type 0
EndLeaves ss (IsClosed c) = Ends ss c
EndLeaves ss _ = Unit {0}
