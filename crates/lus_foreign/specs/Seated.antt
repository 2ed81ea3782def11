-- What C has of an instance: a seat with the number of its instance, and the reply to its last call.
use Rattle.std.specs.Prelude.{◌≡◌, ℕ, List, [], ◌∷◌, map, reverse, Option}
use Rattle.std.specs.List.{All}
use Rattle.lus_program.specs.Programs.{Program}
use Rattle.lus_requests.specs.declared.request.Reply.{Reply}
use Rattle.lus_shared.specs.MachineSpecs.Machines.{Told}
use Rattle.lus_shared.specs.Knowledge.{Instance, Standing, origin_with}
use Rattle.lus_shared.specs.Views.{fresh_seats}

pub record Seated : Type 0 where
  pub id : ℕ
  pub standing : Standing
  pub last : Option Reply

abbrev pub standings : List Seated → List Standing
standings ss = map (λ (s : Seated). s.standing) ss

-- the instance was opened of this node of the program
pub record IsOf (i : Instance) (program : Program) (node : ℕ) : Type 0 where
  pub in_program : i.origin.program ≡ program
  pub of_node : i.origin.node ≡ node

-- both are seats of one node, and so they are told
pub record AreMates (s t : Seated) : Type 0 where
  pub id : t.id ≡ s.id
  pub instance : t.standing.instance ≡ s.standing.instance

-- all are seats of the first's node
abbrev pub Together : List Seated → Type 0
Together [] = Unit {0}
Together (s ∷ ss) = All (AreMates s) ss

-- the seat is told to be of the node of the first
abbrev pub IsMate : List Seated → Seated → Type 0
IsMate [] t = Unit {0}
IsMate (s ∷ ss) t = s.id ≡ t.id

-- the seat is of the node of the first
abbrev pub Belongs : List Seated → Seated → Type 0
Belongs [] t = Unit {0}
Belongs (s ∷ ss) t = AreMates s t

-- seats that are told to be of one node are: what C's numbers owe
abbrev pub NumbersTell : List Seated → Seated → Type 0
NumbersTell [] t = Unit {0}
NumbersTell (s ∷ ss) t = s.id ≡ t.id → t.standing.instance ≡ s.standing.instance

-- the seat is of this instance, told by this number
abbrev pub IsAt : ℕ → Instance → Seated → Type 0
IsAt n i s = (s.id ≡ n) × (s.standing.instance ≡ i)

-- all seats of a new instance of this machine, told by this number (the last first)
pub record AreOpened (machine : Told) (callers id : ℕ) (ss : List Seated) : Type 0 where
  pub instance : Instance
  pub origin : instance.origin ≡ origin_with machine callers
  pub seats : standings (reverse ss) ≡ fresh_seats instance 0 callers
  pub ids : All (λ (s : Seated). s.id ≡ id) ss
