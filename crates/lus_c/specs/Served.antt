-- What a call of C's leaves, by the number that it answers.
use Rattle.std.specs.Prelude.{◌≡◌, ◌==◌, ◌||◌, ℕ, List, Option, Some, None, IsTrue, length}
use Rattle.lus_requests.specs.declared.request.Request.{Request}
use Rattle.lus_requests.specs.declared.request.Reply.{Reply}
use Rattle.lus_leaves.specs.declared.leaf.Leaf.{Leaf}
use Rattle.lus_leaves.specs.declared.requests.Answer.{Answer}
use Rattle.lus_leaves.specs.Requests.{Spells, RequestFits, IsTold}
use Rattle.lus_shared.specs.Views.{Adds}
use Rattle.lus_foreign.specs.Seated.{Seated}
use Rattle.lus_foreign.specs.declared.content.Content.{Content as ContentType}
use Rattle.lus_foreign.specs.declared.content.Content.TheVariants.{Seat as IsSeat}
use Rattle.lus_c.specs.Met.{Waits}

-- the numbers OK and SHORT
abbrev pub IsEntered : ℕ → Type 0
IsEntered n = IsTrue ((n == 0) || (n == 7))

-- the numbers BUSY, FULL, NONE, VALUE and SHORT
abbrev pub IsBusy : ℕ → Type 0
IsBusy n = IsTrue (n == 1)

abbrev pub IsFull : ℕ → Type 0
IsFull n = IsTrue (n == 3)

abbrev pub IsNone : ℕ → Type 0
IsNone n = IsTrue (n == 5)

abbrev pub IsValue : ℕ → Type 0
IsValue n = IsTrue (n == 6)

abbrev pub IsShort : ℕ → Type 0
IsShort n = IsTrue (n == 7)

-- no request that could be read is spelled by C's numbers
abbrev pub NoneSpelled : (kind slot : ℕ) → List Leaf → Type 0
NoneSpelled kind slot inputs = (request : Request) → RequestFits request → Spells kind slot inputs request → ⊥

-- the seat has seen a legal history that begins with what it had seen and ends in its call, which its own calls have gained, and
-- keeps the reply
abbrev pub Called : Seated → Seated → Request → Reply → Type 0
Called s t request reply = (t.id ≡ s.id) × Adds s.standing t.standing request reply × (t.last ≡ Some reply)

-- the handle held a seat, and holds it after its call: the request is what C's numbers spell, and C is told the reply
abbrev pub HeldEnters : Option ContentType → Option ContentType → (kind slot : ℕ) → List Leaf → Answer → (olds news : List Leaf) → Type 0
HeldEnters (Some (IsSeat s)) (Some (IsSeat t)) kind slot inputs answer olds news =
    (request : Request) × ((reply : Reply) × Spells kind slot inputs request × Called s t request reply × IsTold reply answer olds news)
HeldEnters _ _ _ _ _ _ _ _ = ⊥

-- a seat that made no call: it may have seen more of a legal history
abbrev pub HeldWaits : Option ContentType → Option ContentType → Type 0
HeldWaits (Some (IsSeat s)) (Some (IsSeat t)) = Waits s t
HeldWaits _ _ = ⊥

-- the seat that made no call has seen so many entries
abbrev pub HeldMisses : Option ContentType → Option ContentType → ℕ → Type 0
HeldMisses (Some (IsSeat s)) (Some (IsSeat t)) n = Waits s t × (length t.standing.seen ≡ n)
HeldMisses _ _ n = ⊥

-- C is told the reply that the seat keeps
abbrev pub HeldTold : Option ContentType → Answer → (olds news : List Leaf) → Type 0
HeldTold (Some (IsSeat s)) answer olds news = (reply : Reply) × (s.last ≡ Some reply) × IsTold reply answer olds news
HeldTold _ answer olds news = ⊥

-- the seat has made no call
abbrev pub HeldUntold : Option ContentType → Type 0
HeldUntold (Some (IsSeat s)) = s.last ≡ None
HeldUntold _ = ⊥

-- the seat has this number
abbrev pub HeldNumbered : Option ContentType → ℕ → Type 0
HeldNumbered (Some (IsSeat s)) n = s.standing.number ≡ n
HeldNumbered _ n = ⊥
