-- What calls of C's leave of a live instance, whose entries are handed out.
use Rattle.std.specs.Prelude.{◌≡◌, ◌==◌, ℕ, List, [], Option, Some, None, IsTrue, length}
use Rattle.std.specs.Arc.{arc_value}
use Rattle.lus_syntax.specs.Lexemes.{Text}
use Rattle.lus_requests.specs.declared.request.Entry.{Entry}
use Rattle.lus_requests.specs.declared.request.Request.{Request}
use Rattle.lus_requests.specs.declared.request.Reply.{Reply}
use Rattle.lus_shared.specs.MachineSpecs.Machines.{IsLawful}
use Rattle.lus_leaves.specs.declared.leaf.Leaf.{Leaf}
use Rattle.lus_leaves.specs.declared.requests.Answer.{Answer}
use Rattle.lus_leaves.specs.declared.requests.EntryOut.{EntryOut}
use Rattle.lus_leaves.specs.Requests.{Spells, IsTold, EntryIsTold}
use Rattle.lus_live_node.specs.LiveNodes.{Live, Enters, IsNext, most_counted}
use Rattle.lus_shared.specs.CodeSpecs.Codes.{program_of}
use Rattle.lus_c.specs.Held.{IsOkay}
use Rattle.lus_c.specs.Queries.{IsHandle}
use Rattle.lus_c.specs.Served.{IsEntered, IsNone}
use Rattle.lus_foreign.specs.declared.content.Content.{Content as ContentType}
use Rattle.lus_foreign.specs.declared.content.Content.TheVariants.{Program as IsProgram, Live as IsLive}

-- the number WRONG
abbrev pub IsWrong : ℕ → Type 0
IsWrong n = IsTrue (n == 11)

-- this holds of the live instance behind the handle; where there is none C is answered HANDLE
abbrev pub OfHeldLive : Option ContentType → ℕ → (Live → Type 0) → Type 0
OfHeldLive (Some (IsLive l)) status P = P l
OfHeldLive _ status P = IsHandle status

-- the one handle holds a program, and the other an instance of its node that was never called
abbrev pub HeldOpensLive : Option ContentType → (node : ℕ) → Option ContentType → Type 0
HeldOpensLive (Some (IsProgram p)) node (Some (IsLive l)) =
    (l ≡ record { instance = record { program = program_of (arc_value p); node = node; history = [] }; last = None }) × IsLawful l.instance
HeldOpensLive _ node _ = ⊥

-- no number is left for a further entry
abbrev pub HasNoNumber : Live → Type 0
HasNoNumber l = length l.instance.history ≡ most_counted

-- the instance has one more entry, with which its history is lawful, and keeps that: its request is what C's numbers spell, and C is
-- told the reply
abbrev pub EntersLive : Live → Live → (kind slot : ℕ) → List Leaf → Answer → (olds news : List Leaf) → Type 0
EntersLive l l' kind slot inputs answer olds news =
    (request : Request) × ((reply : Reply) × Spells kind slot inputs request × Enters l l' request reply × IsLawful l'.instance
    × IsTold reply answer olds news)

abbrev pub HeldEntersLive : Option ContentType → Option ContentType → (kind slot : ℕ) → List Leaf → Answer → (olds news : List Leaf) → Type 0
HeldEntersLive (Some (IsLive l)) (Some (IsLive l')) kind slot inputs answer olds news = EntersLive l l' kind slot inputs answer olds news
HeldEntersLive _ _ kind slot inputs answer olds news = ⊥

-- the line was the right next one of the instance's journal, and its entry is new in the history, which is lawful
abbrev pub HeldReplays : Text → Option ContentType → Option ContentType → Type 0
HeldReplays line (Some (IsLive l)) (Some (IsLive l')) = IsNext line l.instance l'.instance × (l'.last ≡ None)
HeldReplays line _ _ = ⊥

-- C is told the entry, or that none is kept
abbrev pub LastIsTold : Option Entry → (status : ℕ) → EntryOut → (old_inputs new_inputs old_outputs new_outputs : List Leaf) → Type 0
LastIsTold None status out old_inputs new_inputs old_outputs new_outputs = IsNone status
LastIsTold (Some e) status out old_inputs new_inputs old_outputs new_outputs =
    IsEntered status × EntryIsTold e out old_inputs new_inputs old_outputs new_outputs

-- C is told how many entries were made
abbrev pub LiveIsCounted : Live → (status count : ℕ) → Type 0
LiveIsCounted l status count = IsOkay status × (count ≡ length l.instance.history)
