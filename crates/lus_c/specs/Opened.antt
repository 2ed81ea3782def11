-- What opening leaves, and what is taken out of a group.
use Rattle.std.specs.Prelude.{◌≡◌, ◌≤◌, ◌++◌, ◌∷◌, [], ℕ, List, Option, Some, length}
use Rattle.std.specs.Arc.{arc_value}
use Rattle.lus_shared.specs.CodeSpecs.Codes.{program_of}
use Rattle.lus_foreign.specs.Seated.{Seated, AreOpened}
use Rattle.lus_foreign.specs.declared.content.Content.{Content as ContentType}
use Rattle.lus_foreign.specs.declared.content.Content.TheVariants.{Program as IsProgram, Seat as IsSeat, Group as IsGroup}

-- the one handle holds a program, and the other all seats of a new instance of its node
abbrev pub HeldOpens : Option ContentType → (node callers id : ℕ) → Option ContentType → Type 0
HeldOpens (Some (IsProgram p)) node callers id (Some (IsGroup ss)) = AreOpened (record { program = program_of (arc_value p); node = node; history = [] }) callers id ss
HeldOpens _ node callers id _ = ⊥

-- the program has no node of this number
abbrev pub HeldLacks : Option ContentType → ℕ → Type 0
HeldLacks (Some (IsProgram p)) node = length (program_of (arc_value p)).nodes ≤ node
HeldLacks _ node = ⊥

-- the last of the seats that were together is in a handle of its own
abbrev pub SeatsPopped : List Seated → List Seated → Option ContentType → Type 0
SeatsPopped ss ts (Some (IsSeat s)) = ss ≡ ts ++ s ∷ []
SeatsPopped ss ts _ = ⊥

abbrev pub HeldPops : Option ContentType → Option ContentType → Option ContentType → Type 0
HeldPops (Some (IsGroup ss)) (Some (IsGroup ts)) a = SeatsPopped ss ts a
HeldPops _ _ a = ⊥
