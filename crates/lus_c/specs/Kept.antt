-- What C is told of a journal that a handle holds.
use Rattle.std.specs.Prelude.{◌≡◌, ◌≤◌, ℕ, List, Option, Some, length, slice_get}
use Rattle.lus_requests.specs.declared.request.Entry.{Entry}
use Rattle.lus_leaves.specs.declared.leaf.Leaf.{Leaf}
use Rattle.lus_leaves.specs.declared.requests.EntryOut.{EntryOut}
use Rattle.lus_leaves.specs.Requests.{EntryIsTold}
use Rattle.lus_foreign.specs.declared.content.Content.{Content as ContentType}
use Rattle.lus_foreign.specs.declared.content.Content.TheVariants.{Journal as IsJournal}

-- C is told the entry at this place, from 0
pub record TellsEntry (entries : List Entry) (place : ℕ) (out : EntryOut) (old_inputs new_inputs old_outputs new_outputs : List Leaf) : Type 0 where
  pub entry : Entry
  pub here : slice_get entries place ≡ Some entry
  pub told : EntryIsTold entry out old_inputs new_inputs old_outputs new_outputs

abbrev pub HeldTellsEntry : Option ContentType → ℕ → EntryOut → (old_inputs new_inputs old_outputs new_outputs : List Leaf) → Type 0
HeldTellsEntry (Some (IsJournal c)) place out old_inputs new_inputs old_outputs new_outputs = TellsEntry c.entries.items place out old_inputs new_inputs old_outputs new_outputs
HeldTellsEntry _ place out old_inputs new_inputs old_outputs new_outputs = ⊥

-- the journal has so many entries
abbrev pub HeldCounts : Option ContentType → ℕ → Type 0
HeldCounts (Some (IsJournal c)) n = length c.entries.items ≡ n
HeldCounts _ n = ⊥

-- the journal has no entry at this place
abbrev pub HeldEndsBefore : Option ContentType → ℕ → Type 0
HeldEndsBefore (Some (IsJournal c)) place = length c.entries.items ≤ place
HeldEndsBefore _ place = ⊥
