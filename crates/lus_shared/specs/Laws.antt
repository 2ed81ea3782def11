-- Laws of the rule.
use Rattle.std.specs.Prelude.{◌≡◌, ◌+◌, ◌*◌, ℕ, true, [], ◌∷◌, length, slice_index}
use mathlib.Core.Option.{some}
use lib.ListN.{get_elem?}
use Rattle.atomic_table.specs.Table.{State}
use Rattle.lus_machine.specs.Machines.{Told}
use Rattle.lus_shared.specs.Knowledge.{Origin, Facts, Sight}
use Rattle.lus_shared.specs.Rule.{Sound}

-- between any two steps at a table at which a view is the taker's: its seat has seen all entries that there are, the word is odd, so that no
-- exchange from an even word is won, and no other view is a taker's. A step changes no view but that of the seat which makes it, so the
-- entries are these until the taker gives the machine back
abbrev pub TakersAreAlone : Type 0
TakersAreAlone =
    (o : Origin) (s : State Told Sight) (sound : Sound o s) (place : ℕ) (v : Sight) → get_elem? s.views place ≡ some v → v.taker ≡ true
    → ((f : Facts) × (v.seats ≡ f ∷ []) × (sound.history ≡ f.seen))
    × (slice_index s.words 0 ≡ 2 * length sound.history + 1)
    × ((other : ℕ) (w : Sight) → get_elem? s.views other ≡ some w → w.taker ≡ true → other ≡ place)
