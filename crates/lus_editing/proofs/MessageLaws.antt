-- Values as they are seen.
use Rattle.std.proofs.Common.{◌≡◌, ℕ, ◌-◌, suc, zero, Bor, List, [], ◌∷◌, length, None, Option, Some, option_map, refl, arith}
use Rattle.std.specs.List.{slice_get}
use Rattle.std.specs.Option.{option_copied}
use Rattle.serde_json.specs.View.{items_view, view}
use Rattle.serde_json.specs.declared.value.Value.{Value}
use Rattle.lus_editing.specs.Messages.{last_of}

pub seen_copied : {A B : Type 0} (f : A → B) (r : Option (Bor A)) → option_map (λ v. f v.now) r ≡ option_map f (option_copied r)
seen_copied f None = refl
seen_copied f (Some v) = refl

last_at : (vs : List Value) (i : ℕ) → length vs ≡ suc i → option_map view (slice_get vs i) ≡ last_of (items_view vs)
last_at [] i h = absurd (omega (arith, h))
last_at (v ∷ []) zero h = refl
last_at (v ∷ []) (suc i) h = absurd (omega (arith, h))
last_at (v ∷ (w ∷ vs)) zero h = absurd (omega (arith, h))
last_at (v ∷ (w ∷ vs)) (suc i) h = last_at (w ∷ vs) i (omega (arith, h))

pub last_seen : (vs : List Value) → option_map view (slice_get vs (length vs - 1)) ≡ last_of (items_view vs)
last_seen [] = refl
last_seen (v ∷ vs) = last_at (v ∷ vs) (length (v ∷ vs) - 1) (omega arith)
