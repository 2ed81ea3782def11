-- One more item of a list.
use Rattle.std.proofs.Common.{◌≡◌, ◌∙◌, ◌+◌, ◌<◌, ◌++◌, ℕ, ap, ap₂, sym, subst, List, [], ◌∷◌, length, map, take, get_or}
use Rattle.std.proofs.lemmas.List.{map_push, take_more}
use Rattle.std.proofs.lemmas.List.Elements.{All-push}
use Rattle.std.specs.List.{All}

pub mapped_more : {X Y Z : Type 0} (f : Y → Z) (g : X → Y) (xs : List X) (i : ℕ) (d : X) (new old : List Z) (z : Z) → i < length xs
    → old ≡ map f (map g (take i xs)) → z ≡ f (g (get_or xs i d)) → new ≡ old ++ z ∷ [] → new ≡ map f (map g (take (i + 1) xs))
mapped_more f g xs i d new old z within before is pushed =
    pushed ∙ ap₂ (λ a b. a ++ b ∷ []) before is
    ∙ sym (map_push f (map g (take i xs)) (g (get_or xs i d)))
    ∙ sym (ap (map f) (map_push g (take i xs) (get_or xs i d)))
    ∙ sym (ap (λ l. map f (map g l)) (take_more xs i d within))

pub all_more : {X Y : Type 0} (P : Y → Type 0) (g : X → Y) (xs : List X) (i : ℕ) (d : X) → i < length xs → All P (map g (take i xs))
    → P (g (get_or xs i d)) → All P (map g (take (i + 1) xs))
all_more P g xs i d within before here =
    subst (All P) (sym (ap (map g) (take_more xs i d within) ∙ map_push g (take i xs) (get_or xs i d)))
    (All-push P (map g (take i xs)) (g (get_or xs i d)) before here)
