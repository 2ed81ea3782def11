-- One step through a list, and what stands at a name's place.
use Rattle.std.proofs.Common.{◌≡◌, ℕ, ◌+◌, ◌<◌, List, ◌∷◌, length, get_or, drop, arith, ◌∙◌, suc, refl, ap, sym, zero, ◌≤◌, [], Option, Some, None, Bool, true, false, String, Global, option_map, cond, map, add-one, zero-add, add-zero, Bor, subst}
use Rattle.std.proofs.lemmas.Grind.{common_steps}
use Rattle.std.specs.Prelude.{slice_get, string_bytes}
use Rattle.std.specs.List.{position, position_from, zip}
use Rattle.std.specs.Option.{option_and_then, option_copied}
use Rattle.std.specs.Str.{bytes_eq}
use Rattle.std.proofs.lemmas.Iterator.Adapters.{position_from-zero}
use Rattle.lus_syntax.specs.Lexemes.{Text}
use Rattle.lus_program.specs.declared.types.Kind.{Kind}
use Rattle.lus_source.specs.declared.entries.Placed.{Placed}
use Rattle.lus_source.specs.Loopless.{place_in}
use Rattle.lus_source.specs.Scopes.{entry}
use Rattle.lus_source.specs.Tables.{placed, placed_from}
use Rattle.lus_source.specs.Heads.{of_kind}

pub drop_step : {X : Type 0} (xs : List X) (i : ℕ) (x : X) → i < length xs → x ≡ get_or xs i x → drop i xs ≡ x ∷ drop (i + 1) xs
drop_step xs i x lt is = grind (arith, common_steps)

-- places

places_from : (n : List ℕ) (k : ℕ) (keys : List (String Global)) → position_from (λ t. bytes_eq n (string_bytes t)) k keys ≡ position_from (λ m. bytes_eq n m) k (map string_bytes keys)
places_from n k [] = refl
places_from n k (t ∷ keys) = ap (cond (bytes_eq n (string_bytes t)) (Some k)) (places_from n (k + 1) keys)

pub place_found : (n : List ℕ) (keys : List (String Global)) → position (λ t. bytes_eq n (string_bytes t)) keys ≡ place_in (map string_bytes keys) n
place_found n keys = position_from-zero (λ t. bytes_eq n (string_bytes t)) keys ∙ places_from n 0 keys

-- entries

chosen : {X : Type 0} (at : ℕ → Option X) (b : Bool) (k : ℕ) (x : X) (here : Option X) (r : Option ℕ) → at k ≡ Some x → here ≡ option_and_then at r → cond b (Some x) here ≡ option_and_then at (cond b (Some k) r)
chosen at true k x here r is rest = sym is
chosen at false k x here r is rest = rest

nothing_from : {X : Type 0} (at : ℕ → Option X) (k : ℕ) (test : Text → Bool) (ns : List Text) → ((i : ℕ) → at (k + i) ≡ None) → None ≡ option_and_then at (position_from test k ns)
nothing_from at k test [] none = refl
nothing_from at k test (m ∷ ns) none = nothing_here (test m) (nothing_from at (k + 1) test ns (λ i. ap at (omega arith) ∙ none (suc i)))
  where
    nothing_here : (b : Bool) → None ≡ option_and_then at (position_from test (k + 1) ns) → None ≡ option_and_then at (cond b (Some k) (position_from test (k + 1) ns))
    nothing_here true rest = sym (ap at (omega arith) ∙ none 0)
    nothing_here false rest = rest

entry_from : {X : Type 0} (at : ℕ → Option X) (k : ℕ) (ns : List Text) (vs : List X) (n : Text) → ((i : ℕ) → at (k + i) ≡ slice_get vs i) → entry (zip ns vs) n ≡ option_and_then at (position_from (λ m. bytes_eq n m) k ns)
entry_from at k [] vs n are = refl
entry_from at k (m ∷ ns) [] n are = nothing_from at k (λ m. bytes_eq n m) (m ∷ ns) (λ i. are i)
entry_from at k (m ∷ ns) (v ∷ vs) n are =
    chosen at (bytes_eq n m) k v (entry (zip ns vs) n) (position_from (λ m. bytes_eq n m) (k + 1) ns) (ap at (omega arith) ∙ are 0)
    (entry_from at (k + 1) ns vs n (λ i. ap at (omega arith) ∙ are (suc i)))

pub entry_at : {X : Type 0} (ns : List Text) (vs : List X) (n : Text) → option_and_then (slice_get vs) (place_in ns n) ≡ entry (zip ns vs) n
entry_at ns vs n = sym (entry_from (slice_get vs) 0 ns vs n (λ i. ap (slice_get vs) (zero-add i)))

pub entry_map : {X Y : Type 0} (f : X → Y) (ns : List Text) (vs : List X) (n : Text) → option_map f (entry (zip ns vs) n) ≡ entry (zip ns (map f vs)) n
entry_map f [] vs n = refl
entry_map f (m ∷ ns) [] n = refl
entry_map f (m ∷ ns) (v ∷ vs) n = mapped (bytes_eq n m) (entry_map f ns vs n)
  where
    mapped : (b : Bool) → option_map f (entry (zip ns vs) n) ≡ entry (zip ns (map f vs)) n → option_map f (cond b (Some v) (entry (zip ns vs) n)) ≡ cond b (Some (f v)) (entry (zip ns (map f vs)) n)
    mapped true rest = refl
    mapped false rest = rest

-- what stands at the place of a name

pub node_found : {W X Y : Type 0} (f : X → Y) (g : W → X) (ns : List Text) (vs : List W) (i : ℕ) → i < length ns → slice_get (map (λ e. f e.1) (zip ns (map g vs))) i ≡ option_map (λ v. f (g v)) (slice_get vs i)
node_found f g [] vs i within = absurd (omega (arith, within))
node_found f g (n ∷ ns) [] i within = refl
node_found f g (n ∷ ns) (v ∷ vs) zero within = refl
node_found f g (n ∷ ns) (v ∷ vs) (suc i) within = node_found f g ns vs i (omega (arith, within))

pub node_past : {X Y : Type 0} (f : X → Y) (ns : List Text) (vs : List X) (i : ℕ) → length ns ≤ i → slice_get (map (λ e. f e.1) (zip ns vs)) i ≡ None
node_past f [] vs i past = refl
node_past f (n ∷ ns) [] i past = refl
node_past f (n ∷ ns) (v ∷ vs) zero past = absurd (omega (arith, past))
node_past f (n ∷ ns) (v ∷ vs) (suc i) past = node_past f ns vs i (omega (arith, past))

-- variables

pub kind_found : (k : ℕ) (ns : List Text) (ks : List Kind) (i : ℕ) → i < length ns → slice_get ks i ≡ option_map (λ v. v.kind) (slice_get (map (λ e. of_kind e.1.kind) (placed_from k (zip ns ks))) i)
kind_found k [] ks i within = absurd (omega (arith, within))
kind_found k (n ∷ ns) [] i within = refl
kind_found k (n ∷ ns) (v ∷ ks) zero within = refl
kind_found k (n ∷ ns) (v ∷ ks) (suc i) within = kind_found (suc k) ns ks i (omega (arith, within))

pub kind_past : (k : ℕ) (ns : List Text) (ks : List Kind) (i : ℕ) → length ns ≤ i → None ≡ option_map (λ v. v.kind) (slice_get (map (λ e. of_kind e.1.kind) (placed_from k (zip ns ks))) i)
kind_past k [] ks i past = refl
kind_past k (n ∷ ns) [] i past = refl
kind_past k (n ∷ ns) (v ∷ ks) zero past = absurd (omega (arith, past))
kind_past k (n ∷ ns) (v ∷ ks) (suc i) past = kind_past (suc k) ns ks i (omega (arith, past))

abbrev pub at_place : ℕ → Kind → Placed
at_place i kind = record { place = i; kind = kind }

placed_entry : (at : ℕ → Option Placed) (k : ℕ) (ns : List Text) (ks : List Kind) (n : Text) → ((i : ℕ) → at (k + i) ≡ option_map (at_place (k + i)) (slice_get ks i))
    → entry (placed_from k (zip ns ks)) n ≡ option_and_then at (position_from (λ m. bytes_eq n m) k ns)
placed_entry at k [] ks n are = refl
placed_entry at k (m ∷ ns) [] n are = nothing_from at k (λ m. bytes_eq n m) (m ∷ ns) are
placed_entry at k (m ∷ ns) (kind ∷ ks) n are =
    chosen at (bytes_eq n m) k (at_place k kind) (entry (placed_from (suc k) (zip ns ks)) n) (position_from (λ m. bytes_eq n m) (k + 1) ns)
    (subst (λ j. at j ≡ Some (at_place j kind)) (add-zero k) (are 0))
    (ap (λ j. entry (placed_from j (zip ns ks)) n) (sym (add-one k)) ∙ placed_entry at (k + 1) ns ks n (λ i. subst (λ j. at j ≡ option_map (at_place j) (slice_get ks i)) (moved i) (are (suc i))))
  where
    moved : (i : ℕ) → k + suc i ≡ k + 1 + i
    moved i = omega arith

pub variable_at : (ns : List Text) (ks : List Kind) (n : Text) → option_and_then (λ i. option_map (at_place i) (slice_get ks i)) (place_in ns n) ≡ entry (placed (zip ns ks)) n
variable_at ns ks n = sym (placed_entry (λ i. option_map (at_place i) (slice_get ks i)) 0 ns ks n (λ i. ap (λ j. option_map (at_place (0 + i)) (slice_get ks j)) (zero-add i)))

pub copied_map : {X Y : Type 0} (f : X → Y) (r : Option (Bor X)) → option_map (λ x. f x.now) r ≡ option_map f (option_copied r)
copied_map f None = refl
copied_map f (Some x) = refl
