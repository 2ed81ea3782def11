-- Instants in a list, as contracts see them in an instant.
use Rattle.std.proofs.Common.{◌≡◌, ℕ, zero, suc, ◌+◌, ◌<◌, Bool, List, [], ◌∷◌, map, length, Some, arith, refl, sym, ap, ◌∙◌, rules, slice_get, slice_index_or, not-suc-le-zero, le_of_suc-le-suc}
use Rattle.lus_values.specs.Lists.{item}
use Rattle.lus_values.specs.Values.{Row}
use Rattle.lus_program.specs.Programs.{Program}
use Rattle.lus_streams.specs.Equations.{Site}
use Rattle.lus_streams.specs.Streams.{instant, also, World, row_of, called_at, called_instant}
use Rattle.lus_reference.specs.Kept.{AreRowsFrom}
use Rattle.lus_worlds.specs.declared.moment.Moment.{Moment, Moment', Row_of-Moment, end_of-Moment, more_of-Moment, items-the_row-Moment, the_lemmas}
use Rattle.lus_worlds.specs.Moments.{instant_of, called_in, called_of, present_in, row_in, kept_in, moments_in, Kept, AllKept, nothing, further, kept_with, kept_of, all_kept, kept_by, AllHold, EachKeeps}

pub called_is : {m : _} (k : Row_of-Moment m) → called_in k ≡ called_of (items-the_row-Moment m k)
called_is end_of-Moment = refl
called_is (more_of-Moment j rest) = ap (also (instant_of j)) (called_is rest)

pub all_kept_is : {m : _} (k : Row_of-Moment m) → all_kept k ≡ kept_by (items-the_row-Moment m k)
all_kept_is end_of-Moment = refl
all_kept_is (more_of-Moment j rest) = ap (further (kept_of j)) (all_kept_is rest)

-- an instant, and what is kept behind it, by its fields
pub instant_seen : (m : Moment) → instant_of m ≡ instant (present_in m) (row_in m) (called_of (moments_in m))
instant_seen (Moment' present row kept fault shape called) = search (rules, the_lemmas, called_is)

pub kept_seen : (m : Moment) → kept_of m ≡ kept_with (kept_in m) (kept_by (moments_in m))
kept_seen (Moment' present row kept fault shape called) = search (rules, the_lemmas, all_kept_is)

-- instants that keep the same, each, do so together
abbrev all_of : List Kept → AllKept
all_of [] = nothing
all_of (k ∷ ks) = further k (all_of ks)

kept_by_each : (ms : List Moment) → kept_by ms ≡ all_of (map kept_of ms)
kept_by_each [] = refl
kept_by_each (m ∷ ms) = ap (further (kept_of m)) (kept_by_each ms)

pub kept_alike : (ms ns : List Moment) → map kept_of ms ≡ map kept_of ns → kept_by ms ≡ kept_by ns
kept_alike ms ns same = kept_by_each ms ∙ ap all_of same ∙ sym (kept_by_each ns)

module _ (p : Program) (past : World) where
  pub all_hold : (ms : List Moment) (ss : List Site) → EachKeeps p ms ss past → AllHold p (kept_by ms) ss past
  all_hold [] [] h = tt
  all_hold [] (s ∷ ss) h = absurd h
  all_hold (j ∷ js) [] h = absurd h
  all_hold (j ∷ js) (s ∷ ss) h = (h.0, all_hold js ss h.1)

pub row_is : (m : Moment) → row_in m ≡ row_of (instant_of m)
row_is m = sym (ap row_of (instant_seen m))

pub rows_are : (ms : List Moment) (n : ℕ) → item [] (map row_in ms) n ≡ row_of (called_at (called_of ms) n)
rows_are [] n = refl
rows_are (m ∷ ms) zero = row_is m
rows_are (m ∷ ms) (suc n) = rows_are ms n

pub called_rows : (present : Bool) (row : Row) (ms : List Moment) → AreRowsFrom (instant present row (called_of ms)) 0 (map row_in ms)
called_rows present row ms n = let same : n ≡ 0 + n = omega arith in rows_are ms n ∙ ap (λ c. row_of (called_instant c (instant present row (called_of ms)))) same

pub called_get : (ms : List Moment) (n : ℕ) (m : Moment) → slice_get ms n ≡ Some m → called_at (called_of ms) n ≡ instant_of m
called_get [] n m h = absurd (cc)
called_get (k ∷ ms) zero m h = let same : k ≡ m = cc in ap instant_of same
called_get (k ∷ ms) (suc n) m h = called_get ms n m h

-- an item that is there
pub get_there : {X : Type 0} (xs : List X) (i : ℕ) (x : X) → i < length xs → x ≡ slice_index_or xs i x → slice_get xs i ≡ Some x
get_there [] i x lt e = elim (not-suc-le-zero lt) [ ]
get_there (y ∷ xs) zero x lt e = ap Some (sym e)
get_there (y ∷ xs) (suc i) x lt e = get_there xs i x (le_of_suc-le-suc lt) e
