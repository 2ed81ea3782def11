-- Instants behind rows, and faults there, or none.
use Rattle.std.proofs.Common.{◌≡◌, ◌∙◌, ℕ, zero, suc, ◌<◌, List, [], ◌∷◌, ◌++◌, take, drop, length, refl, sym, ap, subst, slice_index_or, not-suc-le-zero, le_of_suc-le-suc}
use Rattle.lus_values.specs.Lists.{item}
use Rattle.lus_values.specs.Values.{Row}
use Rattle.lus_program.specs.Programs.{Program}
use Rattle.lus_program.specs.Resolved.{Resolved}
use Rattle.lus_streams.specs.Streams.{Streams}
use Rattle.lus_attempts.specs.Attempts.{Tries}
use Rattle.lus_simulation.specs.Lineages.{Lineage}
use Rattle.lus_requests.specs.declared.request.Why.TheVariants.{Fault}
use Rattle.lus_history.specs.Pasts.{joined}
use Rattle.lus_history.specs.Replies.{HasRefused}
use Rattle.lus_worlds.specs.declared.moment.Fault.{Fault as NamedFault}
use Rattle.lus_worlds.specs.declared.moment.Moment.{Moment}
use Rattle.lus_worlds.specs.Moments.{instant_of, kept_of, Holds}
use Rattle.lus_worlds.specs.declared.world.Stop.TheVariants as stops
use Rattle.lus_worlds.specs.Worlds.{AreNoFurther, IsFaulty, IsFurther, IsStopped}
use Rattle.lus_windows.specs.Finding.{HasFault, HasNone, ReachesBehind}
use Rattle.lus_windows.proofs.Told.{none_refused, none_refused_past}

pub two_items : {X : Type 0} (xs : List X) (a b : X) → length xs ≡ 2 → a ≡ slice_index_or xs 0 a → b ≡ slice_index_or xs 1 b → xs ≡ a ∷ b ∷ []
two_items [] a b long first second = absurd (cc)
two_items (x ∷ []) a b long first second = absurd (cc)
two_items (x ∷ y ∷ []) a b long first second = (λ j. sym first j ∷ sym second j ∷ [])
two_items (x ∷ y ∷ z ∷ xs) a b long first second = absurd (cc)

pub joined_append : (xs ys : List Row) (l : Lineage) → joined (xs ++ ys) l ≡ joined ys (joined xs l)
joined_append [] ys l = refl
joined_append (x ∷ xs) ys l = joined_append xs ys (x ∷ l)

-- one item more
pub taken_next : {X : Type 0} (i : ℕ) (xs : List X) (x : X) → i < length xs → x ≡ slice_index_or xs i x → take (suc i) xs ≡ take i xs ++ x ∷ []
taken_next i [] x lt is = elim (not-suc-le-zero lt) [ ]
taken_next zero (y ∷ xs) x lt is = ap (λ z. z ∷ []) (sym is)
taken_next (suc i) (y ∷ xs) x lt is = ap (λ l. y ∷ l) (taken_next i xs x (le_of_suc-le-suc lt) is)

item_is : {X : Type 0} (d : X) (xs : List X) (i : ℕ) (x : X) → i < length xs → x ≡ slice_index_or xs i x → item d xs i ≡ x
item_is d [] i x lt is = elim (not-suc-le-zero lt) [ ]
item_is d (y ∷ xs) zero x lt is = sym is
item_is d (y ∷ xs) (suc i) x lt is = item_is d xs i x (le_of_suc-le-suc lt) is

pub split_at : {X : Type 0} (i : ℕ) (xs : List X) (x : X) → i < length xs → x ≡ slice_index_or xs i x → take i xs ++ x ∷ drop (suc i) xs ≡ xs
split_at i [] x lt is = elim (not-suc-le-zero lt) [ ]
split_at zero (y ∷ xs) x lt is = ap (λ z. z ∷ xs) is
split_at (suc i) (y ∷ xs) x lt is = ap (λ l. y ∷ l) (split_at i xs x (le_of_suc-le-suc lt) is)

pub joined_next : (i : ℕ) (rows : List Row) (x : Row) (l : Lineage) → i < length rows → x ≡ slice_index_or rows i x → joined (take (suc i) rows) l ≡ x ∷ joined (take i rows) l
joined_next i rows x l lt is = ap (λ r. joined r l) (taken_next i rows x lt is) ∙ joined_append (take i rows) (x ∷ []) l

module _ (p : Program) (f : ℕ) where
  -- before the first row what is kept is a copy
  pub reaches_first : (old m : Moment) → kept_of m ≡ kept_of old → ReachesBehind p f [] old m
  reaches_first old m same l w s keeps = (w, s, subst (λ k. Holds p k f w) (sym same) keeps)

  module _ (rows : List Row) (i : ℕ) (x : Row) (lt : i < length rows) (is : x ≡ slice_index_or rows i x) (old m : Moment) (reaches : ReachesBehind p f (take i rows) old m) where
    pub reaches_next : (next : Moment) → IsFurther p f x m next → ReachesBehind p f (take (suc i) rows) old next
    reaches_next next further l w s keeps =
        let at = reaches l w s keeps in
        let h = further (joined (take i rows) l) at.0 at.1 at.2 in
        (instant_of next ∷ at.0, subst (λ r. Streams p f r (instant_of next ∷ at.0)) (sym (joined_next i rows x l lt is)) h.0, h.1)

    pub faults_there : (t : NamedFault) → IsFaulty p f x m t → HasFault p f rows old t i
    faults_there t stopped l w s keeps =
        let at = reaches l w s keeps in
        let h = stopped at.0 at.2 in
        record {
          past = at.0;
          now = h.0;
          streams = at.1;
          tries = subst (λ r. Tries p f r h.0 at.0) (sym (item_is [] rows i x lt is)) h.1;
          named = h.2;
        }

    -- where the world stops at a row that isn't given, none of the rows is refused for a fault
    pub none_at : Resolved p → IsStopped p f x m stops.Presence → AreNoFurther p f x m → HasNone p f rows old
    none_at resolved stopped over l w s keeps refused =
        let at = reaches l w s keeps in
        none_refused_past p resolved f l (take i rows) (drop (suc i) rows) x at.0 at.1 (stopped at.0 at.2) (λ further next. over (joined (take i rows) l) at.0 further at.1 at.2 next)
        (subst (λ rs. HasRefused p f l rs Fault) (sym (split_at i rows x lt is)) refused)

  -- nor where it goes on behind all of them
  pub none_behind : (rows : List Row) (old m : Moment) → ReachesBehind p f rows old m → HasNone p f rows old
  none_behind rows old m reaches l w s keeps refused = let at = reaches l w s keeps in none_refused p f l rows at.0 at.1 refused
