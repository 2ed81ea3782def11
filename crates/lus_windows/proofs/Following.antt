-- What is kept of lineages that go on, and of those that slots save.
use Rattle.std.proofs.Common.{◌≡◌, ◌∙◌, ◌++◌, ◌<◌, ◌&&◌, ℕ, Bool, true, false, List, [], ◌∷◌, length, Option, Some, None, MatchOption, IsSome, IsTrue, IsFalse, is_none, map, refl, sym, ap, subst, arith, slice_get}
use Rattle.std.proofs.lemmas.List.{append_assoc, append-nil}
use Rattle.std.proofs.lemmas.Option.{get_or_from_slice_get, slice_get_within}
use Rattle.lus_values.specs.Lists.{item}
use Rattle.lus_values.specs.Values.{Row}
use Rattle.lus_program.specs.Programs.{Program}
use Rattle.lus_program.specs.Resolved.{Resolved}
use Rattle.lus_streams.specs.OnClock.{ProgramOnClocks}
use Rattle.lus_streams.proofs.Worlds.{streams_past}
use Rattle.lus_order.specs.Orders.{AreOrders}
use Rattle.lus_requests.specs.declared.request.Request.{Request}
use Rattle.lus_requests.specs.declared.request.Request.TheVariants.{Step, Reset, Save, Restore, Burst}
use Rattle.lus_requests.specs.declared.request.Reply.{Reply}
use Rattle.lus_requests.specs.declared.request.Reply.TheVariants.{Outputs, Rows, Done}
use Rattle.lus_requests.specs.declared.request.Entry.{Entry}
use Rattle.lus_simulation.specs.Lineages.{Lineage, HasNoStreams}
use Rattle.lus_history.specs.Pasts.{Past, beginning, joined, saved_or, after, after_all, past_of, lineage}
use Rattle.lus_history.specs.Keeping.{Holds}
use Rattle.lus_history.specs.Replies.{slots}
use Rattle.lus_worlds.specs.declared.moment.Moment.{Moment}
use Rattle.lus_worlds.specs.Moments.{instant_of, kept_of, Holds as HoldsBehind, KeepsBehind}
use Rattle.lus_worlds.specs.declared.world.Stop.{Stop}
use Rattle.lus_worlds.specs.declared.world.Stop.TheVariants as stops
use Rattle.lus_worlds.specs.Finding.{IsReady}
use Rattle.lus_worlds.specs.Worlds.{HasNoFurther, IsFurther}
use Rattle.lus_windows.specs.declared.finding.Found.{Found}
use Rattle.lus_windows.specs.declared.picks.Pick.{Pick}
use Rattle.lus_windows.specs.declared.window.Reached.{Reached}
use Rattle.lus_windows.specs.declared.window.Window.{Window}
use Rattle.lus_windows.specs.Finding.{FaultsAt, HasFault, HasNone, NoneRefused}
use Rattle.lus_windows.specs.Picks.{picked_at, accepted, ArePicked, IsOver, GoesOn, AppendsPicked}
use Rattle.lus_windows.specs.Windows.{IsKept, IsReached, KeepsPast, HasFollowed, entry_by, has_slot, have_slots, is_lost, HaveNoStreams, orders_in}
use Rattle.lus_windows.proofs.Rows.{joined_append}

after_more : (past : Past) (h : List Entry) (e : Entry) → after_all past (h ++ e ∷ []) ≡ after (after_all past h) e.request e.reply
after_more past [] e = refl
after_more past (d ∷ h) e = after_more (after past d.request d.reply) h e

-- what isn't done only makes the lineage longer
after_rows : (past : Past) (r : Request) (a : Reply) → (a ≡ Done → ⊥) → after past r a ≡ record past { lineage = joined (accepted r a) past.lineage }
after_rows past (Step i) (Outputs o) n = refl
after_rows past (Burst rows) (Rows os) n = refl
after_rows past Reset Done n = absurd (n refl)
after_rows past (Save m) Done n = absurd (n refl)
after_rows past (Restore m) Done n = absurd (n refl)
after_rows past r a n = refl

lost : IsSome {T = Moment} None → ⊥
lost s = absurd (cc)

module _ (sure : Bool) (p : Program) (f : ℕ) where
  -- before the first instant
  pub kept_first : (o : Option Moment) → MatchOption o (Resolved p → f < length p.nodes → ⊥) (λ m. KeepsBehind p m f []) → Resolved p → f < length p.nodes → IsKept sure p f [] o
  kept_first None none resolved lt = absurd (none resolved lt)
  kept_first (Some m) keeps resolved lt = ([], record { satisfied = tt; always = tt; rows = refl }, keeps)

  -- one instant more
  kept_next : (x : Row) (old next : Moment) (l : Lineage) → IsFurther p f x old next → IsKept sure p f l (Some old) → IsKept sure p f (x ∷ l) (Some next)
  kept_next x old next l further k = let h = further l k.0 k.1 k.2 in (instant_of next ∷ k.0, h.0, h.1)

  -- a copy
  pub kept_copy : (old m : Moment) (l : Lineage) → kept_of m ≡ kept_of old → IsKept sure p f l (Some old) → IsKept sure p f l (Some m)
  kept_copy old m l same k = (k.0, k.1, subst (λ h. HoldsBehind p h f k.0) (sym same) k.2)

-- what is found behind what is kept is found behind each lineage that this is kept of
pub found_behind : (Ready : Type 0) (p : Program) (f : ℕ) (rows : List Row) (m : Moment) (r : Reached) → r.moment ≡ Some m → (o : Option Found) → MatchOption o (Ready → HasNone p f rows m) (λ g. Ready → HasFault p f rows m g.fault g.row)
    → (sure : Bool) (l : Lineage) → Ready → IsReached sure p f l r → MatchOption o (NoneRefused sure p f l rows) (λ g. FaultsAt p f l rows g.fault g.row)
found_behind Ready p f rows m r e None h = λ sure l ready k is w s. let own : IsKept sure p f l (Some m) = subst (IsKept sure p f l) e k in h ready l own.0 own.1 own.2
found_behind Ready p f rows m r e (Some g) h = λ sure l ready k. let own : IsKept sure p f l (Some m) = subst (IsKept sure p f l) e k in h ready l own.0 own.1 own.2

-- nor is there anything where nothing is kept
pub none_behind_lost : (p : Program) (f : ℕ) (rows : List Row) (r : Reached) → r.moment ≡ None → (sure : Bool) (l : Lineage) → IsReached sure p f l r → NoneRefused sure p f l rows
none_behind_lost p f rows r e sure l k is w s refused = let none : IsKept sure p f l None = subst (IsKept sure p f l) e k in none is w s

module _ (p : Program) (f : ℕ) where
  -- where nothing goes on there are no streams
  module _ (orders : List (List ℕ)) (x : Row) (old : Reached) where
    pub over_lost : old.moment ≡ None → IsOver p f orders x old
    over_lost is sure l ready k = λ here w s.
        let none : IsKept sure p f l None = subst (IsKept sure p f l) is k in
        let before = streams_past p f x l w s in none here before.1 before.3

    pub over_stopped : (m : Moment) (stop : Stop) → old.moment ≡ Some m → (stop ≡ stops.Memory → ⊥) → (IsReady p orders f → HasNoFurther p f x m stop) → IsOver p f orders x old
    over_stopped m (stops.Fault t) is some none = λ sure l ready k here w s.
        let own : IsKept sure p f l (Some m) = subst (IsKept sure p f l) is k in none ready l own.0 w own.1 own.2 s
    over_stopped m stops.Presence is some none = λ sure l ready k here w s.
        let own : IsKept sure p f l (Some m) = subst (IsKept sure p f l) is k in none ready l own.0 w own.1 own.2 s
    over_stopped m stops.Memory is some none = absurd (some refl)

  picked_append : (l : Lineage) (xs ys : List Row) (picks : List Pick) (ps qs : List Row)
      → ArePicked p f l xs picks ps → ArePicked p f (joined xs l) ys picks qs → ArePicked p f l (xs ++ ys) picks (ps ++ qs)
  picked_append l [] ys picks [] qs h k = k
  picked_append l [] ys picks (r ∷ ps) qs h k = absurd h
  picked_append l (x ∷ xs) ys picks [] qs h k = absurd h
  picked_append l (x ∷ xs) ys picks (r ∷ ps) qs h k = (h.0, picked_append (x ∷ l) xs ys picks ps qs h.1 k)

  module _ (orders : List (List ℕ)) (picks : List Pick) where
    pub goes_nowhere : (r : Reached) (before : List Row) → GoesOn p f orders [] picks r r before before
    goes_nowhere r before = record { reached = λ sure l ready k. k; still = λ s. s; picked = []; appended = sym (append-nil before); are = λ s sure l ready k. tt }

    pub goes_both : (xs ys : List Row) (old mid new : Reached) (a b c : List Row)
        → GoesOn p f orders xs picks old mid a b → GoesOn p f orders ys picks mid new b c → GoesOn p f orders (xs ++ ys) picks old new a c
    goes_both xs ys old mid new a b c g h = record {
      reached = λ sure l ready k. subst (λ m. IsReached sure p f m new) (sym (joined_append xs ys l)) (h.reached sure (joined xs l) ready (g.reached sure l ready k));
      still = λ s. g.still (h.still s);
      picked = g.picked ++ h.picked;
      appended = h.appended ∙ ap (λ d. d ++ h.picked) g.appended ∙ append_assoc a g.picked h.picked;
      are = λ s sure l ready k. picked_append l xs ys picks g.picked h.picked (g.are (h.still s) sure l ready k) (h.are s sure (joined xs l) ready (g.reached sure l ready k));
    }

    module _ (x : Row) (old new : Reached) (before after : List Row) where
      goes_on : (o m : Moment) (row : Row) → old.moment ≡ Some o → new.moment ≡ Some m → (IsReady p orders f → IsFurther p f x o m)
          → row ≡ map (picked_at (instant_of m)) picks → after ≡ before ++ row ∷ [] → GoesOn p f orders (x ∷ []) picks old new before after
      goes_on o m row was is further rows pushed = record {
        reached = λ sure l ready k. subst (IsKept sure p f (x ∷ l)) (sym is) (kept_next sure p f x o m l (further ready) (subst (IsKept sure p f l) was k));
        still = λ s. subst IsSome (sym was) refl;
        picked = row ∷ [];
        appended = pushed;
        are = λ s sure l ready k.
            let own : IsKept sure p f l (Some o) = subst (IsKept sure p f l) was k in
            ((instant_of m, own.0, (further ready l own.0 own.1 own.2).0, rows), tt);
      }

      by_case : (o : Option Moment) (m : Moment) (row : Row) → old.moment ≡ o → new.moment ≡ Some m → MatchOption o ⊥ (λ k. IsReady p orders f → IsFurther p f x k m)
          → row ≡ map (picked_at (instant_of m)) picks → after ≡ before ++ row ∷ [] → GoesOn p f orders (x ∷ []) picks old new before after
      by_case None m row was is further rows pushed = absurd further
      by_case (Some o) m row was is further rows pushed = goes_on o m row was is further rows pushed

      pub goes_found : (m : Moment) (row : Row) → new.moment ≡ Some m → MatchOption old.moment ⊥ (λ k. IsReady p orders f → IsFurther p f x k m)
          → row ≡ map (picked_at (instant_of m)) picks → after ≡ before ++ row ∷ [] → GoesOn p f orders (x ∷ []) picks old new before after
      goes_found m row is further rows pushed = by_case old.moment m row refl is further rows pushed

      pub goes_lost : IsOver p f orders x old → new.moment ≡ None → after ≡ before → GoesOn p f orders (x ∷ []) picks old new before after
      goes_lost over is same = record {
        reached = λ sure l ready k. subst (IsKept sure p f (x ∷ l)) (sym is) (over sure l ready k);
        still = λ s. absurd (lost (subst IsSome is s));
        picked = [];
        appended = same ∙ sym (append-nil before);
        are = λ s. absurd (lost (subst IsSome is s));
      }

pub is_there : (o : Option Moment) → IsFalse (is_none o) → IsSome o
is_there None h = absurd (cc)
is_there (Some m) h = refl

-- a window of a program on clocks has what its instants are found with
pub ready : (p : Program) → ProgramOnClocks p → (sure : Bool) (f : ℕ) (past : Past) (w : Window) → KeepsPast sure p f past w → IsReady p (orders_in w) w.node
ready p clocks sure f past w k =
    (record { resolved = k.resolved; clocks = clocks; ordered = λ g lt. (k.orders.each g lt).order }, subst (λ n. n < length p.nodes) (sym k.node) k.within)

module _ (p : Program) (old new : Window) (r : Request) (a : Reply) (rows : List Row) (same : rows ≡ accepted r a) (picks : List Pick) (before later : List Row)
    (goes : GoesOn p old.node (orders_in old) rows picks old.reached new.reached before later) (clocks : ProgramOnClocks p) where
  -- what isn't done leads behind the rows that it has lived through
  pub goes_forth : (sure : Bool) (f : ℕ) → new.node ≡ old.node → new.orders ≡ old.orders → new.saved ≡ old.saved → (a ≡ Done → ⊥) → (past : Past) → KeepsPast sure p f past old
      → KeepsPast sure p f (after past r a) new
  goes_forth sure f node orders saved not_done past k =
      let own : IsReached sure p old.node past.lineage old.reached = subst (λ n. IsReached sure p n past.lineage old.reached) (sym k.node) k.keeps.now in
      let there : IsReached sure p f (joined (accepted r a) past.lineage) new.reached =
      subst (λ n. IsReached sure p n (joined (accepted r a) past.lineage) new.reached) k.node
      (subst (λ s. IsReached sure p old.node (joined s past.lineage) new.reached) same (goes.reached sure past.lineage (ready p clocks sure f past old k) own))
      in
      let kept : KeepsPast sure p f (record past { lineage = joined (accepted r a) past.lineage }) new = record {
        resolved = k.resolved;
        within = k.within;
        orders = subst (λ v. AreOrders p (map (λ order. order.items) v.items)) (sym orders) k.orders;
        node = node ∙ k.node;
        keeps = record {
          now = there;
          slot = λ m lt. subst (λ v. Holds p f (λ s l. IsReached sure p f l s) (past.saved m) (item None v.items m)) (sym saved) (k.keeps.slot m lt);
          all = ap (λ v. length v.items) saved ∙ k.keeps.all;
        };
      } in
      subst (λ q. KeepsPast sure p f q new) (sym (after_rows past r a not_done)) kept

  pub appends : AppendsPicked p old new r a picks before later
  appends = record {
    picked = goes.picked;
    appended = goes.appended;
    are = λ kept f h k.
        let sure = have_slots h in
        let own : IsReached sure p old.node (lineage h) old.reached = subst (λ n. IsReached sure p n (lineage h) old.reached) (sym k.node) k.keeps.now in
        let are = goes.are (is_there new.reached.moment kept) sure (lineage h) (ready p clocks sure f (past_of h) old k) own in
        subst (λ n. ArePicked p n (lineage h) (accepted r a) picks goes.picked) k.node (subst (λ s. ArePicked p old.node (lineage h) s picks goes.picked) same are);
  }

-- what is sure of more entries is sure of fewer
both : (a b : Bool) → IsTrue (a && b) → IsTrue a × IsTrue b
both true b h = (refl, h)
both false b h = absurd (cc)

slots_before : (h : List Entry) (e : Entry) → IsTrue (have_slots (h ++ e ∷ [])) → IsTrue (have_slots h) × IsTrue (has_slot e.request e.reply)
slots_before [] e t = (refl, (both (has_slot e.request e.reply) true t).0)
slots_before (d ∷ h) e t =
    let first = both (has_slot d.request d.reply) (have_slots (h ++ e ∷ [])) t in
    let rest = slots_before h e first.1 in ((λ j. first.0 j && rest.0 j), rest.1)

module _ (p : Program) (f : ℕ) (sure less : Bool) (on : IsTrue less → IsTrue sure) where
  kept_less : (l : Lineage) (o : Option Moment) → IsKept sure p f l o → IsKept less p f l o
  kept_less l None k = λ t. k (on t)
  kept_less l (Some m) k = k

  held_less : (saved : Option Lineage) (o : Option Reached) → Holds p f (λ r l. IsReached sure p f l r) saved o → Holds p f (λ r l. IsReached less p f l r) saved o
  held_less None None h = h
  held_less None (Some r) h = h
  held_less (Some l) None h = h
  held_less (Some l) (Some r) h = kept_less l r.moment h

  less_sure : (past : Past) (w : Window) → KeepsPast sure p f past w → KeepsPast less p f past w
  less_sure past w k = record {
    resolved = k.resolved;
    within = k.within;
    orders = k.orders;
    node = k.node;
    keeps = record {
      now = kept_less past.lineage w.reached.moment k.keeps.now;
      slot = λ n lt. held_less (past.saved n) (item None w.saved.items n) (k.keeps.slot n lt);
      all = k.keeps.all;
    };
  }

module _ (sure : Bool) (p : Program) (f : ℕ) (past : Past) (w : Window) where
  held : (o : Option Lineage) (l : Lineage) (s : Option Reached) (r : Reached) → s ≡ Some r → Holds p f (λ t m. IsReached sure p f m t) o s → IsReached sure p f (saved_or l o) r
  held None l None r is h = absurd (cc)
  held None l (Some t) r is h = absurd h
  held (Some m) l None r is h = absurd h
  held (Some m) l (Some t) r is h = let same : t ≡ r = cc in subst (IsReached sure p f m) same h

  -- a restore
  pub restores : (n : ℕ) (s : Option Reached) (r r' : Reached) → slice_get w.saved.items n ≡ Some s → s ≡ Some r → ((l : Lineage) → IsReached sure p f l r → IsReached sure p f l r')
      → KeepsPast sure p f past w → KeepsPast sure p f (record past { lineage = saved_or past.lineage (past.saved n) }) (record w { reached = r' })
  restores n s r r' at is copied k =
      let lt : n < slots = omega (arith, slice_get_within w.saved.items n s at, k.keeps.all) in
      let here : item None w.saved.items n ≡ s = get_or_from_slice_get w.saved.items n s None at in
      record {
        resolved = k.resolved;
        within = k.within;
        orders = k.orders;
        node = k.node;
        keeps = record {
          now = copied (saved_or past.lineage (past.saved n)) (held (past.saved n) past.lineage (item None w.saved.items n) r (here ∙ is) (k.keeps.slot n lt));
          slot = k.keeps.slot;
          all = k.keeps.all;
        };
      }

-- one entry more
pub follows : (p : Program) (f : ℕ) (old new : Window) (r : Request) (a : Reply)
    → ((sure : Bool) (past : Past) → (IsTrue sure → IsTrue (has_slot r a)) → KeepsPast sure p f past old → KeepsPast sure p f (after past r a) new)
    → (h : List Entry) (c : ℕ) → HasFollowed p f h old → HasFollowed p f (h ++ entry_by c r a ∷ []) new
follows p f old new r a goes h c k =
    let e = entry_by c r a in
    let sure = have_slots (h ++ e ∷ []) in
    subst (λ past. KeepsPast sure p f past new) (sym (after_more beginning h e))
    (goes sure (past_of h) (λ t. (slots_before h e t).1) (less_sure p f (have_slots h) sure (λ t. (slots_before h e t).0) (past_of h) old k))

none_kept : (sure : Bool) (p : Program) (f : ℕ) (l : Lineage) (o : Option Moment) → is_none o ≡ true → IsKept sure p f l o → IsTrue sure → HasNoStreams p f l
none_kept sure p f l None lost k = k
none_kept sure p f l (Some m) lost k = absurd (cc)

-- a window is lost where there are no streams
pub lost_behind : (p : Program) (f : ℕ) (h : List Entry) (w : Window) → is_lost w ≡ true → HasFollowed p f h w → HaveNoStreams p f h
lost_behind p f h w lost k = none_kept (have_slots h) p f (lineage h) w.reached.moment lost k.keeps.now
