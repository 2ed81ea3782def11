-- An instant that the equations give is the next one, and a part that was found at fault is at fault in it.
use Rattle.std.proofs.Common.{◌≡◌, ℕ, zero, suc, ◌+◌, ◌<◌, nat_lt, Bool, true, false, List, [], ◌∷◌, map, length, Option, None, Some, Contains, MatchBool, MatchOption, is_some, refl, sym, ap, subst, ◌∙◌, ⊎_elim, arith, slice_get}
use Rattle.lus_values.specs.Lists.{Each}
use Rattle.lus_values.specs.Values.{Value, Row}
use Rattle.lus_values.proofs.Lists.{below_all, below_at}
use Rattle.lus_program.specs.Programs.{Node, Program, node_at}
use Rattle.lus_program.specs.Resolved.{Resolved}
use Rattle.lus_streams.specs.Clocks.{clock_of}
use Rattle.lus_streams.specs.Equations.{definition_of, node_parts, Site, sites}
use Rattle.lus_streams.specs.OnClock.{ProgramOnClocks}
use Rattle.lus_streams.specs.Streams.{Instant, instant, World, entry, called_instant, called_world, is_on, where_on, definition_value, Follows as IsFollowing, HasValue, EquationsHold, IsFed, IsInstant, EachCall}
use Rattle.lus_streams.proofs.Calls.{OfSite}
use Rattle.lus_attempts.specs.Attempts.{FollowsFaults, IsAttempt, EachAttempt, HasInputs, FaultAt}
use Rattle.lus_normal_form.specs.Named.{Numbered}
use Rattle.lus_parts.specs.declared.part.Part.{Part as StoredPart}
use Rattle.lus_parts.specs.Parts.{part_of}
use Rattle.lus_reference.specs.Causes.{Operation}
use Rattle.lus_reference.specs.Kept.{Keeps, StandsAt, DoesRenew}
use Rattle.lus_reference.proofs.Onward.{keeps_on}
use Rattle.lus_worlds.specs.declared.moment.Fault.{Fault}
use Rattle.lus_worlds.specs.declared.moment.Moment.{Moment}
use Rattle.lus_worlds.specs.Judging.{EachFaultless, IsFaultBelow, IsFaultHere, IsJudged}
use Rattle.lus_worlds.specs.Moments.{instant_of, called_of, present_in, row_in, kept_in, moments_in, fault_in, cause_in, kept_of, kept_by, kept_with, Holds, KeepsBehind, EachKeeps, CausedAt, NamesFault, IsSaid, IsNext, EachNext, IsNextAmong}
use Rattle.lus_worlds.proofs.Passed.{LacksNothing, calls_lack_nothing}
use Rattle.lus_worlds.proofs.Moments.{called_rows, instant_seen, kept_seen, all_hold}
use Rattle.lus_worlds.proofs.Sites.{sites_numbered}

module _ (p : Program) where
  sound_at : (m : Moment) (g : ℕ) (w : World) → fault_in m ≡ None → IsNext p m g w → HasInputs p g (instant_of m) w → IsInstant p (instant_of m) g w × KeepsBehind p m g (instant_of m ∷ w)
  sound_at m g w e next = subst (λ o. IsSaid p o m g w) e next.said

  module _ (now : Instant) (past : World) where
    -- where no part is at fault, the calls' instants are of streams
    each_instant : (resolved : Resolved p) (clocks : ProgramOnClocks p) (ms : List Moment) (ss : List Site) → EachAttempt p (called_of ms) ss now past → EachNext p ms ss past → EachFaultless ms
        → Each (OfSite p (LacksNothing p now past resolved clocks)) ss → EachCall p (called_of ms) ss now past × EachKeeps p ms ss (now ∷ past)
    each_instant resolved clocks [] [] attempts next sound whole = (tt, tt)
    each_instant resolved clocks [] (s ∷ ss) attempts next sound whole = absurd next
    each_instant resolved clocks (m ∷ ms) [] attempts next sound whole = absurd next
    each_instant resolved clocks (m ∷ ms) (s ∷ ss) attempts next sound whole =
        let w = called_world s.number past in
        let fed : IsFed p s (instant_of m) now past = attempts.0 in
        let own = sound_at m s.node w sound.0 next.0 (whole.0 (instant_of m) w fed) in
        let rest = each_instant resolved clocks ms ss attempts.2 next.1 sound.1 whole.1 in
        ((fed, own.0, rest.0), (subst (λ i. KeepsBehind p m s.node (i ∷ w)) (sym fed.numbered) own.1, rest.1))

    -- the call of an instant
    record CallAt (n : ℕ) (m : Moment) (ss : List Site) : Type 0 where
      site : Site
      there : Contains ss site
      number : site.number ≡ n
      fed : IsFed p site (instant_of m) now past
      next : IsNext p m site.node (called_world site.number past)

    call_behind : (n : ℕ) (m : Moment) (s : Site) (ss : List Site) → CallAt n m ss → CallAt n m (s ∷ ss)
    call_behind n m s ss h = record {
      site = h.site;
      there = (suc h.there.0, (let lt : h.there.0 < length ss = h.there.1 in omega arith), h.there.2);
      number = h.number;
      fed = h.fed;
      next = h.next;
    }

    call_at : (n i : ℕ) (ms : List Moment) (ss : List Site) (m : Moment) → slice_get ms i ≡ Some m → Numbered n ss → EachAttempt p (called_of ms) ss now past → EachNext p ms ss past → CallAt (n + i) m ss
    call_at n i [] ss m e numbered attempts next = absurd (cc)
    call_at n i (k ∷ ms) [] m e numbered attempts next = absurd next
    call_at n zero (k ∷ ms) (s ∷ ss) m e numbered attempts next =
        let same : k ≡ m = cc in
        let first : n ≡ n + 0 = omega arith in
        record {
          site = s;
          there = (0, omega arith, refl);
          number = numbered.0 ∙ first;
          fed = subst (λ j. IsFed p s (instant_of j) now past) same attempts.0;
          next = subst (λ j. IsNext p j s.node (called_world s.number past)) same next.0;
        }
    call_at n (suc i) (k ∷ ms) (s ∷ ss) m e numbered attempts next =
        let behind : suc n + i ≡ n + suc i = omega arith in
        subst (λ c. CallAt c m (s ∷ ss)) behind (call_behind (suc n + i) m s ss (call_at (suc n) i ms ss m e numbered.1 attempts.2 next.1))

    -- a fault of the instant of a call is one of the node that calls it
    fault_below : (f : ℕ) (ms : List Moment) (t : Fault) → IsFaultBelow ms t → Resolved p → EachAttempt p (called_of ms) (sites p (node_at p f)) now past → EachNext p ms (sites p (node_at p f)) past → NamesFault p t f now past
    fault_below f ms t h resolved attempts next =
        let c = h.number in
        let call = call_at 0 c ms (sites p (node_at p f)) h.moment h.there (sites_numbered p resolved f) attempts next in
        let s = call.site in
        let first : 0 + c ≡ c = omega arith in
        let number : s.number ≡ c = call.number ∙ first in
        let below : NamesFault p h.fault s.node (instant_of h.moment) (called_world s.number past) = subst (λ o. IsSaid p o h.moment s.node (called_world s.number past)) h.said call.next.said in
        let there : FaultAt p h.fault.way.items (part_of below.part) s.node (called_instant s.number now) (called_world s.number past) =
        subst (λ j. FaultAt p h.fault.way.items (part_of below.part) s.node j (called_world s.number past)) (sym call.fed.numbered) below.at_fault in
        let moved : FaultAt p h.fault.way.items (part_of below.part) s.node (called_instant c now) (called_world c past) =
        subst (λ n. FaultAt p h.fault.way.items (part_of below.part) s.node (called_instant n now) (called_world n past)) number there in
        let whole : FaultAt p (c ∷ h.fault.way.items) (part_of below.part) f now past = (s, call.there, number, moved) in
        record {
          part = below.part;
          at_fault = subst (λ way. FaultAt p way (part_of below.part) f now past) (sym h.way) whole;
          place = h.place ∙ below.place;
          cause =
              subst (λ o. CausedAt p o t.way.items (part_of below.part) now past) (sym h.cause)
              (subst (λ way. CausedAt p (cause_in h.fault) way (part_of below.part) now past) (sym h.way)
              (subst (λ n. CausedAt p (cause_in h.fault) h.fault.way.items (part_of below.part) (called_instant n now) (called_world n past)) number
              (subst (λ j. CausedAt p (cause_in h.fault) h.fault.way.items (part_of below.part) j (called_world s.number past)) (sym call.fed.numbered) below.cause)));
        }

-- a cause, if there is one, in other words
caused : {P Q : Operation → Type 0} (c : Option Operation) → ((o : Operation) → P o → Q o) → MatchOption c (Unit {0}) P → MatchOption c (Unit {0}) Q
caused None f h = tt
caused (Some o) f h = f o h

contained : {X Y : Type 0} (f : X → Y) (xs : List X) (i : ℕ) (x : X) → slice_get xs i ≡ Some x → Contains (map f xs) (f x)
contained f [] i x e = absurd (cc)
contained f (y ∷ xs) zero x e = let same : y ≡ x = cc in (0, omega arith, ap f same)
contained f (y ∷ xs) (suc i) x e =
    let c = contained f xs i x e in
    (suc c.0, (let lt : c.0 < length (map f xs) = c.1 in omega arith), c.2)

-- an input that isn't missing, and a variable without a fault
none_missing : (o d : Option Value) (on b : Bool) → MatchBool b (is_some o ≡ true → on ≡ true) (o ≡ where_on on d) → MatchBool b (is_some o ≡ on) (Unit {0}) → MatchBool b (is_some o ≡ on) (o ≡ where_on on d)
none_missing o d on true h k = k
none_missing o d on false h k = h

module _ (p : Program) (f : ℕ) (present : Bool) (row oldkept kept : Row) (ms : List Moment) (es : List StoredPart) where
  abbrev g : Node
  g = node_at p f

  abbrev now : Instant
  now = instant present row (called_of ms)

  -- what is said of it, part by part
  abbrev pub Said : Option Fault → World → Type 0
  Said None past = HasInputs p f now past → IsInstant p now f past × Keeps p (now ∷ past) (node_parts p g) kept × EachKeeps p ms (sites p g) (now ∷ past)
  Said (Some t) past = NamesFault p t f now past

  -- what was judged and renewed
  pub record IsClosed (o : Option Fault) : Type 0 where
    pub parts : map part_of es ≡ node_parts p g
    pub judged : IsJudged p present row es oldkept ms o
    pub renewed : DoesRenew p present row (map row_in ms) (map part_of es) oldkept kept

  module _ (o : Option Fault) (h : IsClosed o) (past : World) (resolved : Resolved p) (clocks : ProgramOnClocks p) (keeps : Keeps p past (node_parts p g) oldkept)
      (attempt : IsAttempt p now f past) (next : EachNext p ms (sites p g) past) where
    own_keeps : Keeps p past (map part_of es) oldkept
    own_keeps = subst (λ qs. Keeps p past qs oldkept) (sym h.parts) keeps

    holds : HasInputs p f now past → Each (λ e. HasValue p e now past) (node_parts p g) → EquationsHold p g now past
    holds inputs values = record {
      width = attempt.0.width;
      variables = below_all (IsFollowing p g now past) (length g.variables)
          (λ x lt.
          none_missing (entry now x) (definition_value p (definition_of g x) now past) (is_on (clock_of g x) now) (nat_lt x g.inputs)
          (below_at (FollowsFaults p g now past) (length g.variables) attempt.0.variables x lt)
          (below_at (λ y. MatchBool (nat_lt y g.inputs) (is_some (entry now y) ≡ is_on (clock_of g y) now) (Unit {0})) (length g.variables) inputs x lt));
      no_fault = values;
    }

    kept_next : Each (λ e. HasValue p e now past) (map part_of es) → Keeps p (now ∷ past) (node_parts p g) kept
    kept_next values =
        let own : StandsAt p present row (map row_in ms) (map part_of es) oldkept now past = record { base = refl; entries = refl; called = called_rows present row ms; keeps = own_keeps } in
        let after : Keeps p (now ∷ past) (map part_of es) kept = subst (Keeps p (now ∷ past) (map part_of es)) (sym (h.renewed now past own)) ((keeps_on p).at_next (map part_of es) oldkept now past own_keeps values) in
        subst (λ qs. Keeps p (now ∷ past) qs kept) h.parts after

    none_at_fault : Each (λ e. HasValue p e now past) (map part_of es) → EachFaultless ms → Said None past
    none_at_fault here below inputs =
        let values = subst (Each (λ e. HasValue p e now past)) h.parts here in
        let calls = each_instant p now past resolved clocks ms (sites p g) attempt.1 next below (calls_lack_nothing p now past resolved clocks f values) in
        ((holds inputs values, calls.0), kept_next here, calls.1)

    fault_here : (t : Fault) → IsFaultHere p present row es oldkept ms t → NamesFault p t f now past
    fault_here t k =
        let there : Contains (node_parts p g) (part_of k.part) = subst (λ qs. Contains qs (part_of k.part)) h.parts (contained part_of es k.number k.part k.there) in
        let whole : FaultAt p [] (part_of k.part) f now past = (there, k.at_fault past own_keeps) in
        record {
          part = k.part;
          at_fault = subst (λ way. FaultAt p way (part_of k.part) f now past) (sym k.way) whole;
          place = k.place;
          cause = subst (λ way. CausedAt p (cause_in t) way (part_of k.part) now past) (sym k.way) (caused (cause_in t) (λ c keeps. keeps past own_keeps) k.cause);
        }

  is_said : (o : Option Fault) → IsClosed o → (past : World) → Resolved p → ProgramOnClocks p → Keeps p past (node_parts p g) oldkept → IsAttempt p now f past → EachNext p ms (sites p g) past → Said o past
  is_said None h past resolved clocks keeps attempt next = none_at_fault None h past resolved clocks keeps attempt next (h.judged.0 past (own_keeps None h past resolved clocks keeps attempt next)) h.judged.1
  is_said (Some t) h past resolved clocks keeps attempt next =
      ⊎_elim (fault_here (Some t) h past resolved clocks keeps attempt next t) (λ b. fault_below p now past f ms t b resolved attempt.1 next) h.judged

-- and so of the instant that the code holds
module _ (p : Program) (f : ℕ) (old m : Moment) (es : List StoredPart) where
  abbrev made : Instant
  made = instant (present_in m) (row_in m) (called_of (moments_in m))

  said_as : (o : Option Fault) (past : World) → Said p f (present_in m) (row_in m) (kept_in old) (kept_in m) (moments_in m) es o past → IsSaid p o m f past
  said_as None past said = λ inputs.
      let s = said (subst (λ i. HasInputs p f i past) (instant_seen m) inputs) in
      let held : Holds p (kept_with (kept_in m) (kept_by (moments_in m))) f (made ∷ past) = (s.1, all_hold p (made ∷ past) (moments_in m) (sites p (node_at p f)) s.2) in
      let own : Holds p (kept_of m) f (made ∷ past) = subst (λ t. Holds p t f (made ∷ past)) (sym (kept_seen m)) held in
      (subst (λ i. IsInstant p i f past) (sym (instant_seen m)) s.0, subst (λ i. Holds p (kept_of m) f (i ∷ past)) (sym (instant_seen m)) own)
  said_as (Some t) past s = subst (λ i. NamesFault p t f i past) (sym (instant_seen m)) s

  closed_next : IsClosed p f (present_in m) (row_in m) (kept_in old) (kept_in m) (moments_in m) es (fault_in m) → IsNextAmong p f (moments_in m) old m
  closed_next h past resolved clocks keeps attempt next =
      let held : Holds p (kept_with (kept_in old) (kept_by (moments_in old))) f past = subst (λ t. Holds p t f past) (kept_seen old) keeps in
      let here : IsAttempt p made f past = subst (λ i. IsAttempt p i f past) (instant_seen m) attempt in
      record {
        attempt = attempt;
        said = said_as (fault_in m) past (is_said p f (present_in m) (row_in m) (kept_in old) (kept_in m) (moments_in m) es (fault_in m) h past resolved clocks held.0 here next);
      }

  -- and so where these are its fields
  pub closed : (b : Bool) (row kept : Row) (o : Option Fault) (ms : List Moment) → b ≡ present_in m → row ≡ row_in m → kept ≡ kept_in m → o ≡ fault_in m → ms ≡ moments_in m
      → IsClosed p f b row (kept_in old) kept ms es o → IsNextAmong p f ms old m
  closed b row kept o ms eb er ek eo em h =
      let h1 = subst (λ x. IsClosed p f x row (kept_in old) kept ms es o) eb h in
      let h2 = subst (λ x. IsClosed p f (present_in m) x (kept_in old) kept ms es o) er h1 in
      let h3 = subst (λ x. IsClosed p f (present_in m) (row_in m) (kept_in old) x ms es o) ek h2 in
      let h4 = subst (λ x. IsClosed p f (present_in m) (row_in m) (kept_in old) (kept_in m) x es o) em h3 in
      subst (λ x. IsNextAmong p f x old m) (sym em) (closed_next (subst (λ x. IsClosed p f (present_in m) (row_in m) (kept_in old) (kept_in m) (moments_in m) es x) eo h4))
