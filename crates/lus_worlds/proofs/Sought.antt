-- Instants that are sought: what was found so far agrees with them.
use Rattle.std.proofs.Common.{◌≡◌, ◌∙◌, ℕ, zero, suc, ◌+◌, ◌≤◌, true, List, [], ◌∷◌, length, map, Option, Some, None, MatchOption, IsTrue, refl, sym, ap, subst, arith, suc-ne-zero, true≢false, slice_get, slice_set}
use Rattle.lus_values.specs.Lists.{item, Each}
use Rattle.lus_values.specs.Values.{Row}
use Rattle.lus_program.specs.Programs.{call, Operands, Node, Program, node_at}
use Rattle.lus_streams.specs.Clocks.{Clock}
use Rattle.lus_streams.specs.Equations.{Definition, given_by, Site}
use Rattle.lus_streams.specs.Order.{clock_variables, needs_all, needs_right, is_in}
use Rattle.lus_streams.specs.Streams.{Instant, instant, Called, nobody, also, World, is_present, row_of, entry, called_at, called_instant, called_world, is_on, inputs_given, definition_value, IsFed}
use Rattle.lus_streams.proofs.Lists.{each_in, each_implies}
use Rattle.lus_attempts.specs.Attempts.{IsAttempt, EachAttempt}
use Rattle.lus_reference.specs.Kept.{AreRowsFrom}
use Rattle.lus_reference.specs.Needed.{Agree, calls_now, all_calls_now}
use Rattle.lus_reference.proofs.Needed.{needs_suffice}
use Rattle.lus_worlds.specs.declared.moment.Moment.{Moment}
use Rattle.lus_worlds.specs.Finding.{row_so_far, called_so_far, has_run, called_by, HaveRun, IsFound, IsFoundNext}
use Rattle.lus_worlds.specs.Turns.{calls_in_turn, turns_in}
use Rattle.lus_worlds.specs.Moments.{called_of, kept_by, AllHold, KeepsBehind, EachNext}
use Rattle.lus_worlds.proofs.Moments.{row_is}
use Rattle.lus_worlds.proofs.Turns.{now_in_turn}

-- calls that ran
pub ran_same : (p : Program) (past : World) (os : List (Option Moment)) (js : Called) (ss : List Site) (c : ℕ) → HaveRun p past os js ss → has_run os c ≡ true → called_at (called_so_far os) c ≡ called_at js c
ran_same p past [] nobody [] c h r = refl
ran_same p past (None ∷ os) (also j js) (s ∷ ss) zero h r = absurd (true≢false (sym r))
ran_same p past (Some m ∷ os) (also j js) (s ∷ ss) zero h r = h.0.0
ran_same p past (None ∷ os) (also j js) (s ∷ ss) (suc c) h r = ran_same p past os js ss c h.1 r
ran_same p past (Some m ∷ os) (also j js) (s ∷ ss) (suc c) h r = ran_same p past os js ss c h.1 r
ran_same p past [] nobody (s ∷ ss) c h r = absurd h
ran_same p past [] (also j js) ss c h r = absurd h
ran_same p past (o ∷ os) nobody ss c h r = absurd h
ran_same p past (o ∷ os) (also j js) [] c h r = absurd h

-- one call more
pub run_more : (p : Program) (past : World) (os : List (Option Moment)) (js : Called) (ss : List Site) (c : ℕ) (s : Site) (m : Moment) → HaveRun p past os js ss → slice_get ss c ≡ Some s
    → IsFoundNext p s.node (called_at js c) (called_world s.number past) m → HaveRun p past (slice_set os c (Some m)) js ss
run_more p past [] nobody [] c s m h e i = absurd (cc)
run_more p past (o ∷ os) (also j js) (t ∷ ss) zero s m h e i = let same : t ≡ s = cc in (subst (λ (z : Site). IsFoundNext p z.node j (called_world z.number past) m) (sym same) i, h.1)
run_more p past (o ∷ os) (also j js) (t ∷ ss) (suc c) s m h e i = (h.0, run_more p past os js ss c s m h.1 e i)
run_more p past [] nobody (t ∷ ss) c s m h e i = absurd h
run_more p past [] (also j js) ss c s m h e i = absurd h
run_more p past (o ∷ os) nobody ss c s m h e i = absurd h
run_more p past (o ∷ os) (also j js) [] c s m h e i = absurd h

pub run_stays : (os : List (Option Moment)) (c d : ℕ) (m : Moment) → has_run os d ≡ true → has_run (slice_set os c (Some m)) d ≡ true
run_stays [] c d m h = h
run_stays (o ∷ os) zero zero m h = refl
run_stays (o ∷ os) zero (suc d) m h = h
run_stays (o ∷ os) (suc c) zero m h = h
run_stays (o ∷ os) (suc c) (suc d) m h = run_stays os c d m h

pub run_now : (os : List (Option Moment)) (c : ℕ) (m : Moment) → has_run (slice_set os c (Some m)) c ≡ true
run_now [] c m = refl
run_now (o ∷ os) zero m = refl
run_now (o ∷ os) (suc c) m = run_now os c m

pub run_past : (os : List (Option Moment)) (c : ℕ) → length os ≤ c → has_run os c ≡ true
run_past [] c le = refl
run_past (o ∷ os) zero le = absurd (omega (arith, le))
run_past (o ∷ os) (suc c) le = run_past os c (omega (arith, le))

-- rows of calls so far
pub rows_of_found : (os : List (Option Moment)) (c : ℕ) → item [] (map row_so_far os) c ≡ row_of (called_at (called_so_far os) c)
rows_of_found [] c = refl
rows_of_found (None ∷ os) zero = refl
rows_of_found (Some m ∷ os) zero = row_is m
rows_of_found (None ∷ os) (suc c) = rows_of_found os c
rows_of_found (Some m ∷ os) (suc c) = rows_of_found os c

module _ (p : Program) (now : Instant) (past : World) where
  -- none ran yet
  pub none_ran : (olds : List Moment) (os : List (Option Moment)) (js : Called) (ss : List Site) → AllHold p (kept_by olds) ss past → EachAttempt p js ss now past → length os ≡ length olds → Each (λ o. o ≡ None) os → HaveRun p past os js ss
  none_ran [] [] nobody [] k h e n = tt
  none_ran (old ∷ olds) (o ∷ os) (also j js) (s ∷ ss) k h e n = (subst (λ v. MatchOption v (Unit {0}) (IsFoundNext p s.node j (called_world s.number past))) (sym n.0) tt, none_ran olds os js ss k.1 h.2 (omega (arith, e)) n.1)
  none_ran [] (o ∷ os) js ss k h e n = absurd (suc-ne-zero (length os) e)
  none_ran (old ∷ olds) [] js ss k h e n = absurd (suc-ne-zero (length olds) (sym e))
  none_ran [] [] nobody (s ∷ ss) k h e n = absurd h
  none_ran [] [] (also j js) [] k h e n = absurd h
  none_ran [] [] (also j js) (s ∷ ss) k h e n = absurd k
  none_ran (old ∷ olds) (o ∷ os) nobody [] k h e n = absurd k
  none_ran (old ∷ olds) (o ∷ os) nobody (s ∷ ss) k h e n = absurd h
  none_ran (old ∷ olds) (o ∷ os) (also j js) [] k h e n = absurd k

  -- all ran
  pub all_ran : (ms : List Moment) (js : Called) (ss : List Site) → HaveRun p past (map (λ m. Some m) ms) js ss → (called_of ms ≡ js) × EachNext p ms ss past
  all_ran [] nobody [] h = (refl, tt)
  all_ran (m ∷ ms) (also j js) (s ∷ ss) h = let rest = all_ran ms js ss h.1 in ((λ i. also (h.0.0 i) (rest.0 i)), (h.0.1, rest.1))
  all_ran [] nobody (s ∷ ss) h = absurd h
  all_ran [] (also j js) ss h = absurd h
  all_ran (m ∷ ms) nobody ss h = absurd h
  all_ran (m ∷ ms) (also j js) [] h = absurd h

  -- an instant of a call is sought
  pub record SoughtCall (c : ℕ) (s : Site) (own : Moment) (j : Instant) : Type 0 where
    pub keeps : KeepsBehind p own s.node (called_world s.number past)
    pub fed : IsFed p s j now past
    pub attempt : IsAttempt p j s.node (called_world s.number past)

  pub sought_call : (olds : List Moment) (js : Called) (ss : List Site) (c : ℕ) (s : Site) (own : Moment) → AllHold p (kept_by olds) ss past → EachAttempt p js ss now past → slice_get ss c ≡ Some s → slice_get olds c ≡ Some own → SoughtCall c s own (called_at js c)
  sought_call [] js ss c s own k h e o = absurd (cc)
  sought_call (old ∷ olds) (also j js) (t ∷ ss) zero s own k h e o =
      let site : t ≡ s = cc in
      let moment : old ≡ own = cc in
      record {
        keeps = subst (λ (z : Site). KeepsBehind p own z.node (called_world z.number past)) site (subst (λ z. KeepsBehind p z t.node (called_world t.number past)) moment k.0);
        fed = subst (λ z. IsFed p z j now past) site h.0;
        attempt = subst (λ (z : Site). IsAttempt p j z.node (called_world z.number past)) site h.1;
      }
  sought_call (old ∷ olds) (also j js) (t ∷ ss) (suc c) s own k h e o =
      let r = sought_call olds js ss c s own k.1 h.2 e o in
      record { keeps = r.keeps; fed = r.fed; attempt = r.attempt }
  sought_call (old ∷ olds) nobody [] c s own k h e o = absurd k
  sought_call (old ∷ olds) nobody (t ∷ ss) c s own k h e o = absurd h
  sought_call (old ∷ olds) (also j js) [] c s own k h e o = absurd h

-- what was found so far gives what the instant that is sought does, where what is needed was found
module _ (p : Program) (row : Row) (os : List (Option Moment)) (now : Instant) (past : World) where
  abbrev pub so_far : Instant
  so_far = instant (is_present now) row (called_so_far os)

  pub found_rows : AreRowsFrom so_far 0 (map row_so_far os)
  found_rows c = let same : c ≡ 0 + c = omega arith in rows_of_found os c ∙ ap (λ d. row_of (called_instant d so_far)) same

  module _ (ss : List Site) (h : HaveRun p past os (called_by now) ss) where
    call_same : (c : ℕ) → has_run os c ≡ true → called_instant c so_far ≡ called_instant c now
    call_same c r = ran_same p past os (called_by now) ss c h r ∙ at_call now c
      where
        at_call : (i : Instant) (d : ℕ) → called_at (called_by i) d ≡ called_instant d i
        at_call (instant b r js) d = refl

    agree : (xs cs : List ℕ) → Each (IsFound row now) xs → Each (λ c. has_run os c ≡ true) cs → Agree so_far now xs cs
    agree xs cs hx hc = record { base = refl; entries = hx; called = each_implies (λ c. has_run os c ≡ true) (λ c. called_instant c so_far ≡ called_instant c now) call_same cs hc }

    pub clock_same : (k : Clock) → Each (IsFound row now) (clock_variables k) → is_on k so_far ≡ is_on k now
    clock_same k hk = (needs_suffice p so_far now past).clocks k (agree (clock_variables k) [] hk tt)

    pub given_same : (g : Node) (args : Operands) (base : Clock) → Each (IsFound row now) (clock_variables base) → Each (IsFound row now) (needs_all args) → Each (λ c. has_run os c ≡ true) (all_calls_now args)
        → inputs_given p args g args base 0 so_far past ≡ inputs_given p args g args base 0 now past
    given_same g args base hb ha hc = (needs_suffice p so_far now past).given g args base (agree (needs_all args) (all_calls_now args) ha hc) (agree (clock_variables base) [] hb tt)

    ran : (turns cs : List ℕ) → Each (λ c. has_run os c ≡ true) turns → Each (λ c. IsTrue (is_in turns c)) cs → Each (λ c. has_run os c ≡ true) cs
    ran turns cs h k = each_implies (λ c. IsTrue (is_in turns c)) (λ c. has_run os c ≡ true) (each_in (λ c. has_run os c ≡ true) turns h) cs k

    pub definition_same : (d : Option Definition) → Each (IsFound row now) (needs_right d) → Each (λ c. has_run os c ≡ true) (turns_in d) → definition_value p d so_far past ≡ definition_value p d now past
    definition_same None hn hc = refl
    definition_same (Some (given_by (call g c args) n xs k)) hn hc =
        ap (λ j. entry j ((node_at p g).inputs + n)) (call_same c (ran (calls_in_turn (call g c args)) (calls_now (call g c args)) hc (now_in_turn (call g c args))).0)
    definition_same (Some (given_by e n xs k)) hn hc =
        (needs_suffice p so_far now past).values e k (agree (needs_right (Some (given_by e n xs k))) (calls_now e) hn (ran (calls_in_turn e) (calls_now e) hc (now_in_turn e)))
