-- Instants are attempts with all inputs and without faults, and where there is a fault there is none.
use Rattle.std.proofs.Common.{◌≡◌, ℕ, zero, suc, nat_lt, Bool, true, false, List, [], ◌∷◌, length, Option, Contains, MatchBool, is_some, sym, ap, ◌∙◌, subst, true≢false, not-suc-le-zero, arith}
use Rattle.lus_program.specs.Programs.{Node, Program, node_at}
use Rattle.lus_values.specs.Lists.{Each}
use Rattle.lus_values.specs.Values.{Value}
use Rattle.lus_values.proofs.Lists.{below_all, below_at}
use Rattle.lus_streams.specs.Clocks.{clock_of, Part, at}
use Rattle.lus_streams.specs.Equations.{definition_of, node_parts, Site, sites}
use Rattle.lus_streams.specs.OnClock.{ProgramOnClocks}
use Rattle.lus_streams.specs.Order.{IsCausal}
use Rattle.lus_streams.specs.Streams.{Instant, instant, Called, nobody, also, World, entry, called_instant, called_world, is_on, where_on, definition_value, Follows, HasValue, EquationsHold, IsInstant, EachCall}
use Rattle.lus_streams.specs.Throughout.{Throughout, ThroughoutCalls}
use Rattle.lus_streams.proofs.Unique.{streams_unique}
use Rattle.lus_streams.proofs.Worlds.{streams_past}
use Rattle.lus_attempts.specs.Attempts.{FollowsFaults, EquationsFollow, IsAttempt, EachAttempt, HasNoFault, HasInputs, IsAtFault, FaultAt}
use Rattle.lus_attempts.specs.Laws.{AreWithoutFault, FaultsEnd}
use Rattle.lus_attempts.proofs.Unique.{attempt_unique}

-- what holds of each item holds of one that the list contains
each_of : {X : Type 0} (P : X → Type 0) (xs : List X) (x : X) → Each P xs → Contains xs x → P x
each_of P [] x h (k, lt, e) = elim (not-suc-le-zero lt) [ ]
each_of P (y ∷ ys) x h (zero, lt, e) = subst P e h.0
each_of P (y ∷ ys) x h (suc k, lt, e) = each_of P ys x h.1 (k, omega arith, e)

-- what an input and another variable have, faults or none
module _ (o d : Option Value) (on : Bool) where
  faults_or_none : (b : Bool) → MatchBool b (is_some o ≡ on) (o ≡ where_on on d) → MatchBool b (is_some o ≡ true → on ≡ true) (o ≡ where_on on d)
  faults_or_none true h = λ s. sym h ∙ s
  faults_or_none false h = h

  input_of : (b : Bool) → MatchBool b (is_some o ≡ on) (o ≡ where_on on d) → MatchBool b (is_some o ≡ on) (Unit {0})
  input_of true h = h
  input_of false h = tt

  none_missing : (b : Bool) → MatchBool b (is_some o ≡ true → on ≡ true) (o ≡ where_on on d) → MatchBool b (is_some o ≡ on) (Unit {0}) → MatchBool b (is_some o ≡ on) (o ≡ where_on on d)
  none_missing true h k = k
  none_missing false h k = h

module _ (p : Program) (f : ℕ) (now : Instant) (past : World) where
  abbrev here : Node
  here = node_at p f

  abbrev GivenAt : ℕ → Type 0
  GivenAt x = MatchBool (nat_lt x here.inputs) (is_some (entry now x) ≡ is_on (clock_of here x) now) (Unit {0})

  abbrev meant : ℕ → Option Value
  meant x = definition_value p (definition_of here x) now past

  follows_faults : EquationsHold p here now past → EquationsFollow p here now past
  follows_faults h = record {
    width = h.width;
    variables = below_all (FollowsFaults p here now past) (length here.variables)
        (λ x lt. faults_or_none (entry now x) (meant x) (is_on (clock_of here x) now) (nat_lt x here.inputs) (below_at (Follows p here now past) (length here.variables) h.variables x lt));
  }

  inputs_present : EquationsHold p here now past → HasInputs p f now past
  inputs_present h =
      below_all GivenAt (length here.variables)
      (λ x lt. input_of (entry now x) (meant x) (is_on (clock_of here x) now) (nat_lt x here.inputs) (below_at (Follows p here now past) (length here.variables) h.variables x lt))

  equations_hold : EquationsFollow p here now past → HasNoFault p f now past → HasInputs p f now past → EquationsHold p here now past
  equations_hold h k i = record {
    width = h.width;
    variables = below_all (Follows p here now past) (length here.variables)
        (λ x lt.
        none_missing (entry now x) (meant x) (is_on (clock_of here x) now) (nat_lt x here.inputs)
        (below_at (FollowsFaults p here now past) (length here.variables) h.variables x lt)
        (below_at GivenAt (length here.variables) i x lt));
    no_fault = k;
  }

module _ (p : Program) where
  mutual
    attempts : (now : Instant) (f : ℕ) (past : World) → IsInstant p now f past → IsAttempt p now f past
    attempts (instant b row js) f past h =
        (follows_faults p f (instant b row js) past h.0, each_attempt js (sites p (node_at p f)) (instant b row js) past h.1)

    each_attempt : (js : Called) (ss : List Site) (now : Instant) (past : World) → EachCall p js ss now past → EachAttempt p js ss now past
    each_attempt nobody [] now past h = tt
    each_attempt nobody (s ∷ ss) now past h = absurd h
    each_attempt (also j js) [] now past h = absurd h
    each_attempt (also j js) (s ∷ ss) now past h = (h.0, attempts j s.node (called_world s.number past) h.1, each_attempt js ss now past h.2)

  mutual
    no_fault : (now : Instant) (f : ℕ) (past : World) → IsInstant p now f past → Throughout p (HasNoFault p) now f past
    no_fault (instant b row js) f past h = (h.0.no_fault, no_faults js (sites p (node_at p f)) (instant b row js) past h.1)

    no_faults : (js : Called) (ss : List Site) (now : Instant) (past : World) → EachCall p js ss now past → ThroughoutCalls p (HasNoFault p) js ss past
    no_faults nobody ss now past h = tt
    no_faults (also j js) [] now past h = tt
    no_faults (also j js) (s ∷ ss) now past h = (no_fault j s.node (called_world s.number past) h.1, no_faults js ss now past h.2)

  mutual
    has_inputs : (now : Instant) (f : ℕ) (past : World) → IsInstant p now f past → Throughout p (HasInputs p) now f past
    has_inputs (instant b row js) f past h = (inputs_present p f (instant b row js) past h.0, have_inputs js (sites p (node_at p f)) (instant b row js) past h.1)

    have_inputs : (js : Called) (ss : List Site) (now : Instant) (past : World) → EachCall p js ss now past → ThroughoutCalls p (HasInputs p) js ss past
    have_inputs nobody ss now past h = tt
    have_inputs (also j js) [] now past h = tt
    have_inputs (also j js) (s ∷ ss) now past h = (has_inputs j s.node (called_world s.number past) h.1, have_inputs js ss now past h.2)

  mutual
    instants : (now : Instant) (f : ℕ) (past : World) → IsAttempt p now f past → Throughout p (HasNoFault p) now f past → Throughout p (HasInputs p) now f past → IsInstant p now f past
    instants (instant b row js) f past h k i =
        (equations_hold p f (instant b row js) past h.0 k.0 i.0, each_instant js (sites p (node_at p f)) (instant b row js) past h.1 k.1 i.1)

    each_instant : (js : Called) (ss : List Site) (now : Instant) (past : World) → EachAttempt p js ss now past → ThroughoutCalls p (HasNoFault p) js ss past → ThroughoutCalls p (HasInputs p) js ss past → EachCall p js ss now past
    each_instant nobody [] now past h k i = tt
    each_instant nobody (s ∷ ss) now past h k i = absurd h
    each_instant (also j js) [] now past h k i = absurd h
    each_instant (also j js) (s ∷ ss) now past h k i = (h.0, instants j s.node (called_world s.number past) h.1 k.0 i.0, each_instant js ss now past h.2 k.1 i.1)

  pub without_fault : AreWithoutFault p
  without_fault = record { attempts = attempts; no_fault = no_fault; has_inputs = has_inputs; instants = instants }

  not_at_fault : (e : Part) (now : Instant) (past : World) → HasValue p e now past → IsAtFault p e now past → ⊥
  not_at_fault (at k e) now past h g = true≢false (sym (h g.0) ∙ ap is_some g.1)

  -- the instants of the called nodes are instants
  called_instants : (js : Called) (ss : List Site) (now : Instant) (past : World) → EachCall p js ss now past → Each (λ s. IsInstant p (called_instant s.number now) s.node (called_world s.number past)) ss
  called_instants nobody [] now past h = tt
  called_instants nobody (s ∷ ss) now past h = absurd h
  called_instants (also j js) [] now past h = tt
  called_instants (also j js) (s ∷ ss) now past h = (subst (λ i. IsInstant p i s.node (called_world s.number past)) (sym h.0.numbered) h.1, called_instants js ss now past h.2)

  -- no part is at fault in an instant, wherever calls lead
  no_fault_at : (way : List ℕ) (e : Part) (f : ℕ) (now : Instant) (past : World) → IsInstant p now f past → FaultAt p way e f now past → ⊥
  no_fault_at [] e f (instant b row js) past h g =
      not_at_fault e (instant b row js) past (each_of (λ d. HasValue p d (instant b row js) past) (node_parts p (node_at p f)) e h.0.no_fault g.0) g.1
  no_fault_at (c ∷ way) e f (instant b row js) past h g =
      let now = instant b row js in
      let s = g.0 in
      let all = called_instants js (sites p (node_at p f)) now past h.1 in
      let there : IsInstant p (called_instant s.number now) s.node (called_world s.number past) =
      each_of (λ r. IsInstant p (called_instant r.number now) r.node (called_world r.number past)) (sites p (node_at p f)) s all g.1 in
      no_fault_at way e s.node (called_instant c now) (called_world c past) (subst (λ n. IsInstant p (called_instant n now) s.node (called_world n past)) g.2 there) g.3

pub faults_end : (p : Program) → IsCausal p → ProgramOnClocks p → FaultsEnd p
faults_end p causal clocks f lineage past inputs now way e s t g further s' =
    let next = streams_past p f inputs lineage further s' in
    let same : next.1 ≡ past = streams_unique p causal clocks f lineage next.1 past next.3 s in
    let holds : IsInstant p next.0 f past = subst (λ w. IsInstant p next.0 f w) same next.4.now_holds in
    let one : next.0 ≡ now =
    attempt_unique p causal clocks next.0 now f past (attempts p next.0 f past holds) t.attempt (next.4.present_now ∙ sym t.present) (next.4.row ∙ sym t.inputs) in
    no_fault_at p way e f now past (subst (λ i. IsInstant p i f past) one holds) g
