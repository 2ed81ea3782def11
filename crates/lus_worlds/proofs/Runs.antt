-- One call more, and one variable more, of an instant that is sought.
use Rattle.std.proofs.Common.{◌≡◌, ◌∙◌, ℕ, zero, suc, ◌<◌, ◌≤◌, Bool, true, List, [], ◌∷◌, length, map, take, Option, Some, None, MatchBool, is_some, refl, sym, ap, subst, arith, slice_get, slice_set}
use Rattle.std.proofs.lemmas.Bool.{le-ltb}
use Rattle.lus_values.specs.Lists.{item, Each}
use Rattle.lus_values.specs.Values.{Row, Value}
use Rattle.lus_values.specs.View.{entry_of}
use Rattle.lus_values.proofs.Lists.{below_at, each_found}
use Rattle.lus_program.specs.Programs.{Node, Program, node_at}
use Rattle.lus_streams.specs.Clocks.{clock_of}
use Rattle.lus_streams.specs.Equations.{definition_of, node_parts, Site, sites}
use Rattle.lus_streams.specs.Order.{clock_variables, needs_right, needed}
use Rattle.lus_streams.specs.Streams.{Instant, instant, nobody, World, row_of, entry, called_at, called_world, is_on, where_on, inputs_given, definition_value}
use Rattle.lus_streams.proofs.Lists.{each_left, each_right}
use Rattle.lus_attempts.specs.Attempts.{FollowsFaults, EquationsFollow, IsAttempt, EachAttempt}
use Rattle.lus_reference.specs.Kept.{AreRowsFrom, Keeps}
use Rattle.lus_reference.proofs.Parts.{on_is}
use Rattle.lus_worlds.specs.declared.finding.Found.{Found}
use Rattle.lus_worlds.specs.declared.moment.Moment.{Moment}
use Rattle.lus_worlds.specs.Finding.{row_so_far, has_run, called_by, HaveRun, IsFound, IsFoundNext, IsPrepared, IsSought, IsOf, RanMore, Finds, RunsNode}
use Rattle.lus_worlds.specs.Following.{IsMeant}
use Rattle.lus_worlds.specs.Turns.{turns_of}
use Rattle.lus_worlds.specs.Moments.{row_in, kept_in, moments_in, kept_by, kept_with, Holds, AllHold, KeepsBehind}
use Rattle.lus_worlds.proofs.Moments.{kept_seen}
use Rattle.lus_worlds.proofs.Among.{map_set}
use Rattle.lus_worlds.proofs.Sites.{each_is_node}
use Rattle.lus_worlds.proofs.Sought.{run_more, run_stays, run_now, run_past, sought_call, so_far, found_rows, clock_same, definition_same}

-- what is sought, by its fields
module _ (p : Program) (f : ℕ) (present : Bool) (old : Moment) (now : Instant) (past : World) (h : IsSought p f present old now past) where
  held : Holds p (kept_with (kept_in old) (kept_by (moments_in old))) f past
  held = subst (λ t. Holds p t f past) (kept_seen old) h.keeps

  pub own_kept : Keeps p past (node_parts p (node_at p f)) (kept_in old)
  own_kept = held.0

  pub calls_kept : AllHold p (kept_by (moments_in old)) (sites p (node_at p f)) past
  calls_kept = held.1

  both : (i : Instant) → IsAttempt p i f past → EquationsFollow p (node_at p f) i past × EachAttempt p (called_by i) (sites p (node_at p f)) i past
  both (instant b row js) a = a

  pub own_follow : EquationsFollow p (node_at p f) now past
  own_follow = (both now h.attempt).0

  pub calls_attempt : EachAttempt p (called_by now) (sites p (node_at p f)) now past
  calls_attempt = (both now h.attempt).1

pub ran_none : (p : Program) (f : ℕ) (now : Instant) (past : World) (found : Found) → IsOf p f now past found → RanMore p f now past found found
ran_none p f now past found of = record { row = refl; stays = λ c h. h; of = of }

pub ran_both : (p : Program) (f : ℕ) (now : Instant) (past : World) (a b c : Found) → RanMore p f now past a b → RanMore p f now past b c → RanMore p f now past a c
ran_both p f now past a b c g h = record { row = h.row ∙ g.row; stays = λ d r. h.stays d (g.stays d r); of = h.of }

-- the node of a call was found
module _ (p : Program) (orders : List (List ℕ)) (present : Bool) (old : Moment) (c g : ℕ) (on : Bool) (given : Row) (found : Found) where
  module _ (own : Moment) (slot : slice_get (moments_in old) c ≡ Some own) where
    -- the instant of the call is sought
    call_sought : (f : ℕ) (now : Instant) (past : World) (s : Site) (h : IsSought p f present old now past) → slice_get (sites p (node_at p f)) c ≡ Some s → s.node ≡ g → on ≡ is_on s.base now
        → IsSought p g on own (called_at (called_by now) c) (called_world s.number past)
    call_sought f now past s h there node base =
        let call = sought_call p now past (moments_in old) (called_by now) (sites p (node_at p f)) c s own (calls_kept p f present old now past h) (calls_attempt p f present old now past h) there slot in
        record {
          keeps = subst (λ n. KeepsBehind p own n (called_world s.number past)) node call.keeps;
          attempt = subst (λ n. IsAttempt p (called_at (called_by now) c) n (called_world s.number past)) node call.attempt;
          base = call.fed.base ∙ sym base;
        }

    call_given : (f : ℕ) (now : Instant) (past : World) (s : Site) (h : IsSought p f present old now past) → slice_get (sites p (node_at p f)) c ≡ Some s → s.node ≡ g → given ≡ inputs_given p s.args (node_at p g) s.args s.base 0 now past
        → take (node_at p g).inputs (row_of (called_at (called_by now) c)) ≡ given
    call_given f now past s h there node inputs =
        let call = sought_call p now past (moments_in old) (called_by now) (sites p (node_at p f)) c s own (calls_kept p f present old now past h) (calls_attempt p f present old now past h) there slot in
        let j = called_at (called_by now) c in
        subst (λ n. take (node_at p n).inputs (row_of j) ≡ inputs_given p s.args (node_at p n) s.args s.base 0 now past) node call.fed.inputs ∙ sym inputs

    callee_is_node : IsPrepared p orders → (f : ℕ) (s : Site) → slice_get (sites p (node_at p f)) c ≡ Some s → s.node ≡ g → g < length p.nodes
    callee_is_node prepared f s there node =
        subst (λ n. n < length p.nodes) node (each_found (λ (z : Site). z.node < length p.nodes) (sites p (node_at p f)) c s (each_is_node p prepared.resolved f) there)

    abbrev FindsWhere : Option Moment → Type 0
    FindsWhere o = IsPrepared p orders → g < length p.nodes → Finds p g on given own o

    pub none_found : FindsWhere None → (found' : Found) → RunsNode p orders present old c g on given found found'
    none_found finds found' f now past s prepared h of there node base inputs =
        absurd (finds prepared (callee_is_node prepared f s there node) (called_at (called_by now) c) (called_world s.number past) (call_sought f now past s h there node base) (call_given f now past s h there node inputs))

    pub one_found : (m : Moment) → FindsWhere (Some m) → (found' : Found) → found'.called.items ≡ slice_set found.called.items c (Some m) → found'.row ≡ found.row → found'.rows.items ≡ slice_set found.rows.items c (row_in m)
        → RunsNode p orders present old c g on given found found'
    one_found m finds found' called row rows f now past s prepared h of there node base inputs =
        let j = called_at (called_by now) c in
        let is : IsFoundNext p g j (called_world s.number past) m = finds prepared (callee_is_node prepared f s there node) j (called_world s.number past) (call_sought f now past s h there node base) (call_given f now past s h there node inputs) in
        let os = found.called.items in
        let ran : HaveRun p past (slice_set os c (Some m)) (called_by now) (sites p (node_at p f)) =
        run_more p past os (called_by now) (sites p (node_at p f)) c s m of.called there (subst (λ n. IsFoundNext p n j (called_world s.number past) m) (sym node) is) in (
          record {
            row = row;
            stays = λ d r. subst (λ l. has_run l d ≡ true) (sym called) (run_stays os c d m r);
            of = record {
              width = ap (λ v. length v.items) row ∙ of.width;
              inputs = λ x lt. ap (λ v. item None (map entry_of v.items) x) row ∙ of.inputs x lt;
              rows = rows ∙ ap (λ l. slice_set l c (row_in m)) of.rows ∙ sym (map_set row_so_far os c (Some m)) ∙ ap (map row_so_far) (sym called);
              called = subst (λ l. HaveRun p past l (called_by now) (sites p (node_at p f))) (sym called) ran;
            };
          },
          subst (λ l. has_run l c ≡ true) (sym called) (run_now os c m),
        )

  pub none_there : length found.called.items ≤ c → RunsNode p orders present old c g on given found found
  none_there past_end f now past s prepared h of there node base inputs = (ran_none p f now past found of, run_past found.called.items c past_end)

-- one variable more
pub set_stays : (row : Row) (now : Instant) (x : ℕ) (v : Option Value) → v ≡ entry now x → (y : ℕ) → IsFound row now y → IsFound (slice_set row x v) now y
set_stays row now x v e y h = stays row x y (entry now) e h
  where
    stays : (r : Row) (a b : ℕ) → (want : ℕ → Option Value) → v ≡ want a → item None r b ≡ want b → item None (slice_set r a v) b ≡ want b
    stays [] a b want e h = h
    stays (o ∷ r) zero zero want e h = e
    stays (o ∷ r) zero (suc b) want e h = h
    stays (o ∷ r) (suc a) zero want e h = h
    stays (o ∷ r) (suc a) (suc b) want e h = stays r a b (λ n. want (suc n)) e h

pub set_found : (row : Row) (x : ℕ) (v : Option Value) → x < length row → item None (slice_set row x v) x ≡ v
set_found [] x v lt = absurd (omega (arith, lt))
set_found (o ∷ row) zero v lt = refl
set_found (o ∷ row) (suc x) v lt = set_found row x v (omega (arith, lt))

module _ (p : Program) (f : ℕ) (present : Bool) (old : Moment) (now : Instant) (past : World) (h : IsSought p f present old now past) (found : Found) (of : IsOf p f now past found) where
  abbrev g : Node
  g = node_at p f

  abbrev row : Row
  row = map entry_of found.row.items

  -- what a variable has by its equation is what is sought
  pub meant_is : (x : ℕ) → x < length g.variables → g.inputs ≤ x → Each (IsFound row now) (needed g x) → Each (λ c. has_run found.called.items c ≡ true) (turns_of g x)
      → (v : Option Value) → IsMeant p row g x (is_on (clock_of g x) (instant present row nobody)) (kept_in old) found.rows.items v → v ≡ entry now x
  meant_is x lt ge needs turns v meant =
      let os = found.called.items in
      let here = so_far p row os now past in
      let clock : is_on (clock_of g x) (instant present row nobody) ≡ is_on (clock_of g x) now =
      ap (λ b. is_on (clock_of g x) (instant b row nobody)) (sym h.base) ∙ sym (on_is (clock_of g x) here) ∙ clock_same p row os now past (sites p g) of.called (clock_of g x) (each_left (IsFound row now) (clock_variables (clock_of g x)) (needs_right (definition_of g x)) needs) in
      let value = definition_same p row os now past (sites p g) of.called (definition_of g x) (each_right (IsFound row now) (clock_variables (clock_of g x)) (needs_right (definition_of g x)) needs) turns in
      let follows = below_at (FollowsFaults p g now past) (length g.variables) (own_follow p f present old now past h).variables x lt in
      let wanted : entry now x ≡ where_on (is_on (clock_of g x) now) (definition_value p (definition_of g x) now past) =
      subst (λ b. MatchBool b (is_some (entry now x) ≡ true → is_on (clock_of g x) now ≡ true) (entry now x ≡ where_on (is_on (clock_of g x) now) (definition_value p (definition_of g x) now past))) (le-ltb x g.inputs ge) follows in
      meant here past refl (subst (AreRowsFrom here 0) (sym of.rows) (found_rows p row os now past)) (own_kept p f present old now past h)
      ∙ (λ i. where_on (clock i) (value i))
      ∙ sym wanted
