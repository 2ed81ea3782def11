-- Calls that run one behind another, and variables that are found one behind another, up to all.
use Rattle.std.proofs.Common.{◌≡◌, ◌∙◌, ℕ, zero, suc, ◌+◌, ◌<◌, ◌≤◌, Bool, true, false, List, [], ◌∷◌, ◌++◌, drop, length, map, reverse, take, Contains, IsTrue, Option, Some, None, refl, sym, ap, subst, arith, ⊎_elim, slice_get, slice_set, true≢false}
use Rattle.std.proofs.Math.ListN.{length-map}
use Rattle.std.proofs.lemmas.Bool.{cases_lt}
use Rattle.std.proofs.lemmas.List.{reverse-append}
use Rattle.lus_values.specs.Lists.{item, Each, Below}
use Rattle.lus_values.specs.Values.{Row, Value}
use Rattle.lus_values.specs.View.{entry_of}
use Rattle.lus_values.proofs.Lists.{below_at}
use Rattle.lus_program.specs.Programs.{Expression, literal, variable, operate, pre, arrow, when, merge, call, Operands, numbered, all_numbered, Node, Program, node_at, empty_node}
use Rattle.lus_streams.specs.Clocks.{Clock, at, base_of, clock_of}
use Rattle.lus_streams.specs.Equations.{node_parts, Site, sites, sites_in}
use Rattle.lus_streams.specs.OnClock.{IsOnClocks}
use Rattle.lus_streams.specs.Order.{is_in, IsOrder, needed, HasNeedsFirst}
use Rattle.lus_streams.specs.Streams.{Instant, Called, nobody, also, World, entry, row_of, instant, is_present, is_on}
use Rattle.lus_streams.proofs.Calls.{OfCall, OfSite, AtBase, parts_of_sites}
use Rattle.lus_streams.proofs.Lists.{each_in, each_implies, each_item, item_past, item_take, ext_item}
use Rattle.lus_attempts.specs.Attempts.{IsAttempt}
use Rattle.lus_normal_form.specs.Named.{Numbered}
use Rattle.lus_parts.specs.declared.part.Part.{Part as StoredPart}
use Rattle.lus_parts.specs.Nested.{AreNested, IsFollowed}
use Rattle.lus_parts.specs.Parts.{part_of}
use Rattle.lus_parts.proofs.Nested.{node_nested}
use Rattle.lus_reference.specs.Kept.{AreRowsFrom, Keeps}
use Rattle.lus_reference.specs.Given.{callee}
use Rattle.lus_reference.proofs.Drops.{dropped, dropped_map}
use Rattle.lus_reference.proofs.Parts.{behind_nested}
use Rattle.lus_worlds.specs.declared.finding.Found.{Found}
use Rattle.lus_worlds.specs.declared.moment.Moment.{Moment}
use Rattle.lus_worlds.specs.Finding.{call_places, has_run, called_by, HaveRun, IsFound, IsPrepared, IsSought, IsOf, RunsNode, RunsInTurn, FindsAll, IsFoundBy, IsOther, CallsHere, row_so_far, Finds}
use Rattle.lus_worlds.specs.Passing.{KeepsArguments, PassesAt}
use Rattle.lus_worlds.specs.Following.{IsMeant}
use Rattle.lus_worlds.specs.Turns.{CanRunInTurn, below, turns_of}
use Rattle.lus_worlds.specs.Moments.{kept_in, moments_in, kept_by, AllHold, instant_of, called_of, IsNextAmong}
use Rattle.lus_worlds.proofs.Among.{each_left_at, each_from}
use Rattle.lus_worlds.proofs.CallPlaces.{places_length, site_own}
use Rattle.lus_worlds.proofs.Sites.{site_at, sites_numbered, each_before, each_only}
use Rattle.lus_worlds.proofs.Turns.{turns_run, below_run, needs_before}
use Rattle.lus_worlds.proofs.Sought.{run_past, so_far, found_rows, clock_same, given_same, none_ran, all_ran}
use Rattle.lus_worlds.proofs.Runs.{own_kept, calls_kept, own_follow, ran_none, ran_both, set_stays, set_found, meant_is, calls_attempt}

-- there is a place for each call
ran_length : (p : Program) (past : World) (os : List (Option Moment)) (js : Called) (ss : List Site) → HaveRun p past os js ss → length os ≡ length ss
ran_length p past [] nobody [] h = refl
ran_length p past (o ∷ os) (also j js) (s ∷ ss) h = ap suc (ran_length p past os js ss h.1)
ran_length p past [] nobody (s ∷ ss) h = absurd h
ran_length p past [] (also j js) ss h = absurd h
ran_length p past (o ∷ os) nobody ss h = absurd h
ran_length p past (o ∷ os) (also j js) [] h = absurd h

-- what isn't this call
pub other_number : (c : ℕ) (k : Clock) (n : ℕ) (e : Expression) → (n ≡ c → ⊥) → IsOther c (at k (numbered n e))
other_number c k n (literal v) h = tt
other_number c k n (variable x) h = tt
other_number c k n (operate o es) h = tt
other_number c k n (pre a) h = tt
other_number c k n (arrow a b) h = tt
other_number c k n (when t a) h = tt
other_number c k n (merge x bs) h = tt
other_number c k n (call g d es) h = h

pub no_call : (c : ℕ) (k : Clock) (n : ℕ) (e : Expression) → callee e ≡ None → IsOther c (at k (numbered n e))
no_call c k n (literal v) h = tt
no_call c k n (variable x) h = tt
no_call c k n (operate o es) h = tt
no_call c k n (pre a) h = tt
no_call c k n (arrow a b) h = tt
no_call c k n (when t a) h = tt
no_call c k n (merge x bs) h = tt
no_call c k n (call g d es) h = absurd (cc)

-- what ran before stays, and each call whose number is past the last ran
ran_now : (os : List (Option Moment)) (count : ℕ) → length os ≡ count → (before cs : List ℕ) → Each (λ d. has_run os d ≡ true) before → Each (λ d. d < count → IsTrue (is_in before d)) cs → Each (λ d. has_run os d ≡ true) cs
ran_now os count e before cs ran h =
    each_implies (λ d. d < count → IsTrue (is_in before d)) (λ d. has_run os d ≡ true)
    (λ d among. ⊎_elim (λ lt. each_in (λ b. has_run os b ≡ true) before ran d (among lt)) (λ past. run_past os d (omega (arith, e, past))) (cases_lt d count))
    cs h

module _ (p : Program) (orders : List (List ℕ)) (present : Bool) (old : Moment) (parts : List StoredPart) where
  abbrev Runs : List ℕ → Found → Found → Type 0
  Runs = RunsInTurn p orders present old parts

  pub run_none : (a : Found) → Runs [] a a
  run_none a f now past before prepared are sought of can ran = (ran_none p f now past a of, tt)

  pub run_then : (c : ℕ) (cs : List ℕ) (a b d : Found) → Runs (c ∷ []) a b → Runs cs b d → Runs (c ∷ cs) a d
  run_then c cs a b d one rest f now past before prepared are sought of can ran =
      let first = one f now past before prepared are sought of (can.0, tt) ran in
      let later : CanRunInTurn (sites p (node_at p f)) (IsFound (map entry_of b.row.items) now) (c ∷ before) cs =
      subst (λ v. CanRunInTurn (sites p (node_at p f)) (IsFound (map entry_of v.items) now) (c ∷ before) cs) (sym first.0.row) can.1 in
      let earlier = each_implies (λ m. has_run a.called.items m ≡ true) (λ m. has_run b.called.items m ≡ true) first.0.stays before ran in
      let second = rest f now past (c ∷ before) prepared are sought first.0.of later (first.1.0, earlier) in
      (ran_both p f now past a b d first.0 second.0, (second.0.stays c first.1.0, second.1))

  -- a number past the last call
  pub run_past_last : (c : ℕ) (a : Found) → length (call_places parts 0) ≤ c → Runs (c ∷ []) a a
  run_past_last c a le f now past before prepared are sought of can ran =
      let all = sites p (node_at p f) in
      let long = ran_length p past a.called.items (called_by now) all of.called in
      let count = places_length p parts 0 in
      let same : length (sites_in p (map part_of parts)) ≡ length all = ap (λ es. length (sites_in p es)) are in
      (ran_none p f now past a of, (run_past a.called.items c (omega (arith, le, long, count, same)), tt))

  -- the part at the place of a call is no other
  pub run_other : (c place : ℕ) (q : StoredPart) (a : Found) → slice_get (call_places parts 0) c ≡ Some place → slice_get parts place ≡ Some q → IsOther c (part_of q) → Runs (c ∷ []) a a
  run_other c place q a h there other f now past before prepared are sought of can ran =
      absurd (site_own p parts c place q (subst (λ es. Numbered 0 (sites_in p es)) (sym are) (sites_numbered p prepared.resolved f)) h there other)

  -- a call that stands at a part
  pub run_here : (c g i : ℕ) (es : Operands) (q : StoredPart) (a b : Found) (on : Bool) (given : Row) → drop i parts ≡ q ∷ drop (suc i) parts → CallsHere c q g es
      → PassesAt p present (map entry_of a.row.items) a.rows.items q g es (map part_of parts) (i + 1) (kept_in old) on given → RunsNode p orders present old c g on given a b → Runs (c ∷ []) a b
  run_here c g i es q a b on given rest here passes runs f now past before prepared are sought of can ran =
      let all = sites p (node_at p f) in
      let os = a.called.items in
      let row = map entry_of a.row.items in
      let k = q.clock.items in
      let n = q.number in
      let args = all_numbered (suc n) es in
      let base = base_of (node_at p g) k in
      let site : Site = record { node = g; number = n; args = args; base = base } in
      let later = map part_of (drop (suc i) parts) in
      let seen = here.1 in
      let first : drop i (map part_of parts) ≡ part_of q ∷ later = sym (dropped_map part_of i parts) ∙ ap (map part_of) rest in
      let Here : (h d : ℕ) → Operands → Clock → Type 0 = λ h d xs l. Contains all (record { node = h; number = d; args = xs; base = l }) in
      let each : Each (OfCall (AtBase p Here)) (map part_of parts) = subst (Each (OfCall (AtBase p Here))) (sym are) (parts_of_sites p Here (node_parts p (node_at p f)) (each_from (OfSite p Here) all (λ s m. m))) in
      let among : Contains all site = subst (λ e. OfCall (AtBase p Here) (at k (numbered n e))) seen (each_left_at (OfCall (AtBase p Here)) i (map part_of parts) later (part_of q) first each) in
      let there : slice_get all c ≡ Some site = subst (λ m. slice_get all m ≡ Some site) here.0 (site_at all (sites_numbered p prepared.resolved f) site among) in
      let nested : AreNested p (map part_of parts) = subst (AreNested p) (sym are) (node_nested p (node_at p f)) in
      let followed : IsFollowed p (part_of q) (part_of q ∷ later) = (subst (λ l. AreNested p (map part_of l)) rest (behind_nested p present row a.rows.items i parts nested)).0 in
      let now' = so_far p row os now past in
      let rows : AreRowsFrom now' 0 a.rows.items = subst (AreRowsFrom now' 0) (sym of.rows) (found_rows p row os now past) in
      let keeps : Keeps p past (map part_of parts) (kept_in old) = subst (λ l. Keeps p past l (kept_in old)) (sym are) (own_kept p f present old now past sought) in
      let own : IsFollowed p (at k (numbered n (call g 0 es))) (at k (numbered n (call g 0 es)) ∷ later) = subst (λ e. IsFollowed p (at k (numbered n e)) (at k (numbered n e) ∷ later)) seen followed in
      let behind : drop (i + 1) (map part_of parts) ≡ later = dropped i 1 (map part_of parts) ∙ ap (drop 1) first in
      let arguments : KeepsArguments p q g es (map part_of parts) (i + 1) (kept_in old) past = ((own.0, behind ∙ ap (drop 1) own.1), keeps) in
      let passed = passes now' past sought.base refl rows arguments in
      let able = can.0 site among here.0 in
      let called = ran_now os (length all) (ran_length p past os (called_by now) all of.called) before _ ran able.2 in
      let ran' = runs f now past site prepared sought of there refl
      (passed.0 ∙ clock_same p row os now past all of.called base able.0)
      (passed.1 ∙ given_same p row os now past all of.called (node_at p g) args base able.0 able.1 called) in
      (ran'.0, (ran'.1, tt))

-- one entry more
set_length : (row : Row) (x : ℕ) (v : Option Value) → length (slice_set row x v) ≡ length row
set_length [] x v = refl
set_length (o ∷ row) zero v = refl
set_length (o ∷ row) (suc x) v = ap suc (set_length row x v)

set_past : (row : Row) (x : ℕ) (v : Option Value) → length row ≤ x → slice_set row x v ≡ row
set_past [] x v le = refl
set_past (o ∷ row) zero v le = let wrong : ⊥ = omega (arith, le) in absurd wrong
set_past (o ∷ row) (suc x) v le = ap (λ l. o ∷ l) (set_past row x v (omega (arith, le)))

-- the numbers below n, one by one
each_below : (P : ℕ → Type 0) (n : ℕ) → Each P (below n) → Below n P
each_below P zero h = tt
each_below P (suc n) h = (h.0, each_below P n h.1)

module _ (p : Program) (past : World) where
  holds_length : (olds : List Moment) (ss : List Site) → AllHold p (kept_by olds) ss past → length olds ≡ length ss
  holds_length [] [] h = refl
  holds_length (m ∷ ms) (s ∷ ss) h = ap suc (holds_length ms ss h.1)
  holds_length [] (s ∷ ss) h = absurd h
  holds_length (m ∷ ms) [] h = absurd h

module _ (p : Program) (orders : List (List ℕ)) (present : Bool) (old : Moment) where
  -- the variables before are found
  abbrev pub FindsSoFar : Node → (order before : List ℕ) → (found found' : Found) → Type 0
  FindsSoFar g order before found found' =
      (f : ℕ) (now : Instant) (past : World) → IsPrepared p orders → g ≡ node_at p f → IsOrder g (reverse order) → IsSought p f present old now past → IsOf p f now past found
      → IsOf p f now past found' × Each (IsFound (map entry_of found'.row.items) now) (reverse before)

  module _ (f : ℕ) (now : Instant) (past : World) (sought : IsSought p f present old now past) where
    abbrev own : Node
    own = node_at p f

    width_of : (a : Found) → IsOf p f now past a → length (map entry_of a.row.items) ≡ length own.variables
    width_of a of = length-map a.row.items entry_of ∙ of.width

    -- nothing is sought past the last variable
    past_found : (a : Found) → IsOf p f now past a → (x : ℕ) → length own.variables ≤ x → IsFound (map entry_of a.row.items) now x
    past_found a of x le =
        let follow = own_follow p f present old now past sought in
        let here : length (map entry_of a.row.items) ≤ x = omega (arith, width_of a of, le) in
        let there : length (row_of now) ≤ x = omega (arith, follow.width, le) in
        item_past None (map entry_of a.row.items) x here ∙ sym (item_past None (row_of now) x there)

    variable_found : (x : ℕ) (d e : Found) (of : IsOf p f now past d) → Each (IsFound (map entry_of d.row.items) now) (needed own x) → Each (λ c. has_run d.called.items c ≡ true) (turns_of own x)
        → IsFoundBy p own x present (kept_in old) d.rows.items (map entry_of d.row.items) (map entry_of e.row.items)
        → (length (map entry_of e.row.items) ≡ length (map entry_of d.row.items)) × (IsFound (map entry_of e.row.items) now x) × ((y : ℕ) → IsFound (map entry_of d.row.items) now y → IsFound (map entry_of e.row.items) now y)
    variable_found x d e of needs turns by = ⊎_elim input other (cases_lt x own.inputs)
      where
        row : Row
        row = map entry_of d.row.items

        Goal : Row → Type 0
        Goal r = (length r ≡ length row) × (IsFound r now x) × ((y : ℕ) → IsFound row now y → IsFound r now y)

        input : x < own.inputs → Goal (map entry_of e.row.items)
        input lt = subst Goal (sym (by.0 lt)) (refl, of.inputs x lt, λ y h. h)

        set : own.inputs ≤ x → (v : Option Value) → IsMeant p row own x (is_on (clock_of own x) (instant present row nobody)) (kept_in old) d.rows.items v → Goal (slice_set row x v)
        set ge v meant =
            ⊎_elim
            (λ lt.
            let is : v ≡ entry now x = meant_is p f present old now past sought d of x lt ge needs turns v meant in
            let within : x < length row = omega (arith, lt, width_of d of) in
            (set_length row x v, set_found row x v within ∙ is, set_stays row now x v is))
            (λ le.
            let same : slice_set row x v ≡ row = set_past row x v (omega (arith, le, width_of d of)) in
            subst Goal (sym same) (refl, past_found d of x le, λ y h. h))
            (cases_lt x (length own.variables))

        other : own.inputs ≤ x → Goal (map entry_of e.row.items)
        other ge = let found = by.1 ge in subst Goal (sym found.2) (set ge found.0 found.1)

    one_more : (order before rest : List ℕ) (x : ℕ) (parts : List StoredPart) (b d e : Found) → IsPrepared p orders → IsOrder own (reverse order) → IsOf p f now past b → Each (IsFound (map entry_of b.row.items) now) (reverse before)
        → order ≡ before ++ x ∷ rest → map part_of parts ≡ node_parts p own → RunsInTurn p orders present old parts (turns_of own x) b d → e.called ≡ d.called → e.rows ≡ d.rows
        → IsFoundBy p own x present (kept_in old) d.rows.items (map entry_of d.row.items) (map entry_of e.row.items)
        → IsOf p f now past e × Each (IsFound (map entry_of e.row.items) now) (reverse (before ++ x ∷ []))
    one_more order before rest x parts b d e prepared ordered of found whole are runs called rows by =
        let P = IsFound (map entry_of b.row.items) now in
        let first = subst (λ l. HasNeedsFirst own (reverse l)) whole ordered.first in
        let needs : Each P (needed own x) = needs_before own P before rest x first found in
        let clocks : IsOnClocks p own = each_item (IsOnClocks p) empty_node p.nodes (record { declared = tt; lefts = tt; rights = tt }) prepared.clocks f in
        let can = turns_run p (sites p own) P own clocks (each_only p prepared.resolved f) x needs in
        let ran = runs f now past [] prepared are sought of can tt in
        let of' = ran.0.of in
        let found' : Each (IsFound (map entry_of d.row.items) now) (reverse before) = subst (λ v. Each (IsFound (map entry_of v.items) now) (reverse before)) (sym ran.0.row) found in
        let needs' : Each (IsFound (map entry_of d.row.items) now) (needed own x) = subst (λ v. Each (IsFound (map entry_of v.items) now) (needed own x)) (sym ran.0.row) needs in
        let set = variable_found x d e of' needs' ran.1 by in
        let last : reverse (before ++ x ∷ []) ≡ x ∷ reverse before = reverse-append before (x ∷ []) in (
          record {
            width = sym (length-map e.row.items entry_of) ∙ set.0 ∙ width_of d of';
            inputs = λ y lt. set.2 y (of'.inputs y lt);
            rows = ap (λ v. v.items) rows ∙ of'.rows ∙ ap (λ v. map row_so_far v.items) (sym called);
            called = subst (λ v. HaveRun p past v.items (called_by now) (sites p own)) (sym called) of'.called;
          },
          subst (Each (IsFound (map entry_of e.row.items) now)) (sym last)
              (set.1, each_implies (IsFound (map entry_of d.row.items) now) (IsFound (map entry_of e.row.items) now) set.2 (reverse before) found'),
        )

    all_more : (order : List ℕ) (parts : List StoredPart) (b d : Found) → IsPrepared p orders → IsOrder own (reverse order) → IsOf p f now past b → Each (IsFound (map entry_of b.row.items) now) (reverse order)
        → map part_of parts ≡ node_parts p own → RunsInTurn p orders present old parts (below (length (moments_in old))) b d
        → IsOf p f now past d × ((x : ℕ) → IsFound (map entry_of d.row.items) now x) × ((c : ℕ) → has_run d.called.items c ≡ true)
    all_more order parts b d prepared ordered of found are runs =
        let P = IsFound (map entry_of b.row.items) now in
        let all = sites p own in
        let count = length (moments_in old) in
        let many : count ≡ length all = holds_length p past (moments_in old) all (calls_kept p f present old now past sought) in
        let every : (x : ℕ) → P x = λ x.
        ⊎_elim (λ lt. each_in P (reverse order) found x (below_at (λ y. IsTrue (is_in (reverse order) y)) (length own.variables) ordered.all x lt)) (λ le. past_found b of x le) (cases_lt x (length own.variables)) in
        let can = below_run p all (each_before p prepared.resolved f) P every count [] (λ c le lt. let wrong : ⊥ = omega (arith, many, le, lt) in absurd wrong) in
        let ran = runs f now past [] prepared are sought of can tt in
        let os = d.called.items in
        let long : length os ≡ length all = ran_length p past os (called_by now) all ran.0.of.called in (
          ran.0.of,
          λ x. subst (λ v. IsFound (map entry_of v.items) now x) (sym ran.0.row) (every x),
          λ c. ⊎_elim (below_at (λ b. has_run os b ≡ true) count (each_below (λ b. has_run os b ≡ true) count ran.1) c) (λ le. run_past os c (omega (arith, long, many, le))) (cases_lt c count),
        )

  pub find_next : (g : Node) (order before rest : List ℕ) (x : ℕ) (parts : List StoredPart) (a b d e : Found) → FindsSoFar g order before a b → order ≡ before ++ x ∷ rest → map part_of parts ≡ node_parts p g
      → RunsInTurn p orders present old parts (turns_of g x) b d → e.called ≡ d.called → e.rows ≡ d.rows → IsFoundBy p g x present (kept_in old) d.rows.items (map entry_of d.row.items) (map entry_of e.row.items)
      → FindsSoFar g order (before ++ x ∷ []) a e
  find_next g order before rest x parts a b d e finds whole are runs called rows by f now past prepared node ordered sought of =
      let sofar = finds f now past prepared node ordered sought of in
      one_more f now past sought order before rest x parts b d e prepared (subst (λ h. IsOrder h (reverse order)) node ordered) sofar.0 sofar.1 whole (are ∙ ap (node_parts p) node)
      (subst (λ h. RunsInTurn p orders present old parts (turns_of h x) b d) node runs) called rows
      (subst (λ h. IsFoundBy p h x present (kept_in old) d.rows.items (map entry_of d.row.items) (map entry_of e.row.items)) node by)

  -- a number past the last variable stands for none
  pub find_past : (g : Node) (order before : List ℕ) (x : ℕ) (a b : Found) → FindsSoFar g order before a b → length g.variables ≤ x → FindsSoFar g order (before ++ x ∷ []) a b
  find_past g order before x a b finds le f now past prepared node ordered sought of =
      let sofar = finds f now past prepared node ordered sought of in
      let last : reverse (before ++ x ∷ []) ≡ x ∷ reverse before = reverse-append before (x ∷ []) in
      (sofar.0, subst (Each (IsFound (map entry_of b.row.items) now)) (sym last) (past_found f now past sought b sofar.0 x (subst (λ h. length h.variables ≤ x) node le), sofar.1))

  pub find_all : (g : Node) (order : List ℕ) (parts : List StoredPart) (a b d : Found) → FindsSoFar g order order a b → map part_of parts ≡ node_parts p g → RunsInTurn p orders present old parts (below (length (moments_in old))) b d
      → FindsAll p orders present old g order a d
  find_all g order parts a b d finds are runs f now past prepared node ordered sought of =
      let sofar = finds f now past prepared node ordered sought of in
      all_more f now past sought order parts b d prepared (subst (λ h. IsOrder h (reverse order)) node ordered) sofar.0 sofar.1 (are ∙ ap (node_parts p) node) runs

-- what is found is what is sought
module _ (p : Program) (orders : List (List ℕ)) (f : ℕ) (present : Bool) (given : Row) (old : Moment) where
  -- at first nothing but the inputs
  abbrev pub IsBegun : Found → Type 0
  IsBegun a =
      (length a.row.items ≡ length (node_at p f).variables) × ((x : ℕ) → x < length (node_at p f).variables → item None (map entry_of a.row.items) x ≡ item None given x)
      × (a.rows.items ≡ map row_so_far a.called.items) × (length a.called.items ≡ length (moments_in old)) × Each (λ o. o ≡ None) a.called.items

  begun_is : (a : Found) → IsBegun a → (now : Instant) (past : World) → IsSought p f present old now past → take (node_at p f).inputs (row_of now) ≡ given → IsOf p f now past a
  begun_is a begun now past sought fed =
      let g = node_at p f in
      let follow = own_follow p f present old now past sought in
      record {
        width = begun.0;
        inputs = λ x lt. ⊎_elim
            (λ within. begun.1 x within ∙ ap (λ l. item None l x) (sym fed) ∙ item_take None g.inputs (row_of now) x lt)
            (λ le.
            let here : length (map entry_of a.row.items) ≤ x = omega (arith, length-map a.row.items entry_of, begun.0, le) in
            let there : length (row_of now) ≤ x = omega (arith, follow.width, le) in
            item_past None (map entry_of a.row.items) x here ∙ sym (item_past None (row_of now) x there))
            (cases_lt x (length g.variables));
        rows = begun.2;
        called = none_ran p now past (moments_in old) a.called.items (called_by now) (sites p g) (calls_kept p f present old now past sought) (calls_attempt p f present old now past sought) begun.3 begun.4;
      }

  module _ (order : List ℕ) (a d : Found) (begun : IsBegun a) (is : order ≡ item [] orders f) (finds : FindsAll p orders present old (node_at p f) order a d) where
    abbrev FindsHere : Option Moment → Type 0
    FindsHere o = IsPrepared p orders → f < length p.nodes → Finds p f present given old o

    whole : IsPrepared p orders → f < length p.nodes → (now : Instant) (past : World) → IsSought p f present old now past → take (node_at p f).inputs (row_of now) ≡ given
        → IsOf p f now past d × ((x : ℕ) → IsFound (map entry_of d.row.items) now x) × ((c : ℕ) → has_run d.called.items c ≡ true)
    whole prepared lt now past sought fed = finds f now past prepared refl (subst (λ l. IsOrder (node_at p f) (reverse l)) (sym is) (prepared.ordered f lt)) sought (begun_is a begun now past sought fed)

    pub some_missing : (c : ℕ) → has_run d.called.items c ≡ false → FindsHere None
    some_missing c missing prepared lt now past sought fed = true≢false (sym ((whole prepared lt now past sought fed).2 c) ∙ missing)

    module _ (ms : List Moment) (all : map (λ m. Some m) ms ≡ d.called.items) where
      ran : (now : Instant) (past : World) → IsOf p f now past d → HaveRun p past (map (λ m. Some m) ms) (called_by now) (sites p (node_at p f))
      ran now past of = subst (λ l. HaveRun p past l (called_by now) (sites p (node_at p f))) (sym all) of.called

      same_row : (now : Instant) (past : World) → IsSought p f present old now past → IsOf p f now past d → ((x : ℕ) → IsFound (map entry_of d.row.items) now x) → map entry_of d.row.items ≡ row_of now
      same_row now past sought of found =
          ext_item None (map entry_of d.row.items) (row_of now) (length-map d.row.items entry_of ∙ of.width ∙ sym (own_follow p f present old now past sought).width) found

      parts_of_instant : (b : Bool) (row : Row) (js : Called) (now : Instant) → is_present now ≡ b → row ≡ row_of now → js ≡ called_by now → instant b row js ≡ now
      parts_of_instant b row js (instant b' row' js') e r k = λ i. instant (sym e i) (r i) (k i)

      -- and closed, it is the next one
      pub all_found : (m : Moment) → instant_of m ≡ instant present (map entry_of d.row.items) (called_of ms) → IsNextAmong p f ms old m → FindsHere (Some m)
      all_found m made next prepared lt now past sought fed =
          let w = whole prepared lt now past sought fed in
          let ran' = all_ran p now past ms (called_by now) (sites p (node_at p f)) (ran now past w.0) in
          let is : instant_of m ≡ now = made ∙ parts_of_instant present (map entry_of d.row.items) (called_of ms) now sought.base (same_row now past sought w.0 w.1) ran'.0 in
          (is, next past prepared.resolved prepared.clocks sought.keeps (subst (λ i. IsAttempt p i f past) (sym is) sought.attempt) ran'.1)
