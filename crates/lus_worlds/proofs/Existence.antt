-- In a resolved program on clocks, with an order of the variables of each node, there is an instant with each base and inputs that
-- fit: step by step, from any instant on, the entries and the calls become those that the equations give, in their order.
use Rattle.std.proofs.Common.{◌≡◌, ◌∙◌, ℕ, zero, suc, ◌+◌, ◌<◌, ◌≤◌, Bool, true, false, List, [], ◌∷◌, length, reverse, take, Contains, IsTrue, Option, Some, None, is_some, MatchBool, nat_lt, refl, sym, ap, subst, arith, ⊎_elim, slice_get}
use Rattle.std.proofs.lemmas.Bool.{cases_lt, lt-ltb, ltb-true}
use Rattle.std.proofs.lemmas.List.{length-take-le}
use Rattle.std.proofs.lemmas.Option.{slice_get_past}
use Rattle.lus_values.specs.Lists.{item, Each}
use Rattle.lus_values.specs.Values.{Row}
use Rattle.lus_values.proofs.Lists.{below_all, below_at}
use Rattle.lus_program.specs.Programs.{Node, Program, empty_node, node_at}
use Rattle.lus_program.specs.Resolved.{Resolved}
use Rattle.lus_streams.specs.Clocks.{Clock, clock_of}
use Rattle.lus_streams.specs.Equations.{Site, sites}
use Rattle.lus_streams.specs.OnClock.{ProgramOnClocks}
use Rattle.lus_streams.specs.Order.{clock_variables, needs_all, needed, is_in, HasOrder, IsCausal}
use Rattle.lus_streams.specs.Streams.{Instant, instant, nobody, World, is_present, row_of, entry, called_instant, is_on}
use Rattle.lus_streams.proofs.Calls.{OfSite}
use Rattle.lus_streams.proofs.Lists.{each_all, each_both, each_implies, each_in, each_of_items, item_take}
use Rattle.lus_streams.proofs.Orders.{by_order}
use Rattle.lus_streams.proofs.Unique.{order_at, clocks_at}
use Rattle.lus_attempts.specs.Attempts.{HasInputs, Tries}
use Rattle.lus_normal_form.specs.Laws.{IsChain}
use Rattle.lus_normal_form.specs.Named.{Numbered}
use Rattle.lus_normal_form.proofs.HaveFormals.{all_declared, tested}
use Rattle.lus_normal_form.proofs.OneTest.{clock_is_chain}
use Rattle.lus_reference.specs.Needed.{all_calls_now}
use Rattle.lus_reference.proofs.Needed.{needs_suffice}
use Rattle.lus_worlds.specs.Beginning.{IsWithin}
use Rattle.lus_worlds.specs.Existing.{FitsClocks, HasAttempt, AreGiven}
use Rattle.lus_worlds.specs.Finding.{IsPrepared}
use Rattle.lus_worlds.specs.Turns.{turns_of, below, CanRun, CanRunInTurn}
use Rattle.lus_worlds.proofs.Depths.{is_within}
use Rattle.lus_worlds.proofs.ExistenceCalls.{PassesFitting, calls_fit}
use Rattle.lus_worlds.proofs.ExistenceSteps.{passed, CanCall, next, next_same, meant_same, on_same, passed_same, calls_same, steady}
use Rattle.lus_worlds.proofs.Passed.{inputs_are_variables}
use Rattle.lus_worlds.proofs.Sites.{sites_numbered, each_before, each_only}
use Rattle.lus_worlds.proofs.Turns.{turns_run, below_run}

-- what holds of a number after each count of steps, from some count on
abbrev Lasts : (ℕ → ℕ → Type 0) → ℕ → Type 0
Lasts Q x = (n : ℕ) × ((m : ℕ) → n ≤ m → Q m x)

-- one step later
from_next : (Q : ℕ → ℕ → Type 0) (n x : ℕ) → ((m : ℕ) → n ≤ m → Q (suc m) x) → Lasts Q x
from_next Q n x h = (suc n, later)
  where
    later : (m : ℕ) → suc n ≤ m → Q m x
    later zero le = absurd (let wrong : ⊥ = omega (arith, le) in wrong)
    later (suc m) le = h m (omega (arith, le))

-- for all of a list there is one count
all_last : (Q : ℕ → ℕ → Type 0) (xs : List ℕ) → Each (Lasts Q) xs → (n : ℕ) × ((m : ℕ) → n ≤ m → Each (Q m) xs)
all_last Q [] h = (0, λ m le. tt)
all_last Q (x ∷ xs) h =
    let own = h.0 in
    let rest = all_last Q xs h.1 in
    (own.0 + rest.0, λ m le. (own.1 m (omega (arith, le)), rest.1 m (omega (arith, le))))

-- the numbers below n, one by one
each_below : (P : ℕ → Type 0) (n : ℕ) → Each P (below n) → (x : ℕ) → x < n → P x
each_below P zero h x lt = absurd (let wrong : ⊥ = omega (arith, lt) in wrong)
each_below P (suc n) h x lt = ⊎_elim (λ less. each_below P n h.1 x less) (λ ge. let same : n ≡ x = omega (arith, lt, ge) in subst P same h.0) (cases_lt x n)

-- what stands at a place has its number
site_number : (n : ℕ) (ss : List Site) → Numbered n ss → (i : ℕ) (s : Site) → slice_get ss i ≡ Some s → Contains ss s × (s.number ≡ n + i)
site_number n [] numbers i s e = absurd (cc)
site_number n (t ∷ ss) numbers zero s e = let same : t ≡ s = cc in let first : n ≡ n + 0 = omega arith in ((0, omega arith, same), ap (λ (z : Site). z.number) (sym same) ∙ numbers.0 ∙ first)
site_number n (t ∷ ss) numbers (suc i) s e =
    let rest = site_number (suc n) ss numbers.1 i s e in
    let among = rest.0 in
    let there : suc n + i ≡ n + suc i = omega arith in
    ((suc among.0, omega (arith, among.1), among.2), rest.1 ∙ there)

module _ (p : Program) (resolved : Resolved p) (causal : IsCausal p) (clocks : ProgramOnClocks p) where
  -- a node whose calls have attempts
  module _ (f : ℕ) (present : Bool) (given : Row) (past : World) (size : length given ≡ (node_at p f).inputs) (wide : (node_at p f).inputs ≤ length (node_at p f).variables)
      (able : Each (CanCall p f present given past) (sites p (node_at p f))) where
    abbrev own : Node
    own = node_at p f

    abbrev all : List Site
    all = sites p own

    abbrev step : Instant → Instant
    step = next p f present given past size wide able

    -- after each count of steps
    abbrev after : ℕ → Instant
    after zero = instant present [] nobody
    after (suc n) = step (after n)

    base_same : (n : ℕ) → is_present (after n) ≡ is_present (after (suc n))
    base_same zero = refl
    base_same (suc n) = refl

    -- one step more changes nothing of a variable, or of a call
    abbrev Same : ℕ → ℕ → Type 0
    Same n x = entry (after n) x ≡ entry (after (suc n)) x

    abbrev SameCall : ℕ → ℕ → Type 0
    SameCall n c = called_instant c (after n) ≡ called_instant c (after (suc n))

    -- there is nothing past the last variable, nor past the last call
    past_same : (n x : ℕ) → length own.variables ≤ x → Same (suc n) x
    past_same n x ge = next_same p f present given past size wide able (after n) (after (suc n)) x (λ lt. absurd (let wrong : ⊥ = omega (arith, lt, ge) in wrong))

    past_call_same : (n c : ℕ) → slice_get all c ≡ None → SameCall (suc n) c
    past_call_same n c none = calls_same p f present given past causal clocks (after n) (after (suc n)) all able c (λ s e. absurd (cc))

    -- what a variable has, and what a call gives, lasts where all that it needs does
    variable_lasts : (x : ℕ) → Each (Lasts Same) (needed own x) → Each (Lasts SameCall) (turns_of own x) → Lasts Same x
    variable_lasts x needs calls =
        let variables = all_last Same (needed own x) needs in
        let turns = all_last SameCall (turns_of own x) calls in
        from_next Same (variables.0 + turns.0) x
        (λ m le.
        next_same p f present given past size wide able (after m) (after (suc m)) x
        (λ lt. meant_same p f present given past (after m) (after (suc m)) (base_same m) x (variables.1 m (omega (arith, le))) (turns.1 m (omega (arith, le)))))

    call_lasts : (c : ℕ) (o : Option Site) → slice_get all c ≡ o → (behind : List ℕ) → CanRun all (Lasts Same) c behind → Each (Lasts SameCall) behind → Lasts SameCall c
    call_lasts c None none behind can ran = from_next SameCall 0 c (λ m le. past_call_same m c none)
    call_lasts c (Some s) here behind can ran =
        let site = site_number 0 all (sites_numbered p resolved f) c s here in
        let place : 0 + c ≡ c = omega arith in
        let needs = can s site.0 (site.1 ∙ place) in
        let inner = each_implies (λ d. d < length all → IsTrue (is_in behind d)) (Lasts SameCall)
        (λ d among. ⊎_elim (λ lt. each_in (Lasts SameCall) behind ran d (among lt)) (λ ge. from_next SameCall 0 d (λ m le. past_call_same m d (slice_get_past all d ge))) (cases_lt d (length all)))
        (all_calls_now s.args) needs.2 in
        let bases = all_last Same (clock_variables s.base) needs.0 in
        let arguments = all_last Same (needs_all s.args) needs.1 in
        let calls = all_last SameCall (all_calls_now s.args) inner in
        from_next SameCall (bases.0 + arguments.0 + calls.0) c
        (λ m le.
        let a = after m in
        let b = after (suc m) in
        let base = bases.1 m (omega (arith, le)) in
        calls_same p f present given past causal clocks a b all able c
        (λ t e.
        let same : s ≡ t = (let both : Some s ≡ Some t = sym here ∙ e in cc) in
        subst (λ (z : Site). (is_on z.base a ≡ is_on z.base b) × (passed p f present given past z a ≡ passed p f present given past z b)) same (
          on_same p f present given past a b (base_same m) s base,
          passed_same p f present given past a b (base_same m) s base (arguments.1 m (omega (arith, le))) (calls.1 m (omega (arith, le))),
        )))

    turns_last : (behind cs : List ℕ) → CanRunInTurn all (Lasts Same) behind cs → Each (Lasts SameCall) behind → Each (Lasts SameCall) cs
    turns_last behind [] can ran = tt
    turns_last behind (c ∷ cs) can ran = let first = call_lasts c (slice_get all c) refl behind can.0 ran in (first, turns_last (c ∷ behind) cs can.1 (first, ran))

    -- so all variables last, in their order, and then all calls, the last first
    every_lasts : (x : ℕ) → Lasts Same x
    every_lasts =
        by_order own (Lasts Same)
        (λ x needs. variable_lasts x needs (turns_last [] (turns_of own x) (turns_run p all (Lasts Same) own (clocks_at p causal clocks f) (each_only p resolved f) x needs) tt))
        (order_at p causal clocks f) (λ x ge. from_next Same 0 x (λ m le. past_same m x ge))

    calls_last : Each (Lasts SameCall) (below (length all))
    calls_last = turns_last [] (below (length all)) (below_run p all (each_before p resolved f) (Lasts Same) every_lasts (length all) [] (λ d ge within. absurd (let wrong : ⊥ = omega (arith, ge, within) in wrong))) tt

    -- after so many steps one more changes nothing at all
    found : FitsClocks own present given → HasAttempt p f present given past
    found fits =
        let width = length own.variables in
        let variables = all_last Same (below width) (each_all (Lasts Same) every_lasts (below width)) in
        let calls = all_last SameCall (below (length all)) calls_last in
        let n = variables.0 + calls.0 in
        steady p f present given past size wide able fits (sites_numbered p resolved f) (after (suc n)) refl
        (λ x. ⊎_elim (λ lt. each_below (Same (suc n)) width (variables.1 (suc n) (omega arith)) x lt) (λ ge. past_same n x ge) (cases_lt x width))
        (λ c. ⊎_elim (λ lt. each_below (SameCall (suc n)) (length all) (calls.1 (suc n) (omega arith)) c lt) (λ ge. past_call_same n c (slice_get_past all c ge)) (cases_lt c (length all)))

  -- a node whose calls are so deep
  exists_within : (n f : ℕ) → IsWithin p n f → (present : Bool) (given : Row) → length given ≡ (node_at p f).inputs → FitsClocks (node_at p f) present given → (past : World) → HasAttempt p f present given past
  exists_within zero f within present given size fits past = absurd within
  exists_within (suc n) f within present given size fits past =
      let all = sites p (node_at p f) in
      let width = length (node_at p f).variables in
      let wide : (node_at p f).inputs ≤ width = ⊎_elim (λ lt. absurd (let own = inputs_are_variables p resolved f width lt in let wrong : ⊥ = omega (arith, own) in wrong)) (λ ge. ge) (cases_lt width (node_at p f).inputs) in
      let able = each_implies (λ s. IsWithin p n s.node × OfSite p (PassesFitting p) s) (CanCall p f present given past)
      (λ s h now. let fit = h.1 now past in exists_within n s.node h.0 (is_on s.base now) (passed p f present given past s now) fit.0 fit.1 _)
      all (each_both (λ s. IsWithin p n s.node) (OfSite p (PassesFitting p)) all within.1 (calls_fit p resolved clocks f)) in
      found f present given past size wide able fits

-- each node has an order
pub causal_of : (p : Program) (orders : List (List ℕ)) → IsPrepared p orders → IsCausal p
causal_of p orders prepared = each_of_items HasOrder empty_node p.nodes (λ k within. (reverse (item [] orders k), prepared.ordered k within))

pub attempt_exists : (p : Program) (orders : List (List ℕ)) → IsPrepared p orders → (f : ℕ) → f < length p.nodes → (present : Bool) (given : Row) → length given ≡ (node_at p f).inputs → FitsClocks (node_at p f) present given
    → (past : World) → HasAttempt p f present given past
attempt_exists p orders prepared f lt =
    exists_within p prepared.resolved (causal_of p orders prepared) prepared.clocks (length p.nodes) f (is_within p prepared.resolved f lt)

-- inputs, and whether their clocks are present, since those test inputs alone
module _ (p : Program) (clocks : ProgramOnClocks p) (f : ℕ) (given : Row) where
  abbrev asked : Node
  asked = node_at p f

  inputs_tested : (k : Clock) (m : ℕ) → clock_of asked m ≡ k → m < asked.inputs → Each (λ y. y < asked.inputs) (clock_variables k)
  inputs_tested [] m is lt = tt
  inputs_tested (t ∷ k) m is lt =
      let low = tested asked (all_declared p clocks f) m t k is lt in
      (low, inputs_tested k t.variable (subst (IsChain asked) is (clock_is_chain asked (all_declared p clocks f) m)).0 low)

  module _ (now : Instant) (base : is_present now ≡ true) (inputs : take asked.inputs (row_of now) ≡ given) where
    input_is : (x : ℕ) → x < asked.inputs → entry now x ≡ item None given x
    input_is x lt = sym (item_take None asked.inputs (row_of now) x lt) ∙ ap (λ r. item None r x) inputs

    input_clock : (x : ℕ) → x < asked.inputs → is_on (clock_of asked x) now ≡ is_on (clock_of asked x) (instant true given nobody)
    input_clock x lt =
        let alone = instant true given nobody in
        let k = clock_of asked x in
        let entries = each_implies (λ y. y < asked.inputs) (λ y. entry now y ≡ entry alone y) input_is (clock_variables k) (inputs_tested k x refl lt) in
        (needs_suffice p now alone []).clocks k (record { base = base; entries = entries; called = tt })

    -- where they are given, each is there exactly where its clock is present
    input_there : AreGiven asked given → (x : ℕ) → x < asked.inputs → is_some (entry now x) ≡ is_on (clock_of asked x) now
    input_there are x lt = ap is_some (input_is x lt) ∙ are.there x lt ∙ sym (input_clock x lt)

  -- those of an instant at which none is missing are given
  pub tried_given : Resolved p → (now : Instant) (past : World) → Tries p f given now past → AreGiven asked given
  tried_given resolved (instant b row js) past tries =
      let now = instant b row js in
      let width = length asked.variables in
      let wide : asked.inputs ≤ length row =
      ⊎_elim (λ lt. absurd (let own = inputs_are_variables p resolved f width lt in let wrong : ⊥ = omega (arith, own) in wrong)) (λ ge. omega (arith, ge, tries.attempt.0.width)) (cases_lt width asked.inputs) in
      let At : ℕ → Bool → Type 0 = λ x c. MatchBool c (is_some (entry now x) ≡ is_on (clock_of asked x) now) (Unit {0}) in
      record {
        count = ap length (sym tries.inputs) ∙ length-take-le asked.inputs row wide;
        there = λ x lt.
            let own = below_at (λ y. At y (nat_lt y asked.inputs)) width tries.whole x (inputs_are_variables p resolved f x lt) in
            let here : is_some (entry now x) ≡ is_on (clock_of asked x) now = subst (At x) (lt-ltb x asked.inputs lt) own in
            ap is_some (sym (input_is now tries.present tries.inputs x lt)) ∙ here ∙ input_clock now tries.present tries.inputs x lt;
      }

-- they fit, and at an instant with them none is missing
pub given_fits : (p : Program) → ProgramOnClocks p → (f : ℕ) (given : Row) → AreGiven (node_at p f) given → FitsClocks (node_at p f) true given
given_fits p clocks f given are now base inputs x input some = sym (input_there p clocks f given now base inputs are x input) ∙ some

pub given_whole : (p : Program) → ProgramOnClocks p → (f : ℕ) (given : Row) → AreGiven (node_at p f) given
    → (now : Instant) (past : World) → is_present now ≡ true → take (node_at p f).inputs (row_of now) ≡ given → HasInputs p f now past
given_whole p clocks f given are now past base inputs =
    let g = node_at p f in
    below_all (λ x. MatchBool (nat_lt x g.inputs) (is_some (entry now x) ≡ is_on (clock_of g x) now) (Unit {0})) (length g.variables) (λ x within. at_input (nat_lt x g.inputs) x refl)
  where
    at_input : (b : Bool) (x : ℕ) → nat_lt x (node_at p f).inputs ≡ b → MatchBool b (is_some (entry now x) ≡ is_on (clock_of (node_at p f) x) now) (Unit {0})
    at_input true x e = input_there p clocks f given now base inputs are x (ltb-true x (node_at p f).inputs e)
    at_input false x e = tt
