-- One step towards an instant of a node: what its equations give at an instant, and an attempt of each call with what it passes there.
use Rattle.std.proofs.Common.{◌≡◌, ◌∙◌, ℕ, zero, suc, ◌+◌, ◌-◌, ◌<◌, ◌≤◌, Bool, true, false, List, [], ◌∷◌, ◌++◌, length, take, Option, Some, None, is_some, MatchBool, nat_lt, IsTrue, refl, sym, ap, ap₂, arith, ⊎_elim, slice_get, not-suc-le-zero}
use Rattle.std.proofs.lemmas.Bool.{cases_lt, ltb-true, ltb-false}
use Rattle.std.proofs.lemmas.List.{length-append, get_or-append_right}
use Rattle.std.proofs.Math.Seq.{take-append_seam}
use Rattle.lus_values.specs.Lists.{item, Each}
use Rattle.lus_values.specs.Values.{Row, Value}
use Rattle.lus_values.proofs.Lists.{below_all}
use Rattle.lus_program.specs.Programs.{call, Node, Program, node_at}
use Rattle.lus_streams.specs.Clocks.{clock_of}
use Rattle.lus_streams.specs.Equations.{Definition, given_by, definition_of, Site, sites}
use Rattle.lus_streams.specs.OnClock.{ProgramOnClocks}
use Rattle.lus_streams.specs.Order.{clock_variables, needs, needs_all, needs_right, needed, is_in, IsCausal}
use Rattle.lus_streams.specs.Streams.{Instant, instant, Called, nobody, also, World, is_present, entry, called_at, called_instant, called_world, is_on, where_on, definition_value, inputs_given}
use Rattle.lus_streams.proofs.Lists.{each_all, each_in, each_implies, each_left, each_right, item_past, item_take}
use Rattle.lus_attempts.specs.Attempts.{FollowsFaults, EachAttempt}
use Rattle.lus_attempts.proofs.Unique.{attempt_unique}
use Rattle.lus_normal_form.specs.Named.{Numbered}
use Rattle.lus_reference.specs.Needed.{Agree, calls_now, all_calls_now}
use Rattle.lus_reference.proofs.Needed.{needs_suffice}
use Rattle.lus_worlds.specs.Existing.{FitsClocks, HasAttempt}
use Rattle.lus_worlds.specs.Turns.{calls_in_turn, turns_in, turns_of}
use Rattle.lus_worlds.proofs.Turns.{now_in_turn}

module _ (p : Program) (f : ℕ) (present : Bool) (given : Row) (past : World) where
  abbrev own : Node
  own = node_at p f

  abbrev pub passed : Site → Instant → Row
  passed s now = inputs_given p s.args (node_at p s.node) s.args s.base 0 now past

  -- at each instant there is an attempt with what a call passes
  abbrev pub CanCall : Site → Type 0
  CanCall s = (now : Instant) → HasAttempt p s.node (is_on s.base now) (passed s now) (called_world s.number past)

  abbrev callees : (ss : List Site) → Each CanCall ss → Instant → Called
  callees [] able now = nobody
  callees (s ∷ ss) able now = also (able.0 now).now (callees ss able.1 now)

  -- what its equation gives for a variable
  abbrev meant : ℕ → Instant → Option Value
  meant x now = where_on (is_on (clock_of own x) now) (definition_value p (definition_of own x) now past)

  abbrev all_meant : (count x : ℕ) → Instant → Row
  all_meant zero x now = []
  all_meant (suc n) x now = meant x now ∷ all_meant n (suc x) now

  meant_length : (n x : ℕ) (now : Instant) → length (all_meant n x now) ≡ n
  meant_length zero x now = refl
  meant_length (suc n) x now = ap suc (meant_length n (suc x) now)

  meant_item : (n x i : ℕ) (now : Instant) → i < n → item None (all_meant n x now) i ≡ meant (x + i) now
  meant_item zero x i now lt = absurd (not-suc-le-zero lt)
  meant_item (suc n) x zero now lt = let here : x ≡ x + 0 = omega arith in ap (λ y. meant y now) here
  meant_item (suc n) x (suc i) now lt = let there : suc x + i ≡ x + suc i = omega arith in meant_item n (suc x) i now (omega (arith, lt)) ∙ ap (λ y. meant y now) there

  -- two instants with one base and the same entries and calls where it matters
  module _ (a b : Instant) (base : is_present a ≡ is_present b) where
    abbrev Same : ℕ → Type 0
    Same x = entry a x ≡ entry b x

    abbrev SameCall : ℕ → Type 0
    SameCall c = called_instant c a ≡ called_instant c b

    agree : (xs cs : List ℕ) → Each Same xs → Each SameCall cs → Agree a b xs cs
    agree xs cs hx hc = record { base = base; entries = hx; called = hc }

    among : (turns cs : List ℕ) → Each SameCall turns → Each (λ c. IsTrue (is_in turns c)) cs → Each SameCall cs
    among turns cs h k = each_implies (λ c. IsTrue (is_in turns c)) SameCall (each_in SameCall turns h) cs k

    definition_same : (d : Option Definition) → Each Same (needs_right d) → Each SameCall (turns_in d) → definition_value p d a past ≡ definition_value p d b past
    definition_same None hn hc = refl
    definition_same (Some (given_by (call g c args) n xs k)) hn hc =
        let e = call g c args in
        ap (λ j. entry j ((node_at p g).inputs + n)) (among (calls_in_turn e) (calls_now e) hc (now_in_turn e)).0
    definition_same (Some (given_by e n xs k)) hn hc = (needs_suffice p a b past).values e k (agree (needs e) (calls_now e) hn (among (calls_in_turn e) (calls_now e) hc (now_in_turn e)))

    pub meant_same : (x : ℕ) → Each Same (needed own x) → Each SameCall (turns_of own x) → meant x a ≡ meant x b
    meant_same x hn hc =
        let k = clock_of own x in
        let d = definition_of own x in
        ap₂ where_on
        ((needs_suffice p a b past).clocks k (agree (clock_variables k) [] (each_left Same (clock_variables k) (needs_right d) hn) tt))
        (definition_same d (each_right Same (clock_variables k) (needs_right d) hn) hc)

    pub on_same : (s : Site) → Each Same (clock_variables s.base) → is_on s.base a ≡ is_on s.base b
    on_same s hb = (needs_suffice p a b past).clocks s.base (agree (clock_variables s.base) [] hb tt)

    pub passed_same : (s : Site) → Each Same (clock_variables s.base) → Each Same (needs_all s.args) → Each SameCall (all_calls_now s.args) → passed s a ≡ passed s b
    passed_same s hb ha hc = (needs_suffice p a b past).given (node_at p s.node) s.args s.base (agree (needs_all s.args) (all_calls_now s.args) ha hc) (agree (clock_variables s.base) [] hb tt)

  -- with one base and the same inputs the attempts of a call are the same
  module _ (causal : IsCausal p) (clocks : ProgramOnClocks p) (a b : Instant) where
    pub calls_same : (ss : List Site) (able : Each CanCall ss) (c : ℕ) → ((s : Site) → slice_get ss c ≡ Some s → (is_on s.base a ≡ is_on s.base b) × (passed s a ≡ passed s b)) → called_at (callees ss able a) c ≡ called_at (callees ss able b) c
    calls_same [] able c same = refl
    calls_same (s ∷ ss) able zero same =
        let both = same s refl in
        let i = able.0 a in
        let j = able.0 b in
        attempt_unique p causal clocks i.now j.now s.node (called_world s.number past) i.attempt j.attempt (i.base ∙ both.0 ∙ sym j.base) (i.inputs ∙ both.1 ∙ sym j.inputs)
    calls_same (s ∷ ss) able (suc c) same = calls_same ss able.1 c same

  module _ (size : length given ≡ own.inputs) (wide : own.inputs ≤ length own.variables) (able : Each CanCall (sites p own)) where
    abbrev row : Instant → Row
    row now = given ++ all_meant (length own.variables - own.inputs) own.inputs now

    -- the next step
    abbrev pub next : Instant → Instant
    next now = instant present (row now) (callees (sites p own) able now)

    next_width : (now : Instant) → length (row now) ≡ length own.variables
    next_width now =
        let rest = length own.variables - own.inputs in
        let long = length-append given (all_meant rest own.inputs now) in
        let count = meant_length rest own.inputs now in
        omega (arith, long, count, size, wide)

    next_inputs : (now : Instant) → take own.inputs (row now) ≡ given
    next_inputs now = ap (λ n. take n (row now)) (sym size) ∙ take-append_seam given (all_meant (length own.variables - own.inputs) own.inputs now)

    next_meant : (now : Instant) (x : ℕ) → own.inputs ≤ x → x < length own.variables → entry (next now) x ≡ meant x now
    next_meant now x ge lt =
        let rest = length own.variables - own.inputs in
        let place : own.inputs + (x - own.inputs) ≡ x = omega (arith, ge) in
        get_or-append_right given (all_meant rest own.inputs now) own.inputs x None size ge
        ∙ meant_item rest own.inputs (x - own.inputs) now (omega (arith, ge, lt, wide))
        ∙ ap (λ y. meant y now) place

    -- the steps from two instants have the same entry where its equation gives one value
    pub next_same : (a b : Instant) (x : ℕ) → (x < length own.variables → meant x a ≡ meant x b) → entry (next a) x ≡ entry (next b) x
    next_same a b x same =
        ⊎_elim
        (λ input. sym (item_take None own.inputs (row a) x input) ∙ ap (λ r. item None r x) (next_inputs a ∙ sym (next_inputs b)) ∙ item_take None own.inputs (row b) x input)
        (λ ge.
        ⊎_elim
        (λ lt. next_meant a x ge lt ∙ same lt ∙ sym (next_meant b x ge lt))
        (λ past_all. item_past None (row a) x (omega (arith, next_width a, past_all)) ∙ sym (item_past None (row b) x (omega (arith, next_width b, past_all))))
        (cases_lt x (length own.variables)))
        (cases_lt x own.inputs)

    -- where a step changes nothing, it is an attempt
    module _ (fits : FitsClocks own present given) (numbered : Numbered 0 (sites p own)) (a : Instant) (base : is_present a ≡ present)
        (entries : (x : ℕ) → entry a x ≡ entry (next a) x) (called : (c : ℕ) → called_instant c a ≡ called_instant c (next a)) where
      abbrev b : Instant
      b = next a

      follows : (x : ℕ) (input : Bool) → x < length own.variables → nat_lt x own.inputs ≡ input
          → MatchBool input (is_some (entry b x) ≡ true → is_on (clock_of own x) b ≡ true) (entry b x ≡ where_on (is_on (clock_of own x) b) (definition_value p (definition_of own x) b past))
      follows x true lt e = fits b refl (next_inputs a) x (ltb-true x own.inputs e)
      follows x false lt e =
          next_meant a x (ltb-false x own.inputs e) lt
          ∙ meant_same a b base x (each_all (λ y. entry a y ≡ entry b y) entries (needed own x)) (each_all (λ c. called_instant c a ≡ called_instant c b) called (turns_of own x))

      each_attempt : (n : ℕ) (ss : List Site) (these : Each CanCall ss) → Numbered n ss → ((i : ℕ) → called_instant (n + i) b ≡ called_at (callees ss these a) i) → EachAttempt p (callees ss these a) ss b past
      each_attempt n [] these numbers places = tt
      each_attempt n (s ∷ ss) these numbers places =
          let own_entries = each_all (λ y. entry a y ≡ entry b y) entries in
          let own_calls = each_all (λ c. called_instant c a ≡ called_instant c b) called in
          let first : n ≡ n + 0 = omega arith in
          let j = these.0 a in (
            record {
              numbered = ap (λ c. called_instant c b) (numbers.0 ∙ first) ∙ places 0;
              base = j.base ∙ on_same a b base s (own_entries (clock_variables s.base));
              inputs = j.inputs ∙ passed_same a b base s (own_entries (clock_variables s.base)) (own_entries (needs_all s.args)) (own_calls (all_calls_now s.args));
            },
            j.attempt,
            each_attempt (suc n) ss these.1 numbers.1 (λ i. let there : suc n + i ≡ n + suc i = omega arith in ap (λ c. called_instant c b) there ∙ places (suc i)),
          )

      pub steady : HasAttempt p f present given past
      steady = record {
        now = b;
        attempt = (
          record { width = next_width a; variables = below_all (FollowsFaults p own b past) (length own.variables) (λ x lt. follows x (nat_lt x own.inputs) lt refl) },
          each_attempt 0 (sites p own) able numbered (λ i. let place : 0 + i ≡ i = omega arith in ap (λ c. called_instant c b) place),
        );
        base = refl;
        inputs = next_inputs a;
      }
