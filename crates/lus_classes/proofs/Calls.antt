-- The calls of a node, whose states keep the law of steps: where the steps of the node give a row, the instants of the calls
-- and their next states; at an instant of the node, what the calls answer; and where its base is absent, that they rest.
use Rattle.std.proofs.Common.{◌≡◌, ℕ, zero, suc, ◌+◌, Bool, true, false, List, [], ◌∷◌, length, take, Option, Some, None, slice_get, refl, sym, ap, ap₂, ◌∙◌, subst, arith}
use Rattle.std.specs.Option.{option_map, option_and_then}
use Rattle.std.proofs.lemmas.List.{take-replicate}
use Rattle.std.proofs.lemmas.Option.{none-some, some_pair_parts, option_and_then_some}
use Rattle.lus_values.specs.Lists.{item, Each}
use Rattle.lus_values.specs.Values.{Value, Row}
use Rattle.lus_program.specs.Programs.{Node, Program, node_at}
use Rattle.lus_streams.specs.Equations.{Site}
use Rattle.lus_streams.specs.Order.{clock_variables}
use Rattle.lus_streams.specs.Streams.{Instant, instant, Called, nobody, also, World, is_present, row_of, called_at, called_world, is_on, inputs_given, IsFed, IsInstant, EachCall}
use Rattle.lus_streams.proofs.Lists.{each_left, each_right}
use Rattle.lus_classes.specs.Classes.{Call, Class, class_at, argument_reads, call_reads}
use Rattle.lus_classes.specs.States.{State, States, no_state, also_state}
use Rattle.lus_classes.specs.Steps.{at_row, is_on_row, Answer, Ask, silent, passed, states_after, run_steps, first_row, state_after, answer_after, instant_of, asked, step, asks}
use Rattle.lus_classes.specs.ClassesOf.{IsCall, AreCalls, AreClassesOf}
use Rattle.lus_classes.specs.StandsFor.{StandsFor, StatesStand}
use Rattle.lus_classes.specs.Laws.{Fits}
use Rattle.lus_classes.proofs.Options.{never}
use Rattle.lus_classes.proofs.Rows.{PresentOnClocks, Agree, is_on_row_same, is_on_row_is, off, absent}
use Rattle.lus_classes.proofs.Passing.{passed_same, passed_is_given, passed_off, given_off, arguments_fit}

-- what states after an instant are made of
record Together (a : Answer) (others : Option States) (all : States) : Type 0 where
  pub row : Row
  pub first : State
  pub rest : States
  pub answer : a ≡ Some (row, first)
  pub answers : others ≡ Some rest
  pub whole : also_state first rest ≡ all

together : (a : Answer) (others : Option States) (all : States) → option_and_then (λ a. option_map (λ ss. also_state a.1 ss) others) a ≡ Some all → Together a others all
together None others all h = absurd (none-some all h)
together (Some a) None all h = absurd (none-some all h)
together (Some a) (Some ss) all h = record { row = a.0; first = a.1; rest = ss; answer = refl; answers = refl; whole = (let e : also_state a.1 ss ≡ all = cc in e) }

-- what an answer is made of
module _ (c : Class) (cells : List Value) (flags : List Bool) (given : List Ask) where
  pub record Finished (i r : Row) (after : State) : Type 0 where
    pub states : States
    pub ran : run_steps c cells flags given c.steps (first_row c.clocks i) ≡ Some r
    pub answered : states_after given r ≡ Some states
    pub whole : state_after c cells flags given r states ≡ after

  finished_at : (i t r : Row) (after : State) (states : Option States) → run_steps c cells flags given c.steps (first_row c.clocks i) ≡ Some t
      → states_after given t ≡ states
      → option_map {U = Row × State} (λ ss. (t, state_after c cells flags given t ss)) states ≡ Some (r, after) → Finished i r after
  finished_at i t r after None ran e h = absurd (none-some (r, after) h)
  finished_at i t r after (Some ss) ran e h =
      let parts = some_pair_parts t r (state_after c cells flags given t ss) after h in
      record {
        states = ss;
        ran = ran ∙ ap Some parts.0;
        answered = ap (states_after given) (sym parts.0) ∙ e;
        whole = ap (λ z. state_after c cells flags given z ss) (sym parts.0) ∙ parts.1;
      }

  pub finished : (i r : Row) (after : State) → instant_of c cells flags given i ≡ Some (r, after) → Finished i r after
  finished i r after h =
      option_and_then_some (answer_after c cells flags given) (run_steps c cells flags given c.steps (first_row c.clocks i)) (r, after) h
      (λ t ran rest. finished_at i t r after (states_after given t) ran refl rest)

-- what a call answers depends on what it reads
pub asks_same : (classes : List Class) (subs : States) (qs : List Call) (n : ℕ) (r t : Row) → Each (Agree r t) (call_reads (slice_get qs n))
    → item silent (asks classes subs qs) n r ≡ item silent (asks classes subs qs) n t
asks_same classes no_state qs n r t h = refl
asks_same classes (also_state s subs) [] n r t h = refl
asks_same classes (also_state s subs) (q ∷ qs) zero r t h =
    ap₂ (λ b i. asked b s (λ z. step classes s q.node z) i)
    (is_on_row_same q.base r t (each_left (Agree r t) (clock_variables q.base) (argument_reads q.arguments) h))
    (passed_same q.arguments r t (each_right (Agree r t) (clock_variables q.base) (argument_reads q.arguments) h))
asks_same classes (also_state s subs) (q ∷ qs) (suc n) r t h = asks_same classes subs qs n r t h

module _ (p : Program) (classes : List Class) (ok : AreClassesOf p classes) where
  abbrev pub width : ℕ → ℕ
  width g = length (node_at p g).variables

  -- an instant of node g whose base is absent
  abbrev pub quiet : ℕ → Called → Instant
  quiet g js = instant false (absent (width g)) js

  -- the law of steps: an answer goes on from a past that the state stands for, an instant is answered, and where the base is
  -- absent the state stands for the past and that instant
  pub record Lawful (s : State) (g : ℕ) : Type 0 where
    pub gives : (past : World) → StandsFor classes s g past → (i r : Row) (after : State) → Fits (node_at p g) i → step classes s g i ≡ Some (r, after)
        → (js : Called) × IsInstant p (instant true r js) g past × (take (node_at p g).inputs r ≡ i) × StandsFor classes after g (instant true r js ∷ past)
    pub finds : (past : World) → StandsFor classes s g past → (r : Row) (js : Called) → IsInstant p (instant true r js) g past
        → (after : State) × (step classes s g (take (node_at p g).inputs r) ≡ Some (r, after))
    pub rests : (past : World) → StandsFor classes s g past → (js : Called) × IsInstant p (quiet g js) g past × StandsFor classes s g (quiet g js ∷ past)

  abbrev pub EachLawful : States → List Call → Type 0
  EachLawful no_state qs = Unit {0}
  EachLawful (also_state s subs) [] = Unit {0}
  EachLawful (also_state s subs) (q ∷ qs) = Lawful s q.node × EachLawful subs qs

  -- the instant of a call whose base is b and whose inputs are i, and its state after it
  pub record Done (q : Call) (s : State) (a : Ask) (n : ℕ) (past : World) (b : Bool) (i r : Row) (j : Instant) : Type 0 where
    pub is_instant : IsInstant p j q.node (called_world n past)
    pub base : is_present j ≡ b
    pub inputs : take (node_at p q.node).inputs (row_of j) ≡ i
    pub answers : b ≡ true → (after : State) × (a r ≡ Some (row_of j, after))
    pub stands : StandsFor classes s q.node (j ∷ called_world n past)

  module _ (B : Call → Bool) (I : Call → Row) (r : Row) (past : World) where
    abbrev pub AllDone : Called → List Call → List Ask → States → ℕ → Type 0
    AllDone nobody [] [] no_state n = Unit {0}
    AllDone (also j js) (q ∷ qs) (a ∷ given) (also_state s subs) n = Done q s a n past (B q) (I q) r j × AllDone js qs given subs (suc n)
    AllDone _ _ _ _ n = ⊥

    pub answers_of : (js : Called) (qs : List Call) (given : List Ask) (subs : States) (n : ℕ) → AllDone js qs given subs n → (i : ℕ) (q : Call)
        → slice_get qs i ≡ Some q → B q ≡ true → (s : State) × (item silent given i r ≡ Some (row_of (called_at js i), s))
    answers_of nobody [] [] no_state n d i q e t = absurd (cc)
    answers_of (also j js) (u ∷ qs) (a ∷ given) (also_state s subs) n d zero q e t = let same : q ≡ u = cc in d.0.answers (ap B (sym same) ∙ t)
    answers_of (also j js) (u ∷ qs) (a ∷ given) (also_state s subs) n d (suc i) q e t = answers_of js qs given subs (suc n) d.1 i q e t
    answers_of _ _ _ _ n d i q e t = absurd d

    -- as part of the caller's instant
    module _ (b : Bool) (row : Row) (jw : Called) where
      abbrev now : Instant
      now = instant b row jw

      abbrev IsFedBy : Site → Call → Type 0
      IsFedBy s q = (B q ≡ is_on s.base now) × (I q ≡ inputs_given p s.args (node_at p s.node) s.args s.base 0 now past)

      pub each_call : (f : Node) (c : Class) → ((s : Site) (q : Call) (n : ℕ) → IsCall p f c s q n → IsFedBy s q)
          → (js : Called) (ss : List Site) (qs : List Call) (given : List Ask) (subs : States) (n : ℕ)
          → AreCalls p f c ss qs n → AllDone js qs given subs n → ((i : ℕ) → called_at jw (n + i) ≡ called_at js i) → EachCall p js ss now past
      each_call f c fed nobody [] [] [] no_state n k d h = tt
      each_call f c fed nobody (s ∷ ss) [] given subs n k d h = absurd k
      each_call f c fed (also j js) [] (q ∷ qs) given subs n k d h = absurd k
      each_call f c fed (also j js) (s ∷ ss) (q ∷ qs) (a ∷ given) (also_state st subs) n k d h =
          let here : n ≡ n + 0 = omega arith in (
            record {
              numbered = ap (called_at jw) (k.0.number ∙ here) ∙ h 0;
              base = d.0.base ∙ (fed s q n k.0).0;
              inputs = ap (λ g. take (node_at p g).inputs (row_of j)) (sym k.0.node) ∙ d.0.inputs ∙ (fed s q n k.0).1;
            },
            subst (λ g. IsInstant p j g (called_world s.number past)) k.0.node (subst (λ m. IsInstant p j q.node (called_world m past)) (sym k.0.number) d.0.is_instant),
            each_call f c fed js ss qs given subs (suc n) k.1 d.1 (λ i. let there : suc n + i ≡ n + suc i = omega arith in ap (called_at jw) there ∙ h (suc i)),
          )
      each_call f c fed _ _ _ _ _ n k d h = absurd d

      pub stand_after : (js : Called) (qs : List Call) (given : List Ask) (subs : States) (n : ℕ) → AllDone js qs given subs n
          → ((i : ℕ) → called_at jw (n + i) ≡ called_at js i) → StatesStand classes subs qs n (now ∷ past)
      stand_after nobody [] [] no_state n d h = tt
      stand_after (also j js) (q ∷ qs) (a ∷ given) (also_state s subs) n d h =
          let here : n ≡ n + 0 = omega arith in (
            subst (λ z. StandsFor classes s q.node (z ∷ called_world n past)) (sym (ap (called_at jw) here ∙ h 0)) d.0.stands,
            stand_after js qs given subs (suc n) d.1 (λ i. let there : suc n + i ≡ n + suc i = omega arith in ap (called_at jw) there ∙ h (suc i)),
          )
      stand_after _ _ _ _ n d h = absurd d

  -- the calls of node g at a row
  module _ (g : ℕ) (r : Row) (past : World) where
    abbrev f : Node
    f = node_at p g

    abbrev c : Class
    c = class_at classes g

    abbrev pub base_at : Call → Bool
    base_at q = is_on_row q.base r

    abbrev pub inputs_at : Call → Row
    inputs_at q = passed q.arguments r

    abbrev FitsWhereOn : Call → Type 0
    FitsWhereOn q = base_at q ≡ true → Fits (node_at p q.node) (inputs_at q)

    abbrev ask_of : State → Call → Ask
    ask_of s q t = asked (is_on_row q.base t) s (λ i. step classes s q.node i) (passed q.arguments t)

    call_done : (s : State) (q : Call) (t : Site) (n : ℕ) (after : State) (row : Row) → IsCall p f c t q n → Lawful s q.node
        → StandsFor classes s q.node (called_world n past) → FitsWhereOn q → ask_of s q r ≡ Some (row, after)
        → (j : Instant) × Done q after (ask_of s q) n past (base_at q) (inputs_at q) r j
    call_done s q t n after row k law st fits h = go (base_at q) refl h
      where
        go : (b : Bool) → base_at q ≡ b → asked b s (λ i. step classes s q.node i) (inputs_at q) ≡ Some (row, after)
            → (j : Instant) × Done q after (ask_of s q) n past (base_at q) (inputs_at q) r j
        go true e answer =
            let d = law.gives (called_world n past) st (inputs_at q) row after (fits e) answer in
            (instant true row d.0, record { is_instant = d.1; base = sym e; inputs = d.2; answers = λ u. (after, h); stands = d.3 })
        go false e answer =
            let d = law.rests (called_world n past) st in
            let same_state : s ≡ after = (some_pair_parts [] row s after answer).1 in (
              quiet q.node d.0,
              record {
                is_instant = d.1;
                base = sym e;
                inputs = take-replicate (node_at p q.node).inputs (width q.node) None (ok q.node).narrow
                    ∙ ap absent (ap (λ m. (node_at p m).inputs) k.node ∙ sym k.arity)
                    ∙ sym (passed_off p f c r t.args q.arguments (node_at p t.node) t.args t.base 0 k.arguments (ap (λ l. is_on_row l r) (sym k.base) ∙ e));
                answers = λ u. (after, absurd (never (sym e ∙ u)));
                stands = subst (λ z. StandsFor classes z q.node (quiet q.node d.0 ∷ called_world n past)) same_state d.2;
              },
            )

    pub calls_done : (subs : States) (qs : List Call) (ts : List Site) (n : ℕ) (afters : States) → AreCalls p f c ts qs n → EachLawful subs qs
        → StatesStand classes subs qs n past → Each FitsWhereOn qs → states_after (asks classes subs qs) r ≡ Some afters
        → (js : Called) × AllDone base_at inputs_at r past js qs (asks classes subs qs) afters n
    calls_done no_state [] ts n afters k laws st fits h = (nobody, subst (λ z. AllDone base_at inputs_at r past nobody [] [] z n) (let e : no_state ≡ afters = cc in e) tt)
    calls_done no_state (q ∷ qs) ts n afters k laws st fits h = absurd st
    calls_done (also_state s subs) [] ts n afters k laws st fits h = absurd st
    calls_done (also_state s subs) (q ∷ qs) [] n afters k laws st fits h = absurd k
    calls_done (also_state s subs) (q ∷ qs) (t ∷ ts) n afters k laws st fits h =
        let b = together (ask_of s q r) (states_after (asks classes subs qs) r) afters h in
        let rest = calls_done subs qs ts (suc n) b.rest k.1 laws.1 st.1 fits.1 b.answers in
        let first = call_done s q t n b.first b.row k.0 laws.0 st.0 fits.0 b.answer in
        (also first.0 rest.0, subst (λ z. AllDone base_at inputs_at r past (also first.0 rest.0) (q ∷ qs) (asks classes (also_state s subs) (q ∷ qs)) z n) b.whole (first.1, rest.1))

    pub each_fits : PresentOnClocks f (at_row r) → (ts : List Site) (qs : List Call) (n : ℕ) → AreCalls p f c ts qs n → Each FitsWhereOn qs
    each_fits presence [] [] n k = tt
    each_fits presence [] (q ∷ qs) n k = absurd k
    each_fits presence (t ∷ ts) [] n k = absurd k
    each_fits presence (t ∷ ts) (q ∷ qs) n k = (arguments_fit p f c r presence t q n k.0, each_fits presence ts qs (suc n) k.1)

    pub fed_here : (js : Called) (t : Site) (q : Call) (n : ℕ) → IsCall p f c t q n
        → (base_at q ≡ is_on t.base (instant true r js)) × (inputs_at q ≡ inputs_given p t.args (node_at p t.node) t.args t.base 0 (instant true r js) past)
    fed_here js t q n k = (
      is_on_row_is q.base r js ∙ ap (λ l. is_on l (instant true r js)) k.base,
      passed_is_given p f c r js past t.args q.arguments (node_at p t.node) t.args t.base 0 k.arguments,
    )

    -- at an instant of the node, each call answers its called instant
    record Asked (s : State) (q : Call) (j : Instant) : Type 0 where
      pub row : Row
      pub after : State
      pub answer : ask_of s q r ≡ Some (row, after)
      pub same : base_at q ≡ true → row ≡ row_of j

    call_found : (s : State) (q : Call) (t : Site) (n : ℕ) (js : Called) (j : Instant) → IsCall p f c t q n → Lawful s q.node
        → StandsFor classes s q.node (called_world n past) → IsFed p t j (instant true r js) past → IsInstant p j t.node (called_world t.number past) → Asked s q j
    call_found s q t n js (instant b row inner) k law st fed is = go (base_at q) refl
      where
        go : (z : Bool) → base_at q ≡ z → Asked s q (instant b row inner)
        go false e = record { row = []; after = s; answer = ap (λ z. asked z s (λ i. step classes s q.node i) (inputs_at q)) e; same = λ u. absurd (never (sym e ∙ u)) }
        go true e =
            let base_on : b ≡ true = fed.base ∙ sym (fed_here js t q n k).0 ∙ e in
            let there = subst (λ z. IsInstant p (instant z row inner) q.node (called_world n past)) base_on
            (subst (λ m. IsInstant p (instant b row inner) q.node (called_world m past)) k.number (subst (λ m. IsInstant p (instant b row inner) m (called_world t.number past)) (sym k.node) is)) in
            let found = law.finds (called_world n past) st row inner there in
            let inputs : take (node_at p q.node).inputs row ≡ inputs_at q = ap (λ m. take (node_at p m).inputs row) k.node ∙ fed.inputs ∙ sym (fed_here js t q n k).1 in
            record {
              row = row;
              after = found.0;
              answer = ap (λ z. asked z s (λ i. step classes s q.node i) (inputs_at q)) e ∙ ap (step classes s q.node) (sym inputs) ∙ found.1;
              same = λ u. refl;
            }

    pub record AllAsked (subs : States) (qs : List Call) (js : Called) : Type 0 where
      pub states : States
      pub after : states_after (asks classes subs qs) r ≡ Some states
      pub answers : (i : ℕ) (q : Call) → slice_get qs i ≡ Some q → base_at q ≡ true
          → (s : State) × (item silent (asks classes subs qs) i r ≡ Some (row_of (called_at js i), s))

    answers_two : (s : State) (subs : States) (q : Call) (qs : List Call) (j : Instant) (js : Called) → Asked s q j → AllAsked subs qs js
        → (i : ℕ) (u : Call) → slice_get (q ∷ qs) i ≡ Some u → base_at u ≡ true
        → (after : State) × (item silent (asks classes (also_state s subs) (q ∷ qs)) i r ≡ Some (row_of (called_at (also j js) i), after))
    answers_two s subs q qs j js a rest zero u e t =
        let same_call : q ≡ u = cc in
        (a.after, a.answer ∙ ap (λ z. Some (z, a.after)) (a.same (ap base_at same_call ∙ t)))
    answers_two s subs q qs j js a rest (suc i) u e t = rest.answers i u e t

    pub calls_found : (subs : States) (qs : List Call) (ts : List Site) (n : ℕ) (jw js : Called) → AreCalls p f c ts qs n → EachLawful subs qs
        → StatesStand classes subs qs n past → EachCall p js ts (instant true r jw) past → AllAsked subs qs js
    calls_found no_state [] ts n jw js k laws st each = record { states = no_state; after = refl; answers = λ i q e u. absurd (cc) }
    calls_found no_state (q ∷ qs) ts n jw js k laws st each = absurd st
    calls_found (also_state s subs) [] ts n jw js k laws st each = absurd st
    calls_found (also_state s subs) (q ∷ qs) [] n jw js k laws st each = absurd k
    calls_found (also_state s subs) (q ∷ qs) (t ∷ ts) n jw nobody k laws st each = absurd each
    calls_found (also_state s subs) (q ∷ qs) (t ∷ ts) n jw (also j js) k laws st each =
        let a = call_found s q t n jw j k.0 laws.0 st.0 each.0 each.1 in
        let rest = calls_found subs qs ts (suc n) jw js k.1 laws.1 st.1 each.2 in
        record {
          states = also_state a.after rest.states;
          after = ap (option_and_then (λ z. option_map (λ ss. also_state z.1 ss) (states_after (asks classes subs qs) r))) a.answer ∙ ap (option_map (λ ss. also_state a.after ss)) rest.after;
          answers = answers_two s subs q qs j js a rest;
        }

    -- where the base of the node is absent all calls rest
    abbrev pub base_off : Call → Bool
    base_off q = false

    abbrev pub inputs_off : Call → Row
    inputs_off q = absent (length q.arguments)

    pub fed_off : (row : Row) (js : Called) (t : Site) (q : Call) (n : ℕ) → IsCall p f c t q n
        → (base_off q ≡ is_on t.base (instant false row js)) × (inputs_off q ≡ inputs_given p t.args (node_at p t.node) t.args t.base 0 (instant false row js) past)
    fed_off row js t q n k = (sym (off t.base row js), given_off p f c row js past t.args q.arguments (node_at p t.node) t.args t.base 0 k.arguments)

    pub calls_rest : (subs : States) (qs : List Call) (ts : List Site) (n : ℕ) → AreCalls p f c ts qs n → EachLawful subs qs → StatesStand classes subs qs n past
        → (js : Called) × AllDone base_off inputs_off r past js qs (asks classes subs qs) subs n
    calls_rest no_state [] ts n k laws st = (nobody, tt)
    calls_rest no_state (q ∷ qs) ts n k laws st = absurd st
    calls_rest (also_state s subs) [] ts n k laws st = absurd st
    calls_rest (also_state s subs) (q ∷ qs) [] n k laws st = absurd k
    calls_rest (also_state s subs) (q ∷ qs) (t ∷ ts) n k laws st =
        let d = laws.0.rests (called_world n past) st.0 in
        let rest = calls_rest subs qs ts (suc n) k.1 laws.1 st.1 in (
          also (quiet q.node d.0) rest.0,
          (
            record {
              is_instant = d.1;
              base = refl;
              inputs = take-replicate (node_at p q.node).inputs (width q.node) None (ok q.node).narrow ∙ ap absent (ap (λ m. (node_at p m).inputs) k.0.node ∙ sym k.0.arity);
              answers = λ u. (s, absurd (never u));
              stands = d.2;
            },
            rest.1,
          ),
        )
