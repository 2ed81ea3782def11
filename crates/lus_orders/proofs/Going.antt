-- The segments of a class's code while they are followed.
use Rattle.std.proofs.Common.{◌≡◌, ◌∙◌, ℕ, zero, suc, ◌+◌, ◌<◌, ◌≤◌, ◌⊎◌, nat_eq, Bool, true, false, IsTrue, List, [], ◌∷◌, ◌++◌, map, length, take, drop, Option, Some, None, slice_get, refl, sym, ap, subst, arith}
use Rattle.std.proofs.Math.Logic.{inl, inr}
use Rattle.std.specs.Prelude.{option_map}
use Rattle.std.specs.Option.{option_and_then}
use Rattle.std.proofs.lemmas.Bool.{eqb-true, eq-eqb}
use Rattle.std.proofs.lemmas.List.{drop-drop, length-append, length-drop, length-take-le}
use Rattle.std.proofs.lemmas.Option.{same_Some, none-some, slice_get_within}
use Rattle.lus_values.specs.Lists.{item, Each}
use Rattle.lus_values.specs.Values.{Value, Row}
use Rattle.lus_values.proofs.Lists.{each_found}
use Rattle.lus_streams.proofs.Lists.{each_implies}
use Rattle.lus_classes.specs.Classes.{Step, call_reads, class_at}
use Rattle.lus_classes.specs.Classes.{Class as PlainClass}
use Rattle.lus_classes.specs.ClassesOf.{InTurn}
use Rattle.lus_classes.specs.States.{State, States, also_state}
use Rattle.lus_classes.specs.Steps.{Ask, run_steps, silent, states_after}
use Rattle.lus_classes.proofs.Rows.{Agree}
use Rattle.lus_classes.proofs.Solving.{stays}
use Rattle.lus_classes.specs.Played.{AreNew, GivenOnClocks, Unknown}
use Rattle.lus_classes.proofs.OnClocks.{steps_given}
use Rattle.lus_orders.specs.declared.order.Order.{Order}
use Rattle.lus_orders.specs.declared.order.Order.TheVariants as orders
use Rattle.lus_orders.specs.declared.class.Target.{Target}
use Rattle.lus_orders.specs.declared.class.Call.{Call}
use Rattle.lus_orders.specs.declared.class.Class.{Class}
use Rattle.lus_orders.specs.Orders.{Board, Calls, Next, exec}
use Rattle.lus_orders.specs.Classes.{bound, part, replaced}
use Rattle.lus_orders.specs.Made.{AllAnswer, AnswersAs, AreCallsOf, AsksAgree, CallFaults, CallMade, CallStays, CanAnswer, FitsClass, StateOf, called_in, states_with}
use Rattle.lus_orders.specs.Segments.{AreOnce, Does, DoesIn, GivesRow, GivesSteps, IsCodeOf, IsSegment, MakesCall, Making, Segment, StandsFor, calls, code_made, gives, kept, own_cells, own_flags, steps_made, taken, unfolds, wide}
use Rattle.lus_orders.proofs.Binding.{bind_is, bound_off}
use Rattle.lus_orders.proofs.Obeyed.{exec_append}
use Rattle.lus_orders.proofs.Rows.{back_of, front_of, part_before, part_behind, put_behind, put_front, sooner}
use Rattle.lus_orders.proofs.Steps.{are_new, bound_given, bound_long, reads_known, run_bound, run_more, steps_ahead, targets_ahead}
use Rattle.lus_orders.proofs.Steps.{bound as bound_in}

module _ {X : Type 0} (from long : ℕ) (new xs : List X) (same : length new ≡ long) (le : from + long ≤ length xs) where
  abbrev rest_of : List X
  rest_of = drop (from + long) xs

  replaced_behind : drop from (replaced from long new xs) ≡ new ++ rest_of
  replaced_behind = put_behind from xs (new ++ rest_of) (omega arith)

  pub replaced_front : take from (replaced from long new xs) ≡ take from xs
  replaced_front = put_front from xs (new ++ rest_of) (omega arith)

  pub replaced_back : drop (from + long) (replaced from long new xs) ≡ rest_of
  replaced_back = sym (drop-drop long from (replaced from long new xs)) ∙ ap (drop long) replaced_behind ∙ back_of long new rest_of (sym same)

  pub replaced_part : part from long (replaced from long new xs) ≡ new
  replaced_part = ap (take long) replaced_behind ∙ front_of long new rest_of (sym same)

  pub replaced_long : length (replaced from long new xs) ≡ length xs
  replaced_long =
      length-append (take from xs) (new ++ rest_of)
      ∙ ap (λ j. length (take from xs) + j) (length-append new rest_of)
      ∙ (let a = length-take-le from xs (omega arith) in let b = length-drop (from + long) xs in omega (arith, a, b, same, le))

nothing_more : (o : Option (Row × State)) → option_and_then (λ (first : Row × State). option_map (λ ss. also_state first.1 ss) None) o ≡ None
nothing_more None = refl
nothing_more (Some a) = refl

-- a call that faults
states_none : (given : List Ask) (t : Row) (n : ℕ) → n < length given → item silent given n t ≡ None → states_after given t ≡ None
states_none [] t n lt h = absurd (omega arith)
states_none (a ∷ given) t zero lt h = ap (option_and_then (λ (first : Row × State). option_map (λ ss. also_state first.1 ss) (states_after given t))) h
states_none (a ∷ given) t (suc n) lt h =
    ap (λ o. option_and_then (λ (first : Row × State). option_map (λ ss. also_state first.1 ss) o) (a t)) (states_none given t n (omega arith) h)
    ∙ nothing_more (a t)

-- the states that all calls answer
states_some : (f : StateOf) (ns : List Value) (t : Row) (given : List Ask) (qs : List Call) → length given ≡ length qs
    → ((n : ℕ) (q : Call) → slice_get qs n ≡ Some q → (a : Row) × (item silent given n t ≡ Some (a, f q.node (part q.cells q.length ns))))
    → states_after given t ≡ Some (states_with f qs ns)
states_some f ns t [] [] long h = refl
states_some f ns t [] (q ∷ qs) long h = absurd (omega arith)
states_some f ns t (a ∷ given) [] long h = absurd (omega arith)
states_some f ns t (a ∷ given) (q ∷ qs) long h =
    ap (option_and_then (λ (first : Row × State). option_map (λ ss. also_state first.1 ss) (states_after given t))) (h 0 q refl).1
    ∙ ap (option_map (λ ss. also_state (f q.node (part q.cells q.length ns)) ss)) (states_some f ns t given qs (omega (arith, long)) (λ n p e. h (suc n) p e))

module _ (plain : List PlainClass) (classes : List Class) (f : StateOf) (g : ℕ) (c : Class) (code : IsCodeOf plain classes (class_at plain g) c)
    (vs : List Value) (vs_long : length vs ≡ c.cells) (given : List Ask) (does : Calls) (agree : AsksAgree (class_at plain g) given) (many : length given ≡ length c.calls.items)
    (answers : AllAnswer plain classes (FitsClass plain) f (length (class_at plain g).clocks) vs c.calls.items does given) where
  abbrev k : PlainClass
  k = class_at plain g

  abbrev w : ℕ
  w = wide k

  abbrev qs : List Call
  qs = c.calls.items

  abbrev us : List Value
  us = own_cells k vs

  abbrev fs : List Bool
  fs = own_flags k vs

  abbrev ran : List Step → Row → Option Row
  ran ss r = run_steps k us fs given ss r

  abbrev runs : List Order → List Value → Row → Next
  runs os ns r = exec c.others.items vs does os 0 (ns, r)

  fits : (n : ℕ) (q : Call) → slice_get qs n ≡ Some q → q.cells + q.length ≤ c.cells
  fits n q found = by qs (class_at plain g).calls code.calls_are n found
    where
      by : (ps : List Call) (rs : _) → AreCallsOf plain classes (FitsClass plain) c w ps rs → (n : ℕ) → slice_get ps n ≡ Some q → q.cells + q.length ≤ c.cells
      by [] rs all n e = absurd (none-some q e)
      by (p ∷ ps) [] all n e = absurd all
      by (p ∷ ps) (r ∷ rs) all zero e = subst (λ (h : Call). h.cells + h.length ≤ c.cells) (same_Some p q e) all.0.cells
      by (p ∷ ps) (r ∷ rs) all (suc n) e = by ps rs all.1 n e

  module _ (first : Row) where
    abbrev pub whole : Option Row
    whole = ran k.steps first

    abbrev pub played : Option (Row × States)
    played = option_and_then (λ t. option_map {U = Row × States} (λ ss. (t, ss)) (states_after given t)) whole

    -- a call's cells are the state that it answers
    abbrev pub Holds : ℕ → Call → Row → List Value → Type 0
    Holds n q t ns = (a : Row) × (item silent given n t ≡ Some (a, f q.node (part q.cells q.length ns)))

    -- these segments are still to be followed: the cells of their calls are as they were, and those of other calls are what the calls answer
    pub record Going (rest : List Segment) (ns : List Value) (row : Row) : Type 0 where
      pub long : length row ≡ c.own
      pub same : ran (steps_made rest) (take w row) ≡ whole
      pub known : ℕ → Bool
      pub turn : InTurn k (steps_made rest) known
      pub unknown : Unknown known (take w row)
      pub on : GivenOnClocks k (take w row)
      pub once : AreOnce rest
      pub cells : length ns ≡ length vs
      pub own : take (kept k) ns ≡ take (kept k) vs
      pub waits : (n : ℕ) (q : Call) → slice_get qs n ≡ Some q → Making n rest → part q.cells q.length ns ≡ part q.cells q.length vs
      pub holds : (n : ℕ) (q : Call) → slice_get qs n ≡ Some q → (Making n rest → ⊥) → (t : Row) → whole ≡ Some t → Holds n q t ns

    pub record Goes (rest : List Segment) (end : Next) : Type 0 where
      pub cells : List Value
      pub row : Row
      pub ended : end ≡ Some (0, (cells, row))
      pub going : Going rest cells row

    abbrev pub NextGoing : List Segment → Next → Type 0
    NextGoing rest end = ((end ≡ None) × (played ≡ None)) ⊎ Goes rest end

    none_played : whole ≡ None → played ≡ None
    none_played e = ap (option_and_then (λ (t : Row). option_map {U = Row × States} (λ ss. (t, ss)) (states_after given t))) e

    -- orders that give variables
    given_goes : (ss : List Step) (os : List Order) (rest : List Segment) → GivesSteps k c.others.items c.own ss os → (ns : List Value) (row : Row) → Going (gives ss os ∷ rest) ns row
        → NextGoing rest (runs os ns row)
    given_goes ss os rest segment ns row go = by (segment vs given does go.known new ns row go.long go.unknown go.on)
      where
        new : AreNew ss go.known
        new = are_new k ss (steps_made rest) go.known go.turn

        whole_is : whole ≡ option_and_then (ran (steps_made rest)) (ran ss (take w row))
        whole_is = sym go.same ∙ run_more k us fs given ss (steps_made rest) (take w row)

        by : ((runs os ns row ≡ None) × (ran ss (take w row) ≡ None)) ⊎ GivesRow k c.own (ran ss (take w row)) ns (runs os ns row) → NextGoing rest (runs os ns row)
        by (inl none) = inl (none.0, none_played (whole_is ∙ ap (option_and_then (ran (steps_made rest))) none.1))
        by (inr to) =
            let ahead = steps_ahead k us fs given ss (steps_made rest) go.known (take w row) (take w to.new) go.turn go.unknown to.ran_to in
            inr (record {
              cells = ns;
              row = to.new;
              ended = to.ended;
              going = record {
                long = to.long;
                same = sym (whole_is ∙ ap (option_and_then (ran (steps_made rest))) to.ran_to);
                known = ahead.0;
                turn = ahead.1;
                unknown = ahead.2;
                on = steps_given k us fs given ss go.known (take w row) (take w to.new) new go.unknown to.ran_to go.on;
                once = go.once;
                cells = go.cells;
                own = go.own;
                waits = go.waits;
                holds = go.holds;
              };
            })

    -- a call that leaves what is told
    module _ (n : ℕ) (ts : List Target) (rest : List Segment) (makes : MakesCall k (λ h. length (class_at plain h).clocks) qs n ts)
        (ns : List Value) (row : Row) (go : Going (calls n ts ∷ rest) ns row) (told : Option Board) where
      abbrev q : Call
      q = makes.call

      abbrev ask : Ask
      ask = item silent given n

      abbrev variables : Row
      variables = take w row

      abbrev end : Next
      end = option_map (λ u. (0, u)) told

      room : w ≤ length row
      room = let a = code.own in let b = go.long in omega (arith, a, b)

      within : q.cells + q.length ≤ length ns
      within = let a = fits n q makes.found in let b = go.cells in omega (arith, a, b, vs_long)

      new_targets : AreNew (map (taken n) ts) go.known
      new_targets = are_new k (map (taken n) ts) (steps_made rest) go.known go.turn

      waiting : part q.cells q.length ns ≡ part q.cells q.length vs
      waiting = go.waits n q makes.found (inl refl)

      -- what the call asks stays the same while later steps are made
      asked_later : (t : Row) → whole ≡ Some t → ask t ≡ ask variables
      asked_later t is =
          agree n t variables
          (each_implies (λ x. IsTrue (go.known x)) (Agree t variables)
          (λ x kx. stays k us fs given agree (map (taken n) ts ++ steps_made rest) go.known variables t go.turn (go.same ∙ is) x kx)
          (call_reads (slice_get k.calls n)) (reads_known k n ts (steps_made rest) go.known go.turn makes.some))

      faults : CallFaults plain classes (FitsClass plain) w ask row told → NextGoing rest end
      faults m = inl (ap (option_map (λ u. (0, u))) m.ended, by whole refl)
        where
          by : (o : Option Row) → whole ≡ o → played ≡ None
          by None is = none_played is
          by (Some t) is =
              ap (option_and_then (λ (r : Row). option_map {U = Row × States} (λ ss. (r, ss)) (states_after given r))) is
              ∙ ap (option_map {U = Row × States} (λ ss. (t, ss)))
              (states_none given t n (let lt = slice_get_within qs n q makes.found in omega (arith, lt, many)) (asked_later t is ∙ m.answers))

      -- behind the call, where the cells are these and the variables those
      module _ (answer : Row) (next : List Value) (t : Row) (is : bound_in k answer ts variables ≡ Some t) (s : State) (asks_it : ask variables ≡ Some (answer, s))
          (cells : length next ≡ length vs) (own : take (kept k) next ≡ take (kept k) vs) (here : f q.node (part q.cells q.length next) ≡ s)
          (others : (j : ℕ) (p : Call) → slice_get qs j ≡ Some p → (j ≡ n → ⊥) → part p.cells p.length next ≡ part p.cells p.length ns) where
        abbrev new : Row
        new = t ++ drop w row

        long_front : length t ≡ w
        long_front = bound_long k answer ts variables t is ∙ length-take-le w row room

        front : take w new ≡ t
        front = front_of w t (drop w row) (sym long_front)

        long_new : length new ≡ length row
        long_new = length-append t (drop w row) ∙ (let behind = length-drop w row in let r = room in omega (arith, behind, long_front, r))

        whole_bound : whole ≡ option_and_then (ran (steps_made rest)) (bound_in k answer ts variables)
        whole_bound = sym go.same ∙ run_bound k us fs given agree n ts (steps_made rest) go.known variables answer s go.turn asks_it

        not_here : (j : ℕ) → (j ≡ n → ⊥) → (Making j rest → ⊥) → Making j (calls n ts ∷ rest) → ⊥
        not_here j other over (inl same) = other same
        not_here j other over (inr later) = over later

        holds_next : (j : ℕ) (p : Call) → slice_get qs j ≡ Some p → (Making j rest → ⊥) → (u : Row) → whole ≡ Some u → (b : Bool) → nat_eq j n ≡ b → Holds j p u next
        holds_next j p found over u is_whole true eb =
            let same : j ≡ n = eqb-true j n eb in
            let same_call : q ≡ p = same_Some q p (sym makes.found ∙ ap (slice_get qs) (sym same) ∙ found) in
            subst (λ (x : Call). Holds j x u next) same_call
            (subst (λ i. Holds i q u next) (sym same) (answer, asked_later u is_whole ∙ asks_it ∙ ap (λ z. Some (answer, z)) (sym here)))
        holds_next j p found over u is_whole false eb =
            let other : (j ≡ n → ⊥) = λ same. absurd (let no_way : true ≡ false = sym (eq-eqb j n same) ∙ eb in cc) in
            let before = go.holds j p found (not_here j other over) u is_whole in
            (before.0, before.1 ∙ ap (λ z. Some (before.0, f p.node z)) (sym (others j p found other)))

        going_on : Going rest next new
        going_on =
            let ahead = targets_ahead k us fs given n ts (steps_made rest) go.known answer variables t go.turn go.unknown is in
            record {
              long = long_new ∙ go.long;
              same = ap (ran (steps_made rest)) front ∙ sym (whole_bound ∙ ap (option_and_then (ran (steps_made rest))) is);
              known = ahead.0;
              turn = ahead.1;
              unknown = λ x over. ap (λ (r : Row). item None r x) front ∙ ahead.2 x over;
              on = subst (GivenOnClocks k) (sym front) (bound_given k answer n ts go.known variables t new_targets go.unknown go.on is);
              once = go.once.1;
              cells = cells;
              own = own;
              waits = λ j p found later.
                  others j p found (λ same. go.once.0 (subst (λ x. Making x rest) same later)) ∙ go.waits j p found (inr later);
              holds = λ j p found over u is_whole. holds_next j p found over u is_whole (nat_eq j n) refl;
            }

      none_bound : (answer : Row) (s : State) → ask variables ≡ Some (answer, s) → bound_in k answer ts variables ≡ None → played ≡ None
      none_bound answer s asks_it is =
          none_played (sym go.same ∙ run_bound k us fs given agree n ts (steps_made rest) go.known variables answer s go.turn asks_it
          ∙ ap (option_and_then (ran (steps_made rest))) is)

      stays_off : CallStays plain classes (FitsClass plain) f w q ask vs ns row told → NextGoing rest end
      stays_off m =
          let nothing = bound_off k [] n ts go.known variables new_targets go.unknown (makes.off row room go.on m.off) in
          let same_row : variables ++ drop w row ≡ row = Rattle.std.proofs.lemmas.List.take-append-drop w row in
          inr (record {
            cells = ns;
            row = variables ++ drop w row;
            ended = ap (option_map (λ u. (0, u))) m.ended ∙ ap (λ (r : Row). Some (0, (ns, r))) (sym same_row);
            going = going_on [] ns variables nothing (f q.node (part q.cells q.length vs)) m.answers go.cells go.own (ap (f q.node) waiting) (λ j p found other. refl);
          })

      was_made : CallMade plain classes (FitsClass plain) f w q ask ns row told → NextGoing rest end
      was_made m = by (bound_in k seen ts variables) refl
        where
          seen : Row
          seen = take (length (class_at plain q.node).clocks) m.answer

          next : List Value
          next = replaced q.cells q.length m.new ns

          binds : bound q.targets.items m.answer row ≡ option_map (λ v. v ++ drop w row) (bound_in k seen ts variables)
          binds =
              ap (λ (l : List Target). bound l m.answer row) makes.targets
              ∙ bind_is k (length (class_at plain q.node).clocks) m.answer n ts go.known new_targets makes.each row room go.unknown

          ended : end ≡ option_map (λ u. (0, u)) (option_map {U = Board} (λ t. (next, t)) (option_map (λ v. v ++ drop w row) (bound_in k seen ts variables)))
          ended = ap (option_map (λ u. (0, u))) (m.ended ∙ ap (option_map {U = Board} (λ t. (next, t))) binds)

          others : (j : ℕ) (p : Call) → slice_get qs j ≡ Some p → (j ≡ n → ⊥) → part p.cells p.length next ≡ part p.cells p.length ns
          others j p found other = go_by (code.laid.apart j n p q found makes.found other)
            where
              go_by : (p.cells + p.length ≤ q.cells) ⊎ (q.cells + q.length ≤ p.cells) → part p.cells p.length next ≡ part p.cells p.length ns
              go_by (inl le) = part_before p.cells p.length q.cells next ns le (replaced_front q.cells q.length m.new ns m.long within)
              go_by (inr le) = part_behind p.cells p.length (q.cells + q.length) next ns le (replaced_back q.cells q.length m.new ns m.long within)

          by : (o : Option Row) → bound_in k seen ts variables ≡ o → NextGoing rest end
          by None is =
              inl (
                ended ∙ ap (λ (o : Option Row). option_map (λ u. (0, u)) (option_map {U = Board} (λ t. (next, t)) (option_map (λ v. v ++ drop w row) o))) is,
                none_bound seen (f q.node m.new) m.answers is,
              )
          by (Some t) is =
              inr (record {
                cells = next;
                row = t ++ drop w row;
                ended = ended ∙ ap (λ (o : Option Row). option_map (λ u. (0, u)) (option_map {U = Board} (λ t. (next, t)) (option_map (λ v. v ++ drop w row) o))) is;
                going = going_on seen next t is (f q.node m.new) m.answers
                    (replaced_long q.cells q.length m.new ns m.long within ∙ go.cells)
                    (sooner (kept k) q.cells next ns (each_found (λ p. kept k ≤ p.cells) qs n q code.laid.behind makes.found) (replaced_front q.cells q.length m.new ns m.long within) ∙ go.own)
                    (ap (f q.node) (replaced_part q.cells q.length m.new ns m.long within))
                    others;
              })

      can_answer : CanAnswer plain classes (FitsClass plain) w vs q ns row
      can_answer = (room, waiting, λ on. code.passing n q makes.found row go.long go.on on)

      call_goes : AnswersAs plain classes (FitsClass plain) f w vs q ask ns row told → NextGoing rest end
      call_goes (inl m) = was_made m
      call_goes (inr (inl m)) = stays_off m
      call_goes (inr (inr m)) = faults m

    -- of the places behind the variables nothing is said
    like : (rest : List Segment) (ns : List Value) (r t : Row) → take w t ≡ take w r → length t ≡ c.own → Going rest ns r → Going rest ns t
    like rest ns r t same long go = record {
      long = long;
      same = ap (ran (steps_made rest)) same ∙ go.same;
      known = go.known;
      turn = go.turn;
      unknown = subst (Unknown go.known) (sym same) go.unknown;
      on = subst (GivenOnClocks k) (sym same) go.on;
      once = go.once;
      cells = go.cells;
      own = go.own;
      waits = go.waits;
      holds = go.holds;
    }

    as_call : (n : ℕ) (ts : List Target) (os : List Order) (rest : List Segment) (ns : List Value) (row : Row) → Going (unfolds n ts os ∷ rest) ns row
        → Going (calls n ts ∷ rest) ns row
    as_call n ts os rest ns row go = record {
      long = go.long;
      same = go.same;
      known = go.known;
      turn = go.turn;
      unknown = go.unknown;
      on = go.on;
      once = go.once;
      cells = go.cells;
      own = go.own;
      waits = go.waits;
      holds = go.holds;
    }

    -- orders that stand for a call
    unfolded_goes : (n : ℕ) (ts : List Target) (os : List Order) (rest : List Segment) (makes : MakesCall k (λ h. length (class_at plain h).clocks) qs n ts)
        → StandsFor k classes c.others.items c.own c.cells (length (class_at plain makes.call.node).clocks) makes.call os
        → (ns : List Value) (row : Row) → Going (unfolds n ts os ∷ rest) ns row → NextGoing rest (runs os ns row)
    unfolded_goes n ts os rest makes stands ns row go = by told here.does (call_goes n ts rest makes ns row still told answer)
      where
        still : Going (calls n ts ∷ rest) ns row
        still = as_call n ts os rest ns row go

        here : DoesIn k c.own (length (class_at plain makes.call.node).clocks) stands.class makes.call vs ns row (runs os ns row)
        here = stands.does vs does ns row go.long vs_long (go.cells ∙ vs_long)

        told : Option Board
        told = called_in stands.class makes.call here.frame vs (ns, row)

        answer : AnswersAs plain classes (FitsClass plain) f w vs makes.call (item silent given n) ns row told
        answer =
            (answers n makes.call makes.found).1 stands.class here.frame ns row stands.found stands.flat here.begins (can_answer n ts rest makes ns row still told)

        by : (o : Option Board) → Does k c.own o (runs os ns row) → NextGoing rest (option_map (λ u. (0, u)) o) → NextGoing rest (runs os ns row)
        by None none (inl over) = inl (none, over.1)
        by None none (inr to) = absurd (none-some (0, (to.cells, to.row)) to.ended)
        by (Some u) left (inl over) = absurd (none-some (0, u) (sym over.0))
        by (Some u) left (inr to) =
            let same : (0, u) ≡ (0, (to.cells, to.row)) = same_Some (0, u) (0, (to.cells, to.row)) to.ended in
            let board : u ≡ (to.cells, to.row) = ap (λ (s : ℕ × Board). s.1) same in
            inr (record {
              cells = to.cells;
              row = left.row;
              ended = left.ended ∙ ap (λ (b : Board). Some (0, (b.0, left.row))) board;
              going = like rest to.cells to.row left.row (left.same ∙ ap (λ (b : Board). take w b.1) board) left.long to.going;
            })

    -- a segment and those behind it
    behind_one : (one : List Order) (ss : List Segment) (ns : List Value) (row : Row) → NextGoing ss (runs one ns row)
        → ((ms : List Value) (t : Row) → Going ss ms t → NextGoing [] (runs (code_made ss) ms t))
        → NextGoing [] (runs (code_made ss ++ one) ns row)
    behind_one one ss ns row (inl none) rest =
        inl (exec_append c.others.items vs does (code_made ss) one 0 (ns, row) ∙ ap (option_and_then (λ (s : ℕ × Board). exec c.others.items vs does (code_made ss) s.0 s.1)) none.0, none.1)
    behind_one one ss ns row (inr to) rest =
        subst (NextGoing []) (sym (exec_append c.others.items vs does (code_made ss) one 0 (ns, row) ∙ ap (option_and_then (λ (s : ℕ × Board). exec c.others.items vs does (code_made ss) s.0 s.1)) to.ended)) (rest to.cells to.row to.going)

    -- all segments
    pub all_go : (ss : List Segment) → Each (IsSegment k classes c.others.items (λ h. length (class_at plain h).clocks) qs c.own c.cells) ss → (ns : List Value) (row : Row) → Going ss ns row
        → NextGoing [] (runs (code_made ss) ns row)
    all_go [] all ns row go = inr (record { cells = ns; row = row; ended = refl; going = go })
    all_go (gives mine os ∷ ss) all ns row go = behind_one os ss ns row (given_goes mine os ss all.0 ns row go) (λ ms t going. all_go ss all.1 ms t going)
    all_go (calls n ts ∷ ss) all ns row go =
        let told = does n (ns, row) in
        behind_one (orders.Call n ∷ []) ss ns row
        (call_goes n ts ss all.0 ns row go told ((answers n all.0.call all.0.found).0 ns row (can_answer n ts ss all.0 ns row go told)))
        (λ ms t going. all_go ss all.1 ms t going)
    all_go (unfolds n ts os ∷ ss) all ns row go =
        behind_one os ss ns row (unfolded_goes n ts os ss all.0.0 all.0.1 ns row go) (λ ms t going. all_go ss all.1 ms t going)

    -- behind all of them
    pub all_played : (ns : List Value) (row : Row) → Going [] ns row → played ≡ Some (take w row, states_with f qs ns)
    all_played ns row go =
        ap (option_and_then (λ (r : Row). option_map {U = Row × States} (λ ss. (r, ss)) (states_after given r))) (sym go.same)
        ∙ ap (option_map {U = Row × States} (λ ss. (take w row, ss))) (states_some f ns (take w row) given qs many (λ n q found. go.holds n q found (λ m. m) (take w row) (sym go.same)))
