-- Code of segments and stores makes the instants of its class, whatever its calls are that do what they ask.
use Rattle.std.proofs.Common.{◌≡◌, ◌∙◌, ℕ, zero, suc, ◌≤◌, nat_lt, Bool, List, [], ◌∷◌, length, take, drop, Option, Some, None, is_some, slice_get, refl, sym, ap, ap₂, subst, arith}
use Rattle.std.proofs.Math.Logic.{inl, inr}
use Rattle.std.specs.Prelude.{option_map}
use Rattle.std.specs.Option.{IfSome, option_and_then}
use Rattle.std.proofs.lemmas.Bool.{ltb-false}
use Rattle.std.proofs.lemmas.Option.{slice_get_within}
use Rattle.lus_values.specs.Lists.{item, Each}
use Rattle.lus_values.specs.Values.{Value, Row}
use Rattle.lus_streams.specs.Clocks.{Clock}
use Rattle.lus_streams.specs.Order.{clock_variables}
use Rattle.lus_streams.proofs.Lists.{each_all}
use Rattle.lus_classes.specs.Classes.{class_at, clock_in}
use Rattle.lus_classes.specs.Classes.{Class as PlainClass}
use Rattle.lus_classes.specs.ClassesOf.{InTurn}
use Rattle.lus_classes.specs.States.{State, States, also_state, state}
use Rattle.lus_classes.specs.Steps.{Ask, answer_after, first_row, instant_of, run_steps, state_after, states_after}
use Rattle.lus_classes.proofs.Rows.{Agree, is_on_row_same}
use Rattle.lus_classes.specs.Played.{GivenOnClocks}
use Rattle.lus_orders.specs.declared.class.Call.{Call}
use Rattle.lus_orders.specs.declared.class.Class.{Class}
use Rattle.lus_orders.specs.Orders.{Board, Calls, after, exec}
use Rattle.lus_orders.specs.Classes.{begun, calls_of}
use Rattle.lus_orders.specs.Made.{AllAnswer, AreRealised, AsksAgree, Begins, FitsClass, Makes, StateOf, read_of, states_with}
use Rattle.lus_orders.specs.Segments.{IsCodeOf, Stored, code_made, kept, own_cells, own_flags, wide}
use Rattle.lus_orders.proofs.Going.{Going, NextGoing, all_go, all_played, played}
use Rattle.lus_orders.proofs.Obeyed.{exec_append}
use Rattle.lus_orders.proofs.Rows.{item_past, part_behind}

-- the row before the first step
first_is : (ks : List Clock) (n : ℕ) (i : Row) → length ks ≤ n → first_row ks i ≡ take (length ks) (begun n i)
first_is [] n i le = refl
first_is (k ∷ ks) zero i le = absurd (omega arith)
first_is (k ∷ ks) (suc n) [] le = ap (λ (l : Row). None ∷ l) (first_is ks n [] (omega arith))
first_is (k ∷ ks) (suc n) (v ∷ i) le = ap (λ (l : Row). v ∷ l) (first_is ks n i (omega arith))

none_first : (ks : List Clock) (x : ℕ) → item None (first_row ks []) x ≡ None
none_first [] x = refl
none_first (k ∷ ks) zero = refl
none_first (k ∷ ks) (suc x) = none_first ks x

first_item : (ks : List Clock) (i : Row) (x : ℕ) → length i ≤ length ks → item None (first_row ks i) x ≡ item None i x
first_item [] [] x le = refl
first_item [] (v ∷ i) x le = absurd (omega arith)
first_item (k ∷ ks) [] x le = none_first (k ∷ ks) x
first_item (k ∷ ks) (v ∷ i) zero le = refl
first_item (k ∷ ks) (v ∷ i) (suc x) le = first_item ks i x (omega arith)

-- rows that hold the same are both on clocks
given_same : (c : PlainClass) (r t : Row) → ((x : ℕ) → Agree t r x) → GivenOnClocks c r → GivenOnClocks c t
given_same c r t agree given x some =
    is_on_row_same (clock_in c x) t r (each_all (Agree t r) agree (clock_variables (clock_in c x))) ∙ given x (sym (ap is_some (agree x)) ∙ some)

-- states are read out of the calls' own cells
states_behind : (f : StateOf) (a : ℕ) (qs : List Call) (xs ys : List Value) → Each (λ q. a ≤ q.cells) qs → drop a xs ≡ drop a ys → states_with f qs xs ≡ states_with f qs ys
states_behind f a [] xs ys all same = refl
states_behind f a (q ∷ qs) xs ys all same =
    ap₂ also_state (ap (f q.node) (part_behind q.cells q.length a xs ys all.0 same)) (states_behind f a qs xs ys all.1 same)

module _ (k : PlainClass) (us : List Value) (fs : List Bool) (given : List Ask) where
  abbrev answer_of : Row × States → Row × State
  answer_of a = (a.0, state_after k us fs given a.0 a.1)

  one_kept : (t : Row) (o : Option States) → option_map {U = Row × State} (λ ss. (t, state_after k us fs given t ss)) o ≡ option_map answer_of (option_map {U = Row × States} (λ ss. (t, ss)) o)
  one_kept t None = refl
  one_kept t (Some ss) = refl

  instant_is : (inputs first : Row) → first_row k.clocks inputs ≡ first
      → instant_of k us fs given inputs
      ≡ option_map answer_of (option_and_then (λ t. option_map {U = Row × States} (λ ss. (t, ss)) (states_after given t)) (run_steps k us fs given k.steps first))
  instant_is inputs first e =
      ap (λ r. option_and_then (answer_after k us fs given) (run_steps k us fs given k.steps r)) e
      ∙ by (run_steps k us fs given k.steps first)
    where
      by : (o : Option Row) → option_and_then (answer_after k us fs given) o
          ≡ option_map answer_of (option_and_then (λ t. option_map {U = Row × States} (λ ss. (t, ss)) (states_after given t)) o)
      by None = refl
      by (Some t) = one_kept t (states_after given t)

module _ (plain : List PlainClass) (classes : List Class) (g : ℕ) (c : Class) (there : slice_get classes g ≡ Some c) (code : IsCodeOf plain classes (class_at plain g) c)
    (f : StateOf) (vs : List Value) (inputs row : Row) (vs_long : length vs ≡ c.cells) (fits : FitsClass plain g inputs)
    (begins : Begins c.own (length (class_at plain g).clocks) inputs row) (does : Calls) (given : List Ask)
    (agree : AsksAgree (class_at plain g) given) (many : length given ≡ length c.calls.items)
    (answers : AllAnswer plain classes (FitsClass plain) f (length (class_at plain g).clocks) vs c.calls.items does given) where
  abbrev k : PlainClass
  k = class_at plain g

  abbrev w : ℕ
  w = wide k

  abbrev first : Row
  first = take w row

  abbrev end : Option Board
  end = after c.others.items vs does c.code.items 0 (vs, row)

  first_same : first_row k.clocks inputs ≡ first
  first_same = first_is k.clocks c.own inputs code.own ∙ sym begins.same

  seen : (x : ℕ) → item None first x ≡ item None inputs x
  seen x = ap (λ (r : Row). item None r x) (sym first_same) ∙ first_item k.clocks inputs x (let a = code.inputs in let b = fits.0 in omega (arith, a, b))

  start : Going plain classes f g c code vs vs_long given does agree many answers first code.segments vs row
  start = record {
    long = begins.long;
    same = ap (λ ss. run_steps k (own_cells k vs) (own_flags k vs) given ss first) code.steps;
    known = λ x. nat_lt x k.inputs;
    turn = subst (λ ss. InTurn k ss (λ x. nat_lt x k.inputs)) (sym code.steps) code.turns;
    unknown = λ x u. seen x ∙ item_past x inputs (let a = ltb-false x k.inputs u in let b = fits.0 in omega (arith, a, b));
    on = given_same k inputs first seen fits.1;
    once = code.once;
    cells = refl;
    own = refl;
    waits = λ n q found m. refl;
    holds = λ n q found over t is. absurd (over (code.every n (slice_get_within c.calls.items n q found)));
  }

  all : NextGoing plain classes f g c code vs vs_long given does agree many answers first [] (exec c.others.items vs does (code_made code.segments) 0 (vs, row))
  all = all_go plain classes f g c code vs vs_long given does agree many answers first code.segments code.make vs row start

  instant_played : instant_of k (own_cells k vs) (own_flags k vs) given inputs
      ≡ option_map (answer_of k (own_cells k vs) (own_flags k vs) given) (played plain classes f g c code vs vs_long given does agree many answers first)
  instant_played = instant_is k (own_cells k vs) (own_flags k vs) given inputs first first_same

  end_is : end ≡ option_map (λ s. s.1) (option_and_then (λ (s : ℕ × Board). exec c.others.items vs does code.stores s.0 s.1) (exec c.others.items vs does (code_made code.segments) 0 (vs, row)))
  end_is =
      sym (ap (λ os. after c.others.items vs does os 0 (vs, row)) code.code)
      ∙ ap (option_map (λ s. s.1)) (exec_append c.others.items vs does code.stores (code_made code.segments) 0 (vs, row))

  calls_are : calls_of classes g ≡ c.calls.items
  calls_are = ap (λ o. elim o [ None ↦ [] | Some x ↦ x.calls.items ]) there

  made : Makes plain classes (FitsClass plain) f g given vs inputs end
  made = by all
    where
      by : NextGoing plain classes f g c code vs vs_long given does agree many answers first [] (exec c.others.items vs does (code_made code.segments) 0 (vs, row))
          → Makes plain classes (FitsClass plain) f g given vs inputs end
      by (inl none) =
          let nothing : end ≡ None = end_is ∙ ap (λ o. option_map (λ s. s.1) (option_and_then (λ (s : ℕ × Board). exec c.others.items vs does code.stores s.0 s.1) o)) none.0 in
          record {
            answers = instant_played ∙ ap (option_map (answer_of k (own_cells k vs) (own_flags k vs) given)) none.1 ∙ sym (ap (option_map (read_of plain classes f g)) nothing);
            long = subst (λ o. IfSome o (λ u. length u.0 ≡ length vs)) (sym nothing) tt;
          }
      by (inr to) =
          let go = to.going in
          let store : Stored k vs to.cells to.row (exec c.others.items vs does code.stores 0 (to.cells, to.row)) =
          code.keep vs does to.cells to.row go.long go.cells (let a = code.laid.own in omega (arith, a, vs_long)) go.own in
          let done : end ≡ Some (store.next, store.row) =
          end_is
          ∙ ap (λ o. option_map (λ s. s.1) (option_and_then (λ (s : ℕ × Board). exec c.others.items vs does code.stores s.0 s.1) o)) to.ended
          ∙ ap (option_map (λ s. s.1)) store.ended in
          let states : states_with f c.calls.items to.cells ≡ states_with f (calls_of classes g) store.next =
          sym (states_behind f (kept k) c.calls.items store.next to.cells code.laid.behind store.behind)
          ∙ ap (λ qs. states_with f qs store.next) (sym calls_are) in
          record {
            answers =
                instant_played
                ∙ ap (option_map (answer_of k (own_cells k vs) (own_flags k vs) given))
                (all_played plain classes f g c code vs vs_long given does agree many answers first to.cells to.row go)
                ∙ (λ i. Some (sym store.same i, state (sym store.cells i) (sym store.flags i) (states i)))
                ∙ sym (ap (option_map (read_of plain classes f g)) done);
            long = subst (λ o. IfSome o (λ u. length u.0 ≡ length vs)) (sym done) (store.long ∙ go.cells);
          }

-- classes whose code is made so are realised
pub codes_realise : (plain : List PlainClass) (classes : List Class) → ((g : ℕ) (c : Class) → slice_get classes g ≡ Some c → IsCodeOf plain classes (class_at plain g) c)
    → AreRealised plain classes (FitsClass plain)
codes_realise plain classes codes g c there =
    let code = codes g c there in
    record {
      calls = code.calls_are;
      realises = λ f vs inputs row long fits begins does given agree many answers.
          made plain classes g c there code f vs inputs row long fits begins does given agree many answers;
    }
