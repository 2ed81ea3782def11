-- Code that makes the instants of each class alone makes them with all that is called, whatever the depth.
use Rattle.std.proofs.Common.{◌≡◌, ◌∙◌, ℕ, zero, suc, ◌+◌, ◌≤◌, Bool, true, false, List, [], ◌∷◌, length, take, drop, Option, Some, None, slice_get, refl, sym, ap, ap₂, subst, arith}
use Rattle.std.proofs.Math.Logic.{inl, inr}
use Rattle.std.specs.Prelude.{if◌then◌else◌, option_map}
use Rattle.std.specs.Option.{IfSome, option_and_then}
use Rattle.std.proofs.lemmas.List.{length-drop, length-take-le}
use Rattle.std.proofs.lemmas.Option.{same_Some}
use Rattle.lus_values.specs.Lists.{item, Each}
use Rattle.lus_values.proofs.Lists.{each_found}
use Rattle.lus_values.specs.Values.{Value, Row}
use Rattle.lus_classes.specs.Classes.{class_at}
use Rattle.lus_classes.specs.Classes.{Call as PlainCall, Class as PlainClass}
use Rattle.lus_classes.specs.States.{State}
use Rattle.lus_classes.specs.Steps.{Ask, asked, asks, is_on_row, silent, step}
use Rattle.lus_classes.specs.Steps.{passed as passes}
use Rattle.lus_classes.proofs.Calls.{asks_same}
use Rattle.lus_orders.specs.Looks.{looks}
use Rattle.lus_orders.specs.declared.class.Call.{Call}
use Rattle.lus_orders.specs.declared.class.Class.{Class}
use Rattle.lus_orders.specs.Orders.{Board, after}
use Rattle.lus_orders.specs.Classes.{Nests, back, begun, called, calls_of, follows, follows_class, part, passed}
use Rattle.lus_orders.specs.Made.{AnswersAs, AnswersCall, AnswersIn, AreCallsOf, AreRealised, Begins, CanAnswer, CodeMakesSteps, FitsClass, IsCallOf, Makes, StateOf, called_in, given_asks, no_calls, read_of, state_in, states_with, width}
use Rattle.lus_orders.proofs.Lists.{begun_long}
use Rattle.lus_orders.proofs.Obeyed.{flat_exec}

part_long : {X : Type 0} (from long : ℕ) (xs : List X) → from + long ≤ length xs → length (part from long xs) ≡ long
part_long from long xs le = length-take-le long (drop from xs) (let e = length-drop from xs in omega (arith, e, le))

module _ (plain : List PlainClass) (classes : List Class) (Given : ℕ → Row → Type 0) where
  -- the call of a class and what it asks
  pub record HasPlain (f : StateOf) (w : ℕ) (c : Class) (q : Call) (vs : List Value) (ask : Ask) : Type 0 where
    pub call : PlainCall
    pub is : IsCallOf plain classes Given c w q call
    pub asks_it : (r : Row) → ask r ≡ asked (is_on_row call.base r) (f q.node (part q.cells q.length vs))
        (λ i. step plain (f q.node (part q.cells q.length vs)) call.node i) (passes call.arguments r)

  plain_at : (f : StateOf) (w : ℕ) (c : Class) (qs : List Call) (ps : List PlainCall) (vs : List Value) → AreCallsOf plain classes Given c w qs ps → (n : ℕ) (q : Call) → slice_get qs n ≡ Some q
      → HasPlain f w c q vs (item silent (asks plain (states_with f qs vs) ps) n)
  plain_at f w c [] ps vs all n q found = absurd (cc)
  plain_at f w c (k ∷ qs) [] vs all n q found = absurd all
  plain_at f w c (k ∷ qs) (p ∷ ps) vs all zero q found =
      let same : k ≡ q = same_Some k q found in
      subst (λ (h : Call). HasPlain f w c h vs (item silent (asks plain (states_with f (k ∷ qs) vs) (p ∷ ps)) 0)) same
      (record { call = p; is = all.0; asks_it = λ r. refl })
  plain_at f w c (k ∷ qs) (p ∷ ps) vs all (suc n) q found = plain_at f w c qs ps vs all.1 n q found

  -- what a node's code makes, whose calls are nested within a depth
  abbrev pub MakesSteps : ℕ → Type 0
  MakesSteps d =
      (g : ℕ) (c : Class) → slice_get classes g ≡ Some c → Nests classes (suc d) g → (vs : List Value) (inputs row : Row) → length vs ≡ c.cells → Given g inputs
      → Begins c.own (width plain classes g) inputs row
      → Makes plain classes Given (λ h us. state_in plain classes d h us) g (given_asks plain classes (λ h us. state_in plain classes d h us) g vs) vs inputs
      (follows_class classes d c vs (vs, row))

  module _ (d : ℕ) (below : MakesSteps d) (c : Class) (w : ℕ) (vs : List Value) (long : length vs ≡ c.cells)
      (n : ℕ) (q : Call) (found : slice_get c.calls.items n ≡ Some q) (ask : Ask)
      (has : HasPlain (λ h us. state_in plain classes (suc d) h us) w c q vs ask) (nests : Nests classes (suc d) q.node) where
    abbrev us : List Value
    us = part q.cells q.length vs

    abbrev does : ℕ → List Value → List Value → Row → Option Board
    does = λ h xs ms j. follows classes (suc d) h xs ms j

    abbrev call : Board → Option Board
    call = called does c.calls.items vs n

    us_long : length us ≡ has.is.called.cells
    us_long = part_long q.cells q.length vs (let e : q.cells + q.length ≤ c.cells = has.is.cells in omega (arith, e, long)) ∙ has.is.long

    follows_is : (ms : List Value) (i : Row) → does q.node us ms i ≡ follows_class classes d has.is.called us (ms, begun has.is.called.own i)
    follows_is ms i =
        ap (λ o. elim o [
          | None ↦ None
          | Some k ↦ after k.others.items us (called (λ h xs ts j. follows classes d h xs ts j) k.calls.items us) k.code.items 0 (ms, begun k.own i)
        ]) has.is.found

    -- what a call does whose node's code is followed in a frame
    abbrev in_frame : Bool → List Value → Row → Row → Option Board
    in_frame b ns r frame =
        if b then option_and_then {T = Board} (back q (ns, r)) (follows_class classes d has.is.called us (part q.cells q.length ns, frame)) else Some (ns, r)

    call_is : (b : Bool) (ns : List Value) (r : Row) → looks q.base r ≡ b → call (ns, r) ≡ in_frame b ns r (begun has.is.called.own (passed q.arguments.items r))
    call_is b ns r e =
        ap (λ o. elim o [
          | None ↦ None
          | Some k ↦ if looks k.base r
              then option_and_then {T = Board} (back k (ns, r)) (does k.node (part k.cells k.length vs) (part k.cells k.length ns) (passed k.arguments.items r))
              else Some (ns, r)
        ]) found
        ∙ ap (λ t. if t then option_and_then {T = Board} (back q (ns, r)) (does q.node us (part q.cells q.length ns) (passed q.arguments.items r)) else Some (ns, r)) e
        ∙ ap (λ o. if b then option_and_then {T = Board} (back q (ns, r)) o else Some (ns, r)) (follows_is (part q.cells q.length ns) (passed q.arguments.items r))

    -- it makes the called node's instant and its stores, and gives what its targets are
    answers_as : (frame : Row) (ns : List Value) (r : Row) (end : Option Board) → Begins has.is.called.own (width plain classes q.node) (passed q.arguments.items r) frame
        → ((b : Bool) → looks q.base r ≡ b → end ≡ in_frame b ns r frame) → CanAnswer plain classes Given w vs q ns r
        → AnswersAs plain classes Given (λ h xs. state_in plain classes (suc d) h xs) w vs q ask ns r end
    answers_as frame ns r end begins end_is (wide, same, given) = by (looks q.base r) refl
      where
        s : State
        s = state_in plain classes (suc d) q.node us

        ask_is : (b : Bool) → looks q.base r ≡ b → ask (take w r) ≡ asked b s (λ i. step plain s has.call.node i) (passes has.call.arguments (take w r))
        ask_is b e = has.asks_it (take w r) ∙ ap (λ t. asked t s (λ i. step plain s has.call.node i) (passes has.call.arguments (take w r))) (sym (has.is.base r wide) ∙ e)

        passed_same : passes has.call.arguments (take w r) ≡ passed q.arguments.items r
        passed_same = sym (has.is.passing r wide)

        inner : Option Board
        inner = follows_class classes d has.is.called us (us, frame)

        by : (b : Bool) → looks q.base r ≡ b → AnswersAs plain classes Given (λ h xs. state_in plain classes (suc d) h xs) w vs q ask ns r end
        by false e = inr (inl (record { off = e; answers = ask_is false e; ended = end_is false e }))
        by true e = ends inner refl
          where
            i : Row
            i = passed q.arguments.items r

            made : Makes plain classes Given (λ h xs. state_in plain classes d h xs) q.node (given_asks plain classes (λ h xs. state_in plain classes d h xs) q.node us) us i inner
            made = below q.node has.is.called has.is.found nests us i frame us_long (given e) begins

            asks_now : ask (take w r) ≡ option_map (read_of plain classes (λ h xs. state_in plain classes d h xs) q.node) inner
            asks_now =
                ask_is true e
                ∙ ap₂ (λ (h : ℕ) (j : Row). step plain s h j) has.is.node passed_same
                ∙ made.answers

            end_now : end ≡ option_and_then {T = Board} (back q (ns, r)) inner
            end_now =
                end_is true e
                ∙ ap (λ (ms : List Value). option_and_then {T = Board} (back q (ns, r)) (follows_class classes d has.is.called us (ms, frame))) same

            ends : (o : Option Board) → inner ≡ o → AnswersAs plain classes Given (λ h xs. state_in plain classes (suc d) h xs) w vs q ask ns r end
            ends None o =
                inr (inr (record {
                  answers = asks_now ∙ ap (option_map (read_of plain classes (λ h xs. state_in plain classes d h xs) q.node)) o;
                  ended = end_now ∙ ap (option_and_then {T = Board} (back q (ns, r))) o;
                }))
            ends (Some u) o =
                inl (record {
                  on = e;
                  answer = u.1;
                  new = u.0;
                  long = subst (λ x. IfSome x (λ v. length v.0 ≡ length us)) o made.long ∙ part_long q.cells q.length vs (let l : q.cells + q.length ≤ c.cells = has.is.cells in omega (arith, l, long));
                  answers = asks_now ∙ ap (option_map (read_of plain classes (λ h xs. state_in plain classes d h xs) q.node)) o;
                  ended = end_now ∙ ap (option_and_then {T = Board} (back q (ns, r))) o;
                })

    answers_call : AnswersCall plain classes Given (λ h xs. state_in plain classes (suc d) h xs) w vs q call ask
    answers_call ns r can =
        let i = passed q.arguments.items r in
        answers_as (begun has.is.called.own i) ns r (call (ns, r)) (record { long = begun_long has.is.called.own i; same = refl }) (λ b e. call_is b ns r e) can

    -- code without calls does the same whatever calls do
    answers_in : AnswersIn plain classes Given (λ h xs. state_in plain classes (suc d) h xs) w vs q ask
    answers_in k frame ns r there flat begins can =
        answers_as frame ns r (called_in k q frame vs (ns, r))
        (subst (λ (x : Class). Begins x.own (width plain classes q.node) (passed q.arguments.items r) frame) (sym same) begins) end_is can
      where
        same : has.is.called ≡ k
        same = same_Some has.is.called k (sym has.is.found ∙ there)

        alone : Option Board
        alone = after k.others.items us no_calls k.code.items 0 (part q.cells q.length ns, frame)

        follows_alone : alone ≡ follows_class classes d has.is.called us (part q.cells q.length ns, frame)
        follows_alone =
            ap (option_map (λ x. x.1)) (flat_exec k.others.items us no_calls (called (λ h xs ms j. follows classes d h xs ms j) k.calls.items us) k.code.items flat 0 (part q.cells q.length ns, frame))
            ∙ ap (λ (x : Class). follows_class classes d x us (part q.cells q.length ns, frame)) (sym same)

        end_is : (b : Bool) → looks q.base r ≡ b → called_in k q frame vs (ns, r) ≡ in_frame b ns r frame
        end_is b e =
            ap (λ t. if t then option_and_then {T = Board} (back q (ns, r)) alone else Some (ns, r)) e
            ∙ ap (λ o. if b then option_and_then {T = Board} (back q (ns, r)) o else Some (ns, r)) follows_alone

  asks_long : (f : StateOf) (w : ℕ) (c : Class) (qs : List Call) (ps : List PlainCall) (vs : List Value) → AreCallsOf plain classes Given c w qs ps
      → length (asks plain (states_with f qs vs) ps) ≡ length qs
  asks_long f w c [] [] vs all = refl
  asks_long f w c [] (p ∷ ps) vs all = absurd all
  asks_long f w c (k ∷ qs) [] vs all = absurd all
  asks_long f w c (k ∷ qs) (p ∷ ps) vs all = ap suc (asks_long f w c qs ps vs all.1)

  given_long : (f : StateOf) (g : ℕ) (c : Class) (vs : List Value) → slice_get classes g ≡ Some c → AreCallsOf plain classes Given c (width plain classes g) c.calls.items (class_at plain g).calls
      → length (given_asks plain classes f g vs) ≡ length c.calls.items
  given_long f g c vs found all =
      ap (λ o. length (asks plain (states_with f (elim o [ None ↦ [] | Some k ↦ k.calls.items ]) vs) (class_at plain g).calls)) found
      ∙ asks_long f (width plain classes g) c c.calls.items (class_at plain g).calls vs all

  nests_at : (d g : ℕ) (c : Class) → slice_get classes g ≡ Some c → Nests classes (suc d) g → Each (λ q. Nests classes d q.node) c.calls.items
  nests_at d g c found nests = subst (λ o. Each (λ q. Nests classes d q.node) (elim o [ None ↦ [] | Some k ↦ k.calls.items ])) found nests

  module _ (all : AreRealised plain classes Given) where
    pub makes : (d : ℕ) → MakesSteps d
    makes zero g c found nests vs inputs row long given begins =
        (all g c found).realises (λ h us. state_in plain classes 0 h us) vs inputs row long given begins _ _
        (λ n r t h. asks_same plain (states_with (λ h us. state_in plain classes 0 h us) (calls_of classes g) vs) (class_at plain g).calls n r t h)
        (given_long (λ h us. state_in plain classes 0 h us) g c vs found (all g c found).calls)
        (λ n q at. absurd (each_found (λ p. Nests classes 0 p.node) c.calls.items n q (nests_at 0 g c found nests) at))
    makes (suc d) g c found nests vs inputs row long given begins =
        (all g c found).realises (λ h us. state_in plain classes (suc d) h us) vs inputs row long given begins _ _
        (λ n r t h. asks_same plain (states_with (λ h us. state_in plain classes (suc d) h us) (calls_of classes g) vs) (class_at plain g).calls n r t h)
        (given_long (λ h us. state_in plain classes (suc d) h us) g c vs found (all g c found).calls)
        (λ n q at. (
          answers_call d (makes d) c (width plain classes g) vs long n q at (asks_of n) (has n q at) (nests_here n q at),
          answers_in d (makes d) c (width plain classes g) vs long n q at (asks_of n) (has n q at) (nests_here n q at),
        ))
      where
        asks_of : ℕ → Ask
        asks_of n = item silent (given_asks plain classes (λ h us. state_in plain classes (suc d) h us) g vs) n

        has : (n : ℕ) (q : Call) → slice_get c.calls.items n ≡ Some q → HasPlain (λ h us. state_in plain classes (suc d) h us) (width plain classes g) c q vs (asks_of n)
        has n q at =
            subst (λ qs. HasPlain (λ h us. state_in plain classes (suc d) h us) (width plain classes g) c q vs (item silent (asks plain (states_with (λ h us. state_in plain classes (suc d) h us) qs vs) (class_at plain g).calls) n))
            (sym (ap (λ o. elim o [ None ↦ [] | Some k ↦ k.calls.items ]) found))
            (plain_at (λ h us. state_in plain classes (suc d) h us) (width plain classes g) c c.calls.items (class_at plain g).calls vs (all g c found).calls n q at)

        nests_here : (n : ℕ) (q : Call) → slice_get c.calls.items n ≡ Some q → Nests classes (suc d) q.node
        nests_here n q at = each_found (λ p. Nests classes (suc d) p.node) c.calls.items n q (nests_at (suc d) g c found nests) at

pub code_makes_steps : CodeMakesSteps
code_makes_steps plain classes all d g c found nests vs inputs long given =
    (makes plain classes (FitsClass plain) all d g c found nests vs inputs (begun c.own inputs) long given (record { long = begun_long c.own inputs; same = refl })).answers
