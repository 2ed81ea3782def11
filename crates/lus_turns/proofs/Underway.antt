-- The turns of the variables that an order has so far.
use Rattle.std.proofs.Common.{◌≡◌, ◌∙◌, ◌⊎◌, inl, inr, ℕ, zero, suc, ◌+◌, ◌<◌, ◌≤◌, Bool, true, false, nat_eq, nat_lt, List, [], ◌∷◌, ◌++◌, length, Option, Some, None, IsTrue, if◌then◌else◌, slice_get, refl, sym, ap, subst, arith, true≢false, eq-eqb, ⊎_elim}
use Rattle.std.proofs.lemmas.Bool.{cases_lt, eqb-true, lt-ltb, le-ltb}
use Rattle.lus_values.specs.Lists.{Each}
use Rattle.lus_values.proofs.Lists.{each_found}
use Rattle.lus_program.specs.declared.node.Equation.{Equation as StoredEquation}
use Rattle.lus_program.specs.Programs.{Equation, Node, Program, calls}
use Rattle.lus_program.specs.View.{expression_of, equations_from}
use Rattle.lus_streams.specs.Clocks.{clock_of}
use Rattle.lus_streams.specs.Equations.{Definition, given_by, definition_in, definition_of}
use Rattle.lus_streams.specs.OnClock.{LeftOnClock}
use Rattle.lus_streams.specs.Order.{clock_variables, is_in, needed, needs_right}
use Rattle.lus_streams.proofs.Lists.{each_left, each_right, each_append, each_implies}
use Rattle.lus_order.specs.Uses.{definer}
use Rattle.lus_translation.specs.Forms.{Turn}
use Rattle.lus_normal_form.specs.Ready.{IsReady}
use Rattle.lus_translation.specs.Orders.{AreApart, InOrder, IsGivenBy, IsTurn, in_turn, right_reads}
use Rattle.lus_turns.specs.Adding.{add_to, placed_at}
use Rattle.lus_normal_form.specs.Ready.{DefinesLeft, IsDefined}
use Rattle.lus_turns.proofs.Classes.{defined_past}
use Rattle.lus_turns.proofs.Defining.{definer_defines, definer_first, standing}
use Rattle.lus_turns.proofs.Finding.{ArePlaces, places_kept, same_length}
use Rattle.lus_turns.proofs.Insertion.{Fresh, after, after_in, after_known, at_turn, added_in_order, in_cases, in_left, in_right, or_true, order_rest, true_left, true_right}
use Rattle.lus_turns.proofs.NeededReads.{AllRead, StandsIn, first_reads, later_reads}
use Rattle.lus_turns.proofs.TurnSteps.{placed}

-- the variables of an equation's turn
abbrev pub variables_of : List Turn → ℕ → List ℕ
variables_of [] e = []
variables_of (t ∷ ts) e = if nat_eq t.equation e then t.variables else variables_of ts e

-- a turn has a first variable
abbrev pub HasFirst : Turn → Type 0
HasFirst t = (z : ℕ) × (zs : List ℕ) × (t.variables ≡ z ∷ zs)

-- the left side of a definition
abbrev targets_in : Option Definition → List ℕ
targets_in None = []
targets_in (Some (given_by e n xs k)) = xs

stored_within : (n : ℕ) (qs : List StoredEquation) (i : ℕ) (q : Equation) → slice_get (equations_from n qs) i ≡ Some q → i < length qs
stored_within n [] i q here = cc
stored_within n (r ∷ qs) zero q here = omega arith
stored_within n (r ∷ qs) (suc i) q here = let rest = stored_within (n + calls (expression_of r.right)) qs i q here in omega (arith, rest)

module _ (p : Program) (f : Node) where
  own_by : (b : Bool) (x e : ℕ) (t : Turn) (ts : List Turn) → nat_eq t.equation e ≡ b → IsTrue (is_in (variables_of (add_to ts e x) e) x)
      → IsTrue (is_in (variables_of (if b then record { equation = t.equation; variables = t.variables ++ x ∷ [] } ∷ ts else t ∷ add_to ts e x) e) x)
  own_by true x e t ts is rest =
      subst (λ c. IsTrue (is_in (if c then t.variables ++ x ∷ [] else variables_of ts e) x)) (sym is) (in_right p f t.variables (x ∷ []) x (true_left (nat_eq x x) false (eq-eqb x x refl)))
  own_by false x e t ts is rest = subst (λ c. IsTrue (is_in (if c then t.variables else variables_of (add_to ts e x) e) x)) (sym is) rest

  -- a variable that was added is in the turn of its equation
  own_added : (x e : ℕ) (ts : List Turn) → IsTrue (is_in (variables_of (add_to ts e x) e) x)
  own_added x e [] = subst (λ c. IsTrue (is_in (if c then x ∷ [] else []) x)) (sym (eq-eqb e e refl)) (true_left (nat_eq x x) false (eq-eqb x x refl))
  own_added x e (t ∷ ts) = own_by (nat_eq t.equation e) x e t ts refl (own_added x e ts)

  wider : (c : Bool) (y x : ℕ) (xs rest : List ℕ) → IsTrue (is_in (if c then xs else rest) y) → IsTrue (is_in (if c then xs ++ x ∷ [] else rest) y)
  wider true y x xs rest h = in_left p f xs (x ∷ []) y h
  wider false y x xs rest h = h

  later : (c : Bool) (y : ℕ) (xs rest wide : List ℕ) → (IsTrue (is_in rest y) → IsTrue (is_in wide y)) → IsTrue (is_in (if c then xs else rest) y) → IsTrue (is_in (if c then xs else wide) y)
  later true y xs rest wide k h = h
  later false y xs rest wide k h = k h

  still_by : (b : Bool) (x e d y : ℕ) (t : Turn) (ts : List Turn) → (IsTrue (is_in (variables_of ts d) y) → IsTrue (is_in (variables_of (add_to ts e x) d) y))
      → IsTrue (is_in (variables_of (t ∷ ts) d) y) → IsTrue (is_in (variables_of (if b then record { equation = t.equation; variables = t.variables ++ x ∷ [] } ∷ ts else t ∷ add_to ts e x) d) y)
  still_by true x e d y t ts rest h = wider (nat_eq t.equation d) y x t.variables (variables_of ts d) h
  still_by false x e d y t ts rest h = later (nat_eq t.equation d) y t.variables (variables_of ts d) (variables_of (add_to ts e x) d) rest h

  -- and those that were there still are
  still_added : (x e d y : ℕ) (ts : List Turn) → IsTrue (is_in (variables_of ts d) y) → IsTrue (is_in (variables_of (add_to ts e x) d) y)
  still_added x e d y [] h = absurd (true≢false (sym h))
  still_added x e d y (t ∷ ts) h = still_by (nat_eq t.equation e) x e d y t ts (λ k. still_added x e d y ts k) h

  one_of : (x y : ℕ) → IsTrue (is_in (x ∷ []) y) → y ≡ x
  one_of x y h = or_true (nat_eq y x) false (y ≡ x) (λ e. eqb-true y x e) (λ n. absurd (true≢false (sym n))) h

  only_by : (b : Bool) (x e y : ℕ) (t : Turn) (ts : List Turn) → (IsTrue (is_in (in_turn (add_to ts e x)) y) → (y ≡ x) ⊎ IsTrue (is_in (in_turn ts) y))
      → IsTrue (is_in (in_turn (if b then record { equation = t.equation; variables = t.variables ++ x ∷ [] } ∷ ts else t ∷ add_to ts e x)) y) → (y ≡ x) ⊎ IsTrue (is_in (t.variables ++ in_turn ts) y)
  only_by true x e y t ts rest h =
      ⊎_elim
      (λ first. ⊎_elim (λ own. inr (in_left p f t.variables (in_turn ts) y own)) (λ new. inl (one_of x y new)) (in_cases p f t.variables (x ∷ []) y first))
      (λ behind. inr (in_right p f t.variables (in_turn ts) y behind))
      (in_cases p f (t.variables ++ x ∷ []) (in_turn ts) y h)
  only_by false x e y t ts rest h =
      ⊎_elim
      (λ own. inr (in_left p f t.variables (in_turn ts) y own))
      (λ behind. ⊎_elim (λ same. inl same) (λ old. inr (in_right p f t.variables (in_turn ts) y old)) (rest behind))
      (in_cases p f t.variables (in_turn (add_to ts e x)) y h)

  only_added : (x e y : ℕ) (ts : List Turn) → IsTrue (is_in (in_turn (add_to ts e x)) y) → (y ≡ x) ⊎ IsTrue (is_in (in_turn ts) y)
  only_added x e y [] h = inl (one_of x y h)
  only_added x e y (t ∷ ts) h = only_by (nat_eq t.equation e) x e y t ts (λ k. only_added x e y ts k) h

  in_all_by : (b : Bool) (y : ℕ) (xs rest all : List ℕ) → (IsTrue (is_in rest y) → IsTrue (is_in all y)) → IsTrue (is_in (if b then xs else rest) y) → IsTrue (is_in (xs ++ all) y)
  in_all_by true y xs rest all k h = in_left p f xs all y h
  in_all_by false y xs rest all k h = in_right p f xs all y (k h)

  pub in_all : (ts : List Turn) (d y : ℕ) → IsTrue (is_in (variables_of ts d) y) → IsTrue (is_in (in_turn ts) y)
  in_all [] d y h = h
  in_all (t ∷ ts) d y h = in_all_by (nat_eq t.equation d) y t.variables (variables_of ts d) (in_turn ts) (λ k. in_all ts d y k) h

  known_by : (b : Bool) (y : ℕ) (one other : ℕ → Bool) → IsTrue (one y) → IsTrue (other y) → IsTrue ((if b then one else other) y)
  known_by true y one other h k = h
  known_by false y one other h k = k

  -- what is known first is known at each turn
  known_there : (ts : List Turn) (e : ℕ) (known : ℕ → Bool) (y : ℕ) → IsTrue (known y) → IsTrue (at_turn ts e known y)
  known_there [] e known y h = h
  known_there (t ∷ ts) e known y h =
      let here = after_known p f t.variables known y h in
      known_by (nat_eq t.equation e) y (after t.variables known) (at_turn ts e (after t.variables known)) here (known_there ts e (after t.variables known) y here)

  own_there_by : (b : Bool) (y : ℕ) (xs rest : List ℕ) (known other : ℕ → Bool) → (IsTrue (is_in rest y) → IsTrue (other y)) → IsTrue (is_in (if b then xs else rest) y) → IsTrue ((if b then after xs known else other) y)
  own_there_by true y xs rest known other k h = after_in p f xs known y h
  own_there_by false y xs rest known other k h = k h

  -- and so are the variables of the turn itself
  own_there : (ts : List Turn) (e : ℕ) (known : ℕ → Bool) (y : ℕ) → IsTrue (is_in (variables_of ts e) y) → IsTrue (at_turn ts e known y)
  own_there [] e known y h = absurd (true≢false (sym h))
  own_there (t ∷ ts) e known y h =
      own_there_by (nat_eq t.equation e) y t.variables (variables_of ts e) known (at_turn ts e (after t.variables known)) (λ k. own_there ts e (after t.variables known) y k) h

  -- a variable of the equation's turn reads what is known there
  record HasHead (q : Equation) (there : ℕ → Bool) : Type 0 where
    head : ℕ
    given : IsGivenBy f q head
    reads : AllRead (λ y. IsTrue (there y)) p f head

  abbrev AllThere : List ℕ → (ℕ → Bool) → Type 0
  AllThere xs there = (y : ℕ) → IsTrue (is_in xs y) → IsTrue (there y)

  same_equation : (e : ℕ) (q : Equation) (t : Turn) → t.equation ≡ e → slice_get f.equations e ≡ Some q → (h : IsTurn f t) → h.equation ≡ q
  same_equation e q t same here h = let both : Some h.equation ≡ Some q = sym h.here ∙ ap (slice_get f.equations) same ∙ here in cc

  head_of : (q : Equation) (e : ℕ) (t : Turn) (ts : List Turn) (known : ℕ → Bool) → t.equation ≡ e → slice_get f.equations e ≡ Some q → IsTurn f t → HasFirst t
      → InOrder p f (t.variables ++ in_turn ts) known → HasHead q (after t.variables known)
  head_of q e t ts known same here turn some h =
      let z = some.0 in
      let given = subst (λ xs. Each (IsGivenBy f turn.equation) xs) some.2 turn.given in
      let order = subst (λ xs. InOrder p f (xs ++ in_turn ts) known) some.2 h in
      record {
        head = z;
        given = subst (λ r. IsGivenBy f r z) (same_equation e q t same here turn) given.0;
        reads = each_implies (λ y. IsTrue (known y)) (λ y. IsTrue (after t.variables known y)) (λ y k. after_known p f t.variables known y k)
            (clock_variables (clock_of f z) ++ right_reads p (definition_of f z)) order.0;
      }

  head_by : (b : Bool) (q : Equation) (e : ℕ) (t : Turn) (ts : List Turn) (known : ℕ → Bool) → nat_eq t.equation e ≡ b → slice_get f.equations e ≡ Some q → IsTurn f t → HasFirst t
      → InOrder p f (t.variables ++ in_turn ts) known
      → HasHead q (at_turn ts e (after t.variables known)) ⊎ AllThere (in_turn ts) (at_turn ts e (after t.variables known))
      → HasHead q (if b then after t.variables known else at_turn ts e (after t.variables known)) ⊎ AllThere (t.variables ++ in_turn ts) (if b then after t.variables known else at_turn ts e (after t.variables known))
  head_by true q e t ts known is here turn some h rest = inl (head_of q e t ts known (eqb-true t.equation e is) here turn some h)
  head_by false q e t ts known is here turn some h rest =
      ⊎_elim (λ found. inl found)
      (λ all. inr (λ y k. ⊎_elim (λ own. known_there ts e (after t.variables known) y (after_in p f t.variables known y own)) (λ behind. all y behind) (in_cases p f t.variables (in_turn ts) y k)))
      rest

  -- the equation's turn has such a variable, or there is none and the variables of all turns are known
  head_or : (q : Equation) (e : ℕ) (ts : List Turn) (known : ℕ → Bool) → slice_get f.equations e ≡ Some q → Each (IsTurn f) ts → Each HasFirst ts → InOrder p f (in_turn ts) known
      → HasHead q (at_turn ts e known) ⊎ AllThere (in_turn ts) (at_turn ts e known)
  head_or q e [] known here turns some h = inr (λ y k. absurd (true≢false (sym k)))
  head_or q e (t ∷ ts) known here turns some h =
      head_by (nat_eq t.equation e) q e t ts known refl here turns.0 some.0 h
      (head_or q e ts (after t.variables known) here turns.1 some.1 (order_rest p f t.variables (in_turn ts) known h))

  turns_by : (b : Bool) (q : Equation) (x e : ℕ) (t : Turn) (ts : List Turn) → nat_eq t.equation e ≡ b → slice_get f.equations e ≡ Some q → IsGivenBy f q x → IsTurn f t → Each (IsTurn f) ts
      → Each (IsTurn f) (add_to ts e x) → Each (IsTurn f) (if b then record { equation = t.equation; variables = t.variables ++ x ∷ [] } ∷ ts else t ∷ add_to ts e x)
  turns_by true q x e t ts is here given turn turns rest = (
    record {
      equation = turn.equation;
      here = turn.here;
      given = each_append (IsGivenBy f turn.equation) t.variables (x ∷ []) turn.given (subst (λ r. IsGivenBy f r x) (sym (same_equation e q t (eqb-true t.equation e is) here turn)) given, tt);
    },
    turns,
  )
  turns_by false q x e t ts is here given turn turns rest = (turn, rest)

  turns_added : (q : Equation) (x e : ℕ) (ts : List Turn) → slice_get f.equations e ≡ Some q → IsGivenBy f q x → Each (IsTurn f) ts → Each (IsTurn f) (add_to ts e x)
  turns_added q x e [] here given turns = (record { equation = q; here = here; given = (given, tt) }, tt)
  turns_added q x e (t ∷ ts) here given turns = turns_by (nat_eq t.equation e) q x e t ts refl here given turns.0 turns.1 (turns_added q x e ts here given turns.1)

  firsts_by : (b : Bool) (x e : ℕ) (t : Turn) (ts : List Turn) → HasFirst t → Each HasFirst ts → Each HasFirst (add_to ts e x)
      → Each HasFirst (if b then record { equation = t.equation; variables = t.variables ++ x ∷ [] } ∷ ts else t ∷ add_to ts e x)
  firsts_by true x e t ts some firsts rest = ((some.0, some.1 ++ x ∷ [], ap (λ xs. xs ++ x ∷ []) some.2), firsts)
  firsts_by false x e t ts some firsts rest = (some, rest)

  firsts_added : (x e : ℕ) (ts : List Turn) → Each HasFirst ts → Each HasFirst (add_to ts e x)
  firsts_added x e [] h = ((x, [], refl), tt)
  firsts_added x e (t ∷ ts) h = firsts_by (nat_eq t.equation e) x e t ts h.0 h.1 (firsts_added x e ts h.1)

  others_by : (P : ℕ → Type 0) (b : Bool) (e x : ℕ) (t : Turn) (ts : List Turn) → P t.equation → Each (λ u. P u.equation) ts → Each (λ u. P u.equation) (add_to ts e x)
      → Each (λ u. P u.equation) (if b then record { equation = t.equation; variables = t.variables ++ x ∷ [] } ∷ ts else t ∷ add_to ts e x)
  others_by P true e x t ts here there rest = (here, there)
  others_by P false e x t ts here there rest = (here, rest)

  -- the equations of turns to which a variable was added
  others_added : (P : ℕ → Type 0) (e x : ℕ) (ts : List Turn) → P e → Each (λ u. P u.equation) ts → Each (λ u. P u.equation) (add_to ts e x)
  others_added P e x [] own all = (own, tt)
  others_added P e x (t ∷ ts) own all = others_by P (nat_eq t.equation e) e x t ts all.0 all.1 (others_added P e x ts own all.1)

  apart_by : (b : Bool) (e x : ℕ) (t : Turn) (ts : List Turn) → nat_eq t.equation e ≡ b → AreApart (t ∷ ts) → AreApart (add_to ts e x)
      → AreApart (if b then record { equation = t.equation; variables = t.variables ++ x ∷ [] } ∷ ts else t ∷ add_to ts e x)
  apart_by true e x t ts is apart rest = apart
  apart_by false e x t ts is apart rest =
      (others_added (λ d. t.equation ≡ d → ⊥) e x ts (λ same. absurd (true≢false (sym (eq-eqb t.equation e same) ∙ is))) apart.0, rest)

  apart_added : (e x : ℕ) (ts : List Turn) → AreApart ts → AreApart (add_to ts e x)
  apart_added e x [] apart = (tt, tt)
  apart_added e x (t ∷ ts) apart = apart_by (nat_eq t.equation e) e x t ts refl apart (apart_added e x ts apart.1)

  -- these turns and places are those of the variables so far, the last first
  pub record Underway (big : ℕ) (qs : List StoredEquation) (earlier : List ℕ) (ts : List Turn) (places : List ℕ) : Type 0 where
    pub turns : Each (IsTurn f) ts
    pub firsts : Each HasFirst ts
    pub apart : AreApart ts
    pub order : InOrder p f (in_turn ts) (λ x. nat_lt x f.inputs)
    pub kept : (y : ℕ) → IsTrue (is_in earlier y) → f.inputs ≤ y → IsTrue (is_in (variables_of ts (definer qs y)) y)
    pub only : (y : ℕ) → IsTrue (is_in (in_turn ts) y) → IsTrue (is_in earlier y)
    pub size : length places ≡ length qs
    pub found : ArePlaces big ts places

  module _ (ready : IsReady p f) (defined : IsDefined p f) (qs : List StoredEquation) (is : f.equations ≡ equations_from 0 qs) where
    -- the equation of a variable that is no input
    record HasDefiner (x : ℕ) : Type 0 where
      equation : Equation
      here : slice_get f.equations (definer qs x) ≡ Some equation
      given : IsGivenBy f equation x

    definer_at : (x : ℕ) → f.inputs ≤ x → x < length f.variables → HasDefiner x
    definer_at x own within =
        let same = ap (λ es. definition_in f es x) is in
        let d = definer_defines f 0 qs x (λ none. defined.every x own within (same ∙ none)) in
        record {
          equation = d.equation;
          here = ap (λ es. slice_get es (definer qs x)) is ∙ d.here;
          given = record { output = d.output; place = d.left; defined = same ∙ d.defined; no_input = own };
        }

    pub definer_within : (x : ℕ) → f.inputs ≤ x → x < length f.variables → definer qs x < length qs
    definer_within x own within = let d = definer_at x own within in stored_within 0 qs (definer qs x) d.equation (ap (λ es. slice_get es (definer qs x)) (sym is) ∙ d.here)

    -- another variable on the left has the same equation
    same_definer : (x y : ℕ) (d : HasDefiner x) → StandsIn d.equation.targets y → f.inputs ≤ y → definer qs y ≡ definer qs x
    same_definer x y d stands own =
        let left = each_found (DefinesLeft f) f.equations (definer qs x) d.equation defined.lefts d.here stands.0 y stands.1 in
        let e = definer_at y own left.0 in
        let same : d.equation.targets ≡ e.equation.targets = ap targets_in (sym left.1 ∙ e.given.defined) in
        let first = definer_first 0 qs (definer qs x) y d.equation (ap (λ es. slice_get es (definer qs x)) (sym is) ∙ d.here) (standing d.equation.targets stands.0 y stands.1) in
        let own_left = standing d.equation.targets d.given.output x (placed x d.equation.targets d.given.output d.given.place) in
        let second = definer_first 0 qs (definer qs y) x e.equation (ap (λ es. slice_get es (definer qs y)) (sym is) ∙ e.here) (subst (λ ts. IsTrue (is_in ts x)) same own_left) in
        omega (arith, first, second)

    module _ (big : ℕ) (earlier : List ℕ) (ts : List Turn) (places : List ℕ) (h : Underway big qs earlier ts places) (x : ℕ) where
      -- an input has no turn
      pub input_next : x < f.inputs → Underway big qs (x ∷ earlier) ts places
      input_next input =
          record {
            turns = h.turns;
            firsts = h.firsts;
            apart = h.apart;
            order = h.order;
            kept = λ y k own. or_true (nat_eq y x) (is_in earlier y) (IsTrue (is_in (variables_of ts (definer qs y)) y))
                (λ e. absurd (let same = eqb-true y x e in omega (arith, same, own, input))) (λ old. h.kept y old own) k;
            only = λ y k. true_right (nat_eq y x) (is_in earlier y) (h.only y k);
            size = h.size;
            found = h.found;
          }

      pub known_earlier : (e y : ℕ) → definer qs y ≡ e → IsTrue (is_in earlier y) → IsTrue (at_turn ts e (λ z. nat_lt z f.inputs) y)
      known_earlier e y same k =
          ⊎_elim (λ input. known_there ts e (λ z. nat_lt z f.inputs) y (lt-ltb y f.inputs input))
          (λ own. own_there ts e (λ z. nat_lt z f.inputs) y (subst (λ d. IsTrue (is_in (variables_of ts d) y)) same (h.kept y k own)))
          (cases_lt y f.inputs)

      all_read : (d : HasDefiner x) → Each (λ y. IsTrue (is_in earlier y)) (needed f x)
          → HasHead d.equation (at_turn ts (definer qs x) (λ z. nat_lt z f.inputs)) ⊎ AllThere (in_turn ts) (at_turn ts (definer qs x) (λ z. nat_lt z f.inputs))
          → AllRead (λ y. IsTrue (at_turn ts (definer qs x) (λ z. nat_lt z f.inputs) y)) p f x
      all_read d needs_known cases =
          let e = definer qs x in
          let There : ℕ → Type 0 = λ y. IsTrue (at_turn ts (definer qs x) (λ z. nat_lt z f.inputs) y) in
          let q = d.equation in
          let lefts = each_found (λ r. LeftOnClock p f r 0 r.targets) f.equations e q ready.on_clocks.lefts d.here in
          ⊎_elim
          (λ found. later_reads There p f q x found.head lefts d.given found.given found.reads
          (each_implies (λ y. IsTrue (is_in earlier y)) (λ y. StandsIn q.targets y → There y)
          (λ y k stands.
          let left = each_found (DefinesLeft f) f.equations e q defined.lefts d.here stands.0 y stands.1 in
          known_earlier e y (same_definer x y d stands (defined_past p f defined y _ left.1)) k)
          (clock_variables (clock_of f x)) (each_left (λ y. IsTrue (is_in earlier y)) (clock_variables (clock_of f x)) (needs_right (definition_of f x)) needs_known)))
          (λ all.
          let known = each_implies (λ y. IsTrue (is_in earlier y)) There
          (λ y k. ⊎_elim (λ input. known_there ts e (λ z. nat_lt z f.inputs) y (lt-ltb y f.inputs input)) (λ own. all y (in_all ts (definer qs y) y (h.kept y k own))) (cases_lt y f.inputs))
          (needed f x) needs_known in
          first_reads There p f q x lefts d.given (each_left There (clock_variables (clock_of f x)) (needs_right (definition_of f x)) known)
          (subst (λ o. Each There (needs_right o)) d.given.defined (each_right There (clock_variables (clock_of f x)) (needs_right (definition_of f x)) known)))
          cases

      -- one more variable that is no input
      pub variable_next : f.inputs ≤ x → x < length f.variables → Fresh x earlier → Each (λ y. IsTrue (is_in earlier y)) (needed f x) → length ts < big
          → Underway big qs (x ∷ earlier) (add_to ts (definer qs x) x) (placed_at places (length ts) (definer qs x))
      variable_next own within fresh needs_known room =
          let e = definer qs x in
          let d = definer_at x own within in
          let few = stored_within 0 qs e d.equation (ap (λ es. slice_get es (definer qs x)) (sym is) ∙ d.here) in
          let low : e < length places = subst (λ n. e < n) (sym h.size) few in
          let cases = head_or d.equation e ts (λ z. nat_lt z f.inputs) d.here h.turns h.firsts h.order in
          record {
            turns = turns_added d.equation x e ts d.here d.given h.turns;
            firsts = firsts_added x e ts h.firsts;
            apart = apart_added e x ts h.apart;
            order = added_in_order p f x e ts (λ z. nat_lt z f.inputs) h.order (le-ltb x f.inputs own) (λ i. fresh (h.only x i)) within (all_read d needs_known cases);
            kept = λ y k no_input. or_true (nat_eq y x) (is_in earlier y) (IsTrue (is_in (variables_of (add_to ts (definer qs x) x) (definer qs y)) y))
                (λ same. subst (λ z. IsTrue (is_in (variables_of (add_to ts (definer qs x) x) (definer qs z)) z)) (sym (eqb-true y x same)) (own_added x e ts))
                (λ old. still_added x e (definer qs y) y ts (h.kept y old no_input)) k;
            only = λ y k. ⊎_elim (λ same. true_left (nat_eq y x) (is_in earlier y) (eq-eqb y x same)) (λ old. true_right (nat_eq y x) (is_in earlier y) (h.only y old)) (only_added x e y ts k);
            size = same_length places (length ts) e ∙ h.size;
            found = places_kept big ts places e x h.found low room;
          }
