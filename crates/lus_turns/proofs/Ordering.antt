-- The turns of all variables of an order are turns of the node.
use Rattle.std.proofs.Common.{◌≡◌, ◌∙◌, ℕ, zero, suc, ◌<◌, ◌≤◌, Bool, true, false, ◌||◌, nat_eq, List, [], ◌∷◌, ◌++◌, length, take, drop, reverse, IsTrue, refl, sym, ap, subst, arith, true≢false, append_assoc, ⊎_elim, le_of_suc-le-suc, not-suc-le-zero}
use Rattle.std.proofs.lemmas.Bool.{eqb-true}
use Rattle.std.proofs.lemmas.List.{reverse-append}
use Rattle.lus_values.specs.Lists.{item, Each}
use Rattle.lus_values.proofs.Lists.{below_at}
use Rattle.lus_program.specs.declared.node.Equation.{Equation as StoredEquation}
use Rattle.lus_program.specs.Programs.{Node, Program}
use Rattle.lus_program.specs.View.{equations_from}
use Rattle.lus_streams.specs.Order.{is_in, needed, HasNeedsFirst}
use Rattle.lus_graph.specs.Ways.{IsDistinct}
use Rattle.lus_order.specs.Orders.{OrdersVariables}
use Rattle.lus_order.specs.Uses.{definer}
use Rattle.lus_translation.specs.Forms.{Turn}
use Rattle.lus_normal_form.specs.Ready.{IsReady}
use Rattle.lus_translation.specs.Orders.{AreTurns}
use Rattle.lus_turns.specs.Adding.{add_at, placed_at}
use Rattle.lus_normal_form.specs.Ready.{IsDefined}
use Rattle.lus_turns.proofs.Finding.{add_found}
use Rattle.lus_turns.proofs.Insertion.{Fresh, in_cases, or_true}
use Rattle.lus_turns.proofs.Underway.{Underway, definer_within, in_all, input_next, variable_next}

-- a list up to a place, that item and the rest
pub split_at : (i : ℕ) (xs : List ℕ) → i < length xs → xs ≡ take i xs ++ item 0 xs i ∷ drop (suc i) xs
split_at i [] lt = elim (not-suc-le-zero lt) [ ]
split_at zero (x ∷ xs) lt = refl
split_at (suc i) (x ∷ xs) lt = ap (λ l. x ∷ l) (split_at i xs (le_of_suc-le-suc lt))

pub taken_next : (i : ℕ) (xs : List ℕ) → i < length xs → take (suc i) xs ≡ take i xs ++ item 0 xs i ∷ []
taken_next i [] lt = elim (not-suc-le-zero lt) [ ]
taken_next zero (x ∷ xs) lt = refl
taken_next (suc i) (x ∷ xs) lt = ap (λ l. x ∷ l) (taken_next i xs (le_of_suc-le-suc lt))

pub reversed_next : (i : ℕ) (xs : List ℕ) → i < length xs → reverse (take (suc i) xs) ≡ item 0 xs i ∷ reverse (take i xs)
reversed_next i xs lt = ap reverse (taken_next i xs lt) ∙ reverse-append (take i xs) (item 0 xs i ∷ [])

pub taken_all : (xs : List ℕ) → take (length xs) xs ≡ xs
taken_all [] = refl
taken_all (x ∷ xs) = ap (λ l. x ∷ l) (taken_all xs)

taken_before : (i : ℕ) (xs : List ℕ) (x : ℕ) → IsTrue (is_in (take i xs) x) → (j : ℕ) × (j < i) × (item 0 xs j ≡ x)
taken_before zero xs x h = absurd (true≢false (sym h))
taken_before (suc i) [] x h = absurd (true≢false (sym h))
taken_before (suc i) (y ∷ ys) x h =
    or_true (nat_eq x y) (is_in (take i ys) x) ((j : ℕ) × (j < suc i) × (item 0 (y ∷ ys) j ≡ x)) (λ e. (0, omega arith, sym (eqb-true x y e)))
    (λ k. let r = taken_before i ys x k in let low = r.1 in (suc r.0, omega (arith, low), r.2)) h

or_first : (a b : Bool) → IsTrue a → IsTrue (a || b)
or_first true b h = refl
or_first false b h = absurd (true≢false (sym h))

or_later : (a b : Bool) → IsTrue b → IsTrue (a || b)
or_later true b h = refl
or_later false b h = h

pub item_same : (xs : List ℕ) (i d : ℕ) → i < length xs → item d xs i ≡ item 0 xs i
item_same [] i d lt = elim (not-suc-le-zero lt) [ ]
item_same (x ∷ xs) zero d lt = refl
item_same (x ∷ xs) (suc i) d lt = item_same xs i d (le_of_suc-le-suc lt)

module _ (p : Program) (f : Node) where
  turned_back : (xs : List ℕ) (x : ℕ) → IsTrue (is_in (reverse xs) x) → IsTrue (is_in xs x)
  turned_back [] x h = h
  turned_back (y ∷ ys) x h =
      let both = subst (λ l. IsTrue (is_in l x)) (reverse-append (y ∷ []) ys) h in
      ⊎_elim (λ later. or_later (nat_eq x y) (is_in ys x) (turned_back ys x later))
      (λ one. or_true (nat_eq x y) false (IsTrue (nat_eq x y || is_in ys x)) (λ e. or_first (nat_eq x y) (is_in ys x) e) (λ n. absurd (true≢false (sym n))) one)
      (in_cases p f (reverse ys) (y ∷ []) x both)

  needs_behind : (xs ys : List ℕ) → HasNeedsFirst f (xs ++ ys) → HasNeedsFirst f ys
  needs_behind [] ys h = h
  needs_behind (x ∷ xs) ys h = needs_behind xs ys h.1

  -- what a variable of an order needs is before it
  needs_before : (order : List ℕ) (i : ℕ) → i < length order → HasNeedsFirst f (reverse order) → Each (λ y. IsTrue (is_in (reverse (take i order)) y)) (needed f (item 0 order i))
  needs_before order i lt h =
      let x = item 0 order i in
      let before = take i order in
      let rest = drop (suc i) order in
      let turned : reverse order ≡ (reverse rest ++ x ∷ []) ++ reverse before =
      ap reverse (split_at i order lt) ∙ reverse-append before (x ∷ rest) ∙ ap (λ l. l ++ reverse before) (reverse-append (x ∷ []) rest) in
      let behind = subst (HasNeedsFirst f) (turned ∙ append_assoc (reverse rest) (x ∷ []) (reverse before)) h in
      (needs_behind (reverse rest) (x ∷ reverse before) behind).0

  fresh_there : (order : List ℕ) (i : ℕ) → i < length order → IsDistinct order → Fresh (item 0 order i) (reverse (take i order))
  fresh_there order i lt distinct h =
      let r = taken_before i order (item 0 order i) (turned_back (take i order) (item 0 order i) h) in
      distinct r.0 i r.1 lt r.2

  module _ (ready : IsReady p f) (defined : IsDefined p f) (qs : List StoredEquation) (is : f.equations ≡ equations_from 0 qs) (big : ℕ) (order : List ℕ) (orders : OrdersVariables f order) where
    -- the turns and places of the first variables of the order
    abbrev pub Reached : ℕ → List Turn → List ℕ → Type 0
    Reached i ts places = Underway p f big qs (reverse (take i order)) ts places

    pub reached_input : (i : ℕ) (ts : List Turn) (places : List ℕ) → i < length order → item 0 order i < f.inputs → Reached i ts places → Reached (suc i) ts places
    reached_input i ts places lt input h =
        subst (λ l. Underway p f big qs l ts places) (sym (reversed_next i order lt)) (input_next p f ready defined qs is big (reverse (take i order)) ts places h (item 0 order i) input)

    pub within_there : (i : ℕ) → i < length order → item 0 order i < length f.variables
    within_there i lt = orders.within (item 0 order i) (i, lt, item_same order i (item 0 order i) lt)

    pub reached_variable : (i : ℕ) (ts : List Turn) (places : List ℕ) → i < length order → f.inputs ≤ item 0 order i → Reached i ts places → length ts < big
        → Reached (suc i) (add_at ts (item 0 places (definer qs (item 0 order i))) (definer qs (item 0 order i)) (item 0 order i)) (placed_at places (length ts) (definer qs (item 0 order i)))
    reached_variable i ts places lt own h room =
        let x = item 0 order i in
        let e = definer qs x in
        let within = within_there i lt in
        let low : e < length places = subst (λ n. e < n) (sym h.size) (definer_within p f ready defined qs is x own within) in
        let next = variable_next p f ready defined qs is big (reverse (take i order)) ts places h x own within (fresh_there order i lt orders.distinct) (needs_before order i lt orders.order.first) room in
        subst (λ l. Underway p f big qs l (add_at ts (item 0 places e) e x) (placed_at places (length ts) e)) (sym (reversed_next i order lt))
        (subst (λ l. Underway p f big qs (x ∷ reverse (take i order)) l (placed_at places (length ts) e)) (sym (add_found big 0 ts e (item 0 places e) x (h.found e low))) next)

    pub reached_first : (places : List ℕ) → length places ≡ length qs → ((e : ℕ) → e < length places → item 0 places e ≡ big) → Reached 0 [] places
    reached_first places size all =
        record {
          turns = tt;
          firsts = tt;
          apart = tt;
          order = tt;
          kept = λ y k own. absurd (true≢false (sym k));
          only = λ y k. k;
          size = size;
          found = λ e lt. (let at = all e lt in omega (arith, at));
        }

    pub reached_all : (ts : List Turn) (places : List ℕ) → Reached (length order) ts places → AreTurns p f ts
    reached_all ts places reached =
        let h = subst (λ l. Underway p f big qs (reverse l) ts places) (taken_all order) reached in
        record {
          each = h.turns;
          apart = h.apart;
          order = h.order;
          every = λ x own within. in_all p f ts (definer qs x) x (h.kept x (below_at (λ y. IsTrue (is_in (reverse order) y)) (length f.variables) orders.order.all x within) own);
        }
