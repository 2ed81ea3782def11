-- Counts of orders along an order of classes.
use Rattle.std.proofs.Common.{◌≡◌, ◌∙◌, ap, sym, refl, subst, arith, ℕ, ◌+◌, ◌≤◌, List, [], ◌∷◌, length, map, sum_by, take, Contains, Option, None, Some, slice_get}
use Rattle.std.specs.Prelude.{option_map}
use Rattle.std.proofs.lemmas.List.{length-map}
use Rattle.std.proofs.lemmas.List.Sums.{sum_by-cons}
use Rattle.std.proofs.lemmas.Option.{get_or_from_slice_get, slice_get-map, slice_get_past, slice_get_within}
use Rattle.lus_values.specs.Lists.{item}
use Rattle.lus_graph.specs.Along.{IsFilled, IsLocal, Solves, within}
use Rattle.lus_graph.specs.Ways.{IsOrder, used}
use Rattle.lus_graph.proofs.Steps.{no_item}
use Rattle.lus_graph.proofs.AlongOrders.{GivesNothing, nothing_solved}
use Rattle.lus_orders.specs.declared.class.Call.{Call}
use Rattle.lus_orders.specs.declared.class.Class.{Class}
use Rattle.lus_orders.specs.declared.order.Order.{Order}
use Rattle.lus_orders.specs.declared.order.Order.TheVariants as orders
use Rattle.lus_costs.specs.Costs.{AreCounts, AreLimited, class_orders, code_uses, inside_call, limited, nodes_called, order_weight}
use Rattle.lus_costs.proofs.Limited.{class_cut, cut}

-- the orders of what stands at a place
abbrev pub orders_in : (ℕ → ℕ) → Option Class → ℕ
orders_in at None = 0
orders_in at (Some c) = class_orders at c

-- what is found in a list stands in it
found_in : (xs : List ℕ) (n x : ℕ) → slice_get xs n ≡ Some x → Contains xs x
found_in xs n x found = (n, slice_get_within xs n x found, get_or_from_slice_get xs n x x found)

module _ (at at' : ℕ → ℕ) where
  abbrev Agree : List ℕ → Type 0
  Agree gs = (g : ℕ) → Contains gs g → at g ≡ at' g

  inside_same : (qs : List Call) → Agree (map (λ q. q.node) qs) → (n : ℕ) (q : Option Call) → slice_get qs n ≡ q → inside_call at q ≡ inside_call at' q
  inside_same qs agree n None found = refl
  inside_same qs agree n (Some q) found =
      agree q.node (found_in (map (λ q. q.node) qs) n q.node (slice_get-map (λ (q : Call). q.node) qs n ∙ ap (option_map (λ (q : Call). q.node)) found))

  weight_same : (qs : List Call) → Agree (map (λ q. q.node) qs) → (o : Order) → order_weight at qs o ≡ order_weight at' qs o
  weight_same qs agree (orders.Call n) = ap (λ m. m + 1) (inside_same qs agree n (slice_get qs n) refl)
  weight_same qs agree o = refl

  sum_same : (qs : List Call) → Agree (map (λ q. q.node) qs) → (os : List Order) → sum_by (order_weight at qs) os ≡ sum_by (order_weight at' qs) os
  sum_same qs agree [] = refl
  sum_same qs agree (o ∷ os) =
      let first = weight_same qs agree o in
      let rest = sum_same qs agree os in
      let here = sum_by-cons (order_weight at qs) o os in
      let there = sum_by-cons (order_weight at' qs) o os in
      omega (arith, first, rest, here, there)

  orders_same : (classes : List Class) (g : ℕ) (o : Option Class) → slice_get classes g ≡ o → Agree (used (code_uses classes) g)
      → orders_in at o ≡ orders_in at' o
  orders_same classes g None found agree = refl
  orders_same classes g (Some c) found agree =
      let here : used (code_uses classes) g ≡ nodes_called c =
      get_or_from_slice_get (code_uses classes) g (nodes_called c) [] (slice_get-map nodes_called classes g ∙ ap (option_map nodes_called) found) in
      sum_same c.calls.items (subst Agree here agree) c.code.items

module _ (classes : List Class) where
  -- each class has what its orders count, exactly, or up to the greatest number
  abbrev pub exact_step : (ℕ → ℕ) → ℕ → ℕ
  exact_step at g = orders_in at (slice_get classes g)

  abbrev pub cut_step : (ℕ → ℕ) → ℕ → ℕ
  cut_step at g = limited (exact_step at g)

  exact_local : IsLocal (code_uses classes) exact_step
  exact_local at at' g agree = orders_same at at' classes g (slice_get classes g) refl agree

  pub cut_local : IsLocal (code_uses classes) cut_step
  cut_local at at' g agree = ap limited (exact_local at at' g agree)

  pub as_many : length (code_uses classes) ≡ length classes
  as_many = length-map classes nodes_called

  nothing_past : GivesNothing (code_uses classes) 0 exact_step
  nothing_past at g past = ap (orders_in at) (slice_get_past classes g (subst (λ n. n ≤ g) as_many past))

  -- what is found by a table for a class is what the step says
  pub step_found : (table : List ℕ) (g : ℕ) (c : Class) (n : ℕ) → slice_get classes g ≡ Some c → n ≡ limited (class_orders (item 0 table) c)
      → n ≡ cut_step (item 0 table) g
  step_found table g c n here is = is ∙ ap (λ o. limited (orders_in (item 0 table) o)) (sym here)

  pub blank_filled : (table : List ℕ) → length table ≡ length classes → IsFilled (code_uses classes) 0 cut_step (λ n. Unit {0}) (take 0 []) table
  blank_filled table size = record {
    size = size ∙ sym as_many;
    right = λ at s g among. elim (no_item among.0 among.1) [ ];
    fit = λ g among. tt;
  }

  cut_orders : (at : ℕ → ℕ) (o : Option Class) → limited (orders_in (cut at) o) ≡ limited (orders_in at o)
  cut_orders at None = refl
  cut_orders at (Some c) = class_cut at c

  module _ (order : List ℕ) (o : IsOrder (code_uses classes) order) where
    abbrev counts : ℕ → ℕ
    counts = within (length classes) 0 exact_step

    solved : Solves (code_uses classes) 0 exact_step counts
    solved = nothing_solved (code_uses classes) 0 exact_step exact_local order o (length classes) (omega (arith, as_many)) nothing_past

    cut_solved : Solves (code_uses classes) 0 cut_step (cut counts)
    cut_solved = record {
      each = λ g lt. ap limited (solved.each g lt) ∙ sym (cut_orders counts (slice_get classes g));
      past = λ g h among le. ap limited (solved.past g h among le);
    }

    exact : AreCounts classes counts
    exact = record {
      each = λ g c found. solved.each g (omega (arith, as_many, slice_get_within classes g c found)) ∙ ap (orders_in counts) found;
    }

    pub filled_limited : (table : List ℕ) → IsFilled (code_uses classes) 0 cut_step (λ n. Unit {0}) order table → AreLimited classes table
    filled_limited table found = record {
      at = counts;
      exact = exact;
      size = found.size ∙ as_many;
      each = λ g lt. found.right (cut counts) cut_solved g (o.whole g (omega (arith, as_many, lt)));
    }
