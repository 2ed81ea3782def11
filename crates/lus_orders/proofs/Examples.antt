-- A counter, and a node that calls it: code belongs to both, so what is shown of such code is shown of something.
use Rattle.std.proofs.Common.{◌≡◌, ◌∙◌, ℕ, zero, suc, ◌+◌, ◌<◌, ◌≤◌, ◌⊎◌, Bool, true, false, List, [], ◌∷◌, ◌++◌, length, Option, Some, None, slice_get, slice_set, refl, sym, ap, subst, arith, ℤ, pos}
use Rattle.std.proofs.Math.Logic.{inl, inr}
use Rattle.std.specs.Prelude.{option_map}
use Rattle.std.specs.Option.{option_and_then, unwrap_or}
use Rattle.std.proofs.lemmas.Option.{none-some, same_Some}
use Rattle.lus_values.specs.Lists.{Each}
use Rattle.lus_values.specs.Values.{Value, Row, bool, int, nil}
use Rattle.lus_values.specs.declared.operator.Op.TheVariants as ops
use Rattle.lus_values.specs.declared.operator.Operator.TheVariants.{Compute}
use Rattle.lus_classes.specs.Classes.{Step, class_at, named, fixed, compute, recall, choose, answer, also_code, no_code}
use Rattle.lus_classes.specs.Classes.{Class as PlainClass}
use Rattle.lus_values.specs.Entries.{chosen}
use Rattle.lus_instructions.specs.Applied.{applied}
use Rattle.lus_instructions.specs.Executed.{put}
use Rattle.lus_instructions.specs.declared.instruction.Instruction.{Instruction}
use Rattle.lus_instructions.specs.declared.located.Located.TheVariants as located
use Rattle.lus_instructions.specs.declared.instruction.Operand.TheVariants as operands
use Rattle.lus_instructions.specs.declared.words.word.Word.TheVariants as words
use Rattle.lus_orders.specs.declared.order.Order.{Order}
use Rattle.lus_orders.specs.declared.order.Order.TheVariants as orders
use Rattle.lus_orders.specs.declared.class.Target.{Target}
use Rattle.lus_orders.specs.declared.class.Call.{Call}
use Rattle.lus_orders.specs.declared.class.Class.{Class}
use Rattle.lus_orders.specs.Orders.{Board, Calls, Next, is_first, obey, on_row}
use Rattle.lus_orders.specs.Classes.{passed}
use Rattle.lus_orders.specs.Looks.{looks}
use Rattle.lus_orders.specs.Made.{AreCallsOf, FitsClass, IsCallOf}
use Rattle.lus_orders.specs.Segments.{AreLaidOut, GivesRow, GivesSteps, IsCodeOf, MakesCall, TargetOf, Stores, calls, gives}

abbrev pub zero_int : ℤ
zero_int = pos 0

abbrev pub one_int : ℤ
one_int = pos 1

abbrev pub one_step : Step
one_step = record { target = 0; code = choose 0 (fixed (int zero_int)) (compute (Compute ops.Add) (also_code (recall 0) (also_code (fixed (int one_int)) no_code))) }

-- n = 0 -> pre n + 1
abbrev pub counter : PlainClass
counter = record { inputs = 0; clocks = [] ∷ []; steps = one_step ∷ []; memories = record { clock = []; operand = named 0 } ∷ []; firsts = [] ∷ []; calls = [] }

-- m = counter()
abbrev pub caller : PlainClass
caller = record { inputs = 0; clocks = [] ∷ []; steps = record { target = 0; code = answer 0 0 } ∷ []; memories = []; firsts = []; calls = record { node = 0; base = []; arguments = [] } ∷ [] }

abbrev pub counter_code : List Order
counter_code = orders.First 0 1 (operands.Fixed (words.Int zero_int)) (operands.Place 1) ∷ orders.Act (located.Add 1 (operands.Cell 0) (operands.Fixed (words.Int one_int))) ∷ []

abbrev pub counter_stores : List Order
counter_stores = orders.Started 1 ∷ orders.Keep 0 0 ∷ []

module _ (others : List Instruction) (vs : List Value) (does : Calls) (ns : List Value) (e0 e1 : Option Value) where
  abbrev row : Row
  row = e0 ∷ e1 ∷ []

  -- what the code does, by what its operator gives
  abbrev end_of : Option Value → Next
  end_of o = option_and_then {T = ℕ × Board} (λ s. obey others vs does (orders.First 0 1 (operands.Fixed (words.Int zero_int)) (operands.Place 1)) s.0 s.1) (on_row (ns, row) (put 1 row o))

  abbrev ran_by : Option Bool → Option Value → Option Row
  ran_by b o = option_and_then (λ e. Some (slice_set (e0 ∷ []) 0 e)) (option_map Some (chosen b (Some (int zero_int)) o))

  abbrev last : Option Bool → Value → Next
  last b v = on_row (ns, e0 ∷ Some v ∷ []) (put 0 (e0 ∷ Some v ∷ []) (chosen b (Some (int zero_int)) (Some v)))

  first_by : (b : Option Bool) (v : Value) → ((last b v ≡ None) × (ran_by b (Some v) ≡ None)) ⊎ GivesRow counter 2 (ran_by b (Some v)) ns (last b v)
  first_by None v = inl (refl, refl)
  first_by (Some true) v = inr (record { new = Some (int zero_int) ∷ Some v ∷ []; ended = refl; ran_to = refl; long = refl })
  first_by (Some false) v = inr (record { new = Some v ∷ Some v ∷ []; ended = refl; ran_to = refl; long = refl })

  none_by : (b : Option Bool) → ran_by b None ≡ None
  none_by None = refl
  none_by (Some b) = refl

  both : (o : Option Value) → ((end_of o ≡ None) × (ran_by (is_first vs 1) o ≡ None)) ⊎ GivesRow counter 2 (ran_by (is_first vs 1) o) ns (end_of o)
  both None = inl (refl, none_by (is_first vs 1))
  both (Some v) = first_by (is_first vs 1) v

counter_gives : (others : List Instruction) → GivesSteps counter others 2 (one_step ∷ []) counter_code
counter_gives others vs given does known new ns [] long unknown on = absurd (omega arith)
counter_gives others vs given does known new ns (e0 ∷ []) long unknown on = absurd (omega arith)
counter_gives others [] given does known new ns (e0 ∷ e1 ∷ []) long unknown on = both others [] does ns e0 e1 None
counter_gives others (v ∷ []) given does known new ns (e0 ∷ e1 ∷ []) long unknown on = both others (v ∷ []) does ns e0 e1 (applied (Compute ops.Add) (Some v ∷ Some (int one_int) ∷ []))
counter_gives others (v ∷ u ∷ vs) given does known new ns (e0 ∷ e1 ∷ []) long unknown on =
    both others (v ∷ u ∷ vs) does ns e0 e1 (applied (Compute ops.Add) (Some v ∷ Some (int one_int) ∷ []))
counter_gives others vs given does known new ns (e0 ∷ e1 ∷ e2 ∷ r) long unknown on = absurd (omega arith)

counter_keeps : (others : List Instruction) → Stores counter others 2 counter_stores
counter_keeps others vs does ns [] long same le own = absurd (omega arith)
counter_keeps others vs does ns (e0 ∷ []) long same le own = absurd (omega arith)
counter_keeps others vs does ns (e0 ∷ e1 ∷ e2 ∷ r) long same le own = absurd (omega arith)
counter_keeps others [] does ns (e0 ∷ e1 ∷ []) long same le own = absurd (let l : 2 ≤ 0 = le in omega (arith, l))
counter_keeps others (v ∷ []) does ns (e0 ∷ e1 ∷ []) long same le own = absurd (let l : 2 ≤ 1 = le in omega (arith, l))
counter_keeps others (v ∷ u ∷ vs) does [] (e0 ∷ e1 ∷ []) long same le own = absurd (omega arith)
counter_keeps others (v ∷ u ∷ vs) does (n ∷ []) (e0 ∷ e1 ∷ []) long same le own = absurd (omega arith)
counter_keeps others (v ∷ u ∷ vs) does (n ∷ m ∷ ns) (e0 ∷ e1 ∷ []) long same le own =
    record { next = unwrap_or e0 nil ∷ bool false ∷ ns; row = e0 ∷ e1 ∷ []; ended = refl; same = refl; cells = refl; flags = refl; behind = refl; long = refl }

module _ (c e : Class) (call : Call)
    (c_own : c.own ≡ 2) (c_cells : c.cells ≡ 2) (c_code : c.code.items ≡ counter_stores ++ counter_code) (c_calls : c.calls.items ≡ [])
    (e_own : e.own ≡ 1) (e_cells : e.cells ≡ 2) (e_code : e.code.items ≡ orders.Call 0 ∷ []) (e_calls : e.calls.items ≡ call ∷ [])
    (node : call.node ≡ 0) (base : call.base ≡ None) (cells : call.cells ≡ 0) (length_is : call.length ≡ 2) (arguments : call.arguments.items ≡ [])
    (targets : call.targets.items ≡ record { variable = 0; test = None; place = 0 } ∷ []) where
  abbrev plain : List PlainClass
  plain = counter ∷ caller ∷ []

  abbrev classes : List Class
  classes = c ∷ e ∷ []

  pub counter_has_code : IsCodeOf plain classes counter c
  counter_has_code = record {
    own = omega (arith, c_own);
    inputs = omega arith;
    segments = gives (one_step ∷ []) counter_code ∷ [];
    stores = counter_stores;
    steps = refl;
    code = sym c_code;
    make = (subst (λ n. GivesSteps counter c.others.items n (one_step ∷ []) counter_code) (sym c_own) (counter_gives c.others.items), tt);
    keep = subst (λ n. Stores counter c.others.items n counter_stores) (sym c_own) (counter_keeps c.others.items);
    once = tt;
    every = λ n lt. absurd (let none = ap (λ (l : List Call). length l) c_calls in omega (arith, none, lt));
    turns = (tt, refl, (let l : 0 < 1 = omega arith in l), tt);
    laid = subst (AreLaidOut 2 c.cells) (sym c_calls) (record { own = omega (arith, c_cells); behind = tt; within = tt; apart = λ i j p q found. absurd (none-some p found) });
    calls_are = subst (λ (l : List Call). AreCallsOf plain classes (FitsClass plain) c 1 l []) (sym c_calls) tt;
    passing = λ n q found. absurd (none-some q (subst (λ (l : List Call). slice_get l n ≡ Some q) c_calls found));
  }

  target_here : TargetOf caller 1 (record { variable = 0; test = None; place = 0 })
  target_here = record { variable = omega arith; place = omega arith; test = λ r le. refl }

  abbrev target : Target
  target = record { variable = 0; test = None; place = 0 }

  makes : MakesCall caller (λ h. length (class_at plain h).clocks) (call ∷ []) 0 (target ∷ [])
  makes = record {
    call = call;
    found = refl;
    targets = targets;
    each = subst (λ n. Each (TargetOf caller (length (class_at plain n).clocks)) (target ∷ [])) (sym node) (target_here, tt);
    some = omega arith;
    off = λ r le on looks_off. absurd (let no_base : true ≡ false = sym (ap (λ b. looks b r) base) ∙ looks_off in cc);
  }

  keeps : Stores caller e.others.items e.own []
  keeps vs does ns r long same le own = record { next = ns; row = r; ended = refl; same = refl; cells = refl; flags = refl; behind = refl; long = refl }

  only_one : (i j : ℕ) (p q : Call) → slice_get (call ∷ []) i ≡ Some p → slice_get (call ∷ []) j ≡ Some q → (i ≡ j → ⊥)
      → (p.cells + p.length ≤ q.cells) ⊎ (q.cells + q.length ≤ p.cells)
  only_one zero zero p q ep eq other = absurd (other refl)
  only_one zero (suc j) p q ep eq other = absurd (none-some q eq)
  only_one (suc i) j p q ep eq other = absurd (none-some p ep)

  abbrev Fits : ℕ → Row → Type 0
  Fits = FitsClass plain

  call_is : IsCallOf plain classes Fits e 1 call (record { node = 0; base = []; arguments = [] })
  call_is = record {
    node = sym node;
    base = λ r le. ap (λ b. looks b r) base;
    passing = λ r le. ap (λ l. passed l r) arguments;
    called = c;
    found = ap (slice_get classes) node;
    long = length_is ∙ sym c_cells;
    cells = omega (arith, cells, length_is, e_cells);
  }

  nothing_given : (g : ℕ) → g ≡ 0 → (r : Row) → Fits g (passed call.arguments.items r)
  nothing_given g is r =
      subst (λ l. Fits g (passed l r)) (sym arguments)
      (subst (λ h. Fits h []) (sym is) (refl, λ x some. absurd (let no_entry : false ≡ true = some in cc)))

  passes_one : (n : ℕ) (q : Call) → slice_get (call ∷ []) n ≡ Some q → (r : Row) → Fits q.node (passed q.arguments.items r)
  passes_one zero q found r =
      subst (λ (p : Call). Fits p.node (passed p.arguments.items r)) (same_Some call q found) (nothing_given call.node node r)
  passes_one (suc n) q found r = absurd (none-some q found)

  pub caller_has_code : IsCodeOf plain classes caller e
  caller_has_code = record {
    own = omega (arith, e_own);
    inputs = omega arith;
    segments = calls 0 (target ∷ []) ∷ [];
    stores = [];
    steps = refl;
    code = sym e_code;
    make = (subst (λ qs. MakesCall caller (λ h. length (class_at plain h).clocks) qs 0 (target ∷ [])) (sym e_calls) makes, tt);
    keep = keeps;
    once = (λ m. m, tt);
    every = λ n lt. inl (let one = ap (λ (l : List Call). length l) e_calls in omega (arith, one, lt));
    turns = (tt, refl, (let l : 0 < 1 = omega arith in l), tt);
    laid = subst (AreLaidOut 0 e.cells) (sym e_calls)
        (record { own = omega arith; behind = (omega arith, tt); within = (omega (arith, cells, length_is, e_cells), tt); apart = only_one });
    calls_are = subst (λ (l : List Call). AreCallsOf plain classes Fits e 1 l (record { node = 0; base = []; arguments = [] } ∷ [])) (sym e_calls) (call_is, tt);
    passing = λ n q found r long on base_on. passes_one n q (subst (λ (l : List Call). slice_get l n ≡ Some q) e_calls found) r;
  }

  -- both have
  pub all_have_code : (g : ℕ) (k : Class) → slice_get classes g ≡ Some k → IsCodeOf plain classes (class_at plain g) k
  all_have_code zero k found = subst (λ (x : Class). IsCodeOf plain classes counter x) (same_Some c k found) counter_has_code
  all_have_code (suc zero) k found = subst (λ (x : Class). IsCodeOf plain classes caller x) (same_Some e k found) caller_has_code
  all_have_code (suc (suc g)) k found = absurd (none-some k found)
