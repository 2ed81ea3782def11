-- Orders that store one cell after another.
use Rattle.std.proofs.Common.{◌≡◌, ◌∙◌, ℕ, suc, ◌+◌, ◌≤◌, Bool, true, false, List, [], ◌∷◌, length, take, drop, Option, Some, slice_set, refl, sym, ap, ap₂, subst, arith}
use Rattle.std.specs.Prelude.{if◌then◌else◌}
use Rattle.std.specs.Option.{option_and_then, unwrap_or}
use Rattle.lus_values.specs.Values.{Value, Row, nil, bool}
use Rattle.lus_values.specs.declared.test.Test.{Test}
use Rattle.lus_classes.specs.Classes.{Memory}
use Rattle.lus_classes.specs.Steps.{atom_in, cells_after, flags_after, is_on_row}
use Rattle.lus_streams.specs.Clocks.{Clock}
use Rattle.lus_instructions.specs.declared.instruction.Instruction.{Instruction}
use Rattle.lus_instructions.specs.Words.{is_nil_entry}
use Rattle.lus_orders.specs.Looks.{looks}
use Rattle.lus_orders.specs.declared.order.Order.{Order}
use Rattle.lus_orders.specs.Orders.{Board, Calls, Next, exec}
use Rattle.lus_orders.specs.Classes.{part}
use Rattle.lus_orders.specs.Made.{flags_in}
use Rattle.lus_orders.specs.Segments.{wide}
use Rattle.lus_orders.specs.Stores.{AreStoresOf, Store, StoresEntry, StoresStore, guarded, store_code, stores_code}
use Rattle.lus_orders.proofs.Guarded.{guarded_does}
use Rattle.lus_orders.proofs.Obeyed.{exec_append}

-- what a cell takes, and whether it does
abbrev Told : Type 0
Told = Bool × Option Value

-- what memories and first-flags take from variables
abbrev told : Row → List Memory → List Clock → List Told
told v [] [] = []
told v [] (k ∷ ks) = (is_on_row k v, Some (bool false)) ∷ told v [] ks
told v (m ∷ ms) ks = (is_on_row m.clock v, atom_in m.operand v) ∷ told v ms ks

-- so many cells and first-flags
abbrev count : List Memory → List Clock → ℕ
count [] ks = length ks
count (m ∷ ms) ks = suc (count ms ks)

count_is : (ms : List Memory) (ks : List Clock) → count ms ks ≡ length ms + length ks
count_is [] ks = omega arith
count_is (m ∷ ms) ks = let e = count_is ms ks in omega (arith, e)

abbrev stored : Told → Value → Value
stored p n = if p.0 then unwrap_or p.1 nil else n

abbrev put_one : ℕ → Told → List Value → List Value
put_one j p ns = if p.0 then slice_set ns j (unwrap_or p.1 nil) else ns

-- the cells after all of them, from one on
abbrev written : ℕ → List Told → List Value → List Value
written j [] ns = ns
written j (p ∷ ps) ns = written (suc j) ps (put_one j p ns)

put_later : (j : ℕ) (p : Told) (n : Value) (ns : List Value) → put_one (suc j) p (n ∷ ns) ≡ n ∷ put_one j p ns
put_later j (true, e) n ns = refl
put_later j (false, e) n ns = refl

-- what is stored further on leaves what is before it
later : (j : ℕ) (ps : List Told) (n : Value) (ns : List Value) → written (suc j) ps (n ∷ ns) ≡ n ∷ written j ps ns
later j [] n ns = refl
later j (p ∷ ps) n ns = ap (written (suc (suc j)) ps) (put_later j p n ns) ∙ later (suc j) ps n (put_one j p ns)

put_first : (p : Told) (n : Value) (ns : List Value) → put_one 0 p (n ∷ ns) ≡ stored p n ∷ ns
put_first (true, e) n ns = refl
put_first (false, e) n ns = refl

first : (p : Told) (ps : List Told) (n : Value) (ns : List Value) → written 0 (p ∷ ps) (n ∷ ns) ≡ stored p n ∷ written 0 ps ns
first p ps n ns = ap (written 1 ps) (put_first p n ns) ∙ later 0 ps (stored p n) ns

module _ (others : List Instruction) (old : List Value) (calls : Calls) where
  module _ (w : ℕ) where
    -- the cells and the row after a store in cell j
    record Did (j : ℕ) (p : Told) (ns : List Value) (r : Row) (end : Next) : Type 0 where
      pub row : Row
      pub ended : end ≡ Some (0, (put_one j p ns, row))
      pub same : take w row ≡ take w r
      pub long : length row ≡ length r

    did : (j : ℕ) (o : Option Test) (body : List Order) (b : Bool) (e : Option Value) (ns : List Value) (r : Row) → looks o r ≡ b
        → StoresEntry others w old r j body e → Did j (b, e) ns r (exec others old calls (guarded o body) 0 (ns, r))
    did j o body true e ns r look one =
        record { row = one.row; ended = guarded_does others old calls o body ns r true look ∙ one.ended calls ns; same = one.same; long = one.long }
    did j o body false e ns r look one = record { row = r; ended = guarded_does others old calls o body ns r false look; same = refl; long = refl }

    -- and after several, from cell j on
    record AllDid (j : ℕ) (ps : List Told) (ss : List Store) (ns : List Value) (r : Row) : Type 0 where
      pub row : Row
      pub ended : exec others old calls (stores_code ss) 0 (ns, r) ≡ Some (0, (written j ps ns, row))
      pub same : take w row ≡ take w r
      pub long : length row ≡ length r

    one_more : (j : ℕ) (p : Told) (ps : List Told) (s : Store) (ss : List Store) (ns : List Value) (r : Row)
        → (one : Did j p ns r (exec others old calls (store_code s) 0 (ns, r))) → AllDid (suc j) ps ss (put_one j p ns) one.row → AllDid j (p ∷ ps) (s ∷ ss) ns r
    one_more j p ps s ss ns r one rest = record {
      row = rest.row;
      ended = exec_append others old calls (stores_code ss) (store_code s) 0 (ns, r)
          ∙ ap (option_and_then {T = ℕ × Board} (λ s. exec others old calls (stores_code ss) s.0 s.1)) one.ended ∙ rest.ended;
      same = rest.same ∙ one.same;
      long = rest.long ∙ one.long;
    }

    module _ (own : ℕ) (v : Row) where
      abbrev Here : ℕ → List Memory → List Clock → List Store → Type 0
      Here j ms ks ss = (r : Row) → length r ≡ own → take w r ≡ v → AreStoresOf others w old r j ms ks ss

      all_did : (j : ℕ) (ms : List Memory) (ks : List Clock) (ss : List Store) → Here j ms ks ss → (ns : List Value) (r : Row) → length r ≡ own → take w r ≡ v
          → AllDid j (told v ms ks) ss ns r
      all_did j [] [] [] are ns r long same = record { row = r; ended = refl; same = refl; long = refl }
      all_did j [] [] (s ∷ ss) are ns r long same = absurd (are r long same)
      all_did j [] (k ∷ ks) [] are ns r long same = absurd (are r long same)
      all_did j (m ∷ ms) ks [] are ns r long same = absurd (are r long same)
      all_did j [] (k ∷ ks) (s ∷ ss) are ns r long same =
          let here = are r long same in
          let one = did j s.test s.body (is_on_row k v) (Some (bool false)) ns r (here.0 ∙ ap (is_on_row k) same) here.1 in
          one_more j (is_on_row k v, Some (bool false)) (told v [] ks) s ss ns r one
          (all_did (suc j) [] ks ss (λ t l f. (are t l f).2) (put_one j (is_on_row k v, Some (bool false)) ns) one.row (one.long ∙ long) (one.same ∙ same))
      all_did j (m ∷ ms) ks (s ∷ ss) are ns r long same =
          let here = are r long same in
          let one = did j s.test s.body (is_on_row m.clock v) (atom_in m.operand v) ns r (here.0 ∙ ap (is_on_row m.clock) same)
          (subst (λ (f : Row). StoresEntry others w old r j s.body (atom_in m.operand f)) same here.1) in
          one_more j (is_on_row m.clock v, atom_in m.operand v) (told v ms ks) s ss ns r one
          (all_did (suc j) ms ks ss (λ t l f. (are t l f).2) (put_one j (is_on_row m.clock v, atom_in m.operand v) ns) one.row (one.long ∙ long) (one.same ∙ same))

-- cells, first-flags, and what stands behind both
record Kept (v : Row) (ms : List Memory) (ks : List Clock) (us ns new : List Value) : Type 0 where
  pub cells : take (length ms) new ≡ cells_after ms (take (length ms) us) v
  pub flags : flags_in (part (length ms) (length ks) new) ≡ flags_after ks (flags_in (part (length ms) (length ks) us)) v
  pub behind : drop (count ms ks) new ≡ drop (count ms ks) ns
  pub long : length new ≡ length ns

one_flag : (b : Bool) (u : Value) → is_nil_entry (Some (stored (b, Some (bool false)) u)) ≡ (elim b [ true ↦ false | false ↦ is_nil_entry (Some u) ])
one_flag true u = refl
one_flag false u = refl

one_cell : (b : Bool) (e : Option Value) (u : Value) → stored (b, e) u ≡ unwrap_or (elim b [ true ↦ e | false ↦ Some u ]) nil
one_cell true e u = refl
one_cell false e u = refl

all_kept : (v : Row) (ms : List Memory) (ks : List Clock) (us ns : List Value) → count ms ks ≤ length ns → take (count ms ks) ns ≡ take (count ms ks) us
    → Kept v ms ks us ns (written 0 (told v ms ks) ns)
all_kept v [] [] us ns le same = record { cells = refl; flags = refl; behind = refl; long = refl }
all_kept v [] (k ∷ ks) us [] le same = absurd (omega arith)
all_kept v [] (k ∷ ks) [] (n ∷ ns) le same = absurd (let long = ap (λ (l : List Value). length l) same in omega (arith, long))
all_kept v [] (k ∷ ks) (u ∷ us) (n ∷ ns) le same =
    let p : Told = (is_on_row k v, Some (bool false)) in
    let ps = told v [] ks in
    let head : n ≡ u = cc in
    let rest = all_kept v [] ks us ns (omega arith) (let tail : take (length ks) ns ≡ take (length ks) us = cc in tail) in
    record {
      cells = refl;
      flags = ap (λ l. flags_in (take (suc (length ks)) l)) (first p ps n ns)
          ∙ ap₂ (λ (b : Bool) (l : List Bool). b ∷ l) (ap (λ x. is_nil_entry (Some (stored p x))) head ∙ one_flag (is_on_row k v) u) rest.flags;
      behind = ap (drop (suc (length ks))) (first p ps n ns) ∙ rest.behind;
      long = ap (λ (l : List Value). length l) (first p ps n ns) ∙ ap suc rest.long;
    }
all_kept v (m ∷ ms) ks us [] le same = absurd (omega arith)
all_kept v (m ∷ ms) ks [] (n ∷ ns) le same = absurd (let long = ap (λ (l : List Value). length l) same in omega (arith, long))
all_kept v (m ∷ ms) ks (u ∷ us) (n ∷ ns) le same =
    let p : Told = (is_on_row m.clock v, atom_in m.operand v) in
    let ps = told v ms ks in
    let head : n ≡ u = cc in
    let rest = all_kept v ms ks us ns (omega arith) (let tail : take (count ms ks) ns ≡ take (count ms ks) us = cc in tail) in
    record {
      cells = ap (take (suc (length ms))) (first p ps n ns)
          ∙ ap₂ (λ (x : Value) (l : List Value). x ∷ l) (ap (stored p) head ∙ one_cell (is_on_row m.clock v) (atom_in m.operand v) u) rest.cells;
      flags = ap (λ l. flags_in (part (suc (length ms)) (length ks) l)) (first p ps n ns) ∙ rest.flags;
      behind = ap (drop (suc (count ms ks))) (first p ps n ns) ∙ rest.behind;
      long = ap (λ (l : List Value). length l) (first p ps n ns) ∙ ap suc rest.long;
    }

pub stores_store : StoresStore
stores_store k others own ss are vs calls ns r long same le mine =
    let v = take (wide k) r in
    let many = count_is k.memories k.firsts in
    let all = all_did others vs calls (wide k) own v 0 k.memories k.firsts ss (λ t l f. are vs t l) ns r long refl in
    let new = written 0 (told v k.memories k.firsts) ns in
    let keeps = all_kept v k.memories k.firsts vs ns (omega (arith, same, le, many)) (subst (λ n. take n ns ≡ take n vs) (sym many) mine) in
    record {
      next = new;
      row = all.row;
      ended = all.ended;
      same = all.same;
      cells = keeps.cells;
      flags = keeps.flags;
      behind = subst (λ n. drop n new ≡ drop n ns) many keeps.behind;
      long = keeps.long;
    }
