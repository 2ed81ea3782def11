-- An order of the nodes of a program is one of its code, which calls what the nodes do.
use Rattle.std.proofs.Common.{◌≡◌, ◌∙◌, ℕ, zero, suc, ◌<◌, ◌≤◌, List, [], ◌∷◌, map, length, Contains, Some, slice_get, sym, ap, subst, arith, ⊎_elim}
use Rattle.std.specs.Prelude.{option_map}
use Rattle.std.proofs.lemmas.Bool.{cases_lt}
use Rattle.std.proofs.lemmas.List.{get_or_past, length-map}
use Rattle.std.proofs.lemmas.Option.{get_or_from_slice_get, same_Some, slice_get-map}
use Rattle.lus_graph.specs.Ways.{IsOrder, IsOrdered, Uses, empty, next, used}
use Rattle.lus_graph.proofs.Steps.{no_item}
use Rattle.lus_program.specs.Resolved.{program_uses}
use Rattle.lus_classes.specs.Looks.{short_call, short_of, shorts_of}
use Rattle.lus_instructions.specs.declared.class.Call.{Call as SourceCall}
use Rattle.lus_instructions.specs.declared.class.Class.{Class}
use Rattle.lus_orders.specs.declared.class.Call.{Call}
use Rattle.lus_orders.specs.declared.class.Class.{Class as Emitted}
use Rattle.lus_orders.specs.Made.{AreCallsOf, FitsClass}
use Rattle.lus_orders.specs.Segments.{wide}
use Rattle.lus_emission.specs.Made.{HaveCode}
use Rattle.lus_emission.specs.Sources.{class_uses, nodes_of}
use Rattle.lus_emission.proofs.CallOrders.{used_nodes}
use Rattle.lus_emission.proofs.Underway.{found_within}
use Rattle.lus_code.specs.Codes.{ProgramCode, program_of}
use Rattle.lus_code.specs.Correct.{IsCorrect}
use Rattle.lus_code.proofs.CallOrders.{classes_ordered}
use Rattle.lus_costs.specs.Costs.{code_uses, nodes_called}

-- an order of things that use each other is one where they use no others
module _ (uses fewer : Uses) (size : length fewer ≡ length uses) (kept : (x y : ℕ) → Contains (used fewer x) y → Contains (used uses x) y) where
  still_ordered : (order : List ℕ) → IsOrdered uses order → IsOrdered fewer order
  still_ordered order empty = empty
  still_ordered order (next {before = before} {x = x} ordered fresh all) =
      next (still_ordered before ordered) fresh (λ y low among. all y (subst (λ n. y < n) size low) (kept x y among))

  still_order : (order : List ℕ) → IsOrder uses order → IsOrder fewer order
  still_order order is = record {
    ordered = still_ordered order is.ordered;
    size = subst (λ n. length order ≤ n) (sym size) is.size;
    within = λ x among. subst (λ n. x < n) (sym size) (is.within x among);
    whole = λ x low. is.whole x (subst (λ n. x < n) size low);
  }

module _ (classes : List Class) (emitted : List Emitted) (size : length emitted ≡ length classes) (have : HaveCode classes emitted) where
  -- calls of code are those of its class
  calls_kept : (f : Emitted) (w : ℕ) (ps : List Call) (qs : List SourceCall) → AreCallsOf (shorts_of classes) emitted (FitsClass (shorts_of classes)) f w ps (map short_call qs)
      → (y : ℕ) → Contains (map (λ (p : Call). p.node) ps) y → Contains (map (λ (q : SourceCall). q.node) qs) y
  calls_kept f w [] qs are y among = elim (no_item among.0 among.1) [ ]
  calls_kept f w (p ∷ ps) [] are y among = absurd are
  calls_kept f w (p ∷ ps) (q ∷ qs) are y (zero, lt, e) = (0, omega arith, are.0.node ∙ e)
  calls_kept f w (p ∷ ps) (q ∷ qs) are y (suc k, lt, e) =
      let rest = calls_kept f w ps qs are.1 y (k, omega arith, e) in
      (suc rest.0, omega (arith, rest.1), rest.2)

  found_kept : (x : ℕ) (f : Emitted) (c : Class) → slice_get emitted x ≡ Some f → slice_get classes x ≡ Some c
      → (y : ℕ) → Contains (nodes_called f) y → Contains (nodes_of c) y
  found_kept x f c found here y among =
      let has = have x c here in
      let same : has.code ≡ f = same_Some has.code f (sym has.found ∙ found) in
      calls_kept has.code (wide (short_of c)) has.code.calls.items c.calls.items has.is.calls_are y (subst (λ (k : Emitted). Contains (nodes_called k) y) (sym same) among)

  used_kept : (x y : ℕ) → Contains (used (code_uses emitted) x) y → Contains (used (class_uses classes) x) y
  used_kept x y among = ⊎_elim
      (λ lt.
      let (f, found) = found_within emitted x lt in
      let (c, here) = found_within classes x (subst (λ n. x < n) size lt) in
      let of_code : used (code_uses emitted) x ≡ nodes_called f =
      get_or_from_slice_get (code_uses emitted) x (nodes_called f) [] (slice_get-map nodes_called emitted x ∙ ap (option_map nodes_called) found) in
      subst (λ us. Contains us y) (sym (used_nodes classes x c here)) (found_kept x f c found here y (subst (λ us. Contains us y) of_code among)))
      (λ le.
      let past : length (code_uses emitted) ≤ x = omega (arith, le, length-map emitted nodes_called) in
      let no : Contains [] y = subst (λ us. Contains us y) (get_or_past (code_uses emitted) x [] past) among in
      elim (no_item no.0 no.1) [ ])
      (cases_lt x (length emitted))

  as_many : length (code_uses emitted) ≡ length (class_uses classes)
  as_many = length-map emitted nodes_called ∙ size ∙ sym (length-map classes nodes_of)

  emitted_ordered : (order : List ℕ) → IsOrder (class_uses classes) order → IsOrder (code_uses emitted) order
  emitted_ordered order = still_order (class_uses classes) (code_uses emitted) as_many used_kept order

pub code_ordered : (c : ProgramCode) → IsCorrect c → (order : List ℕ) → IsOrder (program_uses (program_of c)) order → IsOrder (code_uses c.emitted) order
code_ordered c correct order is =
    emitted_ordered c.classes c.emitted correct.many correct.code order
    (classes_ordered (program_of c) correct.belong.0 c.classes correct.belong.1 correct.size order is)
