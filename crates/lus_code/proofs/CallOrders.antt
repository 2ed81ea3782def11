-- An order of the nodes of a program is one of the classes of its normal form, since these call what the nodes do.
use Rattle.std.proofs.Common.{◌≡◌, ◌∙◌, ℕ, zero, suc, ◌<◌, ◌≤◌, List, [], ◌∷◌, map, length, Contains, sym, subst, arith}
use Rattle.std.proofs.lemmas.List.{length-map}
use Rattle.lus_values.specs.Lists.{Each}
use Rattle.lus_graph.specs.Ways.{IsOrder, IsOrdered, used, empty, next}
use Rattle.lus_graph.proofs.Steps.{no_item}
use Rattle.lus_program.specs.Programs.{Program}
use Rattle.lus_program.specs.Resolved.{program_uses}
use Rattle.lus_classes.specs.Classes.{Call as PlainCall, class_at}
use Rattle.lus_classes.specs.View.{call_of, classes_of}
use Rattle.lus_simulation.specs.Codes.{AreCodeOf}
use Rattle.lus_simulation.proofs.Nested.{calls_used}
use Rattle.lus_instructions.specs.declared.class.Call.{Call}
use Rattle.lus_instructions.specs.declared.class.Class.{Class}
use Rattle.lus_emission.specs.Sources.{class_uses, nodes_of}

module _ (Q : ℕ → Type 0) where
  node_called : (c : Class) (qs : List Call) → Each (λ (q : PlainCall). Q q.node) (map (call_of c.tests.items) qs) → (y : ℕ) → Contains (map (λ (q : Call). q.node) qs) y → Q y
  node_called c [] all y among = elim (no_item among.0 among.1) [ ]
  node_called c (q ∷ qs) all y (zero, lt, e) = subst Q e all.0
  node_called c (q ∷ qs) all y (suc k, lt, e) = node_called c qs all.1 y (k, omega arith, e)

  -- what holds of all nodes that a class calls holds of those that it uses
  used_called : (cs : List Class) (x : ℕ) → Each (λ (q : PlainCall). Q q.node) (class_at (classes_of cs) x).calls → (y : ℕ) → Contains (used (class_uses cs) x) y → Q y
  used_called [] x all y among = elim (no_item among.0 among.1) [ ]
  used_called (c ∷ cs) zero all y among = node_called c c.calls.items all y among
  used_called (c ∷ cs) (suc x) all y among = used_called cs x all y among

module _ (p q : Program) (classes : List Class) (code : AreCodeOf p q (classes_of classes)) (size : length classes ≡ length p.nodes) where
  as_many : length (class_uses classes) ≡ length (program_uses p)
  as_many = length-map classes nodes_of ∙ size ∙ sym (length-map p.nodes _)

  uses_kept : (x y : ℕ) → Contains (used (class_uses classes) x) y → Contains (used (program_uses p) x) y
  uses_kept x y among = used_called (Contains (used (program_uses p) x)) classes x (calls_used p q (classes_of classes) code x) y among

  still_ordered : (order : List ℕ) → IsOrdered (program_uses p) order → IsOrdered (class_uses classes) order
  still_ordered order empty = empty
  still_ordered order (next {before = before} {x = x} ordered fresh all) =
      next (still_ordered before ordered) fresh (λ y low among. all y (subst (λ n. y < n) as_many low) (uses_kept x y among))

  pub classes_ordered : (order : List ℕ) → IsOrder (program_uses p) order → IsOrder (class_uses classes) order
  classes_ordered order is = record {
    ordered = still_ordered order is.ordered;
    size = subst (λ n. length order ≤ n) (sym as_many) is.size;
    within = λ x among. subst (λ n. x < n) (sym as_many) (is.within x among);
    whole = λ x low. is.whole x (subst (λ n. x < n) as_many low);
  }
