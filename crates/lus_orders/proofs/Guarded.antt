-- Orders behind a look.
use Rattle.std.proofs.Common.{◌≡◌, ◌∙◌, ℕ, suc, ◌+◌, Bool, true, false, List, [], ◌∷◌, length, Option, Some, None, refl, ap, arith}
use Rattle.std.specs.Prelude.{if◌then◌else◌}
use Rattle.std.specs.Option.{option_and_then}
use Rattle.lus_values.specs.Values.{Value, Row}
use Rattle.lus_values.specs.declared.test.Test.{Test}
use Rattle.lus_instructions.specs.declared.instruction.Instruction.{Instruction}
use Rattle.lus_instructions.specs.declared.located.Located.TheVariants as located
use Rattle.lus_orders.specs.Looks.{looks}
use Rattle.lus_orders.specs.Orders.{Board, Calls, exec, obey}
use Rattle.lus_orders.specs.Stores.{guarded}
use Rattle.lus_orders.specs.declared.order.Order.{Order}
use Rattle.lus_orders.specs.declared.order.Order.TheVariants as orders
use Rattle.lus_orders.proofs.Obeyed.{exec_append}

module _ (others : List Instruction) (cells : List Value) (calls : Calls) where
  -- as many are skipped as there are
  all_skipped : (k : ℕ) (os : List Order) (b : Board) → exec others cells calls os (k + length os) b ≡ Some (k, b)
  all_skipped k [] b = ap (λ n. Some (n, b)) (let e : k + 0 ≡ k = omega arith in e)
  all_skipped k (o ∷ os) b =
      ap (λ n. option_and_then {T = ℕ × Board} (λ s. obey others cells calls o s.0 s.1) (exec others cells calls os n b)) (let e : k + suc (length os) ≡ suc k + length os = omega arith in e)
      ∙ ap (option_and_then {T = ℕ × Board} (λ s. obey others cells calls o s.0 s.1)) (all_skipped (suc k) os b)

  -- they are followed where the test holds, and else nothing is done
  pub guarded_does : (t : Option Test) (body : List Order) (ns : List Value) (r : Row) (b : Bool) → looks t r ≡ b
      → exec others cells calls (guarded t body) 0 (ns, r) ≡ (if b then exec others cells calls body 0 (ns, r) else Some (0, (ns, r)))
  guarded_does None body ns r true look = refl
  guarded_does None body ns r false look = absurd (cc)
  guarded_does (Some t) body ns r true look =
      exec_append others cells calls body (orders.Act (located.Unless t.variable t.constructor (length body)) ∷ []) 0 (ns, r)
      ∙ ap (λ c. exec others cells calls body (if c then 0 else length body) (ns, r)) look
  guarded_does (Some t) body ns r false look =
      exec_append others cells calls body (orders.Act (located.Unless t.variable t.constructor (length body)) ∷ []) 0 (ns, r)
      ∙ ap (λ c. exec others cells calls body (if c then 0 else length body) (ns, r)) look
      ∙ ap (λ n. exec others cells calls body n (ns, r)) (let z : length body ≡ 0 + length body = omega arith in z) ∙ all_skipped 0 body (ns, r)
