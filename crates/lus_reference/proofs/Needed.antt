-- A value rests on what its expression needs.
use Rattle.std.proofs.Common.{◌≡◌, ℕ, suc, ◌+◌, drop, true, false, ◌&&◌, [], ◌∷◌, refl, ap, ap₂}
use Rattle.lus_values.specs.Lists.{Each}
use Rattle.lus_values.specs.Operators.{apply}
use Rattle.lus_values.specs.Entries.{is_constructor, with_operand, with_operands}
use Rattle.lus_program.specs.Programs.{Expression, literal, variable, operate, pre, arrow, when, merge, call, Operands, none, more, Node, Program, node_at}
use Rattle.lus_streams.specs.Clocks.{Clock, formal_clock}
use Rattle.lus_streams.specs.Order.{needs, needs_all, clock_variables}
use Rattle.lus_streams.specs.Streams.{Instant, World, is_present, entry, called_instant, is_on, at_last, where_on, value, values, branch, inputs_given}
use Rattle.lus_streams.proofs.Lists.{each_left, each_right}
use Rattle.lus_streams.proofs.Unique.{formal_variables}
use Rattle.lus_reference.specs.Needed.{calls_now, all_calls_now, NeedsSuffice}

module _ (p : Program) (now other : Instant) (past : World) where
  abbrev Same : ℕ → Type 0
  Same x = entry now x ≡ entry other x

  abbrev SameCall : ℕ → Type 0
  SameCall c = called_instant c now ≡ called_instant c other

  on_same : is_present now ≡ is_present other → (k : Clock) → Each Same (clock_variables k) → is_on k now ≡ is_on k other
  on_same b [] h = b
  on_same b (t ∷ k) h = ap₂ ◌&&◌ (ap (is_constructor t.constructor) h.0) (on_same b k h.1)

  mutual
    value_same : (e : Expression) (k : Clock) → Each Same (needs e) → Each SameCall (calls_now e) → value p e k now past ≡ value p e k other past
    value_same (literal v) k n c = refl
    value_same (variable x) k n c = n.0
    value_same (operate o es) k n c = ap (with_operands (apply o)) (values_same es k n c)
    value_same (pre a) k n c = refl
    value_same (arrow a b) k n c =
        let ea = value_same a k (each_left Same (needs a) (needs b) n) (each_left SameCall (calls_now a) (calls_now b) c) in
        let eb = value_same b k (each_right Same (needs a) (needs b) n) (each_right SameCall (calls_now a) (calls_now b) c) in
        λ i. at_last k past (ea i) (λ j before. eb i)
    value_same (when t a) k n c = value_same a (drop 1 k) n.1 c
    value_same (merge x bs) k n c = branch_same bs x 0 k n.0 n.1 c
    value_same (call g m args) k n c = ap (λ j. entry j ((node_at p g).inputs + 0)) c.0

    values_same : (es : Operands) (k : Clock) → Each Same (needs_all es) → Each SameCall (all_calls_now es) → values p es k now past ≡ values p es k other past
    values_same none k n c = refl
    values_same (more e es) k n c =
        ap₂ with_operand
        (value_same e k (each_left Same (needs e) (needs_all es) n) (each_left SameCall (calls_now e) (all_calls_now es) c))
        (values_same es k (each_right Same (needs e) (needs_all es) n) (each_right SameCall (calls_now e) (all_calls_now es) c))

    branch_same : (es : Operands) (x m : ℕ) (k : Clock) → Same x → Each Same (needs_all es) → Each SameCall (all_calls_now es) → branch p es x m k now past ≡ branch p es x m k other past
    branch_same none x m k h n c = refl
    branch_same (more e es) x m k h n c =
        let ee = value_same e (record { variable = x; constructor = m } ∷ k) (each_left Same (needs e) (needs_all es) n) (each_left SameCall (calls_now e) (all_calls_now es) c) in
        let rest = branch_same es x (suc m) k h (each_right Same (needs e) (needs_all es) n) (each_right SameCall (calls_now e) (all_calls_now es) c) in
        λ i. elim (is_constructor m (h i)) [ true ↦ ee i | false ↦ rest i ]

  given_same : is_present now ≡ is_present other → (es : Operands) (g : Node) (args : Operands) (base : Clock) (m : ℕ) → Each Same (clock_variables base) → Each Same (needs_all args) → Each Same (needs_all es) → Each SameCall (all_calls_now es)
      → inputs_given p es g args base m now past ≡ inputs_given p es g args base m other past
  given_same b none g args base m hb ha n c = refl
  given_same b (more e es) g args base m hb ha n c =
      let k = formal_clock g args base m in
      ap₂ ◌∷◌
      (ap₂ where_on (on_same b k (formal_variables Same g args base m ha hb)) (value_same e k (each_left Same (needs e) (needs_all es) n) (each_left SameCall (calls_now e) (all_calls_now es) c)))
      (given_same b es g args base (suc m) hb ha (each_right Same (needs e) (needs_all es) n) (each_right SameCall (calls_now e) (all_calls_now es) c))

pub needs_suffice : NeedsSuffice
needs_suffice p now other past = record {
  clocks = λ k h. on_same p now other past h.base k h.entries;
  values = λ e k h. value_same p now other past e k h.entries h.called;
  given = λ g args base h k. given_same p now other past h.base args g args base 0 k.entries h.entries h.entries h.called;
}
