-- Parts from a place on: their values by definition, what is kept of them, and faults among them.
use Rattle.std.proofs.Common.{◌≡◌, ◌⊎◌, ℕ, zero, suc, ◌+◌, ◌<◌, ◌≤◌, Bool, true, false, ◌&&◌, List, [], ◌∷◌, drop, drop_of_length-le, take, length, map, Option, Some, None, IsSome, IsTrue, MatchOption, is_some, is_none, refl, sym, ap, ap₂, ◌∙◌, subst, true≢false, ⊎_elim, arith}
use Rattle.std.specs.Option.{option_map}
use Rattle.lus_values.specs.Lists.{item, Each}
use Rattle.std.proofs.Math.ListN.{length-map}
use Rattle.lus_values.specs.Operators.{apply}
use Rattle.lus_values.specs.Values.{Value, nil, Row}
use Rattle.lus_values.specs.declared.operator.Operator.{Operator}
use Rattle.lus_values.specs.Entries.{with_operands}
use Rattle.lus_program.specs.Programs.{Expression, literal, variable, operate, pre, arrow, when, merge, call, numbered, all_numbered, Operands, none, more, calls, Program}
use Rattle.lus_program.specs.View.{expression_of, operands_of}
use Rattle.lus_program.specs.declared.expr.Expr.{Expr}
use Rattle.lus_streams.specs.Clocks.{Clock, Part, at}
use Rattle.lus_streams.specs.Streams.{Instant, instant, nobody, World, is_present, row_of, holds, is_on, value, values, HasValue}
use Rattle.lus_attempts.specs.Attempts.{IsAtFault}
use Rattle.lus_parts.specs.declared.part.Part.{Part as StoredPart}
use Rattle.lus_parts.specs.Nested.{IsFollowed, AreNested}
use Rattle.lus_parts.specs.Parts.{part_of}
use Rattle.lus_reference.specs.Causes.{Operation, operation_in, operation_on, IsCause, IsFaultBy, IsFaultAt}
use Rattle.lus_reference.specs.declared.cause.AtFault.{AtFault}
use Rattle.lus_reference.specs.Kept.{Keeps, renewed, kept_next, StandsAt}
use Rattle.lus_reference.specs.Made.{many, width, gathered, made, roots, value_in}
use Rattle.lus_reference.proofs.Drops.{dropped, dropped_map}
use Rattle.lus_reference.proofs.Made.{keeps_past, operand_parts, operands_are, value_is, stack_is, gathered_are}

-- whether a clock is present hangs on the base and the entries
pub on_is : (k : Clock) (now : Instant) → is_on k now ≡ is_on k (instant (is_present now) (row_of now) nobody)
on_is [] now = refl
on_is (t ∷ k) now = ap (λ b. holds t.variable t.constructor now && b) (on_is k now)

-- behind some parts the others are nested too
nested_behind : (p : Program) (i : ℕ) (es : List Part) → AreNested p es → AreNested p (drop i es)
nested_behind p zero es h = h
nested_behind p (suc i) [] h = tt
nested_behind p (suc i) (e ∷ es) h = nested_behind p i es h.1

-- the item that the items from a place on begin with
pub item_there : {X Y : Type 0} (f : X → Y) (d : Y) (xs : List X) (i : ℕ) (x : X) (ys : List X) → drop i xs ≡ x ∷ ys → item d (map f xs) i ≡ f x
item_there f d [] zero x ys h = absurd (cc)
item_there f d (y ∷ xs) zero x ys h = let same : y ≡ x = cc in ap f same
item_there f d [] (suc i) x ys h = absurd (cc)
item_there f d (y ∷ xs) (suc i) x ys h = item_there f d xs i x ys h

there_within : {X : Type 0} (xs : List X) (i : ℕ) (x : X) (ys : List X) → drop i xs ≡ x ∷ ys → i < length xs
there_within [] zero x ys h = absurd (cc)
there_within [] (suc i) x ys h = absurd (cc)
there_within (y ∷ xs) zero x ys h = omega arith
there_within (y ∷ xs) (suc i) x ys h = let lt = there_within xs i x ys h in omega (arith, lt)

-- an expression is as wide, and the same operation, however its calls are numbered
many_numbered : (es : Operands) (n : ℕ) → many (all_numbered n es) ≡ many es
many_numbered none n = refl
many_numbered (more e es) n = ap suc (many_numbered es (n + calls e))

pub many_length : (es : List Expr) → many (operands_of es) ≡ length es
many_length [] = refl
many_length (e ∷ es) = ap suc (many_length es)

pub width_numbered : (e : Expression) (n : ℕ) → width (numbered n e) ≡ width e
width_numbered (literal v) n = refl
width_numbered (variable x) n = refl
width_numbered (operate o es) n = many_numbered es n
width_numbered (pre a) n = refl
width_numbered (arrow a b) n = refl
width_numbered (when t a) n = refl
width_numbered (merge x bs) n = many_numbered bs n
width_numbered (call g c args) n = many_numbered args (suc n)

operation_numbered : (e : Expression) (n : ℕ) (vs : Row) → operation_on (numbered n e) vs ≡ operation_on e vs
operation_numbered (literal v) n vs = refl
operation_numbered (variable x) n vs = refl
operation_numbered (operate o es) n vs = refl
operation_numbered (pre a) n vs = refl
operation_numbered (arrow a b) n vs = refl
operation_numbered (when t a) n vs = refl
operation_numbered (merge x bs) n vs = refl
operation_numbered (call g c args) n vs = refl

paired : (o : Operator) (x : Option (List Value)) (f : Operation) → option_map (λ vs. (o, vs)) x ≡ Some f → (o ≡ f.0) × (x ≡ Some f.1)
paired o None f h = absurd (cc)
paired o (Some vs) f h = let same : (o, vs) ≡ f = cc in (ap (λ g. g.0) same, ap (λ g. Some g.1) same)

-- an operation that has no value on the values of its operands
module _ (p : Program) (now : Instant) (past : World) (k : Clock) (vs : Row) (f : Operation) where
  is_operation : (e : Expression) → vs ≡ map (value_in p now past) (operand_parts p e k) → operation_on e vs ≡ Some f → value p e k now past ≡ None → IsCause p f (at k e) now past
  is_operation (operate o es) same is lacks =
      let m = paired o (gathered vs) f is in
      let own : values p es k now past ≡ Some f.1 = sym (ap gathered same ∙ gathered_are p now past es k 0) ∙ m.1 in
      let fails : apply f.0 f.1 ≡ None = ap (λ w. apply w f.1) (sym m.0) ∙ ap (with_operands (apply o)) (sym own) ∙ lacks in
      (es, ap (λ w. operate w es) m.0, own, fails)
  is_operation (literal v) same is lacks = absurd (cc)
  is_operation (variable x) same is lacks = absurd (cc)
  is_operation (pre a) same is lacks = absurd (cc)
  is_operation (arrow a b) same is lacks = absurd (cc)
  is_operation (when t a) same is lacks = absurd (cc)
  is_operation (merge x bs) same is lacks = absurd (cc)
  is_operation (call d c args) same is lacks = absurd (cc)

both_true : (on : Bool) (v : Option Value) → (on && is_none v) ≡ true → (on ≡ true) × (v ≡ None)
both_true true None h = (refl, refl)
both_true true (Some v) h = absurd (true≢false (sym h))
both_true false v h = absurd (true≢false (sym h))

not_both : (on : Bool) (v : Option Value) → (on && is_none v) ≡ false → on ≡ true → is_some v ≡ true
not_both true None h on = absurd (true≢false h)
not_both true (Some v) h on = refl
not_both false v h on = absurd (true≢false (sym on))

module _ (p : Program) (present : Bool) (row : Row) (rows : List Row) where
  pub behind_stands : (i : ℕ) (qs : List StoredPart) (kept : Row) (now : Instant) (past : World) → StandsAt p present row rows (map part_of qs) kept now past → StandsAt p present row rows (map part_of (drop i qs)) (drop i kept) now past
  behind_stands i qs kept now past s =
      record { base = s.base; entries = s.entries; called = s.called; keeps = subst (λ es. Keeps p past es (drop i kept)) (sym (dropped_map part_of i qs)) (keeps_past p past i (map part_of qs) kept s.keeps) }

  pub behind_nested : (i : ℕ) (qs : List StoredPart) → AreNested p (map part_of qs) → AreNested p (map part_of (drop i qs))
  behind_nested i qs h = subst (AreNested p) (sym (dropped_map part_of i qs)) (nested_behind p i (map part_of qs) h)

  -- the part at a place, behind which the parts have values
  module _ (qs : List StoredPart) (kept : Row) (i : ℕ) (q : StoredPart) (rest : drop i qs ≡ q ∷ drop (suc i) qs) (nested : AreNested p (map part_of qs)) where
    abbrev own : Expression
    own = numbered q.number (expression_of q.expr.now)

    abbrev on : Bool
    on = is_on q.clock.items (instant present row nobody)

    abbrev later : List Part
    later = map part_of (drop (suc i) qs)

    followed : IsFollowed p (part_of q) (part_of q ∷ later)
    followed = (subst (λ l. AreNested p (map part_of l)) rest (behind_nested i qs nested)).0

    module _ (now : Instant) (past : World) (s : StandsAt p present row rows (map part_of qs) kept now past) where
      here : StandsAt p present row rows (part_of q ∷ later) (drop i kept) now past
      here = subst (λ l. StandsAt p present row rows (map part_of l) (drop i kept) now past) rest (behind_stands i qs kept now past s)

      on_here : on ≡ is_on q.clock.items now
      on_here = ap₂ (λ b r. is_on q.clock.items (instant b r nobody)) (sym s.base) (sym s.entries) ∙ sym (on_is q.clock.items now)

      module _ (vs : Row) (same : vs ≡ map (value_in p now past) (roots later)) (os : Row) (taken : os ≡ take (width own) vs) where
        operands_here : os ≡ map (value_in p now past) (operand_parts p own q.clock.items)
        operands_here = taken ∙ operands_are p now past rows s.called own q.clock.items later (drop i kept) vs followed here.keeps same

        module _ (v : Option Value) (is : v ≡ made p row rows own os (item None (drop i kept) 1)) where
          value_here : v ≡ value p own q.clock.items now past
          value_here =
              is
              ∙ ap₂ (λ r l. made p r rows own l (item None (drop i kept) 1)) (sym s.entries) taken
              ∙ value_is p now past rows s.called own q.clock.items later (drop i kept) vs followed here.keeps same

          pub stack_here : (left : Row) → left ≡ drop (width own) vs → v ∷ left ≡ map (value_in p now past) (roots (map part_of (drop i qs)))
          stack_here left h =
              ap (λ l. v ∷ l) h
              ∙ stack_is p now past rows s.called own q.clock.items later (drop i kept) vs followed here.keeps same v value_here
              ∙ ap (λ l. map (value_in p now past) (roots (map part_of l))) (sym rest)

          kept_here : (next : Row) (w : Option Value) → next ≡ renewed p now past later (drop (suc i) kept) → w ≡ kept_next on v (item None (drop i kept) 0)
              → w ∷ next ≡ renewed p now past (map part_of (drop i qs)) (drop i kept)
          kept_here next w h e =
              let next_is : suc i ≡ i + 1 = omega arith in
              let one_more : drop (suc i) kept ≡ drop 1 (drop i kept) = ap (λ n. drop n kept) next_is ∙ dropped i 1 kept in
              ap₂ ◌∷◌ (e ∙ ap₂ (λ b o. kept_next b o (item None (drop i kept) 0)) on_here value_here) (h ∙ ap (renewed p now past later) one_more)
              ∙ ap (λ l. renewed p now past (map part_of l) (drop i kept)) (sym rest)

          fault_here : (on && is_none v) ≡ true → IsAtFault p (part_of q) now past
          fault_here h = let b = both_true on v h in (sym on_here ∙ b.0, sym value_here ∙ b.1)

          has_here : (on && is_none v) ≡ false → HasValue p (part_of q) now past
          has_here h = λ there. ap is_some (sym value_here) ∙ not_both on v h (on_here ∙ there)

          cause_here : (f : Operation) → operation_on (expression_of q.expr.now) os ≡ Some f → (on && is_none v) ≡ true → IsCause p f (part_of q) now past
          cause_here f e h =
              let b = both_true on v h in
              is_operation p now past q.clock.items os f own operands_here (operation_numbered (expression_of q.expr.now) q.number os ∙ e) (sym value_here ∙ b.1)

  -- the values of the outermost parts from a place on, what is kept of all of these, and which is at fault
  abbrev pub FaultFrom : List StoredPart → Row → ℕ → Option AtFault → Type 0
  FaultFrom qs kept i o =
      MatchOption o ((now : Instant) (past : World) → StandsAt p present row rows (map part_of qs) kept now past → Each (λ e. HasValue p e now past) (map part_of (drop i qs)))
      (IsFaultAt p present row rows (map part_of qs) kept)

  pub record IsRenewedFrom (qs : List StoredPart) (old : Row) (i : ℕ) (stack next : Row) (o : Option AtFault) : Type 0 where
    pub values : (now : Instant) (past : World) → StandsAt p present row rows (map part_of qs) old now past → stack ≡ map (value_in p now past) (roots (map part_of (drop i qs)))
    pub kept : (now : Instant) (past : World) → StandsAt p present row rows (map part_of qs) old now past → next ≡ renewed p now past (map part_of (drop i qs)) (drop i old)
    pub fault : FaultFrom qs old i o

  -- one part more
  module _ (qs : List StoredPart) (kept : Row) (i : ℕ) (q : StoredPart) (rest : drop i qs ≡ q ∷ drop (suc i) qs) (nested : AreNested p (map part_of qs)) (vs next : Row) (o : Option AtFault)
      (h : IsRenewedFrom qs kept (suc i) vs next o) (os : Row) (v : Option Value) where
    abbrev own_of : Expression
    own_of = numbered q.number (expression_of q.expr.now)

    abbrev at_fault : Bool
    at_fault = is_on q.clock.items (instant present row nobody) && is_none v

    module _ (taken : os ≡ take (width own_of) vs) (is : v ≡ made p row rows own_of os (item None (drop i kept) 1)) where
      there : item (at [] (literal nil)) (map part_of qs) i ≡ part_of q
      there = item_there part_of (at [] (literal nil)) qs i q (drop (suc i) qs) rest

      cause_is : (x : Option Operation) → x ≡ operation_on (expression_of q.expr.now) os → at_fault ≡ true
          → MatchOption x (Unit {0}) (λ f. (now : Instant) (past : World) → StandsAt p present row rows (map part_of qs) kept now past → IsCause p f (item (at [] (literal nil)) (map part_of qs) i) now past)
      cause_is None e b = tt
      cause_is (Some f) e b = λ now past s.
          subst (λ x. IsCause p f x now past) (sym there) (cause_here qs kept i q rest nested now past s vs (h.values now past s) os taken v is f (sym e) b)

      fault_by : (g : AtFault) → at_fault ≡ true → IsFaultBy (expression_of q.expr.now) os i g → IsFaultAt p present row rows (map part_of qs) kept g
      fault_by g b e =
          let within : i < length (map part_of qs) = omega (arith, length-map qs part_of, there_within qs i q (drop (suc i) qs) rest) in
          record {
            within = subst (λ n. n < length (map part_of qs)) (sym e.0) within;
            faults = λ now past s.
                subst (λ n. IsAtFault p (item (at [] (literal nil)) (map part_of qs) n) now past) (sym e.0)
                (subst (λ x. IsAtFault p x now past) (sym there) (fault_here qs kept i q rest nested now past s vs (h.values now past s) os taken v is b));
            is = subst
                (λ n. MatchOption (option_map operation_in g.operation) (Unit {0}) (λ f. (now : Instant) (past : World) → StandsAt p present row rows (map part_of qs) kept now past → IsCause p f (item (at [] (literal nil)) (map part_of qs) n) now past))
                (sym e.0) (cause_is (option_map operation_in g.operation) e.1 b);
          }

      fault_new : (c : Option AtFault) → at_fault ≡ true → MatchOption c ⊥ (IsFaultBy (expression_of q.expr.now) os i) → FaultFrom qs kept i c
      fault_new None b m = absurd m
      fault_new (Some g) b m = fault_by g b m

      fault_stays : (b : Bool) (c : Option AtFault) → b ≡ at_fault → (IsTrue b → IsSome c) → FaultFrom qs kept (suc i) c → FaultFrom qs kept i c
      fault_stays b (Some g) e some f = f
      fault_stays true None e some f = absurd (true≢false (sym (some refl)))
      fault_stays false None e some f = λ now past s.
          subst (λ l. Each (λ x. HasValue p x now past) (map part_of l)) (sym rest) (has_here qs kept i q rest nested now past s vs (h.values now past s) os taken v is (sym e), f now past s)

      pub renewed_next : (m : ℕ) (stack' next' left : Row) (w : Option Value) (b : Bool) (c : Option AtFault) → m ≡ i → stack' ≡ v ∷ left → next' ≡ w ∷ next
          → left ≡ drop (width own_of) vs → w ≡ kept_next (is_on q.clock.items (instant present row nobody)) v (item None (drop i kept) 0)
          → b ≡ at_fault → ((c ≡ o) × (IsTrue b → IsSome o)) ⊎ (IsTrue b × MatchOption c ⊥ (IsFaultBy (expression_of q.expr.now) os i)) → IsRenewedFrom qs kept m stack' next' c
      renewed_next m stack' next' left w b c em es en e f g by = subst (λ l. IsRenewedFrom qs kept l stack' next' c) (sym em) (record {
        values = λ now past s. es ∙ stack_here qs kept i q rest nested now past s vs (h.values now past s) os taken v is left e;
        kept = λ now past s. en ∙ kept_here qs kept i q rest nested now past s vs (h.values now past s) os taken v is next w (h.kept now past s) f;
        fault = ⊎_elim (λ l. subst (FaultFrom qs kept i) (sym l.0) (fault_stays b o g l.1 h.fault)) (λ r. fault_new c (sym g ∙ r.0) r.1) by;
      })

  -- none were gone through
  pub renewed_begun : (qs : List StoredPart) (kept : Row) (i : ℕ) (vs ws : Row) → length qs ≤ i → vs ≡ [] → ws ≡ [] → IsRenewedFrom qs kept i vs ws None
  renewed_begun qs kept i vs ws le e f =
      let done : drop i qs ≡ [] = drop_of_length-le qs le in
      record {
        values = λ now past s. e ∙ ap (λ l. map (value_in p now past) (roots (map part_of l))) (sym done);
        kept = λ now past s. f ∙ ap (λ l. renewed p now past (map part_of l) (drop i kept)) (sym done);
        fault = λ now past s. subst (λ l. Each (λ e. HasValue p e now past) (map part_of l)) (sym done) tt;
      }
