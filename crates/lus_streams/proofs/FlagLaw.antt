-- Flags hold in every world of a causal program on clocks without nil in its inputs, and in the worlds that it calls.
use Rattle.std.proofs.Common.{◌≡◌, ℕ, suc, ◌+◌, ◌<◌, ◌≤◌, nat_lt, Bool, true, false, ◌||◌, List, [], ◌∷◌, length, take, drop, Option, Some, None, refl, sym, ◌∙◌, subst, IsFalse, MatchBool, is_some, true≢false, arith, ⊎_elim}
use Rattle.lus_values.specs.Values.{Value, nil, Row}
use Rattle.lus_program.specs.Programs.{Expression, literal, variable, operate, pre, arrow, when, merge, call, Operands, none, more, Equation, Node, Program, node_at, empty_node}
use Rattle.lus_values.specs.Lists.{Each, Below}
use Rattle.lus_values.specs.Operators.{apply}
use Rattle.lus_values.specs.Entries.{with_operand, with_operands}
use Rattle.lus_streams.specs.Clocks.{Clock, clock_of, Part, at, formal_clock, base_of, branch_clock, parts, all_parts}
use Rattle.lus_streams.specs.Equations.{Definition, given_by, equation_clock, definition_of, equation_parts, node_parts, Site, sites}
use Rattle.lus_streams.specs.OnClock.{DefinedOnClock, PartOnClock, RightOnClock, IsOnClocks}
use Rattle.lus_streams.specs.Streams.{Instant, instant, Called, nobody, also, World, row_of, entry, called_instant, called_world, holds, is_on, at_last, where_on, output, value, values, branch, inputs_given, definition_value, Follows, EquationsHold, IsInstant, EachCall, Satisfies}
use Rattle.lus_streams.specs.Throughout.{Throughout, ThroughoutCalls}
use Rattle.lus_streams.specs.Order.{needs, needs_all, clock_variables, needs_right, needed, HasOrder}
use Rattle.lus_streams.specs.Flags.{IsNilFree, flag, greatest, Required, DefinedFlag, AreFlagsOf, was_on, FlagHolds, PartFlagHolds, FlagsHold, OutputIs, HasOutput, CallsHaveOutputs}
use Rattle.lus_streams.proofs.Lists.{each_left, each_right, each_append, each_all, each_implies, each_both, each_item, below_at, item_past, item_take}
use Rattle.lus_streams.proofs.Definitions.{RightParts, right_parts, defined_on_clock}
use Rattle.lus_streams.proofs.Orders.{by_order}
use Rattle.lus_streams.proofs.Calls.{OfCall, OfSite, AtBase, each_equation_part, equation_calls, sites_of_parts, parts_of_sites}
use Rattle.lus_streams.proofs.Worlds.{called_satisfies}
use Rattle.lus_streams.proofs.Throughout.{throughout_here}
use Rattle.lus_streams.proofs.Unique.{order_at, clocks_at}
use Rattle.lus_streams.specs.Laws.{HasNilFreeInputs, FlagsHoldInWorlds}
use Rattle.std.proofs.lemmas.Bool.{ltb-true, cases_lt}
use Rattle.lus_streams.proofs.NilFree.{AreNilFree, and_right, or_more, apply_nil_free}

-- P holds at each instant of a world, with its past
abbrev pub AllOver : (Instant → World → Type 0) → World → Type 0
AllOver P [] = Unit {0}
AllOver P (i ∷ past) = P i past × AllOver P past

on_drop : (k : Clock) (i : Instant) → is_on k i ≡ true → is_on (drop 1 k) i ≡ true
on_drop [] i h = h
on_drop (t ∷ k) i h = and_right (holds t.variable t.constructor i) (is_on k i) h

seen_drop : (k : Clock) (past : World) → was_on k past ≡ true → was_on (drop 1 k) past ≡ true
seen_drop k [] h = h
seen_drop k (i ∷ past) h = or_more (is_on k i) (was_on k past) (is_on (drop 1 k) i) (was_on (drop 1 k) past) (on_drop k i) (seen_drop k past) h

or_left : (a b : Bool) → (a || b) ≡ false → a ≡ false
or_left false b h = refl
or_left true b h = h

or_right : (a b : Bool) → (a || b) ≡ false → b ≡ false
or_right false b h = h
or_right true b h = absurd (true≢false h)

abbrev LastIsNilFree : Clock → World → Option Value → (Instant → World → Option Value) → Type 0
LastIsNilFree k past d f = (was_on k past ≡ false → IsNilFree d) → (was_on k past ≡ true → AllOver (λ i b. IsNilFree (f i b)) past) → IsNilFree (at_last k past d f)

last_cases : (o : Bool) (k : Clock) (i : Instant) (past : World) (d : Option Value) (f : Instant → World → Option Value) → LastIsNilFree k past d f
    → ((o || was_on k past) ≡ false → IsNilFree d) → ((o || was_on k past) ≡ true → AllOver (λ i b. IsNilFree (f i b)) (i ∷ past)) → IsNilFree (elim o [ true ↦ f i past | false ↦ at_last k past d f ])
last_cases true k i past d f r g h = (h refl).0
last_cases false k i past d f r g h = r g (λ e. (h e).1)

last_nil_free : (k : Clock) (past : World) (d : Option Value) (f : Instant → World → Option Value) → LastIsNilFree k past d f
last_nil_free k [] d f hd hf = hd refl
last_nil_free k (i ∷ past) d f hd hf = last_cases (is_on k i) k i past d f (last_nil_free k past d f) hd hf

constant_over : {X : Type 0} (past : World) → X → AllOver (λ i b. X) past
constant_over [] x = tt
constant_over (i ∷ past) x = (x, constant_over past x)

abbrev AreNilFreeIfAny : Option (List Value) → Type 0
AreNilFreeIfAny None = Unit {0}
AreNilFreeIfAny (Some vs) = AreNilFree vs

with_operand_nil_free : (o : Option Value) (vs : Option (List Value)) → IsNilFree o → AreNilFreeIfAny vs → AreNilFreeIfAny (with_operand o vs)
with_operand_nil_free None vs h k = tt
with_operand_nil_free (Some v) None h k = tt
with_operand_nil_free (Some v) (Some vs) h k = (h, k)

with_operands_nil_free : (f : List Value → Option Value) → ((vs : List Value) → AreNilFree vs → IsNilFree (f vs)) → (o : Option (List Value)) → AreNilFreeIfAny o → IsNilFree (with_operands f o)
with_operands_nil_free f h None k = tt
with_operands_nil_free f h (Some vs) k = h vs k

pick_nil_free : (b : Bool) (x y : Option Value) → IsNilFree x → IsNilFree y → IsNilFree (elim b [ true ↦ x | false ↦ y ])
pick_nil_free true x y h k = h
pick_nil_free false x y h k = k

where_on_nil_free : (b : Bool) (o : Option Value) → IsNilFree o → IsNilFree (where_on b o)
where_on_nil_free true o h = h
where_on_nil_free false o h = tt

-- no argument of a call has nil; then no output has
abbrev GivenNilFree : Program → Instant → World → (g c : ℕ) → Operands → Clock → Type 0
GivenNilFree p now past g c args base = Each IsNilFree (inputs_given p args (node_at p g) args base 0 now past)

abbrev OutputsNilFree : Program → Instant → World → (g c : ℕ) → Operands → Clock → Type 0
OutputsNilFree p now past g c args base = GivenNilFree p now past g c args base → (n : ℕ) → n < (node_at p g).outputs → IsNilFree (output p g c n now)

abbrev VariableOn : Node → Part → Type 0
VariableOn f (at k (variable x)) = clock_of f x ≡ k
VariableOn f _ = Unit {0}

-- node f under these flags
module _ (p : Program) (f : Node) (flags : ℕ → Bool) where
  abbrev VariableFlagIs : Instant → World → ℕ → Type 0
  VariableFlagIs now past x = FlagHolds (flags x) (was_on (clock_of f x) past) (entry now x)

  abbrev VariableFlagsHold : Instant → World → Type 0
  VariableFlagsHold now past = (x : ℕ) → VariableFlagIs now past x

  abbrev CallNilFree : Instant → World → Part → Type 0
  CallNilFree now past = OfCall (AtBase p (OutputsNilFree p now past))

  pub record MeetsPremises (w : World) (e : Part) : Type 0 where
    pub required : Required flags e
    pub placed : VariableOn f e
    pub arity : HasOutput p e
    pub calls : AllOver (λ i b. CallNilFree i b e) w

  abbrev AllMeetPremises : World → List Part → Type 0
  AllMeetPremises w es = Each (MeetsPremises w) es

  older : (now : Instant) (past : World) (es : List Part) → AllMeetPremises (now ∷ past) es → AllMeetPremises past es
  older now past es h = each_implies (MeetsPremises (now ∷ past)) (MeetsPremises past) (λ e g. record { required = g.required; placed = g.placed; arity = g.arity; calls = g.calls.1 }) es h

  -- the statement for an expression on a clock
  abbrev ValueFlagHolds : Expression → Clock → Type 0
  ValueFlagHolds e k = (now : Instant) (past : World) → Each (VariableFlagIs now past) (needs e) → AllOver VariableFlagsHold past → AllMeetPremises (now ∷ past) (parts p e k) → FlagHolds (flag flags e) (was_on k past) (value p e k now past)

  past_nil_free : (e : Expression) (k : Clock) → ValueFlagHolds e k → flag flags e ≡ false → (past : World) → AllOver VariableFlagsHold past → AllMeetPremises past (parts p e k) → AllOver (λ i b. IsNilFree (value p e k i b)) past
  past_nil_free e k here fl [] hv hg = tt
  past_nil_free e k here fl (i ∷ past) hv hg = ((here i past (each_all (VariableFlagIs i past) hv.0 (needs e)) hv.1 hg).0 fl, past_nil_free e k here fl past hv.1 (older i past (parts p e k) hg))

  mutual
    value_flag_holds : (e : Expression) (k : Clock) → ValueFlagHolds e k
    value_flag_holds (literal v) k now past hn hv hg = ((λ _. hg.0.required), (λ _. hg.0.required))
    value_flag_holds (variable x) k now past hn hv hg = subst (λ j. FlagHolds (flags x) (was_on j past) (entry now x)) hg.0.placed hn.0
    value_flag_holds (operate o es) k now past hn hv hg =
        let h = values_flag_holds es k 0 now past hn hv hg.1 in
        ((λ fl. with_operands_nil_free (apply o) (apply_nil_free o) (values p es k now past) (h.0 fl)), (λ s. with_operands_nil_free (apply o) (apply_nil_free o) (values p es k now past) (h.1 s)))
    value_flag_holds (pre a) k now past hn hv hg = (
      (λ fl. absurd (true≢false fl)),
      (λ s. last_nil_free k past (Some nil) (λ i before. value p a k i before) (λ ns. absurd (true≢false (sym s ∙ ns))) (λ _. past_nil_free a k (value_flag_holds a k) hg.0.required past hv (older now past (parts p a k) hg.1))),
    )
    value_flag_holds (arrow a b) k now past hn hv hg =
        let ha = value_flag_holds a k now past (each_left (VariableFlagIs now past) (needs a) (needs b) hn) hv (each_left (MeetsPremises (now ∷ past)) (parts p a k) (parts p b k) hg.1) in
        let hb = value_flag_holds b k now past (each_right (VariableFlagIs now past) (needs a) (needs b) hn) hv (each_right (MeetsPremises (now ∷ past)) (parts p a k) (parts p b k) hg.1) in
        let later : was_on k past ≡ true → AllOver (λ i b'. IsNilFree (value p b k now past)) past = λ s. constant_over past (hb.1 s) in (
          (λ fl. last_nil_free k past (value p a k now past) (λ i before. value p b k now past) (λ _. ha.0 fl) later),
          (λ s. last_nil_free k past (value p a k now past) (λ i before. value p b k now past) (λ ns. absurd (true≢false (sym s ∙ ns))) later),
        )
    value_flag_holds (when t a) k now past hn hv hg =
        let h = value_flag_holds a (drop 1 k) now past hn.1 hv hg.1 in
        (h.0, (λ s. h.1 (seen_drop k past s)))
    value_flag_holds (merge x bs) k now past hn hv hg =
        let h = branch_nil_free bs x 0 k now past hg.0.required.1 hn.1 hv hg.1 in
        ((λ _. h), (λ _. h))
    value_flag_holds (call g c args) k now past hn hv hg =
        let h = hg.0.calls.0 (given_nil_free args (node_at p g) args (base_of (node_at p g) k) 0 now past hg.0.required hn hv hg.1) 0 hg.0.arity in
        ((λ _. h), (λ _. h))

    values_flag_holds : (es : Operands) (k : Clock) (m : ℕ) (now : Instant) (past : World) → Each (VariableFlagIs now past) (needs_all es) → AllOver VariableFlagsHold past → AllMeetPremises (now ∷ past) (all_parts p es (λ n. k) m)
        → (greatest flags es ≡ false → AreNilFreeIfAny (values p es k now past)) × (was_on k past ≡ true → AreNilFreeIfAny (values p es k now past))
    values_flag_holds none k m now past hn hv hg = ((λ _. tt), (λ _. tt))
    values_flag_holds (more e es) k m now past hn hv hg =
        let rest = all_parts p es (λ n. k) (suc m) in
        let h = value_flag_holds e k now past (each_left (VariableFlagIs now past) (needs e) (needs_all es) hn) hv (each_left (MeetsPremises (now ∷ past)) (parts p e k) rest hg) in
        let hs = values_flag_holds es k (suc m) now past (each_right (VariableFlagIs now past) (needs e) (needs_all es) hn) hv (each_right (MeetsPremises (now ∷ past)) (parts p e k) rest hg) in (
          (λ fl. with_operand_nil_free (value p e k now past) (values p es k now past) (h.0 (or_left (flag flags e) (greatest flags es) fl)) (hs.0 (or_right (flag flags e) (greatest flags es) fl))),
          (λ s. with_operand_nil_free (value p e k now past) (values p es k now past) (h.1 s) (hs.1 s)),
        )

    branch_nil_free : (es : Operands) (x c : ℕ) (k : Clock) (now : Instant) (past : World) → greatest flags es ≡ false → Each (VariableFlagIs now past) (needs_all es) → AllOver VariableFlagsHold past → AllMeetPremises (now ∷ past) (all_parts p es (branch_clock x k) c) → IsNilFree (branch p es x c k now past)
    branch_nil_free none x c k now past fl hn hv hg = tt
    branch_nil_free (more e es) x c k now past fl hn hv hg =
        let k' = branch_clock x k c in
        let rest = all_parts p es (branch_clock x k) (suc c) in
        let h = value_flag_holds e k' now past (each_left (VariableFlagIs now past) (needs e) (needs_all es) hn) hv (each_left (MeetsPremises (now ∷ past)) (parts p e k') rest hg) in
        pick_nil_free (holds x c now) (value p e k' now past) (branch p es x (suc c) k now past) (h.0 (or_left (flag flags e) (greatest flags es) fl))
        (branch_nil_free es x (suc c) k now past (or_right (flag flags e) (greatest flags es) fl) (each_right (VariableFlagIs now past) (needs e) (needs_all es) hn) hv (each_right (MeetsPremises (now ∷ past)) (parts p e k') rest hg))

    given_nil_free : (es : Operands) (g : Node) (args : Operands) (base : Clock) (m : ℕ) (now : Instant) (past : World) → greatest flags es ≡ false → Each (VariableFlagIs now past) (needs_all es) → AllOver VariableFlagsHold past
        → AllMeetPremises (now ∷ past) (all_parts p es (formal_clock g args base) m) → Each IsNilFree (inputs_given p es g args base m now past)
    given_nil_free none g args base m now past fl hn hv hg = tt
    given_nil_free (more e es) g args base m now past fl hn hv hg =
        let k = formal_clock g args base m in
        let rest = all_parts p es (formal_clock g args base) (suc m) in
        let h = value_flag_holds e k now past (each_left (VariableFlagIs now past) (needs e) (needs_all es) hn) hv (each_left (MeetsPremises (now ∷ past)) (parts p e k) rest hg) in (
          where_on_nil_free (is_on k now) (value p e k now past) (h.0 (or_left (flag flags e) (greatest flags es) fl)),
          given_nil_free es g args base (suc m) now past (or_right (flag flags e) (greatest flags es) fl) (each_right (VariableFlagIs now past) (needs e) (needs_all es) hn) hv (each_right (MeetsPremises (now ∷ past)) (parts p e k) rest hg),
        )

  result_flag_holds : (now : Instant) (past : World) (x : ℕ) (d : Option Definition) → DefinedOnClock p f x d → DefinedFlag flags x d → OutputIs p d → Each (VariableFlagIs now past) (needs_right d) → AllOver VariableFlagsHold past → RightParts p (MeetsPremises (now ∷ past)) d
      → FlagHolds (flags x) (was_on (clock_of f x) past) (definition_value p d now past)
  result_flag_holds now past x None hk hf ho hn hv hg = ((λ _. tt), (λ _. tt))
  result_flag_holds now past x (Some (given_by (call g c args) n xs k)) hk hf ho hn hv hg =
      let h = hg.0.calls.0 (given_nil_free args (node_at p g) args (base_of (node_at p g) k) 0 now past hg.0.required hn hv hg.1) n ho in
      ((λ _. h), (λ _. h))
  result_flag_holds now past x (Some (given_by e n xs k)) hk hf ho hn hv hg =
      subst (λ b. FlagHolds b (was_on (clock_of f x) past) (value p e k now past)) (sym hf) (subst (λ j. FlagHolds (flag flags e) (was_on j past) (value p e k now past)) (sym hk) (value_flag_holds e k now past hn hv hg))

  -- all variables of an instant whose inputs have no nil
  module _ (now : Instant) (past : World) (l : EquationsHold p f now past) (inputs : Each IsNilFree (take f.inputs (row_of now)))
      (clocks : IsOnClocks p f) (outputs : Below (length f.variables) (λ y. OutputIs p (definition_of f y))) (meets : AreFlagsOf flags p f)
      (before : AllOver VariableFlagsHold past) (good : AllMeetPremises (now ∷ past) (node_parts p f)) where
    follows_flag_holds : (x : ℕ) → x < length f.variables → (b : Bool) → nat_lt x f.inputs ≡ b → Each (VariableFlagIs now past) (needs_right (definition_of f x))
        → MatchBool b (is_some (entry now x) ≡ is_on (clock_of f x) now) (entry now x ≡ where_on (is_on (clock_of f x) now) (definition_value p (definition_of f x) now past)) → VariableFlagIs now past x
    follows_flag_holds x within true e hn h =
        let s : IsNilFree (entry now x) = subst IsNilFree (item_take None f.inputs (row_of now) x (ltb-true x f.inputs e)) (each_item IsNilFree None (take f.inputs (row_of now)) tt inputs x) in
        ((λ _. s), (λ _. s))
    follows_flag_holds x within false e hn h =
        let r = result_flag_holds now past x (definition_of f x) (defined_on_clock p f x clocks) (below_at (λ y. DefinedFlag flags y (definition_of f y)) (length f.variables) meets.defined x within) (below_at (λ y. OutputIs p (definition_of f y)) (length f.variables) outputs x within) hn before (right_parts p (MeetsPremises (now ∷ past)) f f.equations x good) in
        let k = is_on (clock_of f x) now in
        ((λ fl. subst IsNilFree (sym h) (where_on_nil_free k (definition_value p (definition_of f x) now past) (r.0 fl))), (λ s. subst IsNilFree (sym h) (where_on_nil_free k (definition_value p (definition_of f x) now past) (r.1 s))))

    past_flag_holds : (x : ℕ) → length f.variables ≤ x → VariableFlagIs now past x
    past_flag_holds x ge =
        let s : IsNilFree (entry now x) = subst IsNilFree (sym (item_past None (row_of now) x (subst (λ n. n ≤ x) (sym l.width) ge))) tt in
        ((λ _. s), (λ _. s))

    variable_flag_holds : (x : ℕ) → Each (VariableFlagIs now past) (needed f x) → VariableFlagIs now past x
    variable_flag_holds x h =
        ⊎_elim
        (λ lt. follows_flag_holds x lt (nat_lt x f.inputs) refl (each_right (VariableFlagIs now past) (clock_variables (clock_of f x)) (needs_right (definition_of f x)) h) (below_at (Follows p f now past) (length f.variables) l.variables x lt))
        (past_flag_holds x)
        (cases_lt x (length f.variables))

    all_flag_holds : HasOrder f → VariableFlagsHold now past
    all_flag_holds o = by_order f (VariableFlagIs now past) variable_flag_holds o past_flag_holds

part_variable : (p : Program) (f : Node) (e : Part) → PartOnClock p f e → VariableOn f e
part_variable p f (at k (variable x)) h = h
part_variable p f (at k _) h = tt

right_variables : (p : Program) (f : Node) (e : Expression) (k : Clock) → RightOnClock p f (parts p e k) → Each (VariableOn f) (parts p e k)
right_variables p f (call g c args) k h = (tt, each_implies (PartOnClock p f) (VariableOn f) (part_variable p f) (all_parts p args (formal_clock (node_at p g) args (base_of (node_at p g) k)) 0) h)
right_variables p f e k h = each_implies (PartOnClock p f) (VariableOn f) (part_variable p f) (parts p e k) h

equation_variables : (p : Program) (f : Node) (qs : List Equation) → Each (λ q. RightOnClock p f (parts p q.right (equation_clock f q))) qs → Each (VariableOn f) (equation_parts p f qs)
equation_variables p f [] h = tt
equation_variables p f (q ∷ qs) h =
    each_append (VariableOn f) (parts p q.right (equation_clock f q)) (equation_parts p f qs) (right_variables p f q.right (equation_clock f q) h.0) (equation_variables p f qs h.1)

module _ (p : Program) (orders : (f : ℕ) → HasOrder (node_at p f)) (clocks : (f : ℕ) → IsOnClocks p (node_at p f)) (flags_at : ℕ → ℕ → Bool)
    (meets : (f : ℕ) → AreFlagsOf (flags_at f) p (node_at p f)) (fit : (f : ℕ) → CallsHaveOutputs p (node_at p f)) where
  -- the flags of the variables of a node hold at an instant
  abbrev VariablesHold : ℕ → Instant → World → Type 0
  VariablesHold f i past = VariableFlagsHold p (node_at p f) (flags_at f) i past

  abbrev FlagsHoldAt : Instant → ℕ → World → Type 0
  FlagsHoldAt i f past = Throughout p VariablesHold i f past

  abbrev FlagsHoldInCalls : Called → List Site → World → Type 0
  FlagsHoldInCalls js ss past = ThroughoutCalls p VariablesHold js ss past

  abbrev FlagsHoldOver : ℕ → World → Type 0
  FlagsHoldOver f [] = Unit {0}
  FlagsHoldOver f (i ∷ past) = FlagsHoldAt i f past × FlagsHoldOver f past

  variable_flags : (i : Instant) (f : ℕ) (past : World) → FlagsHoldAt i f past → VariableFlagsHold p (node_at p f) (flags_at f) i past
  variable_flags i f past h = throughout_here p VariablesHold i f past h

  variables_over : (f : ℕ) (w : World) → FlagsHoldOver f w → AllOver (VariableFlagsHold p (node_at p f) (flags_at f)) w
  variables_over f [] h = tt
  variables_over f (i ∷ past) h = (variable_flags i f past h.0, variables_over f past h.1)

  outputs_flag_holds : (j : Instant) (g : ℕ) (past : World) → FlagsHoldAt j g past → (n : ℕ) → n < (node_at p g).outputs → IsNilFree (entry j ((node_at p g).inputs + n))
  outputs_flag_holds j g past h n lt = (variable_flags j g past h ((node_at p g).inputs + n)).0 (below_at (λ y. IsFalse (flags_at g y)) ((node_at p g).inputs + (node_at p g).outputs) (meets g).public ((node_at p g).inputs + n) (omega arith))

  abbrev CalledFlagsHold : Instant → World → Site → Type 0
  CalledFlagsHold now past s = FlagsHoldAt (called_instant s.number now) s.node (called_world s.number past)

  called_flag_holds : (js : Called) (ss : List Site) (now : Instant) (past : World) → EachCall p js ss now past → FlagsHoldInCalls js ss past → Each (CalledFlagsHold now past) ss
  called_flag_holds nobody [] now past h k = tt
  called_flag_holds nobody (s ∷ ss) now past h k = absurd h
  called_flag_holds (also j js) [] now past h k = tt
  called_flag_holds (also j js) (s ∷ ss) now past h k = (subst (λ i. FlagsHoldAt i s.node (called_world s.number past)) (sym h.0.numbered) k.0, called_flag_holds js ss now past h.2 k.1)

  instant_called_flag_holds : (i : Instant) (f : ℕ) (past : World) → IsInstant p i f past → FlagsHoldAt i f past → Each (CalledFlagsHold i past) (sites p (node_at p f))
  instant_called_flag_holds (instant b row js) f past h k = called_flag_holds js (sites p (node_at p f)) (instant b row js) past h.1 k.1

  calls_over : (f : ℕ) (w : World) → Satisfies p f w → FlagsHoldOver f w → Each (λ e. AllOver (λ i b. CallNilFree p (node_at p f) (flags_at f) i b e) w) (node_parts p (node_at p f))
  calls_over f [] h k = each_all (λ e. Unit {0}) (λ e. tt) (node_parts p (node_at p f))
  calls_over f (i ∷ past) h k =
      each_both (CallNilFree p (node_at p f) (flags_at f) i past) (λ e. AllOver (λ i b. CallNilFree p (node_at p f) (flags_at f) i b e) past) (node_parts p (node_at p f))
      (parts_of_sites p (OutputsNilFree p i past) (node_parts p (node_at p f))
      (each_implies (CalledFlagsHold i past) (OfSite p (OutputsNilFree p i past)) (λ s h' _ n lt. outputs_flag_holds (called_instant s.number i) s.node (called_world s.number past) h' n lt) (sites p (node_at p f)) (instant_called_flag_holds i f past h.0 k.0)))
      (calls_over f past h.1 k.1)

  sites_over : (f : ℕ) (w : World) → Satisfies p f w → FlagsHoldOver f w → Each (λ s. FlagsHoldOver s.node (called_world s.number w)) (sites p (node_at p f))
  sites_over f [] h k = each_all (λ s. FlagsHoldOver s.node (called_world s.number [])) (λ s. tt) (sites p (node_at p f))
  sites_over f (i ∷ past) h k =
      each_both (CalledFlagsHold i past) (λ s. FlagsHoldOver s.node (called_world s.number past)) (sites p (node_at p f)) (instant_called_flag_holds i f past h.0 k.0) (sites_over f past h.1 k.1)

  premises_met : (f : ℕ) (w : World) → Each (λ e. AllOver (λ i b. CallNilFree p (node_at p f) (flags_at f) i b e) w) (node_parts p (node_at p f)) → AllMeetPremises p (node_at p f) (flags_at f) w (node_parts p (node_at p f))
  premises_met f w h =
      let node = node_at p f in
      let es = node_parts p node in
      each_implies
      (λ e. (Required (flags_at f) e × VariableOn node e) × (HasOutput p e × AllOver (λ i b. CallNilFree p node (flags_at f) i b e) w))
      (MeetsPremises p node (flags_at f) w)
      (λ e g. record { required = g.0.0; placed = g.0.1; arity = g.1.0; calls = g.1.1 })
      es
      (each_both (λ e. Required (flags_at f) e × VariableOn node e) (λ e. HasOutput p e × AllOver (λ i b. CallNilFree p node (flags_at f) i b e) w) es
      (each_both (Required (flags_at f)) (VariableOn node) es (meets f).parts (equation_variables p node node.equations (clocks f).rights))
      (each_both (HasOutput p) (λ e. AllOver (λ i b. CallNilFree p node (flags_at f) i b e) w) es (fit f).parts h))

  called_flags : (js : Called) (ss : List Site) (now : Instant) (past : World) → EachCall p js ss now past → Each (CalledFlagsHold now past) ss → FlagsHoldInCalls js ss past
  called_flags nobody ss now past h k = tt
  called_flags (also j js) [] now past h k = tt
  called_flags (also j js) (s ∷ ss) now past h k = (subst (λ i. FlagsHoldAt i s.node (called_world s.number past)) h.0.numbered k.0, called_flags js ss now past h.2 k.1)

  abbrev IfGiven : Instant → World → Site → Type 0
  IfGiven now past s = OfSite p (GivenNilFree p now past) s → CalledFlagsHold now past s

  abbrev PastFlagsHold : World → Site → Type 0
  PastFlagsHold past s = Satisfies p s.node (called_world s.number past) × FlagsHoldOver s.node (called_world s.number past)

  -- an instant the flags of whose calls hold where no input of theirs has nil
  built_flags_hold : (b : Bool) (row : Row) (js : Called) (f : ℕ) (past : World) → IsInstant p (instant b row js) f past → Each IsNilFree (take (node_at p f).inputs row) → Satisfies p f past → FlagsHoldOver f past
      → Each (IfGiven (instant b row js) past) (sites p (node_at p f)) → FlagsHoldAt (instant b row js) f past
  built_flags_hold b row js f past h hi hs hf if =
      let now = instant b row js in
      let node = node_at p f in
      let nil_free = each_implies (IfGiven now past) (OfSite p (OutputsNilFree p now past)) (λ s h' g n lt. outputs_flag_holds (called_instant s.number now) s.node (called_world s.number past) (h' g) n lt) (sites p node) if in
      let good = premises_met f (now ∷ past) (each_both (CallNilFree p node (flags_at f) now past) (λ e. AllOver (λ i b. CallNilFree p node (flags_at f) i b e) past) (node_parts p node) (parts_of_sites p (OutputsNilFree p now past) (node_parts p node) nil_free) (calls_over f past hs hf)) in
      let before = variables_over f past hf in
      let vars = all_flag_holds p node (flags_at f) now past h.0 hi (clocks f) (fit f).defined (meets f) before good (orders f) in
      let givens =
      sites_of_parts p (GivenNilFree p now past) (node_parts p node)
      (equation_calls p (MeetsPremises p node (flags_at f) (now ∷ past)) (AtBase p (GivenNilFree p now past))
      (λ g c args k here inner. given_nil_free p node (flags_at f) args (node_at p g) args (base_of (node_at p g) k) 0 now past here.required (each_all (VariableFlagIs p node (flags_at f) now past) vars (needs_all args)) before inner)
      node node.equations good) in
      let both = each_both (IfGiven now past) (OfSite p (GivenNilFree p now past)) (sites p node) if givens in
      (vars, called_flags js (sites p node) now past h.1 (each_implies (λ s. IfGiven now past s × OfSite p (GivenNilFree p now past) s) (CalledFlagsHold now past) (λ s k. k.0 k.1) (sites p node) both))

  mutual
    instant_flags_hold : (i : Instant) (f : ℕ) (past : World) → IsInstant p i f past → Each IsNilFree (take (node_at p f).inputs (row_of i)) → Satisfies p f past → FlagsHoldOver f past → FlagsHoldAt i f past
    instant_flags_hold (instant b row js) f past h hi hs hf =
        built_flags_hold b row js f past h hi hs hf
        (calls_flag_holds js (sites p (node_at p f)) (instant b row js) past h.1
        (each_both (λ s. Satisfies p s.node (called_world s.number past)) (λ s. FlagsHoldOver s.node (called_world s.number past)) (sites p (node_at p f)) (called_satisfies p f past hs) (sites_over f past hs hf)))

    calls_flag_holds : (js : Called) (ss : List Site) (now : Instant) (past : World) → EachCall p js ss now past → Each (PastFlagsHold past) ss → Each (IfGiven now past) ss
    calls_flag_holds nobody [] now past h k = tt
    calls_flag_holds nobody (s ∷ ss) now past h k = absurd h
    calls_flag_holds (also j js) [] now past h k = tt
    calls_flag_holds (also j js) (s ∷ ss) now past h k = (
      (λ g.
          subst (λ i. FlagsHoldAt i s.node (called_world s.number past)) (sym h.0.numbered)
          (instant_flags_hold j s.node (called_world s.number past) h.1 (subst (Each IsNilFree) (sym h.0.inputs) g) k.0.0 k.0.1)),
      calls_flag_holds js ss now past h.2 k.1,
    )

  world_flag_holds : (f : ℕ) (w : World) → Satisfies p f w → Each (λ i. Each IsNilFree (take (node_at p f).inputs (row_of i))) w → FlagsHoldOver f w
  world_flag_holds f [] h hi = tt
  world_flag_holds f (i ∷ past) h hi = let before = world_flag_holds f past h.1 hi.1 in (instant_flags_hold i f past h.0 hi.0 h.1 before, before)

  abbrev PartsHold : ℕ → Instant → World → Type 0
  PartsHold f i past = FlagsHold p (flags_at f) i past (node_at p f)

  -- where the flags of variables hold over a world and all that it calls, those of all parts hold too
  parts_hold : (f : ℕ) (now : Instant) (past : World) → Satisfies p f (now ∷ past) → FlagsHoldOver f (now ∷ past) → PartsHold f now past
  parts_hold f now past h over =
      let node = node_at p f in
      let here = variable_flags now f past over.0 in
      let before = variables_over f past over.1 in
      let premises = premises_met f (now ∷ past) (calls_over f (now ∷ past) h over) in
      record {
        variables = here;
        parts =
            each_equation_part p (MeetsPremises p node (flags_at f) (now ∷ past)) (PartFlagHolds p (flags_at f) now past)
            (λ e k met. value_flag_holds p node (flags_at f) e k now past (each_all (VariableFlagIs p node (flags_at f) now past) here (needs e)) before met)
            node node.equations premises;
      }

  mutual
    parts_hold_throughout : (i : Instant) (f : ℕ) (past : World) → Satisfies p f (i ∷ past) → FlagsHoldOver f (i ∷ past) → Throughout p PartsHold i f past
    parts_hold_throughout (instant b row js) f past h over = (
      parts_hold f (instant b row js) past h over,
      parts_hold_in_calls js (sites p (node_at p f)) (instant b row js) past h.0.1 over.0.1
          (each_both (λ s. Satisfies p s.node (called_world s.number past)) (λ s. FlagsHoldOver s.node (called_world s.number past)) (sites p (node_at p f)) (called_satisfies p f past h.1) (sites_over f past h.1 over.1)),
    )

    parts_hold_in_calls : (js : Called) (ss : List Site) (now : Instant) (past : World) → EachCall p js ss now past → FlagsHoldInCalls js ss past → Each (PastFlagsHold past) ss → ThroughoutCalls p PartsHold js ss past
    parts_hold_in_calls nobody ss now past h k l = tt
    parts_hold_in_calls (also j js) [] now past h k l = tt
    parts_hold_in_calls (also j js) (s ∷ ss) now past h k l = (
      parts_hold_throughout j s.node (called_world s.number past) (h.1, l.0.0) (k.0, l.0.1),
      parts_hold_in_calls js ss now past h.2 k.1 l.1,
    )

  pub flags_law : (f : ℕ) (now : Instant) (past : World) → Satisfies p f (now ∷ past) → Each (HasNilFreeInputs p f) (now ∷ past) → Throughout p PartsHold now f past
  flags_law f now past h hi = parts_hold_throughout now f past h (world_flag_holds f (now ∷ past) h hi)

pub flags_hold_in_worlds : FlagsHoldInWorlds
flags_hold_in_worlds p causal clocks fit flags meets =
    flags_law p (order_at p causal clocks) (clocks_at p causal clocks) flags meets
    (each_item (CallsHaveOutputs p) empty_node p.nodes (record { parts = tt; defined = tt }) fit)
