-- Values of a node's expressions and variables have their types, where those of its inputs and of the nodes that it calls do.
use Rattle.std.proofs.Common.{◌≡◌, ◌∙◌, ℕ, zero, suc, ◌+◌, ◌≤◌, nat_eq, nat_lt, Bool, true, false, List, [], ◌∷◌, map, length, take, drop, Option, Some, None, is_some, refl, sym, subst, arith, MatchBool, ⊎_elim}
use Rattle.std.proofs.lemmas.Bool.{eq-eqb, ltb-true, cases_lt}
use Rattle.std.specs.List.{list_all}
use Rattle.std.specs.Option.{option_and_then}
use Rattle.lus_values.specs.declared.operator.Operator.{Operator}
use Rattle.lus_values.specs.Lists.{item, Each}
use Rattle.lus_values.specs.Operators.{apply}
use Rattle.lus_values.specs.Values.{Value, bool, int, enum, struct, nil, Row}
use Rattle.lus_values.specs.Entries.{with_operand, with_operands}
use Rattle.lus_values.proofs.Equalities.{and_left, and_right, and_true}
use Rattle.lus_program.specs.declared.types.Kind.{Kind}
use Rattle.lus_program.specs.Programs.{Expression, literal, variable, operate, pre, arrow, when, merge, call, Operands, none, more, Variable, Node, Program, no_variable, node_at}
use Rattle.lus_program.specs.Kinds.{same, alike, common_kind}
use Rattle.lus_program.specs.Given.{variable_given, given}
use Rattle.lus_program.specs.Resolved.{operator_kind, input_kinds, kind_of_variable, merged, kind_in, kinds_in, results, values_of}
use Rattle.lus_program.proofs.Options.{and_then_gives, where_true_gives, same_is}
use Rattle.lus_program.proofs.KindsGiven.{given_is}
use Rattle.lus_program.proofs.TypedParts.{HasKind, whole_call, whole_typed}
use Rattle.lus_streams.specs.Clocks.{Clock, clock_of, Part, at, formal_clock, base_of, branch_clock, parts, all_parts}
use Rattle.lus_streams.specs.Equations.{Definition, given_by, definition_of, node_parts}
use Rattle.lus_streams.specs.Order.{needs, needs_all, clock_variables, needs_right, needed, HasOrder}
use Rattle.lus_streams.specs.Streams.{Instant, World, row_of, entry, holds, is_on, at_last, where_on, output, value, values, branch, inputs_given, definition_value, Follows, EquationsHold}
use Rattle.lus_streams.proofs.Calls.{OfCall, AtBase}
use Rattle.lus_streams.proofs.Definitions.{RightParts, right_parts}
use Rattle.lus_streams.proofs.FlagLaw.{AllOver}
use Rattle.lus_streams.proofs.Lists.{each_left, each_right, each_all, each_implies, below_at, item_past, item_take}
use Rattle.lus_streams.proofs.Orders.{by_order}
use Rattle.lus_typed_streams.specs.Types.{Constructors, HasType, HaveTypes}
use Rattle.lus_typed_streams.specs.Laws.{IsLiteralOf}
use Rattle.lus_typed_streams.proofs.Operators.{some_same, HaveOperandTypes, apply_typed}
use Rattle.lus_typed_streams.proofs.EquationKinds.{argument_kinds, are_more, PartHasKinds, GivesKind}

module _ (p : Program) (constructors : Constructors) where
  -- what an instant, a row or operands give of a type
  either_typed : (l : Kind) (b : Bool) (x y : Option Value) → HasType p constructors l x → HasType p constructors l y → HasType p constructors l (elim b [ true ↦ x | false ↦ y ])
  either_typed l true x y h k = h
  either_typed l false x y h k = k

  last_typed : (l : Kind) (k : Clock) (past : World) (d : Option Value) (f : Instant → World → Option Value) → HasType p constructors l d → AllOver (λ i before. HasType p constructors l (f i before)) past → HasType p constructors l (at_last k past d f)
  last_typed l k [] d f h hf = h
  last_typed l k (i ∷ past) d f h hf = either_typed l (is_on k i) (f i past) (at_last k past d f) hf.0 (last_typed l k past d f h hf.1)

  where_on_typed : (l : Kind) (b : Bool) (o : Option Value) → HasType p constructors l o → HasType p constructors l (where_on b o)
  where_on_typed l true o h = h
  where_on_typed l false o h = tt

  abbrev HaveTypesIfAny : List Kind → Option (List Value) → Type 0
  HaveTypesIfAny ks None = Unit {0}
  HaveTypesIfAny ks (Some vs) = HaveOperandTypes p constructors ks vs

  with_operand_typed : (k : Kind) (ks : List Kind) (o : Option Value) (vs : Option (List Value)) → HasType p constructors k o → HaveTypesIfAny ks vs → HaveTypesIfAny (k ∷ ks) (with_operand o vs)
  with_operand_typed k ks None vs h hs = tt
  with_operand_typed k ks (Some v) None h hs = tt
  with_operand_typed k ks (Some v) (Some vs) h hs = (h, hs)

  with_operands_typed : (o : Operator) (ks : List Kind) (k : Kind) (vs : Option (List Value)) → operator_kind p o ks ≡ Some k → HaveTypesIfAny ks vs → HasType p constructors k (with_operands (apply o) vs)
  with_operands_typed o ks k None e h = tt
  with_operands_typed o ks k (Some vs) e h = apply_typed p constructors o ks k vs e h

  -- an item of a row of the first variables
  row_item : (n : ℕ) (vs : List Variable) (r : Row) (x : ℕ) → HaveTypes p constructors (map (λ v. v.kind) (take n vs)) r → HasType p constructors (item no_variable vs x).kind (item None r x)
  row_item n vs [] x h = tt
  row_item zero vs (e ∷ r) x h = absurd h
  row_item (suc n) [] (e ∷ r) x h = absurd h
  row_item (suc n) (v ∷ vs) (e ∷ r) zero h = h.0
  row_item (suc n) (v ∷ vs) (e ∷ r) (suc x) h = row_item n vs r x h.1

  -- branches of one type
  each_same : (k : Kind) (ks : List Kind) → list_all (same k) ks ≡ true → Each (λ l. l ≡ k) ks
  each_same k [] h = tt
  each_same k (l ∷ ks) h = (sym (same_is k l (and_left (same k l) (list_all (same k) ks) h)), each_same k ks (and_right (same k l) (list_all (same k) ks) h))

  all_common : (ks : List Kind) (k : Kind) → common_kind ks ≡ Some k → Each (λ l. l ≡ k) ks
  all_common [] k h = tt
  all_common (l ∷ ks) k h =
      let one = where_true_gives (list_all (same l) ks) (Some l) k h in
      subst (λ m. Each (λ n. n ≡ m) (l ∷ ks)) (some_same one.1) (refl, each_same l ks one.0)

  -- what a call is passed has the types of the called node's inputs; then what it gives has those of the outputs
  abbrev pub InputsTyped : Instant → World → (g c : ℕ) → Operands → Clock → Type 0
  InputsTyped now past g c args base = HaveTypes p constructors (input_kinds (node_at p g)) (inputs_given p args (node_at p g) args base 0 now past)

  call_passes : (g : ℕ) (args : Operands) (base : Clock) (ks ls : List Kind) → results p g ks ≡ Some ls → (now : Instant) (past : World) → HaveTypes p constructors ks (inputs_given p args (node_at p g) args base 0 now past)
      → HaveTypes p constructors (input_kinds (node_at p g)) (inputs_given p args (node_at p g) args base 0 now past)
  call_passes g args base ks ls gives now past h = subst (λ ms. HaveTypes p constructors ms (inputs_given p args (node_at p g) args base 0 now past)) (argument_kinds p g ks ls gives) h

  abbrev pub OutputsTyped : Instant → World → (g c : ℕ) → Operands → Clock → Type 0
  OutputsTyped now past g c args base = InputsTyped now past g c args base → (n : ℕ) → HasType p constructors (variable_given (node_at p g) ((node_at p g).inputs + n)) (output p g c n now)

  abbrev pub CallTyped : Instant → World → Part → Type 0
  CallTyped now past = OfCall (AtBase p (OutputsTyped now past))

  module _ (f : Node) where
    abbrev pub VariableTyped : Instant → ℕ → Type 0
    VariableTyped now x = HasType p constructors (variable_given f x) (entry now x)

    abbrev pub VariablesTyped : Instant → Type 0
    VariablesTyped now = (x : ℕ) → VariableTyped now x

    pub record MeetsPremises (w : World) (e : Part) : Type 0 where
      pub kinds : PartHasKinds p f e
      pub literal_of : IsLiteralOf constructors e
      pub calls : AllOver (λ i before. CallTyped i before e) w

    abbrev pub AllMeetPremises : World → List Part → Type 0
    AllMeetPremises w es = Each (MeetsPremises w) es

    older : (now : Instant) (past : World) (es : List Part) → AllMeetPremises (now ∷ past) es → AllMeetPremises past es
    older now past es h = each_implies (MeetsPremises (now ∷ past)) (MeetsPremises past) (λ e g. record { kinds = g.kinds; literal_of = g.literal_of; calls = g.calls.1 }) es h

    literal_typed : (v : Value) (k : Clock) → PartHasKinds p f (at k (literal v)) → IsLiteralOf constructors (at k (literal v)) → HasType p constructors (given p f (literal v)) (Some v)
    literal_typed (bool b) k h c = refl
    literal_typed (int z) k h c = refl
    literal_typed (enum t n) k h c = and_true (nat_eq t t) (constructors t n) (eq-eqb t t refl) c
    literal_typed (struct fs) k h c = let none : None ≡ Some h.0 = h.1 in cc
    literal_typed nil k h c = refl

    -- the operands of `->` have one type
    arrow_kinds : (a b : Expression) → HasKind p f (arrow a b) → given p f b ≡ given p f a
    arrow_kinds a b h =
        let first = and_then_gives (λ k. option_and_then (alike k) (kind_in p f b)) (kind_in p f a) h.0 h.1 in
        let last = and_then_gives (alike first.0) (kind_in p f b) h.0 first.2 in
        let one = where_true_gives (same first.0 last.0) (Some first.0) h.0 last.2 in
        given_is p f b last.0 last.1 ∙ sym (same_is first.0 last.0 one.0) ∙ sym (given_is p f a first.0 first.1)

    -- an operand has its type, of several
    of_kind : (e : Expression) (k : Kind) (o : Option Value) → kind_in p f e ≡ Some k → HasType p constructors (given p f e) o → HasType p constructors k o
    of_kind e k o h t = subst (λ l. HasType p constructors l o) (given_is p f e k h) t

    -- the statement for an expression on a clock
    abbrev ValueTyped : Expression → Clock → Type 0
    ValueTyped e k = (now : Instant) (past : World) → Each (VariableTyped now) (needs e) → Each VariablesTyped past → AllMeetPremises (now ∷ past) (parts p e k) → HasType p constructors (given p f e) (value p e k now past)

    past_typed : (e : Expression) (k : Clock) → ValueTyped e k → (past : World) → Each VariablesTyped past → AllMeetPremises past (parts p e k) → AllOver (λ i before. HasType p constructors (given p f e) (value p e k i before)) past
    past_typed e k here [] hv hg = tt
    past_typed e k here (i ∷ past) hv hg = (here i past (each_all (VariableTyped i) hv.0 (needs e)) hv.1 hg, past_typed e k here past hv.1 (older i past (parts p e k) hg))

    constant_typed : (l : Kind) (o : Option Value) (past : World) → HasType p constructors l o → AllOver (λ i before. HasType p constructors l o) past
    constant_typed l o [] h = tt
    constant_typed l o (i ∷ past) h = (h, constant_typed l o past h)

    mutual
      pub value_typed : (e : Expression) (k : Clock) → ValueTyped e k
      value_typed (literal v) k now past hn hv hg = literal_typed v k hg.0.kinds hg.0.literal_of
      value_typed (variable x) k now past hn hv hg = hn.0
      value_typed (operate o es) k now past hn hv hg =
          let has = whole_typed p f (operate o es) hg.0.kinds.0 hg.0.kinds.1 in
          let all = and_then_gives (operator_kind p o) (kinds_in p f es) has.0 has.1 in
          subst (λ l. HasType p constructors l (value p (operate o es) k now past)) (sym (given_is p f (operate o es) has.0 has.1))
          (with_operands_typed o all.0 has.0 (values p es k now past) all.2 (values_typed es k 0 all.0 all.1 now past hn hv hg.1))
      value_typed (pre a) k now past hn hv hg =
          last_typed (given p f a) k past (Some nil) (λ i before. value p a k i before) refl (past_typed a k (value_typed a k) past hv (older now past (parts p a k) hg.1))
      value_typed (arrow a b) k now past hn hv hg =
          let ha = value_typed a k now past (each_left (VariableTyped now) (needs a) (needs b) hn) hv (each_left (MeetsPremises (now ∷ past)) (parts p a k) (parts p b k) hg.1) in
          let hb = value_typed b k now past (each_right (VariableTyped now) (needs a) (needs b) hn) hv (each_right (MeetsPremises (now ∷ past)) (parts p a k) (parts p b k) hg.1) in
          let same = arrow_kinds a b (whole_typed p f (arrow a b) hg.0.kinds.0 hg.0.kinds.1) in
          last_typed (given p f a) k past (value p a k now past) (λ i before. value p b k now past) ha
          (constant_typed (given p f a) (value p b k now past) past (subst (λ l. HasType p constructors l (value p b k now past)) same hb))
      value_typed (when t a) k now past hn hv hg = value_typed a (drop 1 k) now past hn.1 hv hg.1
      value_typed (merge x bs) k now past hn hv hg =
          let has = whole_typed p f (merge x bs) hg.0.kinds.0 hg.0.kinds.1 in
          let all = and_then_gives (λ ks. option_and_then (merged p f ks) (kind_of_variable p f x)) (kinds_in p f bs) has.0 has.1 in
          let tested = and_then_gives (merged p f all.0) (kind_of_variable p f x) has.0 all.2 in
          let common = where_true_gives (nat_eq (length all.0) (values_of p tested.0)) (common_kind all.0) has.0 tested.2 in
          subst (λ l. HasType p constructors l (value p (merge x bs) k now past)) (sym (given_is p f (merge x bs) has.0 has.1))
          (branch_typed bs x 0 k has.0 all.0 all.1 (all_common all.0 has.0 common.1) now past hn.1 hv hg.1)
      value_typed (call g c args) k now past hn hv hg =
          let made = whole_call p f g c args hg.0.kinds.0 hg.0.kinds.1 in
          let first : (node_at p g).inputs + 0 ≡ (node_at p g).inputs = omega arith in
          subst (λ n. HasType p constructors (variable_given (node_at p g) n) (value p (call g c args) k now past)) first
          (hg.0.calls.0 (call_passes g args (base_of (node_at p g) k) made.arguments hg.0.kinds.0 made.gives now past (passed_typed args (node_at p g) args (base_of (node_at p g) k) 0 made.arguments made.have now past hn hv hg.1)) 0)

      values_typed : (es : Operands) (k : Clock) (m : ℕ) (ks : List Kind) → kinds_in p f es ≡ Some ks → (now : Instant) (past : World) → Each (VariableTyped now) (needs_all es) → Each VariablesTyped past
          → AllMeetPremises (now ∷ past) (all_parts p es (λ n. k) m) → HaveTypesIfAny ks (values p es k now past)
      values_typed none k m ks h now past hn hv hg = subst (λ ls. HaveOperandTypes p constructors ls []) (some_same h) tt
      values_typed (more e es) k m ks h now past hn hv hg =
          let r = are_more p f e es ks h in
          let rest = all_parts p es (λ n. k) (suc m) in
          subst (λ ls. HaveTypesIfAny ls (values p (more e es) k now past)) r.whole
          (with_operand_typed r.first r.others (value p e k now past) (values p es k now past)
          (of_kind e r.first (value p e k now past) r.first_has (value_typed e k now past (each_left (VariableTyped now) (needs e) (needs_all es) hn) hv (each_left (MeetsPremises (now ∷ past)) (parts p e k) rest hg)))
          (values_typed es k (suc m) r.others r.others_have now past (each_right (VariableTyped now) (needs e) (needs_all es) hn) hv (each_right (MeetsPremises (now ∷ past)) (parts p e k) rest hg)))

      branch_typed : (es : Operands) (x c : ℕ) (k : Clock) (l : Kind) (ks : List Kind) → kinds_in p f es ≡ Some ks → Each (λ m. m ≡ l) ks → (now : Instant) (past : World) → Each (VariableTyped now) (needs_all es) → Each VariablesTyped past
          → AllMeetPremises (now ∷ past) (all_parts p es (branch_clock x k) c) → HasType p constructors l (branch p es x c k now past)
      branch_typed none x c k l ks h one now past hn hv hg = tt
      branch_typed (more e es) x c k l ks h one now past hn hv hg =
          let r = are_more p f e es ks h in
          let both : Each (λ m. m ≡ l) (r.first ∷ r.others) = subst (Each (λ m. m ≡ l)) (sym r.whole) one in
          let k' = branch_clock x k c in
          let rest = all_parts p es (branch_clock x k) (suc c) in
          either_typed l (holds x c now) (value p e k' now past) (branch p es x (suc c) k now past)
          (subst (λ m. HasType p constructors m (value p e k' now past)) both.0
          (of_kind e r.first (value p e k' now past) r.first_has (value_typed e k' now past (each_left (VariableTyped now) (needs e) (needs_all es) hn) hv (each_left (MeetsPremises (now ∷ past)) (parts p e k') rest hg))))
          (branch_typed es x (suc c) k l r.others r.others_have both.1 now past (each_right (VariableTyped now) (needs e) (needs_all es) hn) hv (each_right (MeetsPremises (now ∷ past)) (parts p e k') rest hg))

      passed_typed : (es : Operands) (g : Node) (args : Operands) (base : Clock) (m : ℕ) (ks : List Kind) → kinds_in p f es ≡ Some ks → (now : Instant) (past : World) → Each (VariableTyped now) (needs_all es) → Each VariablesTyped past
          → AllMeetPremises (now ∷ past) (all_parts p es (formal_clock g args base) m) → HaveTypes p constructors ks (inputs_given p es g args base m now past)
      passed_typed none g args base m ks h now past hn hv hg = subst (λ ls. HaveTypes p constructors ls []) (some_same h) tt
      passed_typed (more e es) g args base m ks h now past hn hv hg =
          let r = are_more p f e es ks h in
          let k = formal_clock g args base m in
          let rest = all_parts p es (formal_clock g args base) (suc m) in
          subst (λ ls. HaveTypes p constructors ls (inputs_given p (more e es) g args base m now past)) r.whole (
            where_on_typed r.first (is_on k now) (value p e k now past)
                (of_kind e r.first (value p e k now past) r.first_has (value_typed e k now past (each_left (VariableTyped now) (needs e) (needs_all es) hn) hv (each_left (MeetsPremises (now ∷ past)) (parts p e k) rest hg))),
            passed_typed es g args base (suc m) r.others r.others_have now past (each_right (VariableTyped now) (needs e) (needs_all es) hn) hv (each_right (MeetsPremises (now ∷ past)) (parts p e k) rest hg),
          )

    -- what a call is passed, where the call is a part
    pub part_passes : (now : Instant) (past : World) (g c : ℕ) (args : Operands) (k : Clock) → Each (VariableTyped now) (needs_all args) → Each VariablesTyped past → MeetsPremises (now ∷ past) (at k (call g c args))
        → AllMeetPremises (now ∷ past) (all_parts p args (formal_clock (node_at p g) args (base_of (node_at p g) k)) 0) → InputsTyped now past g c args (base_of (node_at p g) k)
    part_passes now past g c args k hn hv here inner =
        let made = whole_call p f g c args here.kinds.0 here.kinds.1 in
        call_passes g args (base_of (node_at p g) k) made.arguments here.kinds.0 made.gives now past (passed_typed args (node_at p g) args (base_of (node_at p g) k) 0 made.arguments made.have now past hn hv inner)

    result_typed : (now : Instant) (past : World) (x : ℕ) (d : Option Definition) → GivesKind p f x d → Each (VariableTyped now) (needs_right d) → Each VariablesTyped past → RightParts p (MeetsPremises (now ∷ past)) d
        → HasType p constructors (variable_given f x) (definition_value p d now past)
    result_typed now past x None hk hn hv hg = tt
    result_typed now past x (Some (given_by (call g c args) n xs k)) hk hn hv hg =
        subst (λ l. HasType p constructors l (output p g c n now)) hk (hg.0.calls.0 (part_passes now past g c args k hn hv hg.0 hg.1) n)
    result_typed now past x (Some (given_by e n xs k)) hk hn hv hg = subst (λ l. HasType p constructors l (value p e k now past)) hk (value_typed e k now past hn hv hg)

    -- all variables of an instant whose inputs have their types
    module _ (now : Instant) (past : World) (l : EquationsHold p f now past) (inputs : HaveTypes p constructors (input_kinds f) (take f.inputs (row_of now)))
        (kinds : (x : ℕ) → GivesKind p f x (definition_of f x)) (before : Each VariablesTyped past) (good : AllMeetPremises (now ∷ past) (node_parts p f)) where
      follows_typed : (x : ℕ) (b : Bool) → nat_lt x f.inputs ≡ b → Each (VariableTyped now) (needs_right (definition_of f x))
          → MatchBool b (is_some (entry now x) ≡ is_on (clock_of f x) now) (entry now x ≡ where_on (is_on (clock_of f x) now) (definition_value p (definition_of f x) now past)) → VariableTyped now x
      follows_typed x true e hn h = subst (HasType p constructors (variable_given f x)) (item_take None f.inputs (row_of now) x (ltb-true x f.inputs e)) (row_item f.inputs f.variables (take f.inputs (row_of now)) x inputs)
      follows_typed x false e hn h =
          subst (HasType p constructors (variable_given f x)) (sym h)
          (where_on_typed (variable_given f x) (is_on (clock_of f x) now) (definition_value p (definition_of f x) now past)
          (result_typed now past x (definition_of f x) (kinds x) hn before (right_parts p (MeetsPremises (now ∷ past)) f f.equations x good)))

      past_variable : (x : ℕ) → length f.variables ≤ x → VariableTyped now x
      past_variable x ge = subst (HasType p constructors (variable_given f x)) (sym (item_past None (row_of now) x (subst (λ n. n ≤ x) (sym l.width) ge))) tt

      variable_typed : (x : ℕ) → Each (VariableTyped now) (needed f x) → VariableTyped now x
      variable_typed x h = ⊎_elim
          (λ lt. follows_typed x (nat_lt x f.inputs) refl (each_right (VariableTyped now) (clock_variables (clock_of f x)) (needs_right (definition_of f x)) h) (below_at (Follows p f now past) (length f.variables) l.variables x lt))
          (past_variable x)
          (cases_lt x (length f.variables))

      pub variables_typed : HasOrder f → VariablesTyped now
      variables_typed o = by_order f (VariableTyped now) variable_typed o past_variable
