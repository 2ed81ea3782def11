-- What the equations give after a past is unique, faults or none: as the instants of streams are.
use Rattle.std.proofs.Common.{◌≡◌, ℕ, suc, ◌+◌, ◌<◌, ◌≤◌, nat_lt, Bool, true, false, ◌&&◌, List, [], ◌∷◌, length, take, drop, Option, Some, None, refl, sym, ap, ap₂, ◌∙◌, subst, MatchBool, is_some, ⊎_elim}
use Rattle.std.proofs.lemmas.Bool.{ltb-true, cases_lt}
use Rattle.lus_values.specs.declared.test.Test.{Test}
use Rattle.lus_program.specs.Programs.{Expression, literal, variable, operate, pre, arrow, when, merge, call, Operands, none, more, Node, Program, node_at}
use Rattle.lus_values.specs.Lists.{item, Each}
use Rattle.lus_values.specs.Operators.{apply}
use Rattle.lus_values.specs.Entries.{is_constructor, with_operand, with_operands}
use Rattle.lus_streams.specs.Clocks.{Clock, clock_of, Part, renamed_clock, formal_clock, base_of, branch_clock, parts, all_parts}
use Rattle.lus_streams.specs.Streams.{Instant, instant, Called, nobody, also, World, is_present, row_of, entry, called_instant, called_world, is_on, at_last, where_on, value, values, branch, inputs_given, definition_value}
use Rattle.lus_streams.proofs.Unique.{formal_variables, order_at, clocks_at}
use Rattle.lus_attempts.specs.Attempts.{FollowsFaults, EquationsFollow, IsAttempt, EachAttempt}
use Rattle.lus_streams.specs.Equations.{Definition, given_by, definition_of, node_parts, Site, sites}
use Rattle.lus_streams.specs.OnClock.{actuals, DefinedOnClock, IsOnClocks, ProgramOnClocks}
use Rattle.lus_streams.specs.Order.{needs, needs_all, clock_variables, needs_right, needed, HasOrder, IsCausal}
use Rattle.lus_streams.proofs.Calls.{OfCall, OfSite, AtBase, equation_calls, sites_of_parts, parts_of_sites}
use Rattle.lus_streams.proofs.Definitions.{RightParts, right_parts, defined_on_clock}
use Rattle.lus_streams.proofs.Orders.{by_order}
use Rattle.lus_streams.proofs.Lists.{each_left, each_right, each_all, each_map_right, each_map_drop, below_at, item_past, item_take, ext_item}

abbrev variable_of : Test → ℕ
variable_of t = t.variable

-- two instants after one past
module _ (p : Program) (now now' : Instant) (past : World) (same_base : is_present now ≡ is_present now') where
  abbrev Agree : ℕ → Type 0
  Agree x = entry now x ≡ entry now' x

  -- the call's instants are the same where its base and its inputs are
  abbrev CallSame : (g c : ℕ) → Operands → Clock → Type 0
  CallSame g c args base =
      is_on base now ≡ is_on base now'
      → inputs_given p args (node_at p g) args base 0 now past ≡ inputs_given p args (node_at p g) args base 0 now' past
      → called_instant c now ≡ called_instant c now'

  abbrev CallFact : Part → Type 0
  CallFact = OfCall (AtBase p CallSame)

  on_same : (k : Clock) → Each Agree (clock_variables k) → is_on k now ≡ is_on k now'
  on_same [] h = same_base
  on_same (t ∷ k) h = ap₂ ◌&&◌ (ap (is_constructor t.constructor) h.0) (on_same k h.1)

  mutual
    value_same : (e : Expression) (k : Clock) → Each Agree (clock_variables k) → Each Agree (needs e) → Each CallFact (parts p e k) → value p e k now past ≡ value p e k now' past
    value_same (literal v) k hk hn hc = refl
    value_same (variable x) k hk hn hc = hn.0
    value_same (operate o es) k hk hn hc = ap (with_operands (apply o)) (values_same es k 0 hk hn hc.1)
    value_same (pre a) k hk hn hc = refl
    value_same (arrow a b) k hk hn hc =
        let ea = value_same a k hk (each_left Agree (needs a) (needs b) hn) (each_left CallFact (parts p a k) (parts p b k) hc.1) in
        let eb = value_same b k hk (each_right Agree (needs a) (needs b) hn) (each_right CallFact (parts p a k) (parts p b k) hc.1) in
        λ i. at_last k past (ea i) (λ j before. eb i)
    value_same (when t a) k hk hn hc = value_same a (drop 1 k) (each_map_drop Agree variable_of 1 k hk) hn.1 hc.1
    value_same (merge x bs) k hk hn hc = branch_same bs x 0 k hn.0 hk hn.1 hc.1
    value_same (call g c args) k hk hn hc =
        let base = base_of (node_at p g) k in
        let hb = each_map_drop Agree variable_of _ k hk in
        ap (λ j. entry j ((node_at p g).inputs + 0)) (hc.0 (on_same base hb) (given_same args (node_at p g) args base 0 hb hn hn hc.1))

    values_same : (es : Operands) (k : Clock) (m : ℕ) → Each Agree (clock_variables k) → Each Agree (needs_all es) → Each CallFact (all_parts p es (λ n. k) m) → values p es k now past ≡ values p es k now' past
    values_same none k m hk hn hc = refl
    values_same (more e es) k m hk hn hc =
        let rest = all_parts p es (λ n. k) (suc m) in
        ap₂ with_operand
        (value_same e k hk (each_left Agree (needs e) (needs_all es) hn) (each_left CallFact (parts p e k) rest hc))
        (values_same es k (suc m) hk (each_right Agree (needs e) (needs_all es) hn) (each_right CallFact (parts p e k) rest hc))

    branch_same : (es : Operands) (x c : ℕ) (k : Clock) → Agree x → Each Agree (clock_variables k) → Each Agree (needs_all es) → Each CallFact (all_parts p es (branch_clock x k) c) → branch p es x c k now past ≡ branch p es x c k now' past
    branch_same none x c k hx hk hn hc = refl
    branch_same (more e es) x c k hx hk hn hc =
        let k' = branch_clock x k c in
        let rest = all_parts p es (branch_clock x k) (suc c) in
        let ee = value_same e k' (hx, hk) (each_left Agree (needs e) (needs_all es) hn) (each_left CallFact (parts p e k') rest hc) in
        let es' = branch_same es x (suc c) k hx hk (each_right Agree (needs e) (needs_all es) hn) (each_right CallFact (parts p e k') rest hc) in
        λ i. elim (is_constructor c (hx i)) [ true ↦ ee i | false ↦ es' i ]

    given_same : (es : Operands) (g : Node) (args : Operands) (base : Clock) (m : ℕ) → Each Agree (clock_variables base) → Each Agree (needs_all args) → Each Agree (needs_all es) → Each CallFact (all_parts p es (formal_clock g args base) m)
        → inputs_given p es g args base m now past ≡ inputs_given p es g args base m now' past
    given_same none g args base m hb ha hn hc = refl
    given_same (more e es) g args base m hb ha hn hc =
        let k = formal_clock g args base m in
        let rest = all_parts p es (formal_clock g args base) (suc m) in
        let hk = formal_variables Agree g args base m ha hb in
        ap₂ ◌∷◌
        (ap₂ where_on (on_same k hk) (value_same e k hk (each_left Agree (needs e) (needs_all es) hn) (each_left CallFact (parts p e k) rest hc)))
        (given_same es g args base (suc m) hb ha (each_right Agree (needs e) (needs_all es) hn) (each_right CallFact (parts p e k) rest hc))

  result_same : (f : Node) (x : ℕ) (d : Option Definition) → DefinedOnClock p f x d → Each Agree (clock_variables (clock_of f x)) → Each Agree (needs_right d) → RightParts p CallFact d → definition_value p d now past ≡ definition_value p d now' past
  result_same f x None hd hk hn hc = refl
  result_same f x (Some (given_by (call g c args) n xs k)) hd hk hn hc =
      let base = base_of (node_at p g) k in
      let front = renamed_clock (actuals args xs) (clock_of (node_at p g) ((node_at p g).inputs + n)) in
      let hb = each_map_right Agree variable_of front base (subst (λ j. Each Agree (clock_variables j)) hd.0 hk) in
      ap (λ j. entry j ((node_at p g).inputs + n)) (hc.0 (on_same base hb) (given_same args (node_at p g) args base 0 hb hn hn hc.1))
  result_same f x (Some (given_by e n xs k)) hd hk hn hc = value_same e k (subst (λ j. Each Agree (clock_variables j)) hd hk) hn hc

  -- all variables agree, in the order
  module _ (f : Node) (l : EquationsFollow p f now past) (l' : EquationsFollow p f now' past) (same_inputs : take f.inputs (row_of now) ≡ take f.inputs (row_of now'))
      (clocks : IsOnClocks p f) (facts : Each CallFact (node_parts p f)) where
    follows_same : (x : ℕ) → x < length f.variables → (b : Bool) → nat_lt x f.inputs ≡ b → Each Agree (clock_variables (clock_of f x)) → Each Agree (needs_right (definition_of f x))
        → MatchBool b (is_some (entry now x) ≡ true → is_on (clock_of f x) now ≡ true) (entry now x ≡ where_on (is_on (clock_of f x) now) (definition_value p (definition_of f x) now past))
        → MatchBool b (is_some (entry now' x) ≡ true → is_on (clock_of f x) now' ≡ true) (entry now' x ≡ where_on (is_on (clock_of f x) now') (definition_value p (definition_of f x) now' past))
        → Agree x
    follows_same x within true e hk hn h h' =
        let lt = ltb-true x f.inputs e in
        sym (item_take None f.inputs (row_of now) x lt) ∙ ap (λ r. item None r x) same_inputs ∙ item_take None f.inputs (row_of now') x lt
    follows_same x within false e hk hn h h' =
        h ∙ ap₂ where_on (on_same (clock_of f x) hk) (result_same f x (definition_of f x) (defined_on_clock p f x clocks) hk hn (right_parts p CallFact f f.equations x facts)) ∙ sym h'

    variable_same : (x : ℕ) → Each Agree (needed f x) → Agree x
    variable_same x h =
        ⊎_elim
        (λ lt.
        follows_same x lt (nat_lt x f.inputs) refl
        (each_left Agree (clock_variables (clock_of f x)) (needs_right (definition_of f x)) h)
        (each_right Agree (clock_variables (clock_of f x)) (needs_right (definition_of f x)) h)
        (below_at (FollowsFaults p f now past) (length f.variables) l.variables x lt)
        (below_at (FollowsFaults p f now' past) (length f.variables) l'.variables x lt))
        (λ ge. item_past None (row_of now) x (subst (λ n. n ≤ x) (sym l.width) ge) ∙ sym (item_past None (row_of now') x (subst (λ n. n ≤ x) (sym l'.width) ge)))
        (cases_lt x (length f.variables))

    all_same : HasOrder f → (x : ℕ) → Agree x
    all_same o =
        by_order f Agree variable_same o
        (λ x ge. item_past None (row_of now) x (subst (λ n. n ≤ x) (sym l.width) ge) ∙ sym (item_past None (row_of now') x (subst (λ n. n ≤ x) (sym l'.width) ge)))

    row_same : HasOrder f → row_of now ≡ row_of now'
    row_same o = ext_item None (row_of now) (row_of now') (l.width ∙ sym l'.width) (all_same o)

  -- a call's instants are the same
  abbrev SameCalled : (g c : ℕ) → Operands → Clock → Type 0
  SameCalled g c args base = called_instant c now ≡ called_instant c now'

  determined : ((x : ℕ) → Agree x) → (f : Node) → Each CallFact (node_parts p f) → Each (OfSite p SameCalled) (sites p f)
  determined all f h =
      sites_of_parts p SameCalled (node_parts p f)
      (equation_calls p CallFact (AtBase p SameCalled)
      (λ g c args k fact inner.
      let base = base_of (node_at p g) k in
      fact (on_same base (each_all Agree all (clock_variables base)))
      (given_same args (node_at p g) args base 0 (each_all Agree all (clock_variables base)) (each_all Agree all (needs_all args)) (each_all Agree all (needs_all args)) inner))
      f f.equations h)

  calls_same : (js js' : Called) (ss : List Site) → EachAttempt p js ss now past → EachAttempt p js' ss now' past → Each (OfSite p SameCalled) ss → js ≡ js'
  calls_same nobody nobody [] h h' e = refl
  calls_same nobody (also j' js') [] h h' e = absurd h'
  calls_same (also j js) js' [] h h' e = absurd h
  calls_same nobody js' (s ∷ ss) h h' e = absurd h
  calls_same (also j js) nobody (s ∷ ss) h h' e = absurd h'
  calls_same (also j js) (also j' js') (s ∷ ss) h h' e =
      ap₂ also (sym h.0.numbered ∙ e.0 ∙ h'.0.numbered) (calls_same js js' ss h.2 h'.2 e.1)

module _ (p : Program) (causal : IsCausal p) (clocks : ProgramOnClocks p) where
  mutual
    pub attempt_unique : (i i' : Instant) (f : ℕ) (past : World) → IsAttempt p i f past → IsAttempt p i' f past → is_present i ≡ is_present i'
        → take (node_at p f).inputs (row_of i) ≡ take (node_at p f).inputs (row_of i') → i ≡ i'
    attempt_unique (instant b row js) (instant b' row' js') f past h h' eb ei =
        let now = instant b row js in
        let now' = instant b' row' js' in
        let node = node_at p f in
        let facts = parts_of_sites p (CallSame p now now' past eb) (node_parts p node) (calls_facts js js' (sites p node) now now' past eb h.1 h'.1) in
        let o = order_at p causal clocks f in
        let all = all_same p now now' past eb node h.0 h'.0 ei (clocks_at p causal clocks f) facts o in
        let rows : row ≡ row' = row_same p now now' past eb node h.0 h'.0 ei (clocks_at p causal clocks f) facts o in
        let same = determined p now now' past eb all node facts in
        let calls : js ≡ js' = calls_same p now now' past eb js js' (sites p node) h.1 h'.1 same in
        λ i. instant (eb i) (rows i) (calls i)

    calls_facts : (js js' : Called) (ss : List Site) (now now' : Instant) (past : World) (eb : is_present now ≡ is_present now') → EachAttempt p js ss now past → EachAttempt p js' ss now' past → Each (OfSite p (CallSame p now now' past eb)) ss
    calls_facts nobody js' [] now now' past eb h h' = tt
    calls_facts nobody js' (s ∷ ss) now now' past eb h h' = absurd h
    calls_facts (also j js) js' [] now now' past eb h h' = absurd h
    calls_facts (also j js) nobody (s ∷ ss) now now' past eb h h' = absurd h'
    calls_facts (also j js) (also j' js') (s ∷ ss) now now' past eb h h' = (
      λ base inputs.
          h.0.numbered
          ∙ attempt_unique j j' s.node (called_world s.number past) h.1 h'.1 (h.0.base ∙ base ∙ sym h'.0.base) (h.0.inputs ∙ inputs ∙ sym h'.0.inputs)
          ∙ sym h'.0.numbered,
      calls_facts js js' ss now now' past eb h.2 h'.2,
    )
