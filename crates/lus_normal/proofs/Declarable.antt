-- What is taken out of a node of a resolved program, within the limits of a source, can be declared.
use Rattle.std.proofs.Common.{arith, subst, ◌≡◌, ◌∙◌, sym, ap, refl, true≢false, ℕ, zero, suc, ◌+◌, ◌^◌, ◌<◌, ◌≤◌, nat_lt, nat_eq, Bool, true, false, cond, List, [], ◌∷◌, length, Option, Some, None}
use Rattle.std.proofs.lemmas.Bool.{eqb-true, ltb-true}
use Rattle.std.proofs.lemmas.Option.{slice_get_within}
use Rattle.std.specs.Prelude.{option_map, slice_get}
use Rattle.std.specs.Option.{option_and_then}
use Rattle.lus_values.specs.Lists.{item, Each}
use Rattle.lus_syntax.specs.Limits.{most_variables, most_constructors}
use Rattle.lus_values.specs.declared.test.Test.{Test}
use Rattle.lus_program.specs.declared.types.Kind.{Kind}
use Rattle.lus_program.specs.declared.types.Kind.TheVariants as kinds
use Rattle.lus_program.specs.declared.node.Equation.{Equation as StoredEquation}
use Rattle.lus_program.specs.Programs.{Expression, literal, variable, operate, pre, arrow, when, merge, call, Operands, none, more, calls, numbered, Variable, Node, Program, no_variable, node_at, empty_node}
use Rattle.lus_program.specs.View.{expression_of, equations_from}
use Rattle.lus_streams.specs.Clocks.{Clock, chain, clock_of}
use Rattle.lus_streams.specs.OnClock.{actuals, test_of}
use Rattle.lus_streams.proofs.Lists.{each_append, each_item}
use Rattle.lus_clocks.specs.Fitting.{base_test, name_of, names_in, renamed_by, renamed_first, without_tests}
use Rattle.lus_program.specs.Kinds.{common_kind, constructors_in, nothing_declared}
use Rattle.lus_program.specs.Resolved.{EquationFits, VariableFits, kind_in, kinds_in, kind_of_variable, kinds_given_in, merged, test_fits, values_of, NodeResolved, Resolved}
use Rattle.lus_program.proofs.Numbering.{given-numbered}
use Rattle.lus_program.proofs.Options.{and_then_gives, map_gives, where_true_gives}
use Rattle.lus_program.proofs.TypedParts.{HasKind, HaveKinds, operate_typed, both_typed, when_typed, merge_typed, call_typed, more_typed, whole_call, whole_typed, fits_given}
use Rattle.lus_normal_form.specs.Forms.{Position, Inside, Operand, is_taken}
use Rattle.lus_normal.specs.Forms.{Taken, branch_test, argument_test, right_takes, operands_takes, takes}
use Rattle.lus_normal.specs.Laws.{equations_take}
use Rattle.lus_program.specs.Sound.{IsLimited}
use Rattle.lus_normal.specs.Declarable.{AreDeclarable, Fits, IsDeclarable}

-- without its newest tests
without_fit : (f : Node) → ((x : ℕ) → Fits (test_of f x)) → (n : ℕ) (o : Option Test) → Fits o → Fits (without_tests f n o)
without_fit f own zero o h = h
without_fit f own (suc n) None h = without_fit f own n None tt
without_fit f own (suc n) (Some t) h = without_fit f own n (test_of f t.variable) (own t.variable)

-- clocks of a node whose tests can be stored have such tests alone
abbrev AreStored : Clock → Type 0
AreStored = Each (λ t. Fits (Some t))

module _ (vs : List Variable) (own : (x : ℕ) → Fits (item no_variable vs x).test) where
  linked_fit : (n : ℕ) (o : Option Test) → Fits o → ((x : ℕ) → AreStored (chain n vs x)) → AreStored (elim o [ None ↦ [] | Some t ↦ t ∷ chain n vs t.variable ])
  linked_fit n None h rest = tt
  linked_fit n (Some t) h rest = (h, rest t.variable)

  chain_fits : (n x : ℕ) → AreStored (chain n vs x)
  chain_fits zero x = tt
  chain_fits (suc n) x = linked_fit n (item no_variable vs x).test (own x) (chain_fits n)

-- tests on formals, as tests on what stands for them
module _ (names : ℕ → Option ℕ) (named : (m y : ℕ) → names m ≡ Some y → y < 2 ^ 32) where
  renamed_by_fits : (m c : ℕ) (o : Option ℕ) (rest : Option Test) → names m ≡ o → c < 2 ^ 32 → Fits rest → Fits (renamed_by names o c rest)
  renamed_by_fits m c None rest e h r = r
  renamed_by_fits m c (Some y) rest e h r = (named m y e, h)

  renamed_fits : (k : Clock) (base : Option Test) → AreStored k → Fits base → Fits (renamed_first names k base)
  renamed_fits [] base h b = b
  renamed_fits (t ∷ k) base h b = renamed_by_fits t.variable t.constructor (names t.variable) (renamed_first names k base) refl h.0.1 (renamed_fits k base h.1 b)

module _ (p : Program) (few : Each (λ d. constructors_in d ≤ most_constructors) p.types) where
  values_few : (k : Kind) → values_of p k ≤ most_constructors
  values_few kinds.Bool = omega arith
  values_few kinds.Int = omega arith
  values_few (kinds.Enum t) = each_item (λ d. constructors_in d ≤ most_constructors) nothing_declared p.types (omega arith) few t
  values_few (kinds.Struct t) = omega arith

  module _ (f : Node) (narrow : length f.variables ≤ most_variables) where
    variable_fits : (x : ℕ) → HasKind p f (variable x) → x < 2 ^ 32
    variable_fits x h =
        let found = map_gives (λ v. v.kind) (slice_get f.variables x) h.0 h.1 in
        let known = slice_get_within f.variables x found.0 found.1 in
        omega (arith, known, narrow)

    tested_fits : (t : Test) (o : Option Kind) → kind_of_variable p f t.variable ≡ o → elim o [ Some k ↦ nat_lt t.constructor (values_of p k) | None ↦ false ] ≡ true
        → Fits (Some t)
    tested_fits t None e h = absurd (true≢false (sym h))
    tested_fits t (Some k) e h =
        let below = ltb-true t.constructor (values_of p k) h in
        let all = values_few k in
        (variable_fits t.variable (k, e), omega (arith, below, all))

    abbrev Tested : Option Test → Type 0
    Tested o = elim o [ None ↦ Unit {0} | Some t ↦ test_fits p f t ≡ true ]

    declared_fits : (o : Option Test) → Tested o → Fits o
    declared_fits None h = tt
    declared_fits (Some t) h = tested_fits t (kind_of_variable p f t.variable) refl h

    own_fit : Each (VariableFits p f) f.variables → (x : ℕ) → Fits (test_of f x)
    own_fit h x = declared_fits (test_of f x) (each_item (VariableFits p f) no_variable f.variables tt h x)

    name_fits : (e : Expression) (y : ℕ) → HasKind p f e → name_of e ≡ Some y → y < 2 ^ 32
    name_fits (variable x) y h e = let known = variable_fits x h in let same : x ≡ y = cc in omega (arith, known, same)
    name_fits (literal v) y h e = cc
    name_fits a y h e = cc

    names_fit : (es : Operands) → HaveKinds p f es → (m y : ℕ) → names_in (actuals es []) m ≡ Some y → y < 2 ^ 32
    names_fit none h m y e = cc
    names_fit (more a es) h zero y e = name_fits a y (more_typed p f a es h).0 e
    names_fit (more a es) h (suc m) y e = names_fit es (more_typed p f a es h).1 m y e

    -- a merge has a branch for each value
    merge_counted : (x : ℕ) (bs : Operands) → HasKind p f (merge x bs) → (ks : List Kind) × (kinds_in p f bs ≡ Some ks) × (length ks ≤ most_constructors)
    merge_counted x bs h =
        let given = and_then_gives (λ ks. option_and_then (merged p f ks) (kind_of_variable p f x)) (kinds_in p f bs) h.0 h.1 in
        let tested = and_then_gives (merged p f given.0) (kind_of_variable p f x) h.0 given.2 in
        let counted = where_true_gives (nat_eq (length given.0) (values_of p tested.0)) (common_kind given.0) h.0 tested.2 in
        let same = eqb-true (length given.0) (values_of p tested.0) counted.0 in
        let all = values_few tested.0 in
        (given.0, given.1, omega (arith, same, all))

    more_counted : (e : Expression) (es : Operands) (ks : List Kind) → kinds_in p f (more e es) ≡ Some ks → (ls : List Kind) × (kinds_in p f es ≡ Some ls) × (suc (length ls) ≡ length ks)
    more_counted e es ks h =
        let first = and_then_gives (λ k. option_map (λ ls. k ∷ ls) (kinds_in p f es)) (kind_in p f e) ks h in
        let rest = map_gives (λ ls. first.0 ∷ ls) (kinds_in p f es) ks first.2 in
        (rest.0, rest.1, ap length rest.2)

    abbrev R : Expression → Option Test → List Taken
    R = right_takes p f

    abbrev Fit : List Taken → Type 0
    Fit = AreDeclarable p f

    one : (here : Position) (e : Expression) (o : Option Test) → HasKind p f e → Fits o → Fit (R e o) → Fit (takes p f here e o)
    one here e o h b hs = choose (is_taken here e)
      where
        choose : (b : Bool) → Fit (cond b (record { test = o; operand = e } ∷ R e o) (R e o))
        choose true = (record { typed = h; fits = b }, hs)
        choose false = hs

    -- the tests with which variables are declared, in this node and in those that are called
    module _ (own : (x : ℕ) → Fits (test_of f x)) (called : (g x : ℕ) → Fits (test_of (node_at p g) x)) where
      -- of the arguments of a call of g
      abbrev formals : ℕ → Operands → Option Test → ℕ → Option Test
      formals g args o = argument_test (node_at p g) (names_in (actuals args [])) (base_test f (node_at p g) o)

      formals_fit : (g : ℕ) (args : Operands) → HaveKinds p f args → (o : Option Test) → Fits o → (m : ℕ) → Fits (formals g args o m)
      formals_fit g args h o b m =
          let node = node_at p g in
          let vs = node.variables in
          let base = without_fit f own (length (clock_of node node.inputs)) o b in
          renamed_fits (names_in (actuals args [])) (names_fit args h) (clock_of node m) (base_test f node o) (chain_fits vs (called g) (length vs) m) base

      mutual
        right_fit : (e : Expression) (o : Option Test) → HasKind p f e → Fits o → Fit (R e o)
        right_fit (literal v) o h b = tt
        right_fit (variable x) o h b = tt
        right_fit (operate n es) o h b =
            let given = operate_typed p f n es h in
            operands_fit Inside es (λ m. o) 0 given.0 given.1 (λ m lt. b)
        right_fit (pre a) o h b = one Operand a o h b (right_fit a o h b)
        right_fit (arrow a c) o h b =
            let both = both_typed p f a c h in
            each_append (IsDeclarable p f) (takes p f Inside a o) (takes p f Inside c o) (one Inside a o both.0 b (right_fit a o both.0 b))
            (one Inside c o both.1 b (right_fit c o both.1 b))
        right_fit (when t a) o h b =
            let outer = test_of f t.variable in
            let given = when_typed p f t a h in
            one Operand a outer given.1 (own t.variable) (right_fit a outer given.1 (own t.variable))
        right_fit (merge x bs) o h b =
            let counted = merge_counted x bs h in
            let few_branches = counted.2 in
            operands_fit Inside bs (branch_test x) 0 counted.0 counted.1 (λ m lt. (variable_fits x (merge_typed p f x bs h).0, omega (arith, few_branches, lt)))
        right_fit (call g c args) o h b =
            let made = call_typed p f g c args h in
            operands_fit Operand args (formals g args o) 0 made.2.arguments made.2.have (λ m lt. formals_fit g args (made.2.arguments, made.2.have) o b m)

        -- operands of these types, as many as tests that can be stored
        operands_fit : (here : Position) (es : Operands) (os : ℕ → Option Test) (m : ℕ) (ks : List Kind) → kinds_in p f es ≡ Some ks → ((i : ℕ) → i < m + length ks → Fits (os i))
            → Fit (operands_takes p f here es os m)
        operands_fit here none os m ks e fit = tt
        operands_fit here (more a es) os m ks e fit =
            let rest = more_counted a es ks e in
            let counted = rest.2 in
            let b = fit m (omega (arith, counted)) in
            let has = (more_typed p f a es (ks, e)).0 in
            each_append (IsDeclarable p f) (takes p f here a (os m)) (operands_takes p f here es os (suc m))
            (one here a (os m) has b (right_fit a (os m) has b))
            (operands_fit here es os (suc m) rest.0 rest.1 (λ i lt. fit i (omega (arith, counted, lt))))

      whole_fit : (e : Expression) (o : Option Test) (ls : List Kind) → kinds_given_in p f e ≡ Some ls → Fits o → Fit (R e o)
      whole_fit (call g c args) o ls h b =
          let made = whole_call p f g c args ls h in
          operands_fit Operand args (formals g args o) 0 made.arguments made.have (λ m lt. formals_fit g args (made.arguments, made.have) o b m)
      whole_fit e o ls h b = right_fit e o (whole_typed p f e ls h) b

      equations_fit : (n : ℕ) (qs : List StoredEquation) → Each (EquationFits p f) (equations_from n qs) → Fit (equations_take p f qs)
      equations_fit n [] h = tt
      equations_fit n (q ∷ qs) h =
          let e = expression_of q.right in
          let x = item 0 q.targets.items 0 in
          let given = fits_given p f (record { targets = q.targets.items; right = numbered n e }) h.0 in
          each_append (IsDeclarable p f) (R e (test_of f x)) (equations_take p f qs)
          (whole_fit e (test_of f x) given.kinds (sym (given-numbered p f e n) ∙ given.given) (own x)) (equations_fit (n + calls e) qs h.1)

-- the tests of a program's variables
called_fit : (p : Program) → Resolved p → IsLimited p → (g x : ℕ) → Fits (test_of (node_at p g) x)
called_fit p resolved limited g =
    each_item (λ f. (x : ℕ) → Fits (test_of f x)) empty_node p.nodes (λ x. tt) (each_fit p.nodes resolved.nodes limited.variables) g
  where
    each_fit : (fs : List Node) → Each (NodeResolved p) fs → Each (λ f. length f.variables ≤ most_variables) fs → Each (λ f. (x : ℕ) → Fits (test_of f x)) fs
    each_fit [] h l = tt
    each_fit (f ∷ fs) h l = (own_fit p limited.constructors f l.0 h.0.variables, each_fit fs h.1 l.1)

pub taken_are_declarable : (p : Program) → Resolved p → IsLimited p → (f : Node) (qs : List StoredEquation)
    → f.equations ≡ equations_from 0 qs → NodeResolved p f → length f.variables ≤ most_variables
    → AreDeclarable p f (equations_take p f qs)
taken_are_declarable p resolved limited f qs e h narrow =
    equations_fit p limited.constructors f narrow (own_fit p limited.constructors f narrow h.variables) (called_fit p resolved limited) 0 qs
    (subst (Each (EquationFits p f)) e h.equations)
